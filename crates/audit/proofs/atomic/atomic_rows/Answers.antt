use Rattle.std.proofs.Common.{◌∙◌, map, ap}
use Rattle.audit.proofs.Verdicts.{verdict_row, verdict_rows}
use Rattle.audit.proofs.atomic.atomic_rows.Goals as goal

pub returns-clause-rows : goal.returns-clause-rows
returns-clause-rows g c =
    λ js has.
    c.from_vec.ensures ∙ c.in_ok-rows.ensures js has ∙ ap (map (verdict_row c.args.rule js)) c.in_ok-verdicts.ensures.verdicts
    ∙ verdict_rows g.B.RuleBook.book c.args.tree.now js c.args.rule
