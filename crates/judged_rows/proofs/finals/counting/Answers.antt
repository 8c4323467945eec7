use Rattle.std.proofs.Common.{◌∙◌, ap, sym}
use Rattle.judge_core.specs.Judgements.{latest, counting}
use Rattle.judged_rows.proofs.Latest.{latest_on_node}
use Rattle.judged_rows.proofs.finals.counting.Goals as goal

pub returns-in-CantTell : goal.returns-in-CantTell
returns-in-CantTell c =
    λ js has.
    let rule = c.args.rule in
    let node = c.args.node in
    let evidence = c.args.evidence.now in
    c.latest.ensures ∙ ap (latest rule node evidence) (has node.0) ∙ latest_on_node rule node evidence js ∙ sym (ap (λ auto. counting auto rule node evidence js) c.in-CantTell.is)
