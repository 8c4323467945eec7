use Rattle.std.proofs.Common.{◌∙◌}
use Rattle.made_audit.proofs.Spans.{counted_so}
use Rattle.made_audit.proofs.workers.count_works.Goals as goal

pub returns-clause-counted : goal.returns-clause-counted
returns-clause-counted g c =
    counted_so g.B.RuleBook.book c.args.works.now c.args.infos.now _ _ _ c.requires.known (c.as_slice.ensures.value ∙ c.in_ok-outcomes.ensures.outcomes) c.nodes_of.ensures c.sums_of.ensures
