use Rattle.made_audit.proofs.Summing.{nodes_more}
use Rattle.made_audit.proofs.sums.nodes_of.Goals as goal

pub loop-work-preserved : goal.loop-work-preserved
loop-work-preserved c =
    nodes_more c.args.works.now c.loop-work.work-index c.work-item.result c.loop-work.nodes _ c.loop-work-test.true c.work-item.is c.loop-work.invariant c.nodes_and-nodes.ensures
