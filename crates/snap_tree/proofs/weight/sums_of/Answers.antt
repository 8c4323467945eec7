use Rattle.snap_tree.proofs.Weights.{sums_turn}
use Rattle.snap_tree.proofs.weight.sums_of.Goals as goal

pub loop-row-preserved : goal.loop-row-preserved
loop-row-preserved c =
    rw c.in_ok-push-2.ensures.items
    (sums_turn c.args.rows.now c.loop-row.row-index c.row-item.result c.loop-row.sum c.node_weight-sum.result c.loop-row.sums.items c.loop-row-test.true c.row-item.is c.node_weight-sum.ensures.weight c.node_weight-sum.ensures.small c.loop-row.invariant)
