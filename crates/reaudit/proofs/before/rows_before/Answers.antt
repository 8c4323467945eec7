use Rattle.std.proofs.Common.{◌∙◌, ap, arith}
use Rattle.snap_tree.specs.declared.row.Row.{Row}
use Rattle.judged_rows.specs.Merging.{head_on, after}
use Rattle.reaudit.proofs.Earlier.{before_more}
use Rattle.reaudit.proofs.before.rows_before.Goals as goal

pub loop-node-preserved : goal.loop-node-preserved
loop-node-preserved c =
    λ f on begins.
    let at = c.loop-node.invariant f on begins in
    let left = c.loop-node.left.now in
    before_more f on c.args.nodes.now c.loop-node.node-index c.node-item.result left _ c.loop-node.before.items _ _ (omega arith) at.0 at.1 (c.head_on.ensures ∙ ap (λ (r : Row). head_on r.id left) c.node-item.is) (c.after-left.ensures ∙ ap (λ (r : Row). after r.id left) c.node-item.is) c.in_ok-push.ensures.items
