use Rattle.std.proofs.Common.{arith}
use Rattle.snap_tree.proofs.Sized.{turn}
use Rattle.snap_tree.proofs.sizes.sizes_of.Goals as goal

pub overflow_sub-end : goal.overflow_sub-end
overflow_sub-end c =
    let t = turn c.loop-place.waiting.items c.take_kids-end.new.waiting.items c.loop-place.sizes.items c.loop-place.place c.take_kids-end.result c.args.rows.now c.index-rows-place.result c.loop-place-test.true c.loop-place.invariant c.index-rows-place.is c.take_kids-end.ensures.end c.take_kids-end.ensures.left in
    omega (arith, t.0)

pub loop-place-preserved : goal.loop-place-preserved
loop-place-preserved c =
    let t = turn c.loop-place.waiting.items c.take_kids-end.new.waiting.items c.loop-place.sizes.items c.loop-place.place c.take_kids-end.result c.args.rows.now c.index-rows-place.result c.loop-place-test.true c.loop-place.invariant c.index-rows-place.is c.take_kids-end.ensures.end c.take_kids-end.ensures.left in
    (omega (arith, c.loop-place.invariant.0), rw (c.in_ok-push.ensures.items, c.in_ok-push-2.ensures.items) t.1)
