use Rattle.std.proofs.Common.{◌≡◌}
use Rattle.snap_edit.specs.Places.{after_first}
use Rattle.snap_edit.proofs.subtree.after_first.Given as goal

abbrev pub invariant-loop-left : goal.invariant-loop-left
invariant-loop-left l = after_first l.left l.rest ≡ after_first l.fn.count l.fn.trees

abbrev pub decreases-loop-left : goal.decreases-loop-left
decreases-loop-left l = l.left
