use Rattle.std.proofs.Common.{◌≡◌, length}
use Rattle.reaudit.specs.SameRows.{same_rows}
use Rattle.reaudit.proofs.same_rows.same_rows.Given as goal

abbrev pub invariant-loop-one : goal.invariant-loop-one
invariant-loop-one l = same_rows l.left l.right ≡ same_rows l.fn.old l.fn.new

abbrev pub decreases-loop-one : goal.decreases-loop-one
decreases-loop-one l = length l.left
