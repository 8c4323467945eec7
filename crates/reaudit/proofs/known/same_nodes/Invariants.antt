use Rattle.std.proofs.Common.{◌≡◌, length}
use Rattle.reaudit.specs.Known.{same_nodes}
use Rattle.reaudit.proofs.known.same_nodes.Given as goal

abbrev pub invariant-loop-before : goal.invariant-loop-before
invariant-loop-before l = same_nodes l.left l.right ≡ same_nodes l.fn.old l.fn.new

abbrev pub decreases-loop-before : goal.decreases-loop-before
decreases-loop-before l = length l.left
