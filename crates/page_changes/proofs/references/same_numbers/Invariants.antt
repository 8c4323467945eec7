use Rattle.std.proofs.Common.{◌≡◌, length}
use Rattle.std.specs.Cmp.Lexicographic.{pointwise}
use Rattle.page_keys.specs.Same.{same_node}
use Rattle.page_changes.proofs.references.same_numbers.Given as goal

abbrev pub invariant-loop-one : goal.invariant-loop-one
invariant-loop-one l = pointwise same_node l.left l.right ≡ pointwise same_node l.fn.a l.fn.b

abbrev pub decreases-loop-one : goal.decreases-loop-one
decreases-loop-one l = length l.left
