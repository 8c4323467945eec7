use Rattle.std.proofs.Common.{◌≡◌, length}
use Rattle.std.specs.Cmp.Lexicographic.{pointwise}
use Rattle.page_keys.specs.Same.{same_attr}
use Rattle.reaudit.proofs.same_rows.same_attrs.Given as goal

abbrev pub invariant-loop-one : goal.invariant-loop-one
invariant-loop-one l = pointwise same_attr l.left l.right ≡ pointwise same_attr l.fn.a l.fn.b

abbrev pub decreases-loop-one : goal.decreases-loop-one
decreases-loop-one l = length l.left
