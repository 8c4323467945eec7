use Rattle.std.proofs.Common.{◌≡◌, filter, length}
use Rattle.std.specs.Cmp.Lexicographic.{pointwise}
use Rattle.acc_tree.specs.Attributes.{is_looked_at}
use Rattle.page_keys.specs.Same.{same_attr}
use Rattle.page_changes.proofs.looked.same_attrs.Given as goal

abbrev pub invariant-loop-one : goal.invariant-loop-one
invariant-loop-one l =
    pointwise same_attr (filter (λ a. is_looked_at a.name) l.left) (filter (λ a. is_looked_at a.name) l.right)
    ≡ pointwise same_attr (filter (λ a. is_looked_at a.name) l.fn.a) (filter (λ a. is_looked_at a.name) l.fn.b)

abbrev pub decreases-loop-one : goal.decreases-loop-one
decreases-loop-one l = length l.left
