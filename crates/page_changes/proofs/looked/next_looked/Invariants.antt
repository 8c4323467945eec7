use Rattle.std.proofs.Common.{◌≡◌, ◌≤◌, filter, length}
use Rattle.acc_tree.specs.Attributes.{is_looked_at}
use Rattle.page_changes.proofs.looked.next_looked.Given as goal

abbrev pub invariant-loop-attr : goal.invariant-loop-attr
invariant-loop-attr l =
    (length l.rest ≤ length l.fn.attrs) × (filter (λ a. is_looked_at a.name) l.rest ≡ filter (λ a. is_looked_at a.name) l.fn.attrs)

abbrev pub decreases-loop-attr : goal.decreases-loop-attr
decreases-loop-attr l = length l.rest
