use Rattle.std.proofs.Common.{◌≡◌, filter, length}
use Rattle.acc_tree.specs.Attributes.{is_aria}
use Rattle.acc_tree.proofs.aria.first_aria.Given as goal

abbrev pub invariant-loop-attr : goal.invariant-loop-attr
invariant-loop-attr l = filter (λ a. is_aria a.name) l.rest ≡ filter (λ a. is_aria a.name) l.attrs

abbrev pub decreases-loop-attr : goal.decreases-loop-attr
decreases-loop-attr l = length l.rest
