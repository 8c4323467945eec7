use Rattle.std.proofs.Common.{◌≡◌, length}
use Rattle.snap_tree.specs.Rows.{has_double}
use Rattle.snap_tree.proofs.limits.has_double.Given as goal

abbrev pub invariant-loop-attr : goal.invariant-loop-attr
invariant-loop-attr l = has_double l.rest ≡ has_double l.attrs

abbrev pub decreases-loop-attr : goal.decreases-loop-attr
decreases-loop-attr l = length l.rest
