use Rattle.std.proofs.Common.{◌≡◌, ◌+◌, length}
use Rattle.snap_tree.specs.Places.{place_from}
use Rattle.snap_edit.proofs.place.place_of.Given as goal

abbrev pub invariant-loop-row : goal.invariant-loop-row
invariant-loop-row l =
    (l.place + length l.rest ≡ length l.rows) × (place_from l.place l.n.0 l.rest ≡ place_from 0 l.n.0 l.rows)

abbrev pub decreases-loop-row : goal.decreases-loop-row
decreases-loop-row l = length l.rest
