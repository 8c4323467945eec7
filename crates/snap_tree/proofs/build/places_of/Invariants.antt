use Rattle.std.proofs.Common.{◌≡◌, [], take, drop}
use Rattle.snap_tree.specs.Faults.{rows_fault}
use Rattle.snap_tree.specs.Opened.{HasEntered}
use Rattle.snap_tree.proofs.build.places_of.Given as goal

abbrev pub invariant-loop-place : goal.invariant-loop-place
invariant-loop-place l =
    HasEntered l.places l.path.items (take l.place l.rows) × (rows_fault (take l.place l.rows) (drop l.place l.rows) ≡ rows_fault [] l.rows)
