use Rattle.std.proofs.Common.{◌≤◌, length, drop}
use Rattle.snap_tree.proofs.Sized.{HasSized}
use Rattle.snap_tree.proofs.sizes.sizes_of.Given as goal

abbrev pub invariant-loop-place : goal.invariant-loop-place
invariant-loop-place l = (l.place ≤ length l.rows) × HasSized l.waiting.items l.sizes.items l.place (drop l.place l.rows)

abbrev pub decreases-loop-place : goal.decreases-loop-place
decreases-loop-place l = l.place
