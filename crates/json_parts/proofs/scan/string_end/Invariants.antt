use Rattle.std.proofs.Common.{length, ◌-◌, ◌≤◌}
use Rattle.json_parts.proofs.scan.string_end.Given as goal

abbrev pub invariant-loop-place : goal.invariant-loop-place
invariant-loop-place l = l.start ≤ l.place

abbrev pub decreases-loop-place : goal.decreases-loop-place
decreases-loop-place l = length l.text - l.place
