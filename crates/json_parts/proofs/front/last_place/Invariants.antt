use Rattle.std.proofs.Common.{◌≤◌, length}
use Rattle.json_parts.proofs.front.last_place.Given as goal

abbrev pub invariant-loop-last : goal.invariant-loop-last
invariant-loop-last l = length l.front ≤ length l.text

abbrev pub decreases-loop-last : goal.decreases-loop-last
decreases-loop-last l = length l.front
