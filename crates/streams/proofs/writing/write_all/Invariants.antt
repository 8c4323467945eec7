use Rattle.std.proofs.Common.{length, take, ◌-◌, ◌≤◌}
use Rattle.streams.specs.Streams.{Took}
use Rattle.streams.proofs.writing.write_all.Given as goal

abbrev pub invariant-loop-at : goal.invariant-loop-at
invariant-loop-at g l = (l.at ≤ length l.bytes) × Took (g.O.Sink.told l.initial.out) (g.O.Sink.told l.out) (take l.at l.bytes)

abbrev pub decreases-loop-at : goal.decreases-loop-at
decreases-loop-at g l = length l.bytes - l.at
