use Rattle.std.proofs.Common.{◌-◌, ◌≤◌, ◌<◌, vec_len}
use Rattle.streams.specs.Streams.{Gave}
use Rattle.streams.proofs.reading.read_all.Given as goal

abbrev pub invariant-loop-buf : goal.invariant-loop-buf
invariant-loop-buf g l =
    record {
      within : vec_len l.bytes ≤ l.limit;
      room : 0 < vec_len l.buf;
      front : Gave l.bytes.items (g.I.Source.told l.initial.input) (g.I.Source.told l.input);
      never_falls : (g.I.Source.told l.initial.input).faults ≤ (g.I.Source.told l.input).faults;
    }

abbrev pub decreases-loop-buf : goal.decreases-loop-buf
decreases-loop-buf g l = l.limit - vec_len l.bytes
