use Rattle.std.proofs.Common.{◌≡◌, length, take, ◌-◌, ◌≤◌}
use Rattle.streams.specs.Streams.{Wrote}
use Rattle.links.specs.Wires.{extended}
use Rattle.links.proofs.writing.write_all.Given as goal

abbrev pub invariant-loop-at : goal.invariant-loop-at
invariant-loop-at g l =
    let wire = g.L.Link.wire in
    let reads = g.L.Link.reads in
    let faults = g.L.Link.faults in
    record {
      within : l.at ≤ length l.bytes;
      wrote : Wrote extended (take l.at l.bytes) (wire l.initial.link) (wire l.link);
      kept : reads l.link ≡ reads l.initial.link;
      same : faults l.link ≡ faults l.initial.link;
    }

abbrev pub decreases-loop-at : goal.decreases-loop-at
decreases-loop-at g l = length l.bytes - l.at
