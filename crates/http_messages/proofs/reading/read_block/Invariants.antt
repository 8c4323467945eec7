use Rattle.std.proofs.Common.{◌≡◌, ◌≤◌, length}
use Rattle.http_messages.specs.Blocks.{window, MayStart}
use Rattle.http_messages.specs.Reading.{Moves, Same, weight}
use Rattle.http_messages.proofs.reading.read_block.Given as goal

abbrev pub invariant-loop-n : goal.invariant-loop-n
invariant-loop-n g l =
    let link = g.L.Link in
    record {
      same : Moves Same l.initial.held.items l.held.items (link.wire l.initial.link) (link.wire l.link);
      start : l.start ≤ length (window l.held.items);
      may_start : MayStart l.start (window l.held.items);
      weight : weight (link.reads l.link) l.held.items ≤ weight (link.reads l.initial.link) l.initial.held.items;
      faults : link.faults l.link ≡ link.faults l.initial.link;
    }

abbrev pub decreases-loop-n : goal.decreases-loop-n
decreases-loop-n g l = g.L.Link.reads l.link
