use Rattle.std.proofs.Common.{◌≡◌, ◌≤◌}
use Rattle.http_messages.specs.Reading.{Moves, Same, weight}
use Rattle.http_messages.proofs.reading.read_body.Given as goal

abbrev pub invariant-loop-link : goal.invariant-loop-link
invariant-loop-link g l =
    let link = g.L.Link in
    record {
      same : Moves Same l.initial.held.items l.held.items (link.wire l.initial.link) (link.wire l.link);
      weight : weight (link.reads l.link) l.held.items ≤ weight (link.reads l.initial.link) l.initial.held.items;
      faults : link.faults l.link ≡ link.faults l.initial.link;
    }

abbrev pub decreases-loop-link : goal.decreases-loop-link
decreases-loop-link g l = g.L.Link.reads l.link
