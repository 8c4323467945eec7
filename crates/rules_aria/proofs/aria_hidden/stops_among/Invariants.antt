use Rattle.std.proofs.Common.{◌≡◌, ◌++◌, drop}
use Rattle.rules_aria.specs.AriaHidden.{stops_among}
use Rattle.rules_aria.proofs.aria_hidden.stops_among.Given as goal

abbrev pub invariant-loop-row : goal.invariant-loop-row
invariant-loop-row l = l.nodes.items ++ stops_among (drop l.row-index l.rows) ≡ stops_among l.rows
