use Rattle.std.proofs.Common.{take}
use Rattle.earl_in.specs.Standing.{HasRows}
use Rattle.earl_in.proofs.places.places_of.Given as goal

abbrev pub invariant-loop-row : goal.invariant-loop-row
invariant-loop-row l = HasRows l.places (take l.row-index l.rows)
