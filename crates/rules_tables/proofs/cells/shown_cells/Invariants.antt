use Rattle.std.proofs.Common.{◌≡◌, map, take}
use Rattle.rules_tables.specs.CellPlaces.{shown}
use Rattle.rules_tables.proofs.cells.shown_cells.Given as goal

abbrev pub invariant-loop-placed : goal.invariant-loop-placed
invariant-loop-placed l = l.places.items ≡ map shown (take l.placed-index l.cells)
