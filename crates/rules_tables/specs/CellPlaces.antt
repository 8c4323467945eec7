-- Where the cells of a table are placed.
use Rattle.std.specs.Prelude.{List, [], map, Option, Some, None}
use Rattle.snap_tree.specs.declared.row.NodeId.{NodeId}
use Rattle.snap_tree.specs.Trees.{Trees}
use Rattle.rules_tables.specs.declared.cells.CellPlace.{CellPlace}
use Rattle.rules_tables.specs.declared.survey.PlacedCell.{PlacedCell}
use Rattle.rules_tables.specs.Grid.{Placed}
use Rattle.rules_tables.specs.Tables.{below}
use Rattle.rules_tables.specs.Survey.{seen_placed, surveyed}

-- the number of a cell, with its area
abbrev pub place_of : Placed → CellPlace
place_of p = record { cell = p.cell.id; area = p.area }

abbrev pub shown : PlacedCell → CellPlace
shown p = place_of (seen_placed p)

-- the cells that are placed of what is below a table
abbrev pub places_in : Option Trees → List CellPlace
places_in None = []
places_in (Some table) = map place_of (surveyed table).placed

abbrev pub cell_places : Trees → NodeId → List CellPlace
cell_places trees table = places_in (below trees table)
