-- Placed cells shown one by one are what is shown of what is noted of them.
use Rattle.std.proofs.Common.{◌≡◌, List, map, sym}
use mathlib.Core.List.{map-map}
use Rattle.rules_tables.specs.declared.survey.PlacedCell.{PlacedCell}
use Rattle.rules_tables.specs.Survey.{seen_placed}
use Rattle.rules_tables.specs.CellPlaces.{place_of, shown}

pub shown_all : (cells : List PlacedCell) → map shown cells ≡ map place_of (map seen_placed cells)
shown_all cells = sym (map-map place_of seen_placed cells)
