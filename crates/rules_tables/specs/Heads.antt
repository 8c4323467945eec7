-- What is kept of a table, by which each of its headers is answered.
use Rattle.std.specs.Prelude.{◌≡◌, ◌==◌, ◌&&◌, ◌||◌, not, nat_lt, List, map, Bool, false, Option, Some, option_map}
use Rattle.std.specs.List.{list_any, find, AllByRecursion}
use Rattle.snap_tree.specs.declared.row.NodeId.{NodeId}
use Rattle.snap_tree.specs.declared.row.Row.{Row}
use Rattle.snap_tree.specs.Rows.{has_number}
use Rattle.snap_tree.specs.Trees.{Trees}
use Rattle.acc_tree.specs.declared.attributes.Attribute.TheVariants as attribute
use Rattle.acc_tree.specs.Seen.{text_at, is_blank_at}
use Rattle.rules_tables.specs.declared.grid.Area.{Area}
use Rattle.rules_tables.specs.declared.heads.CellPlace.{CellPlace}
use Rattle.rules_tables.specs.declared.heads.Cells.{Cells}
use Rattle.rules_tables.specs.declared.heads.Heads.{Heads}
use Rattle.rules_tables.specs.declared.survey.TheConstants.{MOST_SLOTS}
use Rattle.rules_tables.specs.Assigned.{direction_of, is_led_to, is_meant, place_of}
use Rattle.rules_tables.specs.Bearers.{Bearers, bearer_of, has_other}
use Rattle.rules_tables.specs.Grid.{Placed, grid, slots}
use Rattle.rules_tables.specs.HeaderHasCells.{cell_count}
use Rattle.rules_tables.specs.Survey.{is_its}
use Rattle.rules_tables.specs.TableRows.{table_rows}
use Rattle.rules_tables.specs.Tables.{below}

-- the place of a number among some
abbrev pub place_among : NodeId → List CellPlace → Option Area
place_among n places = option_map (λ p. p.area) (find (λ p. p.id.0 == n.0) places)

-- a header leads to a place that isn't its own
abbrev pub leads_to : Row → Option Area → CellPlace → Bool
leads_to header o p = not (p.id.0 == header.id.0) && is_led_to (direction_of header) o p.area

-- a cell that isn't the header names it
abbrev pub is_named_in : Bearers → Row → Bool
is_named_in named header = not (is_blank_at attribute.Id header) && has_other (bearer_of named (text_at attribute.Id header)) header.id

-- what is kept of some cells finds one of a header that stands there
abbrev pub finds_at : Cells → Row → Option Area → Bool
finds_at cells header o = list_any (leads_to header o) cells.open.items || is_named_in cells.named header

abbrev pub finds : Cells → Row → Bool
finds cells header = finds_at cells header (place_among header.id cells.places.items)

-- the place of a cell
abbrev pub place_at : Placed → CellPlace
place_at p = record { id = p.cell.id; area = p.area }

-- what is kept of some cells: the places of all, and what finds those that are assigned to a header
pub record Keeps (cells : Cells) (placed : List Placed) : Type 0 where
  pub places : cells.places.items ≡ map place_at placed
  pub found : (header : Row) (o : Option Area) → finds_at cells header o ≡ list_any (is_its header (direction_of header) o) placed

-- a data cell is kept too: its `headers` name its headers, or a header finds it that leads to it
pub record HasData (old new : Cells) (p : Placed) : Type 0 where
  pub same_places : new.places.items ≡ old.places.items
  pub found : (header : Row) (o : Option Area) → finds_at new header o ≡ (finds_at old header o || (not (has_number header.id p.cell) && is_meant header (direction_of header) o p))

-- what is kept of a table
pub record IsOf (table : Trees) (h : Heads) : Type 0 where
  pub wide_is : h.wide ≡ nat_lt MOST_SLOTS (slots (table_rows 0 table))
  pub count_is : h.count ≡ cell_count (table_rows 0 table)
  pub found : h.wide ≡ false → (header : Row) → finds h.cells header
      ≡ list_any (is_its header (direction_of header) (place_of header.id (grid (table_rows 0 table)))) (grid (table_rows 0 table))

-- the same of the table of its number, on a page
abbrev pub IsOfPage : Trees → Heads → Type 0
IsOfPage trees h = (table : Trees) → Some table ≡ below trees h.table → IsOf table h

abbrev pub AreOfPage : Trees → List Heads → Type 0
AreOfPage trees tables = AllByRecursion (IsOfPage trees) tables
