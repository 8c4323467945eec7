-- What a pass over the cells of a table keeps: for each column the row from which on it is free, and what
-- was asked of the cells.
use Rattle.std.specs.Prelude.{◌&&◌, not, codes, ◌+◌, ◌-◌, ◌/◌, ◌^◌, nat_lt, ℕ, zero, suc, min, max, List, [], ◌∷◌, ◌++◌, length, map, drop, slice_index, slice_set, Bool, true, false, if◌then◌else◌, Option, Some, None}
use Rattle.aria_tables.specs.declared.role.Role.{Role}
use Rattle.snap_tree.specs.declared.row.Row.{Row}
use Rattle.snap_tree.specs.Rows.{has_number, is_html}
use Rattle.snap_tree.specs.Trees.{Trees, empty, tree}
use Rattle.acc_tree.specs.Roles.{explicit}
use Rattle.acc_tree.specs.Seen.{seen_row}
use Rattle.rules_tables.specs.declared.assigned.Direction.{Direction}
use Rattle.rules_tables.specs.declared.grid.Area.{Area}
use Rattle.rules_tables.specs.declared.survey.PlacedCell.{PlacedCell}
use Rattle.rules_tables.specs.declared.survey.Survey.{Survey}
use Rattle.rules_tables.specs.declared.survey.TheConstants.{MOST_SLOTS}
use Rattle.rules_tables.specs.Assigned.{is_data_role, is_meant}
use Rattle.rules_tables.specs.Grid.{Placed, area_at}
use Rattle.rules_tables.specs.TableRows.{TableRow, is_row_group, is_table_row, row_count, table_rows}

-- ---- columns

-- the first free column, of these from that number on
abbrev pub free_from : List ℕ → ℕ → ℕ → ℕ
free_from [] row column = column
free_from (free ∷ columns) row column = if nat_lt row free then free_from columns row (column + 1) else column

-- a column isn't free above this row; it may be the first that is new
abbrev pub raised : List ℕ → ℕ → ℕ → List ℕ
raised columns column bottom =
    if nat_lt column (length columns) then slice_set columns column (max (slice_index columns column) bottom) else columns ++ bottom ∷ []

-- the same of so many columns
abbrev pub raised_all : List ℕ → ℕ → ℕ → ℕ → List ℕ
raised_all columns left zero bottom = columns
raised_all columns left (suc n) bottom = raised_all (raised columns left bottom) (left + 1) n bottom

-- where the next cell of a row comes
abbrev pub next_area : List ℕ → ℕ → ℕ → ℕ → Row → Area
next_area columns row end from cell = area_at row end (free_from (drop from columns) row from) cell

-- ---- the limit

-- how many rows are among the children of a table and of its row groups
abbrev pub all_row_count : Trees → ℕ
all_row_count empty = 0
all_row_count (tree row kids after) =
    if is_row_group row then row_count kids + all_row_count after
    else (if is_table_row row then suc (all_row_count after) else all_row_count after)

-- the greatest width of a grid of so many rows that isn't large
abbrev pub most_columns : ℕ → ℕ
most_columns rows = MOST_SLOTS / max rows 1

-- ---- cells

-- a cell without an explicit role is a data cell where it is a `td`, which has the role cell or gridcell
abbrev pub is_data_by : Row → Option Role → Bool
is_data_by cell None = is_html (codes "td") cell
is_data_by cell (Some r) = is_data_role (Some r)

abbrev pub is_data : Row → Bool
is_data cell = is_data_by cell (explicit cell)

-- the cell is assigned to a header; what is above it isn't needed
abbrev pub is_its : Row → Direction → Option Area → Placed → Bool
is_its header d place p = not (has_number header.id p.cell) && (is_meant header d place p && is_data p.cell)

-- what has been noted
pub record Noted : Type 0 where
  pub columns : List ℕ
  pub column : ℕ
  pub cells : ℕ
  pub placed : List Placed
  pub wide : Bool

abbrev pub seen_placed : PlacedCell → Placed
seen_placed p = record { cell = seen_row p.cell.now; area = p.area }

abbrev pub noted : Survey → Noted
noted s = record { columns = s.columns.items; column = s.column; cells = s.cells; placed = map seen_placed s.placed.items; wide = s.wide }

abbrev pub nothing_noted : Noted
nothing_noted = record { columns = []; column = 0; cells = 0; placed = []; wide = false }

-- a count that stands still at the end of its type
abbrev pub counted : ℕ → ℕ
counted n = min (n + 1) (2 ^ 64 - 1)

-- a cell at its place
abbrev pub placed_at : Noted → Row → Area → Noted
placed_at s cell a = record s {
  columns = raised_all s.columns a.left (a.right - a.left) a.bottom;
  column = a.right;
  placed = s.placed ++ record { cell = cell; area = a } ∷ [];
}

-- an area, unless it reaches past the limit
abbrev pub within : ℕ → Area → Option Area
within most a = if nat_lt most a.right then None else Some a

-- a cell that reaches past the limit isn't placed, and from it on cells are only counted
abbrev pub fitted : Noted → Row → Option Area → Noted
fitted s cell None = record s { wide = true }
fitted s cell (Some a) = placed_at s cell a

abbrev pub after_cell : ℕ → ℕ → ℕ → Noted → Row → Noted
after_cell most row end s cell =
    let more = record s { cells = counted s.cells }
    in
    if s.wide then more else fitted more cell (within most (next_area s.columns row end s.column cell))

abbrev pub after_cells : ℕ → ℕ → ℕ → Noted → List Row → Noted
after_cells most row end s [] = s
after_cells most row end s (cell ∷ cells) = after_cells most row end (after_cell most row end s cell) cells

-- a row begins at its first column
abbrev pub after_row : ℕ → ℕ → ℕ → Noted → List Row → Noted
after_row most row end s cells = after_cells most row end (record s { column = 0 }) cells

abbrev pub after_rows : ℕ → ℕ → Noted → List TableRow → Noted
after_rows most n s [] = s
after_rows most n s (row ∷ rows) = after_rows most (n + 1) (after_row most n row.end s row.cells) rows

-- what a pass over a table notes
abbrev pub surveyed : Trees → Noted
surveyed table = after_rows (most_columns (all_row_count table)) 0 nothing_noted (table_rows 0 table)
