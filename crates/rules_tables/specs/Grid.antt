-- The grid of a table: where its cells are placed (HTML, "forming a table").
use Rattle.std.specs.Prelude.{◌&&◌, ◌+◌, ◌-◌, ◌*◌, nat_le, nat_lt, ℕ, zero, suc, max, List, [], ◌∷◌, length, Bool, if◌then◌else◌}
use Rattle.std.specs.List.{list_any}
use Rattle.snap_tree.specs.declared.row.Row.{Row}
use Rattle.rules_tables.specs.declared.grid.Area.{Area}
use Rattle.rules_tables.specs.Spans.{column_span, row_span}
use Rattle.rules_tables.specs.TableRows.{TableRow}

-- a cell, and the slots that it covers
pub record Placed : Type 0 where
  pub cell : Row
  pub area : Area

-- the area has this slot
abbrev pub covers : Area → ℕ → ℕ → Bool
covers a row column = (nat_le a.top row && nat_lt row a.bottom) && (nat_le a.left column && nat_lt column a.right)

-- some of these cells covers the slot
abbrev pub is_covered : List Placed → ℕ → ℕ → Bool
is_covered placed row column = list_any (λ p. covers p.area row column) placed

-- the greatest covered column plus one
abbrev pub width : List Placed → ℕ
width [] = 0
width (p ∷ placed) = max p.area.right (width placed)

-- the first column from this one on that no cell covers in the row, where so many are tried
abbrev pub free_among : ℕ → List Placed → ℕ → ℕ → ℕ
free_among zero placed row column = column
free_among (suc tries) placed row column =
    if is_covered placed row column then free_among tries placed row (column + 1) else column

-- the first column from this one on that no cell covers in the row; none is covered from the width on
abbrev pub first_free : List Placed → ℕ → ℕ → ℕ
first_free placed row column = free_among (width placed) placed row column

-- where a cell comes that begins in this column of the row
abbrev pub area_at : ℕ → ℕ → ℕ → Row → Area
area_at row end column cell = record {
  top = row;
  bottom = row + row_span (end - row) cell;
  left = column;
  right = column + column_span cell;
}

-- where the next cell of a row comes, after these cells: at the first column, not before the end of the
-- cell before it in the row, that no cell covers
abbrev pub next_placed : List Placed → ℕ → ℕ → ℕ → Row → Placed
next_placed placed row end from cell = record { cell = cell; area = area_at row end (first_free placed row from) cell }

-- the cells placed so far, the last first, and then the cells of a row from left to right
abbrev pub placed_cells : List Placed → ℕ → ℕ → ℕ → List Row → List Placed
placed_cells placed row end from [] = placed
placed_cells placed row end from (cell ∷ cells) =
    let next = next_placed placed row end from cell
    in
    placed_cells (next ∷ placed) row end next.area.right cells

-- the same of rows from this number on
abbrev pub placed_rows : List Placed → ℕ → List TableRow → List Placed
placed_rows placed n [] = placed
placed_rows placed n (row ∷ rows) = placed_rows (placed_cells placed n row.end 0 row.cells) (n + 1) rows

-- the cells of a table with their places, the last first
abbrev pub grid : List TableRow → List Placed
grid rows = placed_rows [] 0 rows

abbrev pub slots : List TableRow → ℕ
slots rows = width (grid rows) * length rows
