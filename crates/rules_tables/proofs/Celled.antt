-- The placed cells of a table are cells.
use Rattle.std.proofs.Common.{◌≡◌, ◌+◌, ℕ, List, [], ◌∷◌, ◌++◌, Bool, true, false, cond, refl}
use Rattle.std.specs.List.{AllByRecursion}
use Rattle.snap_tree.specs.declared.row.Row.{Row}
use Rattle.snap_tree.specs.Trees.{Trees, empty, tree}
use Rattle.rules_tables.specs.Grid.{Placed, next_placed, placed_cells, placed_rows, grid}
use Rattle.rules_tables.specs.TableRows.{TableRow, is_row_group, is_table_row, is_cell, cells_in, row_count, neighbours, group_rows, table_rows}

abbrev pub Celled : List Row → Type 0
Celled cells = AllByRecursion (λ r. is_cell r ≡ true) cells

abbrev pub RowsCelled : List TableRow → Type 0
RowsCelled rows = AllByRecursion (λ (r : TableRow). Celled r.cells) rows

abbrev pub GridCelled : List Placed → Type 0
GridCelled placed = AllByRecursion (λ (p : Placed). is_cell p.cell ≡ true) placed

cells_celled : (t : Trees) → Celled (cells_in t)
cells_celled empty = tt
cells_celled (tree row kids after) = by_cell (is_cell row) refl (cells_celled after)
  where
    by_cell : (b : Bool) → is_cell row ≡ b → Celled (cells_in after) → Celled (cond b (row ∷ cells_in after) (cells_in after))
    by_cell true e later = (e, later)
    by_cell false e later = later

rows_both : (xs ys : List TableRow) → RowsCelled xs → RowsCelled ys → RowsCelled (xs ++ ys)
rows_both [] ys h k = k
rows_both (x ∷ xs) ys h k = (h.0, rows_both xs ys h.1 k)

group_celled : (end : ℕ) (t : Trees) → RowsCelled (group_rows end t)
group_celled end empty = tt
group_celled end (tree row kids after) = by_row (is_table_row row) (group_celled end after)
  where
    by_row : (b : Bool) → RowsCelled (group_rows end after) → RowsCelled (cond b (record { cells = cells_in kids; end = end } ∷ group_rows end after) (group_rows end after))
    by_row true later = (cells_celled kids, later)
    by_row false later = later

table_celled : (n : ℕ) (t : Trees) → RowsCelled (table_rows n t)
table_celled n empty = tt
table_celled n (tree row kids after) = by_row (is_row_group row) (is_table_row row) (λ m. table_celled m after)
  where
    first : TableRow
    first = record { cells = cells_in kids; end = n + 1 + neighbours after }

    by_row : (a b : Bool) → ((m : ℕ) → RowsCelled (table_rows m after))
        → RowsCelled (cond a (group_rows (n + row_count kids) kids ++ table_rows (n + row_count kids) after) (cond b (first ∷ table_rows (n + 1) after) (table_rows n after)))
    by_row true b later = rows_both (group_rows (n + row_count kids) kids) (table_rows (n + row_count kids) after) (group_celled (n + row_count kids) kids) (later (n + row_count kids))
    by_row false true later = (cells_celled kids, later (n + 1))
    by_row false false later = later n

cells_placed : (placed : List Placed) (row end from : ℕ) (cells : List Row) → GridCelled placed → Celled cells → GridCelled (placed_cells placed row end from cells)
cells_placed placed row end from [] h k = h
cells_placed placed row end from (cell ∷ cells) h k =
    let next = next_placed placed row end from cell in cells_placed (next ∷ placed) row end next.area.right cells (k.0, h) k.1

rows_placed : (placed : List Placed) (n : ℕ) (rows : List TableRow) → GridCelled placed → RowsCelled rows → GridCelled (placed_rows placed n rows)
rows_placed placed n [] h k = h
rows_placed placed n (row ∷ rows) h k = rows_placed (placed_cells placed n row.end 0 row.cells) (n + 1) rows (cells_placed placed n row.end 0 row.cells h k.0) k.1

pub grid_celled : (t : Trees) → GridCelled (grid (table_rows 0 t))
grid_celled t = rows_placed [] 0 (table_rows 0 t) tt (table_celled 0 t)
