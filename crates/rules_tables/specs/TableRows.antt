-- The rows of a table, and their cells (HTML, "forming a table").
use Rattle.std.specs.Prelude.{◌||◌, ◌+◌, ℕ, suc, List, [], ◌∷◌, ◌++◌, codes, Bool, if◌then◌else◌}
use Rattle.snap_tree.specs.declared.row.Row.{Row}
use Rattle.snap_tree.specs.Rows.{is_html}
use Rattle.snap_tree.specs.Trees.{Trees, empty, tree}

abbrev pub is_row_group : Row → Bool
is_row_group row = is_html (codes "tbody") row || (is_html (codes "thead") row || is_html (codes "tfoot") row)

abbrev pub is_table_row : Row → Bool
is_table_row row = is_html (codes "tr") row

abbrev pub is_cell : Row → Bool
is_cell row = is_html (codes "td") row || is_html (codes "th") row

-- a row: its cells, and the number of the first row behind its row group, where rows count from 0
pub record TableRow : Type 0 where
  pub cells : List Row
  pub end : ℕ

-- the cells among the children of a row
abbrev pub cells_in : Trees → List Row
cells_in empty = []
cells_in (tree row kids after) = if is_cell row then row ∷ cells_in after else cells_in after

-- how many rows are among the children of a row group
abbrev pub row_count : Trees → ℕ
row_count empty = 0
row_count (tree row kids after) = if is_table_row row then suc (row_count after) else row_count after

-- how many rows are among the next children of a table, before a row group
abbrev pub neighbours : Trees → ℕ
neighbours empty = 0
neighbours (tree row kids after) =
    if is_row_group row then 0 else (if is_table_row row then suc (neighbours after) else neighbours after)

-- the rows among the children of a row group that ends there
abbrev pub group_rows : ℕ → Trees → List TableRow
group_rows end empty = []
group_rows end (tree row kids after) =
    if is_table_row row then record { cells = cells_in kids; end = end } ∷ group_rows end after else group_rows end after

-- the rows among the children of a table, from this number on: those of its row groups, and its own, of
-- which neighbours are one row group
abbrev pub table_rows : ℕ → Trees → List TableRow
table_rows n empty = []
table_rows n (tree row kids after) =
    if is_row_group row then group_rows (n + row_count kids) kids ++ table_rows (n + row_count kids) after
    else (if is_table_row row then record { cells = cells_in kids; end = n + 1 + neighbours after } ∷ table_rows (n + 1) after
    else table_rows n after)
