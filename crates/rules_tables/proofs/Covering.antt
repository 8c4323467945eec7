-- What a pass does in steps.
use Rattle.std.proofs.Common.{◌≡◌, ◌<◌, ◌≤◌, ◌+◌, ◌-◌, ℕ, suc, List, ◌++◌, Bool, true, false, refl, ap, ◌∙◌, arith}
use Rattle.snap_tree.specs.Trees.{Trees, empty, tree}
use Rattle.rules_tables.specs.Survey.{Noted, raised, raised_all, after_row, after_rows}
use Rattle.rules_tables.specs.TableRows.{TableRow, is_table_row, cells_in, row_count, group_rows}

pub raised_more : (columns : List ℕ) (column right bottom : ℕ) → column < right → raised_all columns column (right - column) bottom ≡ raised_all (raised columns column bottom) (column + 1) (right - (column + 1)) bottom
raised_more columns column right bottom h =
    let e : right - column ≡ suc (right - (column + 1)) = omega arith in ap (λ n. raised_all columns column n bottom) e

pub raised_end : (columns : List ℕ) (column right bottom : ℕ) → right ≤ column → raised_all columns column (right - column) bottom ≡ columns
raised_end columns column right bottom h =
    let e : right - column ≡ 0 = omega arith in ap (λ n. raised_all columns column n bottom) e

-- the rows of a group, and then others
pub after_both : (most n end : ℕ) (s : Noted) (kids : Trees) (rows : List TableRow) → after_rows most n s (group_rows end kids ++ rows)
    ≡ after_rows most (n + row_count kids) (after_rows most n s (group_rows end kids)) rows
after_both most n end s empty rows =
    let e : n ≡ n + 0 = omega arith in ap (λ m. after_rows most m s rows) e
after_both most n end s (tree row kids after) rows = by_row (is_table_row row) refl (λ m t. after_both most m end t after rows)
  where
    by_row : (b : Bool) → is_table_row row ≡ b → ((m : ℕ) (t : Noted) → after_rows most m t (group_rows end after ++ rows) ≡ after_rows most (m + row_count after) (after_rows most m t (group_rows end after)) rows)
        → after_rows most n s (group_rows end (tree row kids after) ++ rows) ≡ after_rows most (n + row_count (tree row kids after)) (after_rows most n s (group_rows end (tree row kids after))) rows
    by_row true h later =
        let e : n + 1 + row_count after ≡ n + suc (row_count after) = omega arith in
        let begun = after_row most n end s (cells_in kids) in
        rw h (later (n + 1) begun ∙ ap (λ m. after_rows most m (after_rows most (n + 1) begun (group_rows end after)) rows) e)
    by_row false h later = rw h (later n s)
