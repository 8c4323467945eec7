-- The laws of grids.
use Rattle.std.proofs.Common.{◌≡◌, ◌<◌, ◌≤◌, ◌+◌, ◌-◌, ℕ, zero, suc, max, List, [], ◌∷◌, ◌++◌, length, slice_get, Bool, true}
use Rattle.std.proofs.Common.{false, ◌&&◌, ◌||◌, cond, leb, ltb, Option, Some, None, refl, sym, ap, ◌∙◌, subst, arith, length-append, ⊎_elim}
use Rattle.std.proofs.lemmas.Bool.{false_from_ne_true, or_parts, or_left, or_right, and_right, lt-leb, cases_lt, cases_eq}
use Rattle.std.proofs.lemmas.Bool.Decides.{nat_tests}
use Rattle.std.specs.List.{AllByRecursion}
use Rattle.snap_tree.specs.declared.row.Row.{Row}
use Rattle.snap_tree.specs.Trees.{Trees, empty, tree}
use Rattle.acc_tree.specs.declared.attributes.Attribute.TheVariants as attribute
use Rattle.acc_tree.specs.Seen.{attr}
use Rattle.rules_tables.specs.declared.grid.Area.{Area}
use Rattle.rules_tables.specs.Grid.{Placed, covers, is_covered, width, free_among, first_free, next_placed, placed_cells, placed_rows, grid}
use Rattle.rules_tables.specs.GridLaws.{IsFirstFree, BeginApart, AllBeginApart, EndThere, AreRuns, LiesWithin, IsWidth}
use Rattle.rules_tables.specs.Spans.{columns, rows_within, span}
use Rattle.rules_tables.specs.TableRows.{TableRow, is_row_group, is_table_row, cells_in, row_count, neighbours, group_rows, table_rows}
use Rattle.rules_tables.proofs.Counting.{group_length}
use Rattle.rules_tables.proofs.Freeing.{covered_within}

-- ---- the first free column

past_free : (placed : List Placed) (row k : ℕ) → width placed ≤ k → is_covered placed row k ≡ false
past_free placed row k h = false_from_ne_true (is_covered placed row k) (λ e. let x = covered_within row placed k e in omega arith)

is_first : (tries : ℕ) (placed : List Placed) (row k : ℕ) → width placed ≤ tries + k → IsFirstFree placed row k (free_among tries placed row k)
is_first zero placed row k h =
    record { not_before = omega arith; free = past_free placed row k (omega arith); first = λ j a b. absurd (omega arith) }
is_first (suc tries) placed row k h = by_slot (is_covered placed row k) refl (is_first tries placed row (k + 1) (omega arith))
  where
    by_slot : (b : Bool) → is_covered placed row k ≡ b → IsFirstFree placed row (k + 1) (free_among tries placed row (k + 1)) → IsFirstFree placed row k (cond b (free_among tries placed row (k + 1)) k)
    by_slot true e later = record {
      not_before = let x = later.not_before in omega arith;
      free = later.free;
      first = λ j a b. ⊎_elim (λ (is : j ≡ k). ap (is_covered placed row) is ∙ e) (λ (other : j ≡ k → ⊥). later.first j (after j a other) b) (cases_eq j k);
    }
      where
        after : (j : ℕ) → k ≤ j → (j ≡ k → ⊥) → k + 1 ≤ j
        after j a other = omega (arith, other)
    by_slot false e later = record { not_before = omega arith; free = e; first = λ j a b. absurd (omega arith) }

pub first_is_free : (placed : List Placed) (row from : ℕ) → IsFirstFree placed row from (first_free placed row from)
first_is_free placed row from = is_first (width placed) placed row from (omega arith)

-- ---- lists

all_kept : {X : Type 0} {P Q : X → Type 0} → ((x : X) → P x → Q x) → (xs : List X) → AllByRecursion P xs → AllByRecursion Q xs
all_kept f [] h = h
all_kept f (x ∷ xs) h = (f x h.0, all_kept f xs h.1)

all_both : {X : Type 0} {P Q R : X → Type 0} → ((x : X) → P x → Q x → R x) → (xs : List X) → AllByRecursion P xs → AllByRecursion Q xs → AllByRecursion R xs
all_both f [] h k = h
all_both f (x ∷ xs) h k = (f x h.0 k.0, all_both f xs h.1 k.1)

-- ---- spans

pub some_columns : (o : Option ℕ) → 0 < columns o
some_columns None = omega arith
some_columns (Some n) = grind (arith, nat_tests)

some_rows : (left : ℕ) (o : Option ℕ) → 0 < left → 0 < rows_within left o
some_rows left None h = omega arith
some_rows left (Some n) h = grind (arith, nat_tests)

rows_cut : (left : ℕ) (o : Option ℕ) → rows_within left o ≤ left
rows_cut left None = omega arith
rows_cut left (Some n) = grind (arith, nat_tests)

-- ---- row groups

there_past : (n end : ℕ) (rows : List TableRow) → end ≤ n → EndThere n end rows
there_past n end [] h = tt
there_past n end (row ∷ rows) h = (λ less. absurd (omega arith), there_past (n + 1) end rows (omega arith))

group_there : (n end : ℕ) (t : Trees) (rows : List TableRow) → n + row_count t ≡ end → EndThere n end (group_rows end t ++ rows)
group_there n end empty rows h = there_past n end rows (omega arith)
group_there n end (tree row kids after) rows h = by_row (is_table_row row) h (group_there (n + 1) end after rows) (group_there n end after rows)
  where
    by_row : (b : Bool) → n + cond b (suc (row_count after)) (row_count after) ≡ end → (n + 1 + row_count after ≡ end → EndThere (n + 1) end (group_rows end after ++ rows))
        → (n + row_count after ≡ end → EndThere n end (group_rows end after ++ rows))
        → EndThere n end (cond b (record { cells = cells_in kids; end = end } ∷ group_rows end after) (group_rows end after) ++ rows)
    by_row true h first later = (λ less. refl, first (omega arith))
    by_row false h first later = later h

group_runs : (n end : ℕ) (t : Trees) (rows : List TableRow) → n + row_count t ≡ end → AreRuns end rows → AreRuns n (group_rows end t ++ rows)
group_runs n end empty rows h runs = let e : end ≡ n = omega arith in subst (λ m. AreRuns m rows) e runs
group_runs n end (tree row kids after) rows h runs = by_row (is_table_row row) h (λ e. group_there (n + 1) end after rows e) (λ e. group_runs (n + 1) end after rows e runs) (λ e. group_runs n end after rows e runs)
  where
    by_row : (b : Bool) → n + cond b (suc (row_count after)) (row_count after) ≡ end → (n + 1 + row_count after ≡ end → EndThere (n + 1) end (group_rows end after ++ rows))
        → (n + 1 + row_count after ≡ end → AreRuns (n + 1) (group_rows end after ++ rows))
        → (n + row_count after ≡ end → AreRuns n (group_rows end after ++ rows)) → AreRuns n (cond b (record { cells = cells_in kids; end = end } ∷ group_rows end after) (group_rows end after) ++ rows)
    by_row true h there first later =
        let size = length-append (group_rows end after) rows in
        let few = group_length end after in
        (record { before = omega arith; within = omega arith; same = there (omega arith) }, first (omega arith))
    by_row false h there first later = later h

next_there : (n : ℕ) (t : Trees) → EndThere n (n + neighbours t) (table_rows n t)
next_there n empty = tt
next_there n (tree row kids after) = by_row (is_row_group row) (is_table_row row) (next_there (n + 1) after) (next_there n after)
  where
    by_row : (a b : Bool) → EndThere (n + 1) (n + 1 + neighbours after) (table_rows (n + 1) after) → EndThere n (n + neighbours after) (table_rows n after)
        → EndThere n (n + cond a 0 (cond b (suc (neighbours after)) (neighbours after)))
        (cond a (group_rows (n + row_count kids) kids ++ table_rows (n + row_count kids) after) (cond b (record { cells = cells_in kids; end = n + 1 + neighbours after } ∷ table_rows (n + 1) after) (table_rows n after)))
    by_row true b first later = there_past n (n + 0) (group_rows (n + row_count kids) kids ++ table_rows (n + row_count kids) after) (omega arith)
    by_row false true first later =
        let e : n + 1 + neighbours after ≡ n + suc (neighbours after) = omega arith in (λ less. e, subst (λ m. EndThere (n + 1) m (table_rows (n + 1) after)) e first)
    by_row false false first later = later

neighbours_few : (n : ℕ) (t : Trees) → neighbours t ≤ length (table_rows n t)
neighbours_few n empty = omega arith
neighbours_few n (tree row kids after) = by_row (is_row_group row) (is_table_row row) (neighbours_few (n + 1) after) (neighbours_few n after)
  where
    by_row : (a b : Bool) → neighbours after ≤ length (table_rows (n + 1) after) → neighbours after ≤ length (table_rows n after)
        → cond a 0 (cond b (suc (neighbours after)) (neighbours after))
        ≤ length (cond a (group_rows (n + row_count kids) kids ++ table_rows (n + row_count kids) after)
        (cond b (record { cells = cells_in kids; end = n + 1 + neighbours after } ∷ table_rows (n + 1) after) (table_rows n after)))
    by_row true b first later = omega arith
    by_row false true first later = omega arith
    by_row false false first later = later

table_runs : (n : ℕ) (t : Trees) → AreRuns n (table_rows n t)
table_runs n empty = tt
table_runs n (tree row kids after) = by_row (is_row_group row) (is_table_row row) (λ m. table_runs m after)
  where
    first : TableRow
    first = record { cells = cells_in kids; end = n + 1 + neighbours after }

    by_row : (a b : Bool) → ((m : ℕ) → AreRuns m (table_rows m after))
        → AreRuns n (cond a (group_rows (n + row_count kids) kids ++ table_rows (n + row_count kids) after) (cond b (first ∷ table_rows (n + 1) after) (table_rows n after)))
    by_row true b later = group_runs n (n + row_count kids) kids (table_rows (n + row_count kids) after) refl (later (n + row_count kids))
    by_row false true later =
        let few = neighbours_few (n + 1) after in (record { before = omega arith; within = omega arith; same = next_there (n + 1) after }, later (n + 1))
    by_row false false later = later n

-- each row group is a run of rows
pub groups_are_runs : (t : Trees) → AreRuns 0 (table_rows 0 t)
groups_are_runs t = table_runs 0 t

-- ---- placing a cell

-- what holds of each cell placed so far, where the next one comes in this row at this column or behind it
pub record IsLaid (rows : List TableRow) (row from : ℕ) (p : Placed) : Type 0 where
  pub begun : p.area.top ≤ row
  pub ended : p.area.top ≡ row → p.area.right ≤ from
  pub lies : LiesWithin rows p.area

pub record AreLaid (rows : List TableRow) (row from : ℕ) (placed : List Placed) : Type 0 where
  pub each : AllByRecursion (IsLaid rows row from) placed
  pub apart : AllBeginApart placed

uncovered : (placed : List Placed) (row column : ℕ) → is_covered placed row column ≡ false → AllByRecursion (λ q. covers q.area row column ≡ false) placed
uncovered [] row column h = tt
uncovered (q ∷ placed) row column h =
    let parts = or_parts (covers q.area row column) (is_covered placed row column) h in (parts.0, uncovered placed row column parts.1)

-- a cell that comes later doesn't cover the slot in which an earlier one begins
not_back : (a b : Area) → b.top ≤ a.top → (b.top ≡ a.top → b.left < a.left) → covers a b.top b.left ≡ false
not_back a b h k = ⊎_elim (λ (above : b.top < a.top). below_top above) (λ (level : a.top ≤ b.top). beside (k (omega arith))) (cases_lt b.top a.top)
  where
    below_top : b.top < a.top → covers a b.top b.left ≡ false
    below_top above = ap (λ x. (x && ltb b.top a.bottom) && (leb a.left b.left && ltb b.left a.right)) (lt-leb a.top b.top above)

    beside : b.left < a.left → covers a b.top b.left ≡ false
    beside h = ap (λ x. (leb a.top b.top && ltb b.top a.bottom) && (x && ltb b.left a.right)) (lt-leb a.left b.left h) ∙ and_right (leb a.top b.top && ltb b.top a.bottom) false refl

laid_cell : (rows : List TableRow) (placed : List Placed) (row from : ℕ) (r : TableRow) (cell : Row) → slice_get rows row ≡ Some r → row < r.end → AreLaid rows row from placed
    → AreLaid rows row (next_placed placed row r.end from cell).area.right (next_placed placed row r.end from cell ∷ placed)
laid_cell rows placed row from r cell is within laid = record {
  each = (record { begun = omega arith; ended = λ e. omega arith; lies = lies }, all_kept older placed laid.each);
  apart = (all_both apart placed laid.each (uncovered placed row next.area.left free.free), laid.apart);
}
  where
    next : Placed
    next = next_placed placed row r.end from cell

    free : IsFirstFree placed row from (first_free placed row from)
    free = first_is_free placed row from

    lies : LiesWithin rows (next_placed placed row r.end from cell).area
    lies =
        let some = some_columns (span (attr attribute.Colspan cell)) in
        let tall = some_rows (r.end - row) (span (attr attribute.Rowspan cell)) (omega arith) in
        let cut = rows_cut (r.end - row) (span (attr attribute.Rowspan cell)) in
        record { row = r; begins = is; has_row = omega arith; has_column = omega arith; ends = omega arith }

    older : (q : Placed) → IsLaid rows row from q → IsLaid rows row (next_placed placed row r.end from cell).area.right q
    older q l =
        let h = free.not_before in record { begun = l.begun; ended = λ e. let k = l.ended e in omega arith; lies = l.lies }

    apart : (q : Placed) → IsLaid rows row from q → covers q.area row (first_free placed row from) ≡ false → BeginApart (next_placed placed row r.end from cell) q
    apart q l e = record {
      first_free = e;
      second_free = not_back (next_placed placed row r.end from cell).area q.area l.begun
          (λ same. let k = l.ended same in let h = free.not_before in let c = l.lies.has_column in omega arith);
    }

laid_cells : (rows : List TableRow) (placed : List Placed) (row from : ℕ) (r : TableRow) (cells : List Row) → slice_get rows row ≡ Some r → row < r.end → AreLaid rows row from placed
    → (to : ℕ) × AreLaid rows row to (placed_cells placed row r.end from cells)
laid_cells rows placed row from r [] is within laid = (from, laid)
laid_cells rows placed row from r (cell ∷ cells) is within laid =
    let next = next_placed placed row r.end from cell in laid_cells rows (next ∷ placed) row next.area.right r cells is within (laid_cell rows placed row from r cell is within laid)

laid_later : (rows : List TableRow) (placed : List Placed) (row from : ℕ) → AreLaid rows row from placed → AreLaid rows (row + 1) 0 placed
laid_later rows placed row from laid = record { each = all_kept older placed laid.each; apart = laid.apart }
  where
    older : (q : Placed) → IsLaid rows row from q → IsLaid rows (row + 1) 0 q
    older q l = let h = l.begun in record { begun = omega arith; ended = λ e. absurd (omega arith); lies = l.lies }

laid_rows : (all : List TableRow) (placed : List Placed) (n : ℕ) (rows : List TableRow) → ((k : ℕ) → slice_get rows k ≡ slice_get all (n + k)) → AreRuns n rows → AreLaid all n 0 placed
    → (row : ℕ) × ((from : ℕ) × AreLaid all row from (placed_rows placed n rows))
laid_rows all placed n [] same runs laid = (n, (0, laid))
laid_rows all placed n (row ∷ rows) same runs laid =
    let e : n + 0 ≡ n = omega arith in
    let is : slice_get all n ≡ Some row = sym (same 0 ∙ ap (slice_get all) e) in
    let cells = laid_cells all placed n 0 row row.cells is runs.0.before laid in
    laid_rows all (placed_cells placed n row.end 0 row.cells) (n + 1) rows (λ k. same (suc k) ∙ ap (slice_get all) (shift k)) runs.1 (laid_later all (placed_cells placed n row.end 0 row.cells) n cells.0 cells.1)
  where
    shift : (k : ℕ) → n + suc k ≡ n + 1 + k
    shift k = omega arith

grid_laid : (t : Trees) → (row : ℕ) × ((from : ℕ) × AreLaid (table_rows 0 t) row from (grid (table_rows 0 t)))
grid_laid t =
    laid_rows (table_rows 0 t) [] 0 (table_rows 0 t) (λ k. ap (slice_get (table_rows 0 t)) (none k)) (table_runs 0 t) (record { each = tt; apart = tt })
  where
    none : (k : ℕ) → k ≡ 0 + k
    none k = omega arith

-- no cell covers the slot in which another begins
pub begin_apart : (t : Trees) → AllBeginApart (grid (table_rows 0 t))
begin_apart t = (grid_laid t).1.1.apart

-- each cell lies within its row group
pub lie_within : (t : Trees) → AllByRecursion (λ p. LiesWithin (table_rows 0 t) p.area) (grid (table_rows 0 t))
lie_within t = all_kept (λ p l. l.lies) (grid (table_rows 0 t)) (grid_laid t).1.1.each

-- ---- the width

covers_last : (a : Area) → a.top < a.bottom → a.left < a.right → covers a a.top (a.right - 1) ≡ true
covers_last a h k = grind (arith, nat_tests)

is_reached : (rows : List TableRow) (placed : List Placed) → AllByRecursion (λ p. LiesWithin rows p.area) placed → 0 < width placed → (row : ℕ) × (is_covered placed row (width placed - 1) ≡ true)
is_reached rows [] h some = absurd (omega arith)
is_reached rows (p ∷ placed) h some = ⊎_elim (λ (less : p.area.right < width placed). later less (is_reached rows placed h.1 (omega arith))) (λ (more : width placed ≤ p.area.right). here more)
    (cases_lt p.area.right (width placed))
  where
    later : p.area.right < width placed → (row : ℕ) × (is_covered placed row (width placed - 1) ≡ true) → (row : ℕ) × (is_covered (p ∷ placed) row (width (p ∷ placed) - 1) ≡ true)
    later less rest =
        let e : max p.area.right (width placed) - 1 ≡ width placed - 1 = omega arith in
        (rest.0, ap (λ k. covers p.area rest.0 k || is_covered placed rest.0 k) e ∙ or_right (covers p.area rest.0 (width placed - 1)) (is_covered placed rest.0 (width placed - 1)) rest.1)

    here : width placed ≤ p.area.right → (row : ℕ) × (is_covered (p ∷ placed) row (width (p ∷ placed) - 1) ≡ true)
    here more =
        let e : max p.area.right (width placed) - 1 ≡ p.area.right - 1 = omega arith in (
          p.area.top,
          ap (λ k. covers p.area p.area.top k || is_covered placed p.area.top k) e
              ∙ or_left (covers p.area p.area.top (p.area.right - 1)) (is_covered placed p.area.top (p.area.right - 1)) (covers_last p.area h.0.has_row h.0.has_column),
        )

pub width_is : (t : Trees) → IsWidth (grid (table_rows 0 t))
width_is t = record {
  past = λ row column h. past_free (grid (table_rows 0 t)) row column h;
  reached = λ some. is_reached (table_rows 0 t) (grid (table_rows 0 t)) (lie_within t) some;
}
