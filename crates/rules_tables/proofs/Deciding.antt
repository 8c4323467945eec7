-- What is kept of a table decides what is found of a header.
use Rattle.std.proofs.Common.{◌≡◌, ◌<◌, ◌≤◌, ◌*◌, ◌/◌, ◌^◌, ℕ, suc, max, List, [], ◌∷◌, length, filter, Bool, true}
use Rattle.std.proofs.Common.{false, ◌&&◌, ◌||◌, not, cond, ltb, Option, refl, sym, ap, ◌∙◌, arith, subst, ⊎_elim, div-lt_iff_lt-mul}
use Rattle.std.proofs.lemmas.Bool.{lt-ltb, le-ltb, cases_lt}
use Rattle.std.specs.List.{list_any}
use Rattle.snap_tree.specs.declared.row.Row.{Row}
use Rattle.snap_tree.specs.Rows.{has_number}
use Rattle.snap_tree.specs.Trees.{Trees, count}
use Rattle.acc_tree.specs.declared.above.Above.{Above}
use Rattle.acc_tree.specs.Seen.{seen}
use Rattle.rule_core.specs.declared.reason.Reason.TheVariants.{NoCells, LargeGrid}
use Rattle.rule_core.specs.Findings.{met, failed, cant_tell}
use Rattle.rules_tables.specs.declared.grid.Area.{Area}
use Rattle.rules_tables.specs.Assigned.{direction_of, is_meant, is_assigned, place_of, assigned}
use Rattle.rules_tables.specs.Grid.{Placed, width, grid, slots}
use Rattle.rules_tables.specs.HeaderHasCells.{cells_finding, header_finding, cell_count}
use Rattle.rules_tables.specs.declared.heads.Heads.{Heads}
use Rattle.rules_tables.specs.Heads.{finds, Keeps, IsOf}
use Rattle.rules_tables.specs.Survey.{Noted, is_its, most_columns, all_row_count, surveyed}
use Rattle.rules_tables.specs.TableRows.{TableRow, table_rows}
use Rattle.rules_tables.proofs.Celled.{GridCelled, grid_celled}
use Rattle.rules_tables.proofs.Counting.{rows_length, rows_placed_length, rows_few, count_seen}
use Rattle.rules_tables.proofs.Asking.{finds_in_grid}
use Rattle.rules_tables.proofs.Placing.{survey_told}
use Rattle.rules_tables.proofs.RoleOfCell.{data_is}

-- ---- the limit

wide_times : (w n : ℕ) → 0 < n → ltb (100000 / n) w ≡ ltb 100000 (w * n)
wide_times w n h =
    ⊎_elim (λ (less : 100000 < w * n). lt-ltb (100000 / n) w ((div-lt_iff_lt-mul h).1 less) ∙ sym (lt-ltb 100000 (w * n) less))
    (λ (more : w * n ≤ 100000). le-ltb (100000 / n) w (few more) ∙ sym (le-ltb 100000 (w * n) more)) (cases_lt 100000 (w * n))
  where
    few : w * n ≤ 100000 → w ≤ 100000 / n
    few more = ⊎_elim (λ (less : 100000 / n < w). absurd (omega (arith, (div-lt_iff_lt-mul h).0 less))) (λ (k : w ≤ 100000 / n). k) (cases_lt (100000 / n) w)

slots_wide : (rows : List TableRow) → ltb (100000 / max (length rows) 1) (width (grid rows)) ≡ ltb 100000 (slots rows)
slots_wide [] = refl
slots_wide (row ∷ rows) =
    let e : max (suc (length rows)) 1 ≡ suc (length rows) = omega arith in
    ap (λ n. ltb (100000 / n) (width (grid (row ∷ rows)))) e ∙ wide_times (width (grid (row ∷ rows))) (suc (length rows)) (omega arith)

-- ---- the cells that are found

any_found : (f : Placed → Bool) (cells : List Placed) → cells_finding (filter f cells) ≡ cond (list_any f cells) met (failed NoCells)
any_found f [] = refl
any_found f (p ∷ cells) = by_first (f p) (any_found f cells)
  where
    by_first : (b : Bool) → cells_finding (filter f cells) ≡ cond (list_any f cells) met (failed NoCells) → cells_finding (cond b (p ∷ filter f cells) (filter f cells)) ≡ cond (b || list_any f cells) met (failed NoCells)
    by_first true h = refl
    by_first false h = h

abbrev the_grid : Trees → List Placed
the_grid t = grid (table_rows 0 t)

-- the cells of a grid are assigned as a pass has it, whatever is above them
same_assigned : (above : Above) (header : Row) (o : Option Area) (placed : List Placed) → GridCelled placed
    → list_any (is_its header (direction_of header) o) placed ≡ list_any (is_assigned above header (direction_of header) o) placed
same_assigned above header o [] h = refl
same_assigned above header o (p ∷ placed) h =
    ap (λ x. (not (has_number header.id p.cell) && (is_meant header (direction_of header) o p && x)) || list_any (is_its header (direction_of header) o) placed) (data_is above p.cell h.0)
    ∙ ap (λ x. is_assigned above header (direction_of header) o p || x) (same_assigned above header o placed h.1)

-- ---- what is kept

wide_is_large : (t : Trees) → (surveyed t).wide ≡ ltb 100000 (slots (table_rows 0 t))
wide_is_large t =
    (survey_told (most_columns (all_row_count t)) (table_rows 0 t)).wide_is ∙ sym (ap (λ n. ltb (100000 / max n 1) (width (the_grid t))) (rows_length 0 t)) ∙ slots_wide (table_rows 0 t)

cells_counted : (t : Trees) (s : Noted) → s ≡ surveyed (seen t) → count t < 2 ^ 64 → s.cells ≡ cell_count (table_rows 0 (seen t))
cells_counted t s e few =
    let told = (survey_told (most_columns (all_row_count (seen t))) (table_rows 0 (seen t))).cells_are in
    let all = rows_placed_length [] 0 (table_rows 0 (seen t)) in
    let most = rows_few 0 (seen t) in
    let same = count_seen t in
    let is = ap (λ s. s.cells) e in
    omega arith

-- what is kept of the cells that a pass placed is that of the table
pub is_of : (t : Trees) (s : Noted) (h : Heads) → s ≡ surveyed (seen t) → count t < 2 ^ 64 → h.count ≡ s.cells → h.wide ≡ s.wide → Keeps h.cells s.placed → IsOf (seen t) h
is_of t s h e few counted wide keeps = record {
  wide_is = wide ∙ ap (λ s. s.wide) e ∙ wide_is_large (seen t);
  count_is = counted ∙ cells_counted t s e few;
  found = λ narrow.
      let placed = ap (λ s. s.placed) e ∙ ((survey_told (most_columns (all_row_count (seen t))) (table_rows 0 (seen t))).told (sym (wide ∙ ap (λ s. s.wide) e) ∙ narrow)).placed_are in
      finds_in_grid h.cells (the_grid (seen t)) (subst (Keeps h.cells) placed keeps);
}

-- ---- the finding

pub large_found : (above : Above) (header : Row) (t : Trees) (h : Heads) → IsOf t h → h.wide ≡ true → cant_tell LargeGrid ≡ header_finding above header (table_rows 0 t)
large_found above header t h is wide =
    sym (ap (λ b. cond b (cant_tell LargeGrid) (cells_finding (assigned above header (the_grid t)))) (sym is.wide_is ∙ wide))

-- what is found in a grid that isn't large
found_is : (above : Above) (header : Row) (t : Trees) (h : Heads) → IsOf t h → h.wide ≡ false → cond (finds h.cells header) met (failed NoCells) ≡ header_finding above header (table_rows 0 t)
found_is above header t h is narrow =
    let place = place_of header.id (the_grid t) in
    ap (λ b. cond b met (failed NoCells)) (is.found narrow header ∙ same_assigned above header place (the_grid t) (grid_celled t))
    ∙ sym (any_found (is_assigned above header (direction_of header) place) (the_grid t))
    ∙ sym (ap (λ b. cond b (cant_tell LargeGrid) (cells_finding (assigned above header (the_grid t)))) (sym is.wide_is ∙ narrow))

pub some_found : (above : Above) (header : Row) (t : Trees) (h : Heads) → IsOf t h → h.wide ≡ false → true ≡ finds h.cells header → met ≡ header_finding above header (table_rows 0 t)
some_found above header t h is narrow found = ap (λ b. cond b met (failed NoCells)) found ∙ found_is above header t h is narrow

pub none_found : (above : Above) (header : Row) (t : Trees) (h : Heads) → IsOf t h → h.wide ≡ false → false ≡ finds h.cells header → failed NoCells ≡ header_finding above header (table_rows 0 t)
none_found above header t h is narrow found = ap (λ b. cond b met (failed NoCells)) found ∙ found_is above header t h is narrow
