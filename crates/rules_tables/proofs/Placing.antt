-- A pass that keeps for each column the row from which on it is free places cells as the definition of the
-- grid does, and notes of them what was asked.
use Rattle.std.proofs.Common.{◌≡◌, ◌≤◌, ◌+◌, ◌-◌, ◌^◌, ℕ, suc, min, max, List, [], ◌∷◌, ◌++◌, length, drop, Bool, true, false, ◌||◌, cond, ltb, Some, None, refl, sym, ap, ◌∙◌, subst, arith}
use Rattle.std.proofs.lemmas.Bool.{false≢true, or_right, le-ltb}
use Rattle.std.proofs.lemmas.Bool.Decides.{nat_tests}
use Rattle.snap_tree.specs.declared.row.Row.{Row}
use Rattle.rules_tables.specs.Grid.{Placed, width, area_at, next_placed, placed_cells, placed_rows, grid}
use Rattle.rules_tables.specs.Survey.{free_from, raised_all, next_area, Noted, nothing_noted, counted, within, fitted, after_cell, after_cells, after_row, after_rows}
use Rattle.rules_tables.specs.TableRows.{TableRow}
use Rattle.rules_tables.proofs.Freeing.{columns_of, NoneBelow, free_is, columns_more, no_columns, free_within}

abbrev pub saturated : ℕ → ℕ
saturated n = min n (2 ^ 64 - 1)

-- cells of which the last came first, in the order in which they came
abbrev pub in_turn : List Placed → List Placed
in_turn [] = []
in_turn (p ∷ placed) = in_turn placed ++ p ∷ []

-- what a pass tells of a grid that isn't too wide
pub record IsTold (s : Noted) (placed : List Placed) : Type 0 where
  pub columns_are : s.columns ≡ columns_of placed
  pub placed_are : s.placed ≡ in_turn placed

pub record Tells (most : ℕ) (s : Noted) (placed : List Placed) : Type 0 where
  pub cells_are : s.cells ≡ saturated (length placed)
  pub wide_is : s.wide ≡ ltb most (width placed)
  pub told : s.wide ≡ false → IsTold s placed

-- a pass tells of a grid, and stands at this column of a row
pub record Stands (most : ℕ) (s : Noted) (placed : List Placed) (column : ℕ) : Type 0 where
  pub tells : Tells most s placed
  pub column_is : s.wide ≡ false → s.column ≡ column

one_more : (cells n : ℕ) → cells ≡ saturated n → counted cells ≡ saturated (suc n)
one_more cells n e = ap counted e ∙ omega arith

ltb-max : (n a b : ℕ) → ltb n (max a b) ≡ (ltb n a || ltb n b)
ltb-max n a b = grind (arith, nat_tests)

-- ---- a cell

stays_wide : (most : ℕ) (s : Noted) (placed : List Placed) (p : Placed) → Tells most s placed → s.wide ≡ true → Stands most (record s { cells = counted s.cells }) (p ∷ placed) p.area.right
stays_wide most s placed p t e = record {
  tells = record {
    cells_are = one_more s.cells (length placed) t.cells_are;
    wide_is = e ∙ sym (or_right (ltb most p.area.right) (ltb most (width placed)) (sym t.wide_is ∙ e)) ∙ sym (ltb-max most p.area.right (width placed));
    told = λ narrow. absurd (false≢true (sym narrow ∙ e));
  };
  column_is = λ narrow. absurd (false≢true (sym narrow ∙ e));
}

fits : (most : ℕ) (s : Noted) (placed : List Placed) (p : Placed) → Tells most s placed → s.wide ≡ false → p.area.left ≤ p.area.right → p.area.left ≤ width placed
    → (b : Bool) → ltb most p.area.right ≡ b
    → Stands most (fitted (record s { cells = counted s.cells }) p.cell (cond b None (Some p.area))) (p ∷ placed) p.area.right
fits most s placed p t e ordered begins true past = record {
  tells = record {
    cells_are = one_more s.cells (length placed) t.cells_are;
    wide_is = sym (ap (λ b. b || ltb most (width placed)) past) ∙ sym (ltb-max most p.area.right (width placed));
    told = λ narrow. absurd (false≢true (sym narrow));
  };
  column_is = λ narrow. absurd (false≢true (sym narrow));
}
fits most s placed p t e ordered begins false short =
    let was = t.told e in
    record {
      tells = record {
        cells_are = one_more s.cells (length placed) t.cells_are;
        wide_is = t.wide_is ∙ sym (ap (λ b. b || ltb most (width placed)) short) ∙ sym (ltb-max most p.area.right (width placed));
        told = λ narrow. record {
          columns_are = ap (λ cs. raised_all cs p.area.left (p.area.right - p.area.left) p.area.bottom) was.columns_are ∙ columns_more p placed ordered begins;
          placed_are = ap (λ ps. ps ++ p ∷ []) was.placed_are;
        };
      };
      column_is = λ narrow. refl;
    }

pub cell_told : (most : ℕ) (s : Noted) (placed : List Placed) (row end column : ℕ) (cell : Row) → Stands most s placed column → NoneBelow row placed → column ≤ width placed
    → Stands most (after_cell most row end s cell) (next_placed placed row end column cell ∷ placed) (next_placed placed row end column cell).area.right
cell_told most s placed row end column cell st none begun = by_wide s.wide refl
  where
    next : Placed
    next = next_placed placed row end column cell

    area_is : s.wide ≡ false → next_area s.columns row end s.column cell ≡ next.area
    area_is e =
        let was = st.tells.told e in
        ap (λ c. area_at row end c cell) (ap (λ cs. free_from (drop s.column cs) row s.column) was.columns_are ∙ ap (λ c. free_from (drop c (columns_of placed)) row c) (st.column_is e)
        ∙ free_is row placed none (width placed) column (omega arith))

    by_wide : (b : Bool) → s.wide ≡ b → Stands most (cond b (record s { cells = counted s.cells }) (fitted (record s { cells = counted s.cells }) cell (within most (next_area s.columns row end s.column cell))))
        (next ∷ placed) next.area.right
    by_wide true e = stays_wide most s placed next st.tells e
    by_wide false e =
        subst (λ a. Stands most (fitted (record s { cells = counted s.cells }) cell (within most a)) (next ∷ placed) next.area.right) (sym (area_is e))
        (fits most s placed next st.tells e (omega arith) (free_within (width placed) row placed column begun) (ltb most next.area.right) refl)

-- ---- rows

pub cells_told : (most : ℕ) (s : Noted) (placed : List Placed) (row end column : ℕ) (cells : List Row) → Stands most s placed column → NoneBelow row placed → column ≤ width placed
    → Tells most (after_cells most row end s cells) (placed_cells placed row end column cells)
cells_told most s placed row end column [] st none begun = st.tells
cells_told most s placed row end column (cell ∷ cells) st none begun =
    let next = next_placed placed row end column cell in
    cells_told most (after_cell most row end s cell) (next ∷ placed) row end next.area.right cells (cell_told most s placed row end column cell st none begun) (omega arith, none) (omega arith)

none_more : (placed : List Placed) (row end column : ℕ) (cells : List Row) → NoneBelow row placed → NoneBelow row (placed_cells placed row end column cells)
none_more placed row end column [] h = h
none_more placed row end column (cell ∷ cells) h =
    let next = next_placed placed row end column cell in none_more (next ∷ placed) row end next.area.right cells (omega arith, h)

none_later : (placed : List Placed) (row : ℕ) → NoneBelow row placed → NoneBelow (row + 1) placed
none_later [] row h = tt
none_later (p ∷ placed) row h = (omega (arith, h.0), none_later placed row h.1)

row_begins : (most : ℕ) (s : Noted) (placed : List Placed) → Tells most s placed → Stands most (record s { column = 0 }) placed 0
row_begins most s placed t = record {
  tells = record {
    cells_are = t.cells_are;
    wide_is = t.wide_is;
    told = λ narrow. let was = t.told narrow in record { columns_are = was.columns_are; placed_are = was.placed_are };
  };
  column_is = λ narrow. refl;
}

pub rows_told : (most : ℕ) (s : Noted) (placed : List Placed) (n : ℕ) (rows : List TableRow) → Tells most s placed → NoneBelow n placed → Tells most (after_rows most n s rows) (placed_rows placed n rows)
rows_told most s placed n [] t none = t
rows_told most s placed n (row ∷ rows) t none =
    rows_told most (after_row most n row.end s row.cells) (placed_cells placed n row.end 0 row.cells) (n + 1) rows
    (cells_told most (record s { column = 0 }) placed n row.end 0 row.cells (row_begins most s placed t) none (omega arith))
    (none_later (placed_cells placed n row.end 0 row.cells) n (none_more placed n row.end 0 row.cells none))

nothing_told : (most : ℕ) → Tells most nothing_noted []
nothing_told most = record {
  cells_are = refl;
  wide_is = sym (le-ltb most 0 (omega arith));
  told = λ narrow. record { columns_are = sym no_columns; placed_are = refl };
}

-- the pass places the cells as the grid has them
pub survey_told : (most : ℕ) (rows : List TableRow) → Tells most (after_rows most 0 nothing_noted rows) (grid rows)
survey_told most rows = rows_told most nothing_noted [] 0 rows (nothing_told most) tt
