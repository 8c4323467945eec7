-- Laws of grids that can be seen by eye.
use Rattle.std.specs.Prelude.{◌≡◌, ◌<◌, ◌≤◌, ◌+◌, ◌-◌, ℕ, List, [], ◌∷◌, length, slice_get, true, false, Some}
use Rattle.std.specs.List.{AllByRecursion}
use Rattle.rules_tables.specs.declared.grid.Area.{Area}
use Rattle.rules_tables.specs.Grid.{Placed, covers, is_covered, width}
use Rattle.rules_tables.specs.TableRows.{TableRow}

-- the first column from one on that no cell covers in the row
pub record IsFirstFree (placed : List Placed) (row from column : ℕ) : Type 0 where
  pub not_before : from ≤ column
  pub free : is_covered placed row column ≡ false
  pub first : (k : ℕ) → from ≤ k → k < column → is_covered placed row k ≡ true

-- neither of two cells covers the slot in which the other begins
pub record BeginApart (p q : Placed) : Type 0 where
  pub first_free : covers q.area p.area.top p.area.left ≡ false
  pub second_free : covers p.area q.area.top q.area.left ≡ false

-- the same of each two cells
abbrev pub AllBeginApart : List Placed → Type 0
AllBeginApart [] = Unit {0}
AllBeginApart (p ∷ placed) = AllByRecursion (BeginApart p) placed × AllBeginApart placed

-- rows from this number on end there, as long as their numbers are below that end
abbrev pub EndThere : ℕ → ℕ → List TableRow → Type 0
EndThere n end [] = Unit {0}
EndThere n end (row ∷ rows) = (n < end → row.end ≡ end) × EndThere (n + 1) end rows

-- the row of this number comes before the end of its row group, which comes before that of the rows; and the
-- rows in between end there too
pub record BeginsRun (n : ℕ) (row : TableRow) (later : List TableRow) : Type 0 where
  pub before : n < row.end
  pub within : row.end ≤ n + 1 + length later
  pub same : EndThere (n + 1) row.end later

-- each row group is a run of rows
abbrev pub AreRuns : ℕ → List TableRow → Type 0
AreRuns n [] = Unit {0}
AreRuns n (row ∷ rows) = BeginsRun n row rows × AreRuns (n + 1) rows

-- the area has a slot, and lies within the row group of the row in which it begins
pub record LiesWithin (rows : List TableRow) (a : Area) : Type 0 where
  pub row : TableRow
  pub begins : slice_get rows a.top ≡ Some row
  pub has_row : a.top < a.bottom
  pub has_column : a.left < a.right
  pub ends : a.bottom ≤ row.end

-- the width is the greatest covered column plus one
pub record IsWidth (placed : List Placed) : Type 0 where
  pub past : (row column : ℕ) → width placed ≤ column → is_covered placed row column ≡ false
  pub reached : 0 < width placed → (row : ℕ) × (is_covered placed row (width placed - 1) ≡ true)
