-- Where the rows of a page stand, by their numbers.
use Rattle.std.specs.Prelude.{◌≡◌, ◌<◌, ◌≤◌, ◌==◌, ℕ, ◌+◌, ◌-◌, length, take, drop, slice_index, List, [], ◌∷◌, if◌then◌else◌, Option, Some, None}
use Rattle.number_tables.specs.declared.table.NumberTable.{NumberTable}
use Rattle.number_tables.specs.Tables.{at}
use Rattle.snap_tree.specs.declared.row.Row.{Row}
use Rattle.snap_tree.specs.Trees.{sizes_of}
use Rattle.snap_tree.specs.Grown.{grown}

-- the place of the first row with this number, counted from `from`
abbrev pub place_from : ℕ → ℕ → List Row → Option ℕ
place_from from n [] = None
place_from from n (r ∷ rows) = if r.id.0 == n then Some from else place_from (from + 1) n rows

-- each number has its place
abbrev pub IsPlaces : NumberTable ℕ → List Row → Type 0
IsPlaces places rows = (n : ℕ) → at places n ≡ place_from 0 n rows

-- the run of rows behind the one at a place, as its size says
abbrev pub run_below : ℕ → List Row → List ℕ → List Row
run_below place rows sizes = take (slice_index sizes place - 1) (drop (place + 1) rows)

-- the run is there, and its sizes are those of the trees that it grows to
pub record HasRun (place : ℕ) (rows : List Row) (sizes : List ℕ) : Type 0 where
  pub in_range : place < length rows
  pub sized : length sizes ≡ length rows
  pub counted : 0 < slice_index sizes place
  pub fits : place + slice_index sizes place ≤ length rows
  pub sizes_are : take (slice_index sizes place - 1) (drop (place + 1) sizes) ≡ sizes_of (grown (run_below place rows sizes))
