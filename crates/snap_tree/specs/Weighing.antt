-- How the weight of what references find is added up.
use Rattle.std.specs.Prelude.{◌≡◌, ℕ, ◌+◌, ◌-◌, ◌^◌, ◌<◌, ◌≤◌, List, [], ◌∷◌, length, slice_index, min}
use Rattle.snap_tree.specs.declared.row.Row.{Row}
use Rattle.snap_tree.specs.declared.index.Index.{Index}
use Rattle.snap_tree.specs.Weight.{node_weight}
use Rattle.snap_tree.specs.Indexed.{IsIndex}

-- a sum that stands still at the end of its type
abbrev pub saturated : ℕ → ℕ
saturated n = min n (2 ^ 64 - 1)

-- what the rows before each place weigh, and then what all weigh, where those before them weigh `from`
abbrev pub sums_from : ℕ → List Row → List ℕ
sums_from from [] = from ∷ []
sums_from from (r ∷ rows) = from ∷ sums_from (from + node_weight r) rows

-- the subtree at a place lies between two sums
pub record HasSums (sizes sums : List ℕ) (place : ℕ) : Type 0 where
  pub sized : place < length sizes
  pub starts : place < length sums
  pub ends : place + slice_index sizes place < length sums
  pub rises : slice_index sums place ≤ slice_index sums (place + slice_index sizes place)

-- what the subtree at a place weighs: the sum at its end without that at its start
abbrev pub weight_at : List ℕ → List ℕ → ℕ → ℕ
weight_at sizes sums place = slice_index sums (place + slice_index sizes place) - slice_index sums place

-- the index and the sums are those of the rows
pub record IsScale (rows : List Row) (index : Index) (sums : List ℕ) : Type 0 where
  pub indexed : IsIndex rows index
  pub summed : sums ≡ sums_from 0 rows
