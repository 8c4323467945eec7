-- How many rows there are where one is put, where one is taken out and where one is changed.
use Rattle.std.proofs.Common.{◌≡◌, ℕ, suc, ◌+◌, ◌≤◌, List, [], ◌∷◌, length, Option, Some, None, refl, ap, arith}
use Rattle.std.specs.declared.cmp.Ordering.{Ordering}
use Rattle.std.specs.declared.cmp.Ordering.TheVariants.{Less, Equal, Greater}
use Rattle.std.specs.Ordering.{match_ordering}
use Rattle.named_rows.specs.ByName.{names_cmp, at, put_row, take_row, with_row}
use Rattle.named_rows.proofs.Names.{chosen}

module _ {T : Type 0} (name : T → List ℕ) where
  -- one more, where the name isn't there
  unfoldable pub more_by : Option T → ℕ
  more_by None = 1
  more_by (Some r) = 0

  length_put_by : (row r : T) (rs : List T) (o : Ordering) → length (put_row name row rs) ≤ length rs + more_by (at name (name row) rs)
      → length (match_ordering o (row ∷ r ∷ rs) (row ∷ rs) (r ∷ put_row name row rs)) ≤ length (r ∷ rs) + more_by (match_ordering o None (Some r) (at name (name row) rs))
  unfolding more_by
  length_put_by row r rs Less below = omega arith
  length_put_by row r rs Equal below = omega arith
  length_put_by row r rs Greater below = omega (arith, below)

  pub length_put : (row : T) (rows : List T) → length (put_row name row rows) ≤ length rows + more_by (at name (name row) rows)
  unfolding more_by
  length_put row [] = omega arith
  length_put row (r ∷ rs) = length_put_by row r rs (names_cmp (name row) (name r)) (length_put row rs)

  pub length_take : (n : List ℕ) (rows : List T) → length (take_row name n rows) ≤ length rows
  length_take n [] = omega arith
  length_take n (r ∷ rs) =
      let below = length_take n rs in
      chosen (λ (ts : List T). length ts ≤ length (r ∷ rs)) (names_cmp n (name r)) _ _ _ (omega arith) (omega arith) (omega (arith, below))

  pub length_with_row : (n : List ℕ) (f : T → T) (rows : List T) → length (with_row name n f rows) ≡ length rows
  length_with_row n f [] = refl
  length_with_row n f (r ∷ rs) =
      let below = length_with_row n f rs in
      chosen (λ (ts : List T). length ts ≡ length (r ∷ rs)) (names_cmp n (name r)) _ _ _ refl refl (ap suc below)
