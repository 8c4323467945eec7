-- What putting a row that is there, and taking a name out that isn't, come to: nothing.
use Rattle.std.proofs.Common.{◌≡◌, ℕ, List, [], ◌∷◌, Some, None, refl, sym, ap}
use Rattle.std.specs.declared.cmp.Ordering.{Ordering}
use Rattle.std.specs.declared.cmp.Ordering.TheVariants.{Less, Equal, Greater}
use Rattle.std.specs.Ordering.{match_ordering}
use Rattle.named_rows.specs.ByName.{names_cmp, at, put_row, take_row, IsInOrder}
use Rattle.named_rows.proofs.Order.{at_take}

module _ {T : Type 0} (name : T → List ℕ) where
  put_same_by : (row r : T) (rs : List T) (o : Ordering) → match_ordering o None (Some r) (at name (name row) rs) ≡ Some row → (at name (name row) rs ≡ Some row → put_row name row rs ≡ rs)
      → match_ordering o (row ∷ r ∷ rs) (row ∷ rs) (r ∷ put_row name row rs) ≡ r ∷ rs
  put_same_by row r rs Less found below = cc
  put_same_by row r rs Equal found below = let same : r ≡ row = cc in ap (λ s. s ∷ rs) (sym same)
  put_same_by row r rs Greater found below = ap (λ rest. r ∷ rest) (below found)

  -- a row that is there already changes nothing where it is put
  pub put_same : (row : T) (rows : List T) → at name (name row) rows ≡ Some row → put_row name row rows ≡ rows
  put_same row [] found = let no : None ≡ Some row = found in cc
  put_same row (r ∷ rs) found = put_same_by row r rs (names_cmp (name row) (name r)) found (put_same row rs)

  take_absent_by : (n : List ℕ) (r : T) (rs : List T) (o : Ordering) → match_ordering o None (Some r) (at name n rs) ≡ None → (at name n rs ≡ None → take_row name n rs ≡ rs)
      → match_ordering o (r ∷ rs) rs (r ∷ take_row name n rs) ≡ r ∷ rs
  take_absent_by n r rs Less absent below = refl
  take_absent_by n r rs Equal absent below = let no : Some r ≡ None = absent in cc
  take_absent_by n r rs Greater absent below = ap (λ rest. r ∷ rest) (below absent)

  -- a name that isn't there changes nothing where it is taken out
  pub take_absent : (n : List ℕ) (rows : List T) → at name n rows ≡ None → take_row name n rows ≡ rows
  take_absent n [] absent = refl
  take_absent n (r ∷ rs) absent = take_absent_by n r rs (names_cmp n (name r)) absent (take_absent n rs)

  pub take_twice : (n : List ℕ) (rows : List T) → IsInOrder name rows → take_row name n (take_row name n rows) ≡ take_row name n rows
  take_twice n rows order = take_absent n (take_row name n rows) (at_take name n rows order)
