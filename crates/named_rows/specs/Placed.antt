-- The place of a name among rows in order, and what looking up and changing by that name are there.
use Rattle.std.specs.Prelude.{◌≡◌, ℕ, ◌<◌, ◌≤◌, List, length, None, slice_get, slice_set}
use Rattle.std.specs.List.{insert, remove, slice_index_or}
use Rattle.named_rows.specs.declared.place.Place.{Place}
use Rattle.named_rows.specs.declared.place.Place.TheVariants.{Found, Vacant}
use Rattle.named_rows.specs.ByName.{at, put_row, take_row, with_row}

module _ {T : Type 0} (name : T → List ℕ) (n : List ℕ) (rows : List T) (i : ℕ) where
  -- the row of the name stands there
  pub record StandsThere : Type 0 where
    pub within : i < length rows
    pub named : (d : T) → name (slice_index_or rows i d) ≡ n
    pub found : at name n rows ≡ slice_get rows i
    pub put : (row : T) → name row ≡ n → put_row name row rows ≡ slice_set rows i row
    pub taken : take_row name n rows ≡ remove rows i
    pub changed : (f : T → T) (d : T) → with_row name n f rows ≡ slice_set rows i (f (slice_index_or rows i d))

  -- no row has the name, and one of it belongs there
  pub record BelongsThere : Type 0 where
    pub within : i ≤ length rows
    pub absent : at name n rows ≡ None
    pub put : (row : T) → name row ≡ n → put_row name row rows ≡ insert rows i row
    pub taken : take_row name n rows ≡ rows
    pub changed : (f : T → T) → with_row name n f rows ≡ rows

abbrev pub IsPlace : {T : Type 0} → (T → List ℕ) → List ℕ → List T → Place → Type 0
IsPlace name n rows (Found i) = StandsThere name n rows i
IsPlace name n rows (Vacant i) = BelongsThere name n rows i
