-- A row that is changed in its place.
use Rattle.std.proofs.Common.{◌≡◌, ℕ, List, get_or, set, Result, Ok, Err, OnOk, sym, ap, ◌∙◌}
use Rattle.named_rows.specs.ByName.{with_row}
use Rattle.named_rows.specs.Placed.{StandsThere}

module _ {T : Type 0} (name : T → List ℕ) (n : List ℕ) (rows : List T) (i : ℕ) (there : StandsThere name n rows i) where
  -- where a row is written over the one of the name, whose change it is
  pub changed_there : (f : T → T) (old new : T) → old ≡ get_or rows i old → new ≡ f old → set rows i new ≡ with_row name n f rows
  changed_there f old new read made = ap (set rows i) (made ∙ ap f read) ∙ sym (there.changed f old)

  -- and where it is so in success
  pub changed_if_ok : {A E : Type 0} (r : Result A E) (f : T → T) (old new : T) → old ≡ get_or rows i old → OnOk r (new ≡ f old) → OnOk r (set rows i new ≡ with_row name n f rows)
  changed_if_ok (Ok a) f old new read made = changed_there f old new read made
  changed_if_ok (Err e) f old new read made = tt
