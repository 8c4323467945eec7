-- Attributes set and taken out at the place of their name.
use Rattle.std.proofs.Common.{◌≡◌, ℕ, suc, ◌+◌, ◌-◌, ◌<◌, ◌≤◌, List, [], ◌∷◌, ◌++◌, length, get_or, set, Bool, true, false, Some, None, refl, ap, subst, arith}
use Rattle.std.specs.List.{remove}
use Rattle.snap_tree.specs.declared.row.Attr.{Attr}
use Rattle.texts.specs.Words.{same_folded}
use Rattle.snap_edit.specs.Attrs.{attrs_with, attrs_without}
use Rattle.snap_edit.specs.AttrPlaces.{attr_place}

-- where no attribute has the name, a new one goes last and all stay
pub record IsNew (name : List ℕ) (attrs : List Attr) : Type 0 where
  pub last : (value : List ℕ) → attrs_with name value attrs ≡ attrs ++ record { name = name; value = value } ∷ []
  pub stays : attrs_without name attrs ≡ attrs

pub new_name : (from : ℕ) (name : List ℕ) (attrs : List Attr) → attr_place from name attrs ≡ None → IsNew name attrs
new_name from name [] h = record { last = λ value. refl; stays = refl }
new_name from name (a ∷ attrs) h = by_name (same_folded a.name name) refl h (new_name (from + 1) name attrs)
  where
    by_name :
        (b : Bool)
        → same_folded a.name name ≡ b → attr_place from name (a ∷ attrs) ≡ None
        → (attr_place (from + 1) name attrs ≡ None → IsNew name attrs) → IsNew name (a ∷ attrs)
    by_name true e h k = let no : Some from ≡ None = rw e at h in cc
    by_name false e h k =
        let rest = k (rw e at h) in
        record {
          last = λ value. rw e (ap (λ more. a ∷ more) (rest.last value));
          stays = rw e (ap (λ more. a ∷ more) rest.stays);
        }

-- where one has it, that one is set or goes
pub record HasName (name : List ℕ) (attrs : List Attr) (at : ℕ) : Type 0 where
  pub in_range : at < length attrs
  pub gets :
      (value : List ℕ) (d : Attr)
      → attrs_with name value attrs ≡ set attrs at (record { name = (get_or attrs at d).name; value = value })
  pub goes : attrs_without name attrs ≡ remove attrs at

pub old_name :
    (from : ℕ) (name : List ℕ) (attrs : List Attr) (place : ℕ)
    → attr_place from name attrs ≡ Some place → (from ≤ place) × HasName name attrs (place - from)
old_name from name [] place h = cc
old_name from name (a ∷ attrs) place h = by_name (same_folded a.name name) refl h (old_name (from + 1) name attrs place)
  where
    here : same_folded a.name name ≡ true → HasName name (a ∷ attrs) 0
    here e = record { in_range = omega arith; gets = λ value d. rw e refl; goes = rw e refl }

    later : (i : ℕ) → same_folded a.name name ≡ false → HasName name attrs i → HasName name (a ∷ attrs) (suc i)
    later i e k = record {
      in_range = omega (arith, k.in_range);
      gets = λ value d. rw e (ap (λ more. a ∷ more) (k.gets value d));
      goes = rw e (ap (λ more. a ∷ more) k.goes);
    }

    by_name :
        (b : Bool)
        → same_folded a.name name ≡ b → attr_place from name (a ∷ attrs) ≡ Some place
        → (attr_place (from + 1) name attrs ≡ Some place → (from + 1 ≤ place) × HasName name attrs (place - (from + 1)))
        → (from ≤ place) × HasName name (a ∷ attrs) (place - from)
    by_name true e h k =
        let is : Some from ≡ Some place = rw e at h in
        let same : from ≡ place = cc in
        let zero_is : 0 ≡ place - from = omega arith in
        (omega arith, subst (HasName name (a ∷ attrs)) zero_is (here e))
    by_name false e h k =
        let rest = k (rw e at h) in
        let step : suc (place - (from + 1)) ≡ place - from = omega (arith, rest.0) in
        (omega (arith, rest.0), subst (HasName name (a ∷ attrs)) step (later (place - (from + 1)) e rest.1))

pub old_at :
    (name : List ℕ) (attrs : List Attr) (place : ℕ)
    → attr_place 0 name attrs ≡ Some place → HasName name attrs place
old_at name attrs place h =
    let zero_less : place - 0 ≡ place = omega arith in
    subst (HasName name attrs) zero_less (old_name 0 name attrs place h).1
