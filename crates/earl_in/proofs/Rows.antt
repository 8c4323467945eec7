-- The rows of a list by their places.
use Rattle.std.proofs.Common.{◌≡◌, ◌<◌, ◌+◌, ℕ, length, take, get_or, Bool, true, false, ◌&&◌, ◌==◌, cond, List, [], ◌∷◌, ◌++◌, Option, Some, None, is_some, refl, sym, ap, ◌∙◌}
use Rattle.std.specs.Option.{option_map, option_or}
use Rattle.std.specs.Borrow.{Bor}
use Rattle.std.specs.BTreeMap.{BTreeMap, get, Updates}
use Rattle.std.specs.Cmp.{unsigned_tied}
use Rattle.std.specs.List.{find}
use Rattle.std.specs.Ordering.{is_eq, ordering_then}
use Rattle.std.specs.declared.cmp.Ordering.{Ordering}
use Rattle.std.specs.declared.cmp.Ordering.TheVariants.{Less, Equal, Greater}
use Rattle.std.proofs.lemmas.Bool.{eqb-true, and_parts}
use Rattle.std.proofs.lemmas.List.{take_more}
use Rattle.judge_core.specs.declared.outcomes.OutRow.{OutRow}
use Rattle.judge_core.specs.RowLookups.{is_row_on}
use Rattle.earl_in.specs.declared.places.Place.{Place}
use Rattle.earl_in.specs.contracts.places.PlaceOrd.TheImpl as place
use Rattle.earl_in.specs.Standing.{in_places, HasRow, HasRows}

then_eq : (x y : Ordering) (p q : Bool) → is_eq x ≡ p → is_eq y ≡ q → is_eq (ordering_then x y) ≡ (p && q)
then_eq Less y p q a b = ap (λ r. r && q) a
then_eq Equal y p q a b = b ∙ ap (λ r. r && q) a
then_eq Greater y p q a b = ap (λ r. r && q) a

abbrev place_of : OutRow → Place
place_of row = record { rule = row.rule; node = row.node }

same_eq : (row : OutRow) (p : Place) → is_eq ((place.ghosts).cmp (place_of row) p) ≡ is_row_on p.rule p.node row
same_eq row p = then_eq _ _ _ _ (unsigned_tied row.rule.0 p.rule.0) (unsigned_tied row.node.0 p.node.0)

-- the row's own place
own : (row : OutRow) (p : Place) → is_row_on p.rule p.node row ≡ true → place_of row ≡ p
own row p on =
    let h = and_parts (row.rule.0 == p.rule.0) (row.node.0 == p.node.0) on in
    let rules = eqb-true row.rule.0 p.rule.0 h.0 in
    let nodes = eqb-true row.node.0 p.node.0 h.1 in
    λ i. record { rule = record { 0 = rules i }; node = record { 0 = nodes i } }

or_none : {X : Type 0} (o : Option X) → o ≡ option_or o None
or_none None = refl
or_none (Some x) = refl

or_first : {X : Type 0} (o l : Option X) → is_some o ≡ true → o ≡ option_or o l
or_first None l some = cc
or_first (Some x) l some = refl

is_some_mapped : {X Y : Type 0} (f : X → Y) (o : Option X) → is_some o ≡ true → is_some (option_map f o) ≡ true
is_some_mapped f None some = cc
is_some_mapped f (Some x) some = refl

none_mapped : {X Y : Type 0} (f : X → Y) (o : Option X) → is_some o ≡ false → option_map f o ≡ None
none_mapped f None none = refl
none_mapped f (Some x) none = cc

abbrev now : Option (Bor OutRow) → Option OutRow
now found = option_map (λ r. r.now) found

-- the place has a row already
pub kept : (places : BTreeMap Place (Bor OutRow)) (row : OutRow) → is_some (get (place.ghosts).cmp places (place_of row)) ≡ true → HasRow places places row
kept places row there p = chosen (is_row_on p.rule p.node row) refl
  where
    chosen : (b : Bool) → is_row_on p.rule p.node row ≡ b → in_places places p ≡ option_or (in_places places p) (cond b (Some row) None)
    chosen true e =
        or_first (in_places places p) (Some row)
        (sym (ap (λ q. is_some (in_places places q)) (own row p e)) ∙ is_some_mapped (λ (r : Bor OutRow). r.now) (get (place.ghosts).cmp places (place_of row)) there)
    chosen false e = or_none (in_places places p)

-- the row was put at its place, which had none
pub added : (old new : BTreeMap Place (Bor OutRow)) (row : Bor OutRow) → is_some (get (place.ghosts).cmp old (place_of row.now)) ≡ false
    → Updates (place.ghosts).cmp old new (place_of row.now) (Some row) → HasRow old new row.now
added old new row vacant more p =
    ap now (more.0 p) ∙ ap (λ b. now (cond b (Some row) (get (place.ghosts).cmp old p))) (same_eq row.now p) ∙ chosen (is_row_on p.rule p.node row.now) refl
  where
    chosen : (b : Bool) → is_row_on p.rule p.node row.now ≡ b → now (cond b (Some row) (get (place.ghosts).cmp old p)) ≡ option_or (in_places old p) (cond b (Some row.now) None)
    chosen true e =
        sym (ap (λ o. option_or o (Some row.now))
        (sym (ap (in_places old) (own row.now p e)) ∙ none_mapped (λ (r : Bor OutRow). r.now) (get (place.ghosts).cmp old (place_of row.now)) vacant))
    chosen false e = or_none (in_places old p)

-- one row more
pub found_more : {X : Type 0} (p : X → Bool) (xs : List X) (x : X) → find p (xs ++ x ∷ []) ≡ option_or (find p xs) (cond (p x) (Some x) None)
found_more p [] x = refl
found_more p (y ∷ xs) x = chosen (p y) (found_more p xs x)
  where
    chosen : (b : Bool) → find p (xs ++ x ∷ []) ≡ option_or (find p xs) (cond (p x) (Some x) None)
        → cond b (Some y) (find p (xs ++ x ∷ [])) ≡ option_or (cond b (Some y) (find p xs)) (cond (p x) (Some x) None)
    chosen true rest = refl
    chosen false rest = rest

pub rows_more : (rows : List OutRow) (i : ℕ) (row : OutRow) (old new : BTreeMap Place (Bor OutRow)) → i < length rows → row ≡ get_or rows i row → HasRows old (take i rows)
    → HasRow old new row → HasRows new (take (i + 1) rows)
rows_more rows i row old new within is so_far put =
    λ p.
    let test = is_row_on p.rule p.node in
    put p ∙ ap (λ o. option_or o (cond (test row) (Some row) None)) (so_far p) ∙ sym (found_more test (take i rows) row)
    ∙ ap (λ r. find test (take i rows ++ r ∷ [])) is ∙ ap (find test) (sym (take_more rows i row within))
