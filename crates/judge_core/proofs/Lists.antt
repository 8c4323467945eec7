-- Lists that loops put together.
use Rattle.std.proofs.Common.{◌≡◌, ℕ, ◌+◌, ◌<◌, List, [], ◌∷◌, ◌++◌, length, take, get_or, slice_get, Option, Some, None, refl, sym, ap, ◌∙◌, append_assoc, append-nil}
use Rattle.std.specs.List.{filter_map, flat_map, cons_option}
use Rattle.std.specs.Option.{option_to_list}
use Rattle.std.proofs.lemmas.Option.{slice_get_within, get_or_from_slice_get}
use Rattle.std.proofs.lemmas.Grind.{flat_map-append}
use Rattle.std.proofs.lemmas.List.{take_more}

cons_option-append : {X : Type 0} (o : Option X) (xs ys : List X) → cons_option o (xs ++ ys) ≡ cons_option o xs ++ ys
cons_option-append None xs ys = refl
cons_option-append (Some x) xs ys = refl

cons_option_one : {X : Type 0} (o : Option X) → cons_option o [] ≡ option_to_list o
cons_option_one None = refl
cons_option_one (Some x) = refl

pub filter_map-append : {X Y : Type 0} (f : X → Option Y) (xs ys : List X) → filter_map f (xs ++ ys) ≡ filter_map f xs ++ filter_map f ys
filter_map-append f [] ys = refl
filter_map-append f (x ∷ xs) ys = ap (cons_option (f x)) (filter_map-append f xs ys) ∙ cons_option-append (f x) (filter_map f xs) (filter_map f ys)

-- one more item
pub filter_map_more : {X Y : Type 0} (f : X → Option Y) (xs : List X) (i : ℕ) (d : X) (before rows next : List Y) → i < length xs →
    rows ≡ before ++ filter_map f (take i xs) → next ≡ rows ++ option_to_list (f (get_or xs i d)) → next ≡ before ++ filter_map f (take (i + 1) xs)
filter_map_more f xs i d before rows next within so_far more =
    let x = get_or xs i d in
    more ∙ ap (λ l. l ++ option_to_list (f x)) so_far ∙ append_assoc before (filter_map f (take i xs)) (option_to_list (f x))
    ∙ ap (λ l. before ++ l) (ap (λ l. filter_map f (take i xs) ++ l) (sym (cons_option_one (f x))) ∙ sym (filter_map-append f (take i xs) (x ∷ []))
    ∙ ap (filter_map f) (sym (take_more xs i d within)))

-- one more item's list
pub flat_map_more : {X Y : Type 0} (f : X → List Y) (xs : List X) (i : ℕ) (d : X) (before rows next : List Y) → i < length xs →
    rows ≡ before ++ flat_map f (take i xs) → next ≡ rows ++ f (get_or xs i d) → next ≡ before ++ flat_map f (take (i + 1) xs)
flat_map_more f xs i d before rows next within so_far more =
    let x = get_or xs i d in
    more ∙ ap (λ l. l ++ f x) so_far ∙ append_assoc before (flat_map f (take i xs)) (f x)
    ∙ ap (λ l. before ++ l) (ap (λ l. flat_map f (take i xs) ++ l) (sym (append-nil (f x))) ∙ sym (flat_map-append f (take i xs) (x ∷ []))
    ∙ ap (flat_map f) (sym (take_more xs i d within)))

-- one more item, by place
pub take_more_some : {X : Type 0} (xs : List X) (k : ℕ) (x : X) (before now : List X) → before ≡ take k xs → now ≡ before ++ x ∷ [] → Some x ≡ slice_get xs k → now ≡ take (k + 1) xs
take_more_some xs k x before now so_far more there =
    more ∙ ap (λ l. l ++ x ∷ []) so_far ∙ ap (λ y. take k xs ++ y ∷ []) (sym (get_or_from_slice_get xs k x x (sym there))) ∙ sym (take_more xs k x (slice_get_within xs k x (sym there)))
