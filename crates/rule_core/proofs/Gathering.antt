-- Lists that loops over a page put together.
use Rattle.std.proofs.Common.{◌≡◌, ℕ, ◌+◌, ◌<◌, List, [], ◌∷◌, ◌++◌, length, take, get_or, Option, Some, None, refl, sym, ap, ◌∙◌}
use Rattle.std.specs.List.{filter_map, cons_option}
use Rattle.std.specs.Option.{option_to_list}
use Rattle.std.proofs.lemmas.List.{take_more}

cons_more : {X : Type 0} (o : Option X) (xs ys : List X) → cons_option o (xs ++ ys) ≡ cons_option o xs ++ ys
cons_more None xs ys = refl
cons_more (Some x) xs ys = refl

cons_one : {X : Type 0} (o : Option X) → cons_option o [] ≡ option_to_list o
cons_one None = refl
cons_one (Some x) = refl

filter_map_more : {X Y : Type 0} (f : X → Option Y) (xs ys : List X) → filter_map f (xs ++ ys) ≡ filter_map f xs ++ filter_map f ys
filter_map_more f [] ys = refl
filter_map_more f (x ∷ xs) ys = ap (cons_option (f x)) (filter_map_more f xs ys) ∙ cons_more (f x) (filter_map f xs) (filter_map f ys)

-- what was gathered of the first items, and of one more
pub gathered_more : {X Y : Type 0} (f : X → Option Y) (xs : List X) (i : ℕ) (d : X) (rows next : List Y) → i < length xs →
    rows ≡ filter_map f (take i xs) → next ≡ rows ++ option_to_list (f (get_or xs i d)) → next ≡ filter_map f (take (i + 1) xs)
gathered_more f xs i d rows next within so_far more =
    let x = get_or xs i d in
    more ∙ ap (λ l. l ++ option_to_list (f x)) so_far ∙ ap (λ l. filter_map f (take i xs) ++ l) (sym (cons_one (f x)))
    ∙ sym (filter_map_more f (take i xs) (x ∷ [])) ∙ ap (filter_map f) (sym (take_more xs i d within))
