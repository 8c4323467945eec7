-- The lists of the items that pass a test.
use Rattle.std.proofs.Common.{◌≡◌, ℕ, ◌≤◌, Bool, true, false, cond, List, [], ◌∷◌, ◌++◌, length, take, filter, map, refl, sym, ap, ◌∙◌, arith}
use Rattle.std.proofs.Math.Seq.{take-length}
use Rattle.std.specs.List.{flat_map}
use Rattle.std.proofs.lemmas.Grind.{flat_map-append}

flat_map_filter : {X Y : Type 0} (f : X → List Y) (p : X → Bool) (xs : List X) → flat_map (λ x. cond (p x) (f x) []) xs ≡ flat_map f (filter p xs)
flat_map_filter f p [] = refl
flat_map_filter f p (x ∷ xs) = chosen (p x) (flat_map_filter f p xs)
  where
    chosen : (b : Bool) → flat_map (λ y. cond (p y) (f y) []) xs ≡ flat_map f (filter p xs) → cond b (f x) [] ++ flat_map (λ y. cond (p y) (f y) []) xs ≡ flat_map f (cond b (x ∷ filter p xs) (filter p xs))
    chosen true rest = ap (λ l. f x ++ l) rest
    chosen false rest = rest

-- after a walk over all items, each of which was passed over or gave its list
pub all_walked : {X Y : Type 0} (f : X → List Y) (p : X → Bool) (xs : List X) (i : ℕ) (before now : List Y) → i ≤ length xs → length xs ≤ i →
    now ≡ before ++ flat_map (λ x. cond (p x) (f x) []) (take i xs) → now ≡ before ++ flat_map f (filter p xs)
all_walked f p xs i before now within end walked =
    let all : i ≡ length xs = omega (arith, within, end) in
    walked ∙ ap (λ l. before ++ flat_map (λ x. cond (p x) (f x) []) l) (ap (λ n. take n xs) all ∙ take-length xs) ∙ ap (λ l. before ++ l) (flat_map_filter f p xs)

-- the lists of parts, part by part
pub flat_map_parts : {X Y Z : Type 0} (g : Y → List Z) (f : X → List Y) (xs : List X) → flat_map (λ x. flat_map g (f x)) xs ≡ flat_map g (flat_map f xs)
flat_map_parts g f [] = refl
flat_map_parts g f (x ∷ xs) = ap (λ l. flat_map g (f x) ++ l) (flat_map_parts g f xs) ∙ sym (flat_map-append g (f x) (flat_map f xs))

-- the lists of what those items give that pass a test
pub flat_map_chosen : {X Y Z : Type 0} (g : Y → List Z) (h : X → Y) (p : X → Bool) (xs : List X) → flat_map (λ x. cond (p x) (g (h x)) []) xs ≡ flat_map g (map h (filter p xs))
flat_map_chosen g h p [] = refl
flat_map_chosen g h p (x ∷ xs) = chosen (p x) (flat_map_chosen g h p xs)
  where
    chosen : (b : Bool) → flat_map (λ y. cond (p y) (g (h y)) []) xs ≡ flat_map g (map h (filter p xs))
        → cond b (g (h x)) [] ++ flat_map (λ y. cond (p y) (g (h y)) []) xs ≡ flat_map g (map h (cond b (x ∷ filter p xs) (filter p xs)))
    chosen true rest = ap (λ l. g (h x) ++ l) rest
    chosen false rest = rest

-- after a walk over all items
pub flat_map_walked : {X Y : Type 0} (f : X → List Y) (xs : List X) (i : ℕ) (before now whole : List Y) → i ≤ length xs → length xs ≤ i → flat_map f xs ≡ whole
    → now ≡ before ++ flat_map f (take i xs) → now ≡ before ++ whole
flat_map_walked f xs i before now whole within end is walked =
    let all : i ≡ length xs = omega (arith, within, end) in
    walked ∙ ap (λ l. before ++ l) (ap (λ n. flat_map f (take n xs)) all ∙ ap (flat_map f) (take-length xs) ∙ is)
