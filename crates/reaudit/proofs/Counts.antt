-- How many pass a test.
use Rattle.std.proofs.Common.{◌≡◌, ◌≤◌, ◌<◌, ◌+◌, ℕ, zero, suc, List, [], ◌∷◌, length, filter, map, take, get_or, cond, if◌then◌else◌, Bool, true, false, refl, ap, arith}
use Rattle.std.proofs.lemmas.List.Filters.{length-filter_more}

pub length-filter-take : {X : Type 0} (p : X → Bool) (i : ℕ) (xs : List X) → length (filter p (take i xs)) ≤ length (filter p xs)
length-filter-take p zero xs = omega arith
length-filter-take p (suc i) [] = omega arith
length-filter-take {X} p (suc i) (x ∷ xs) = by_test (p x) refl (length-filter-take p i xs)
  where
    by_test : (b : Bool) → p x ≡ b → length (filter p (take i xs)) ≤ length (filter p xs) → length (filter p (x ∷ take i xs)) ≤ length (filter p (x ∷ xs))
    by_test true e h = rw e (omega arith)
    by_test false e h = rw e h

pub length-filter-map : {X Y : Type 0} (h : X → Y) (p : Y → Bool) (xs : List X) → length (filter p (map h xs)) ≡ length (filter (λ x. p (h x)) xs)
length-filter-map h p [] = refl
length-filter-map {X} h p (x ∷ xs) = by_test (p (h x)) refl (length-filter-map h p xs)
  where
    by_test : (b : Bool) → p (h x) ≡ b → length (filter p (map h xs)) ≡ length (filter (λ x. p (h x)) xs) → length (filter p (map h (x ∷ xs))) ≡ length (filter (λ x. p (h x)) (x ∷ xs))
    by_test true e k = rw e (ap suc k)
    by_test false e k = rw e k

-- one more item, which may have counted
pub count_more : {X : Type 0} (p : X → Bool) (xs : List X) (i : ℕ) (d : X) (base before now : ℕ) → i < length xs → before ≤ base + length (filter p (take i xs)) → now ≤ before + (if p (get_or xs i d) then 1 else 0)
    → now ≤ base + length (filter p (take (i + 1) xs))
count_more p xs i d base before now within so_far step =
    let more : length (filter p (take (i + 1) xs)) ≡ length (filter p (take i xs)) + cond (p (get_or xs i d)) 1 0 = length-filter_more p xs i d within in
    rw more (sums (p (get_or xs i d)) step)
  where
    sums : (b : Bool) → now ≤ before + (if b then 1 else 0) → now ≤ base + (length (filter p (take i xs)) + cond b 1 0)
    sums true h = omega arith
    sums false h = omega arith
