-- What a walk over two slices side by side has made of its pairs.
use Rattle.std.proofs.Common.{◌≡◌, List, map, sym, ap, ◌∙◌}
use Rattle.std.specs.Borrow.{Bor}
use Rattle.std.specs.List.{flat_map, zip}
use Rattle.std.proofs.lemmas.Simd.{map-map}
use Rattle.std.proofs.lemmas.List.Folds.{flat_map-map}

-- the items of a pair
abbrev pub pair_now : {A B : Type 0} → Bor A × Bor B → A × B
pair_now p = (p.0.now, p.1.now)

-- an item of each
pub mapped_pairs : {A B C : Type 0} (f : A × B → C) (xs : List A) (ys : List B) (yielded : List (Bor A × Bor B)) → map pair_now yielded ≡ zip xs ys
    → map (λ p. f (pair_now p)) yielded ≡ map f (zip xs ys)
mapped_pairs f xs ys yielded all = sym (map-map f pair_now yielded) ∙ ap (map f) all

-- a list of each
pub listed_pairs : {A B C : Type 0} (f : A × B → List C) (xs : List A) (ys : List B) (yielded : List (Bor A × Bor B)) → map pair_now yielded ≡ zip xs ys
    → flat_map (λ p. f (pair_now p)) yielded ≡ flat_map f (zip xs ys)
listed_pairs f xs ys yielded all = sym (flat_map-map f pair_now yielded) ∙ ap (flat_map f) all
