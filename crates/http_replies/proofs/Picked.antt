-- A walk that picks what passes a test.
use Rattle.std.proofs.Common.{◌≡◌, ℕ, ◌≤◌, Bool, true, false, cond, List, [], ◌∷◌, ◌++◌, length, take, filter, map, refl, ap, ◌∙◌}
use Rattle.std.specs.List.{flat_map}
use Rattle.std.proofs.lemmas.List.Concat.{flat_map_single}
use Rattle.reports.proofs.Chosen.{all_walked}

-- after a walk over all items, each of which was passed over or gave one
pub all_picked : {X Y : Type 0} (f : X → Y) (p : X → Bool) (xs : List X) (i : ℕ) (now : List Y) → i ≤ length xs → length xs ≤ i →
    now ≡ flat_map (λ x. cond (p x) (f x ∷ []) []) (take i xs) → now ≡ map f (filter p xs)
all_picked f p xs i now within end walked = all_walked (λ x. f x ∷ []) p xs i [] now within end walked ∙ flat_map_single f (filter p xs)
