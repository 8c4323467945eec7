-- Where nothing is said of any item, nothing is gathered.
use Rattle.std.proofs.Common.{◌≡◌, List, [], ◌∷◌, Option, None, refl, ap, ◌∙◌}
use Rattle.std.specs.List.{filter_map, cons_option}

pub nothing : {X Y : Type 0} (f : X → Option Y) → ((x : X) → None ≡ f x) → (xs : List X) → [] ≡ filter_map f xs
nothing f h [] = refl
nothing f h (x ∷ xs) = nothing f h xs ∙ ap (λ o. cons_option o (filter_map f xs)) (h x)
