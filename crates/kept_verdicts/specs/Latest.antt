-- The last of some places of a list.
use Rattle.std.specs.Prelude.{ℕ, List, Bool, false, Option, slice_get, reverse}
use Rattle.std.specs.Option.{option_map_or}
use Rattle.std.specs.List.{find}

-- what stands at a place passes a test
abbrev pub is_at : {X : Type 0} → (X → Bool) → List X → ℕ → Bool
is_at test xs place = option_map_or test (slice_get xs place) false

-- the last of some places at which it does
abbrev pub latest_of : {X : Type 0} → (X → Bool) → List X → List ℕ → Option ℕ
latest_of test xs places = find (is_at test xs) (reverse places)
