-- Words that stand for a value.
use Rattle.std.specs.Prelude.{ℕ, List, Bool}
use Rattle.std.specs.List.{list_any}
use Rattle.texts.specs.Words.{same_folded}

-- the value is one of these words, which compares ASCII case-insensitively
abbrev pub is_among : List (List ℕ) → List ℕ → Bool
is_among those value = list_any (same_folded value) those
