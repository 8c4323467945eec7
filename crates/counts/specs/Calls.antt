-- Calls that a list names by their numbers.
use Rattle.std.specs.Prelude.{◌==◌, ℕ, List, Bool}
use Rattle.std.specs.List.{list_any}
use Rattle.counts.specs.Counts.{next}

-- the list names the call after so many
abbrev pub is_named : List ℕ → ℕ → Bool
is_named list calls = list_any (λ k. k == next calls) list
