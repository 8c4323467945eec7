-- The tokens of a value.
use Rattle.std.specs.Prelude.{ℕ, List, [], if◌then◌else◌}
use Rattle.std.specs.Str.{is_utf8}
use Rattle.texts.specs.Words.{words}

-- the tokens of a value: its parts between runs of white space; bytes that are no UTF-8 have none
abbrev pub tokens : List ℕ → List (List ℕ)
tokens value = if is_utf8 value then words value else []
