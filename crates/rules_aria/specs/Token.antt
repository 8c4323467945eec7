-- How a token begins.
use Rattle.std.specs.Prelude.{ℕ, List, length, take, Bool}
use Rattle.texts.specs.Words.{same_folded}

-- the token begins with this, which compares with ASCII letters in lower case
abbrev pub begins : List ℕ → List ℕ → Bool
begins front token = same_folded (take (length front) token) front
