-- The path of a target and its segments.
use Rattle.std.specs.Prelude.{◌==◌, ℕ, List, [], ◌∷◌, Bool, ltb, if◌then◌else◌}
use Rattle.std.specs.List.{list_all}

-- a question mark, and a slash
abbrev pub question : ℕ
question = 63

abbrev pub slash : ℕ
slash = 47

-- the bytes before the first of this kind, or all
abbrev pub before : ℕ → List ℕ → List ℕ
before stop [] = []
before stop (b ∷ bytes) = if b == stop then [] else b ∷ before stop bytes

-- the target up to the first question mark
abbrev pub path : List ℕ → List ℕ
path target = before question target

-- the segments, with a byte put in front of the first
abbrev pub put_first : ℕ → List (List ℕ) → List (List ℕ)
put_first b [] = (b ∷ []) ∷ []
put_first b (segment ∷ segments) = (b ∷ segment) ∷ segments

-- what stands between slashes
abbrev pub segments : List ℕ → List (List ℕ)
segments [] = [] ∷ []
segments (b ∷ bytes) = if b == slash then [] ∷ segments bytes else put_first b (segments bytes)

-- bytes of ASCII alone
abbrev pub is_small : ℕ → Bool
is_small b = ltb b 128

abbrev pub is_ascii : List ℕ → Bool
is_ascii bytes = list_all is_small bytes
