-- Texts that are put together of parts, with a separator between each two.
use Rattle.std.specs.Prelude.{ℕ, List, [], ◌∷◌, ◌++◌}

-- a text with one part more
abbrev pub added : ℕ → List ℕ → List ℕ → List ℕ
added separator [] part = part
added separator (b ∷ text) part = ((b ∷ text) ++ separator ∷ []) ++ part
