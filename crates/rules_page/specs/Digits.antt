-- Numbers at the start of a text.
use Rattle.std.specs.Prelude.{◌+◌, ◌*◌, ◌-◌, ℕ, List, [], ◌∷◌, min, if◌then◌else◌}
use Rattle.std.specs.Char.{is_ascii_digit}

-- what numbers saturate at
abbrev pub GREATEST : ℕ
GREATEST = 1000000000

-- the number of a digit, of which `0` is 48
abbrev pub digit : ℕ → ℕ
digit b = b - 48

-- the number that the digits at the start write, where others came before them; it saturates at each
-- digit, which comes to the same as at the end
abbrev pub number_on : ℕ → List ℕ → ℕ
number_on n [] = n
number_on n (b ∷ text) = if is_ascii_digit b then number_on (min (n * 10 + digit b) GREATEST) text else n

-- the number that the digits at the start write
abbrev pub number_at_start : List ℕ → ℕ
number_at_start text = number_on 0 text
