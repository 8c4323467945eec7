-- Numbers as values: `-` is 45, `+` is 43, and a point is 46.
use Rattle.std.specs.Prelude.{◌&&◌, ◌||◌, ◌==◌, ℕ, List, [], ◌∷◌, length, nat_lt, Bool, true, false, if◌then◌else◌}
use Rattle.std.specs.List.{list_all}
use Rattle.std.specs.Char.{is_ascii_digit}

-- one digit or more, and nothing else
abbrev pub is_digits : List ℕ → Bool
is_digits text = nat_lt 0 (length text) && list_all is_ascii_digit text

abbrev pub after_minus : List ℕ → List ℕ
after_minus [] = []
after_minus (c ∷ text) = if c == 45 then text else c ∷ text

abbrev pub after_sign : List ℕ → List ℕ
after_sign [] = []
after_sign (c ∷ text) = if c == 43 || c == 45 then text else c ∷ text

-- what stands after the digits at the start
abbrev pub after_digits : List ℕ → List ℕ
after_digits [] = []
after_digits (c ∷ text) = if is_ascii_digit c then after_digits text else c ∷ text

abbrev pub begins_with_digit : List ℕ → Bool
begins_with_digit [] = false
begins_with_digit (c ∷ text) = is_ascii_digit c

-- nothing, or a point and digits
abbrev pub is_fraction : List ℕ → Bool
is_fraction [] = true
is_fraction (c ∷ text) = c == 46 && is_digits text

-- an optional `-`, then digits
abbrev pub is_whole_number : List ℕ → Bool
is_whole_number value = is_digits (after_minus value)

-- an optional `+` or `-`, then digits, and optionally a point and digits
abbrev pub is_number : List ℕ → Bool
is_number value = begins_with_digit (after_sign value) && is_fraction (after_digits (after_sign value))
