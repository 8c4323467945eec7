-- Numbers in attribute values.
use Rattle.std.specs.Prelude.{◌&&◌, ◌==◌, ◌^◌, ◌-◌, not, ℕ, List, length, min, Bool, if◌then◌else◌, Option, Some, None}
use Rattle.std.specs.List.{list_all}
use Rattle.std.specs.Char.{is_ascii_digit}
use Rattle.std.specs.Str.Parse.{digits_value}

-- one digit or more, and nothing else
abbrev pub is_digits : List ℕ → Bool
is_digits text = not (length text == 0) && list_all is_ascii_digit text

-- the number that digits alone write; one too great for 64 bits counts as the greatest of those
abbrev pub whole_number : List ℕ → Option ℕ
whole_number text = if is_digits text then Some (min (digits_value 10 text) (2 ^ 64 - 1)) else None
