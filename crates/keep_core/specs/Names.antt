-- The names of sites, pages and users.
use Rattle.std.specs.Prelude.{ℕ, List, length, Bool, ◌&&◌, ◌||◌, ◌==◌, nat_le}
use Rattle.std.specs.List.{list_all}
use Rattle.keep_core.specs.declared.limits.TheConstants.{MOST_NAME}

-- a number from one to another
abbrev pub is_from : ℕ → ℕ → ℕ → Bool
is_from first last n = nat_le first n && nat_le n last

-- a to z, 0 to 9, full stop, low line or hyphen
abbrev pub is_name_byte : ℕ → Bool
is_name_byte byte = is_from 97 122 byte || is_from 48 57 byte || byte == 46 || byte == 95 || byte == 45

-- 1 to 64 of these characters
abbrev pub is_name : List ℕ → Bool
is_name text = is_from 1 MOST_NAME (length text) && list_all is_name_byte text
