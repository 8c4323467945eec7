-- The table of editions: a number.
use Rattle.std.specs.Prelude.{ℕ, List, [], ◌∷◌, Option, Some, None, option_map}
use Rattle.std.specs.Option.{option_map_or}
use Rattle.sqlite_value.specs.Order.{Row, column}
use Rattle.keep_core.specs.declared.limits.TheConstants.{MOST_REVISION}
use Rattle.store_tables.specs.Reading.{◌>>=◌}
use Rattle.store_tables.specs.Cells.{number_in}

-- the last of numbers that are shown, or this where none is
abbrev pub last_number : Option ℕ → List Row → Option (Option ℕ)
last_number found [] = Some found
last_number found (c ∷ cs) = number_in MOST_REVISION (column c 0) >>= (λ number. last_number (Some number) cs)

-- the greatest of the editions, which are shown in order
abbrev pub edition_shown : List Row → Option (Option ℕ)
edition_shown rows = last_number None rows

-- the edition that is kept: 0 where none is noted
abbrev pub noted : Option ℕ → ℕ
noted found = option_map_or (λ number. number) found 0

abbrev pub kept_edition : List Row → Option ℕ
kept_edition rows = option_map noted (edition_shown rows)
