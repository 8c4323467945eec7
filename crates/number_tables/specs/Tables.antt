-- What a table has of a number, and what becomes of it where a value is put.
use Rattle.std.specs.Prelude.{◌≡◌, ◌==◌, ℕ, if◌then◌else◌, slice_get, Option, Some, None}
use Rattle.std.specs.BTreeMap.{BTreeMap, get}
use Rattle.std.specs.Option.{option_or}
use Rattle.std.specs.Ordering.{nat_cmp}
use Rattle.number_tables.specs.declared.table.NumberTable.{NumberTable}

module _ {T : Type 0} where
  -- what a slot has; where the slots don't reach so far, what the map has
  abbrev pub in_slot : Option (Option T) → Option T → Option T
  in_slot (Some slot) far = slot
  in_slot None far = far

  -- the value of a number
  abbrev pub at : NumberTable T → ℕ → Option T
  at table n = in_slot (slice_get table.near.items n) (get nat_cmp table.far n)

  -- a number has this value, unless it had one, and each other number what it had
  abbrev pub Puts : NumberTable T → NumberTable T → ℕ → T → Type 0
  Puts old new number value = (n : ℕ) → at new n ≡ option_or (at old n) (if number == n then Some value else None)

  abbrev pub PutsFar : BTreeMap ℕ T → BTreeMap ℕ T → ℕ → T → Type 0
  PutsFar old new number value = (n : ℕ) → get nat_cmp new n ≡ option_or (get nat_cmp old n) (if number == n then Some value else None)
