-- What reads, and lists of rows that read, none of which is read where one row doesn't read.
use Rattle.std.specs.Prelude.{ℕ, suc, List, [], ◌∷◌, Option, Some, None, option_map}
use Rattle.sqlite_value.specs.Order.{Row}

-- the next value, unless this one doesn't read
infixl 10 ◌>>=◌
abbrev pub ◌>>=◌ : {A B : Type 0} → Option A → (A → Option B) → Option B
(Some x) >>= next = next x
None >>= next = None

abbrev pub read_each : {X : Type 0} → (Row → Option X) → List Row → Option (List X)
read_each read [] = Some []
read_each read (r ∷ rs) = do
  first ← read r
  rest ← read_each read rs
  Some (first ∷ rest)

-- each is read at its place, the first at this one
abbrev pub read_counted : {X : Type 0} → (ℕ → Row → Option X) → ℕ → List Row → Option (List X)
read_counted read place [] = Some []
read_counted read place (r ∷ rs) = do
  first ← read place r
  rest ← read_counted read (suc place) rs
  Some (first ∷ rest)

-- a row that is there reads
abbrev pub read_found : {X : Type 0} → (Row → Option X) → Option Row → Option (Option X)
read_found read None = Some None
read_found read (Some r) = option_map Some (read r)
