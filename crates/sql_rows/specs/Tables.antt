-- A table of `sqlite` as rows that have names, whatever their rowids.
use Rattle.std.specs.Prelude.{ℕ, zero, suc, ℤ, pos, negsuc, List, [], ◌∷◌, map, drop, filter, Bool, true, not, IsTrue, ◌&&◌}
use Rattle.std.specs.Ordering.{is_eq}
use Rattle.std.specs.List.{AllByRecursion}
use Rattle.sqlite_value.specs.declared.value.Value.{Value}
use Rattle.sqlite_value.specs.declared.value.Value.TheVariants.{Int, Text}
use Rattle.sqlite_value.specs.Order.{Row, column}
use Rattle.sqlite_trees.specs.Tree.{IsTable, rowid}
use Rattle.sqlite_trees.specs.View.{is_int}
use Rattle.named_rows.specs.ByName.{names_cmp}
use Rattle.sql_rows.specs.InOrder.{in_order}

-- the columns of a table's rows, which stand there behind their rowids
abbrev pub kept : List Row → List Row
kept rows = map (drop 1) rows

-- ---- values of a key as names

abbrev pub letters_below_zero : ℕ → List ℕ
letters_below_zero zero = 1 ∷ []
letters_below_zero (suc n) = 0 ∷ letters_below_zero n

-- a number as letters, so that the letters of numbers compare as the numbers do
abbrev pub number_letters : ℤ → List ℕ
number_letters (pos n) = 1 ∷ n ∷ []
number_letters (negsuc n) = 0 ∷ letters_below_zero n

-- a value of a key as letters: a text as it is, and a number as above
abbrev pub letters : Value → List ℕ
letters (Int n) = number_letters n
letters (Text t) = t
letters _ = []

-- the name that a row has in a column
abbrev pub name_at : ℕ → Row → List ℕ
name_at at row = letters (column row at)

-- two names are the same
abbrev pub same_name : List ℕ → List ℕ → Bool
same_name m n = is_eq (names_cmp m n)

-- ---- groups: the rows that have these names in their first columns, and their names in the next one

-- the row has these names in the columns from a place on
abbrev pub leads : ℕ → List (List ℕ) → Row → Bool
leads at [] row = true
leads at (n ∷ names) row = same_name n (name_at at row) && leads (suc at) names row

-- the name of a row in its group, where the columns of the group begin at a place
abbrev pub name_in : ℕ → List (List ℕ) → Row → List ℕ
name_in at [] row = name_at at row
name_in at (n ∷ names) row = name_in (suc at) names row

-- the row of a name in a group
abbrev pub is_row : ℕ → List (List ℕ) → List ℕ → Row → Bool
is_row at group n row = leads at group row && same_name n (name_in at group row)

-- the rows of a group, in order of their names
abbrev pub rows_of : List (List ℕ) → List Row → List Row
rows_of group rows = in_order (name_in 0 group) (filter (leads 0 group) rows)

-- the rows of every other group, as they come
abbrev pub rows_outside : List (List ℕ) → List Row → List Row
rows_outside group rows = filter (λ r. not (leads 0 group r)) rows

-- ---- rowids

-- the rowids rise, and each is a number
pub record Rise (rows : List Row) : Type 0 where
  pub up : IsTable rows
  pub numbered : AllByRecursion (λ r. IsTrue (is_int (rowid r))) rows
