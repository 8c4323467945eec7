-- The numbers of rows, as a set.
use Rattle.std.specs.Prelude.{◌≡◌, ◌==◌, ℕ, List}
use Rattle.std.specs.List.{list_any}
use Rattle.std.specs.Ordering.{nat_cmp}
use Rattle.std.specs.BTreeSet.{BTreeSet, contains}
use Rattle.snap_tree.specs.declared.row.Row.{Row}

-- the set has the number of each row, and no other
abbrev pub AreNumbers : BTreeSet ℕ → List Row → Type 0
AreNumbers numbers rows = (n : ℕ) → contains nat_cmp numbers n ≡ list_any (λ r. r.id.0 == n) rows
