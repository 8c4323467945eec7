-- The laws of the spot of a number, and of trees that stand beside others.
use Rattle.std.specs.Prelude.{◌≡◌, List, [], ◌∷◌, ◌++◌, false, Some, None, IfSome, option_map}
use Rattle.std.specs.List.{list_any}
use Rattle.snap_tree.specs.declared.row.NodeId.{NodeId}
use Rattle.snap_tree.specs.declared.row.Row.{Row}
use Rattle.snap_tree.specs.Trees.{Trees, rows_of, beside}
use Rattle.snap_tree.specs.Grown.{grown}
use Rattle.snap_tree.specs.Rows.{has_number}
use Rattle.snap_tree.specs.Lookups.{node}
use Rattle.snap_tree.specs.Spots.{spot, number_of, parent, ClimbsBy, NamesNone}

-- no row has the number
abbrev pub IsAbsent : Trees → NodeId → Type 0
IsAbsent t n = list_any (has_number n) (rows_of t) ≡ false

-- a number of no row has no spot
abbrev pub AbsentHasNoSpot : Trees → NodeId → Type 0
AbsentHasNoSpot t n = IsAbsent t n → spot t n ≡ None

-- the row of a number's spot is the row of the number
abbrev pub SpotHasRow : Trees → NodeId → Type 0
SpotHasRow t n = option_map (λ s. s.row) (spot t n) ≡ node t n

-- a node names the first of those above it
abbrev pub NamesFirstAbove : Trees → NodeId → Type 0
NamesFirstAbove t n = IfSome (spot t n) (λ s. s.row.parent ≡ number_of s.above)

-- the first of those above a node stands in the tree with the others above it
abbrev pub ClimbsAbove : Trees → NodeId → Type 0
ClimbsAbove t n = IfSome (spot t n) (λ s. ClimbsBy s.above t)

-- asking for the parent of a number, then for that one's, and so on, goes over these rows and ends
abbrev pub WalksOver : Trees → NodeId → List Row → Type 0
WalksOver t n [] = parent t n ≡ None
WalksOver t n (p ∷ above) = (parent t n ≡ Some p.id) × WalksOver t p.id above

-- so asking from a node goes over those above it
abbrev pub WalksAbove : Trees → NodeId → Type 0
WalksAbove t n = IfSome (spot t n) (λ s. WalksOver t n s.above)

-- rows that name none of the rows before them grow to trees of their own beside those
abbrev pub GrowBeside : List Row → List Row → Type 0
GrowBeside rows others = NamesNone (grown others) rows → grown (rows ++ others) ≡ beside (grown rows) (grown others)
