-- A node in its tree: its row, what is below it, and what is above it.
use Rattle.std.specs.Prelude.{◌≡◌, List, [], ◌∷◌, ◌++◌, map, if◌then◌else◌, false, Option, Some, None, option_and_then}
use Rattle.std.specs.Option.{option_or, option_map_or}
use Rattle.snap_tree.specs.declared.row.NodeId.{NodeId}
use Rattle.snap_tree.specs.declared.row.Row.{Row}
use Rattle.snap_tree.specs.Trees.{Trees, empty, tree}
use Rattle.std.specs.List.{list_any}
use Rattle.snap_tree.specs.Grown.{names}
use Rattle.snap_tree.specs.Rows.{has_number}

-- the number of the first row
abbrev pub number_of : List Row → Option NodeId
number_of [] = None
number_of (parent ∷ above) = Some parent.id

-- a node's row, the trees below it, and its ancestors with the parent first
pub record Spot : Type 0 where
  pub row : Row
  pub below : Trees
  pub above : List Row

-- the first node of this number in document order, where these ancestors are above the trees
abbrev pub spot_in : NodeId → List Row → Trees → Option Spot
spot_in n above empty = None
spot_in n above (tree r kids after) =
    if has_number n r then Some (record { row = r; below = kids; above = above })
    else option_or (spot_in n (r ∷ above) kids) (spot_in n above after)

-- the spot of a number; none where no row has it
abbrev pub spot : Trees → NodeId → Option Spot
spot t n = spot_in n [] t

-- the spots of all nodes in document order, where these ancestors are above the trees
abbrev pub spots_in : List Row → Trees → List Spot
spots_in above empty = []
spots_in above (tree r kids after) = record { row = r; below = kids; above = above } ∷ spots_in (r ∷ above) kids ++ spots_in above after

abbrev pub spots : Trees → List Spot
spots t = spots_in [] t

abbrev pub roots : Trees → List Row
roots empty = []
roots (tree r kids after) = r ∷ roots after

-- the number of a node's parent; none for a root and for a stranger
abbrev pub parent : Trees → NodeId → Option NodeId
parent t n = option_and_then (λ s. number_of s.above) (spot t n)

-- the numbers of a node's children in order; none for a stranger
abbrev pub kids : Trees → NodeId → List NodeId
kids t n = option_map_or (λ s. map (λ r. r.id) (roots s.below)) (spot t n) []

-- the spot is of this row, with these nodes above it
abbrev pub IsSpotOf : Row → List Row → Option Spot → Type 0
IsSpotOf r above None = ⊥
IsSpotOf r above (Some s) = (s.row ≡ r) × (s.above ≡ above)

-- the first of the nodes above stands in the tree, with the others above it
abbrev pub ClimbsBy : List Row → Trees → Type 0
ClimbsBy [] t = Unit {0}
ClimbsBy (p ∷ above) t = IsSpotOf p above (spot t p.id)

-- none of the rows is named by the first root
abbrev pub NamesNone : Trees → List Row → Type 0
NamesNone empty rows = Unit {0}
NamesNone (tree r kids after) rows = list_any (names r) rows ≡ false
