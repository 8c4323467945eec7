-- Trees of which each node is the spot of its number on a page.
use Rattle.std.specs.Prelude.{◌≡◌, List, ◌∷◌, Some}
use Rattle.snap_tree.specs.declared.row.Row.{Row}
use Rattle.snap_tree.specs.Spots.{Spot, spot}
use Rattle.snap_tree.specs.Trees.{Trees, empty, tree, rows_of}
use Rattle.snap_tree.specs.Well.{AreApart}
use Rattle.acc_tree.specs.Sights.{IsClimbed}

-- a row with these trees below it and these nodes above it
abbrev pub spot_with : Row → Trees → List Row → Spot
spot_with row kids above = record { row = row; below = kids; above = above }

-- each node of these trees, which stand below these nodes, is what the page has at its number
abbrev pub Stand : Trees → List Row → Trees → Type 0
Stand page above empty = Unit {0}
Stand page above (tree row kids after) =
    (spot page row.id ≡ Some (spot_with row kids above)) × (Stand page (row ∷ above) kids × Stand page above after)

abbrev pub IsOne : Trees → Type 0
IsOne empty = ⊥
IsOne (tree row kids empty) = Unit {0}
IsOne (tree row kids (tree other below after)) = ⊥

-- What the laws ask of trees: each node names the one above it, no two have one number, and there is one root. What
-- is seen of a well page is such.
pub record IsPage (t : Trees) : Type 0 where
  pub climbed : IsClimbed t
  pub apart : AreApart (rows_of t)
  pub one : IsOne t
