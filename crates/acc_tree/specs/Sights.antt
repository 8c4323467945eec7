-- A node in its tree, with what is above it summed up.
use Rattle.std.specs.Prelude.{◌≡◌, List, [], ◌∷◌, ◌++◌, map, if◌then◌else◌, Option, Some, None, option_map}
use Rattle.std.specs.List.{find}
use Rattle.std.specs.Option.{option_or, option_map_or}
use Rattle.snap_tree.specs.declared.row.NodeId.{NodeId}
use Rattle.snap_tree.specs.declared.row.Row.{Row}
use Rattle.snap_tree.specs.Rows.{has_number}
use Rattle.snap_tree.specs.SpotLaws.{NamesFirstAbove, ClimbsAbove}
use Rattle.snap_tree.specs.Spots.{Spot, spot}
use Rattle.snap_tree.specs.Trees.{Trees, empty, tree}
use Rattle.acc_tree.specs.declared.above.Above.{Above}
use Rattle.acc_tree.specs.declared.above.TableAbove.{TableAbove}
use Rattle.acc_tree.specs.declared.sights.Sight.{Sight as LentSight}
use Rattle.acc_tree.specs.Seen.{seen_row, seen}
use Rattle.acc_tree.specs.Frames.{nothing_above, under, above_of, is_table, is_label, table_at}
use Rattle.acc_tree.specs.Tags.{html_tag}

-- a node's row, the trees below it, and what is above it
pub record Sight : Type 0 where
  pub row : Row
  pub below : Trees
  pub above : Above

-- the first node of this number in document order, where this is above the trees
abbrev pub sight_in : NodeId → Above → Trees → Option Sight
sight_in n above empty = None
sight_in n above (tree row kids after) =
    if has_number n row then Some (record { row = row; below = kids; above = above })
    else option_or (sight_in n (under above row) kids) (sight_in n above after)

-- the sight of a number; none where no row has it
abbrev pub sight_of : Trees → NodeId → Option Sight
sight_of trees n = sight_in n nothing_above trees

-- the row of a number
abbrev pub row_of : Trees → NodeId → Option Row
row_of trees n = option_map (λ s. s.row) (sight_of trees n)

-- what is above the children of a number; nothing is above the roots, and above those of a stranger
abbrev pub above_children : Trees → Option NodeId → Above
above_children trees None = nothing_above
above_children trees (Some n) = option_map_or (λ s. under s.above s.row) (sight_of trees n) nothing_above

-- what is above each node, in document order, where this is above the trees
abbrev pub aboves_in : Above → Trees → List Above
aboves_in above empty = []
aboves_in above (tree row kids after) = above ∷ aboves_in (under above row) kids ++ aboves_in above after

abbrev pub aboves : Trees → List Above
aboves trees = aboves_in nothing_above trees

-- ---- spots and sights

-- a spot with the list above summed up
abbrev pub summed : Spot → Sight
summed s = record { row = s.row; below = s.below; above = above_of s.above }

-- what is seen of a sight that is lent from a page
abbrev pub seen_sight : LentSight → Sight
seen_sight s = record { row = seen_row s.row.now; below = seen s.below; above = s.above }

-- what is seen of a spot
abbrev pub seen_spot : Spot → Spot
seen_spot s = record { row = seen_row s.row; below = seen s.below; above = map seen_row s.above }

-- a sight is the spot of the number, with the list above summed up
abbrev pub SightIsSpot : Trees → NodeId → Type 0
SightIsSpot trees n = sight_of trees n ≡ option_map summed (spot trees n)

-- what is seen of a number's spot is its spot among what is seen of the trees
abbrev pub SeenSpot : Trees → NodeId → Type 0
SeenSpot trees n = spot (seen trees) n ≡ option_map seen_spot (spot trees n)

-- ---- what is nearest above a node

-- the first HTML `table` of these nodes, with its role
abbrev pub first_table : List Row → Option TableAbove
first_table rows = option_map table_at (find (λ row. is_table (html_tag row)) rows)

-- the first HTML `label` of these nodes
abbrev pub first_label : List Row → Option NodeId
first_label rows = option_map (λ row. row.id) (find (λ row. is_label (html_tag row)) rows)

-- a sight tells of the table and the label that are the nearest among the node's ancestors
pub record TellsNearest (t : Trees) (n : NodeId) : Type 0 where
  pub table : option_map (λ s. s.above.table) (sight_of t n) ≡ option_map (λ s. first_table s.above) (spot t n)
  pub label : option_map (λ s. s.above.label) (sight_of t n) ≡ option_map (λ s. first_label s.above) (spot t n)

-- in these trees each node names the first of those above it, and that one stands below the others
pub record IsClimbed (t : Trees) : Type 0 where
  pub named : (n : NodeId) → NamesFirstAbove t n
  pub climbs : (n : NodeId) → ClimbsAbove t n
