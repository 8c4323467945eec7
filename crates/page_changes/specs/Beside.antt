-- Two pages that are gone over beside each other.
use Rattle.std.specs.Prelude.{◌≡◌, ◌&&◌, List, ◌∷◌, [], Bool, Option, Some, None}
use Rattle.std.specs.Bool.{beq}
use Rattle.std.specs.Option.{option_eq}
use denote.Enum.Bare.{sameb}
use Rattle.aria_tables.specs.contracts.role.Role as role
use Rattle.snap_tree.specs.declared.branches.Branch.{Branch}
use Rattle.snap_tree.specs.declared.row.NodeId.{NodeId}
use Rattle.snap_tree.specs.declared.row.Row.{Row}
use Rattle.snap_tree.specs.Spots.{spot}
use Rattle.snap_tree.specs.Trees.{Trees, empty, tree}
use Rattle.acc_tree.specs.declared.above.Above.{Above}
use Rattle.acc_tree.specs.declared.above.TableAbove.{TableAbove}
use Rattle.acc_tree.specs.Frames.{frame, under, above_of}
use Rattle.acc_tree.specs.Seen.{seen_row, seen}
use Rattle.page_keys.specs.Same.{same_node, same_frame}
use Rattle.page_keys.specs.Standing.{spot_with, Stand}
use Rattle.page_changes.specs.declared.beside.Pair.{Pair}
use Rattle.page_changes.specs.declared.beside.Framed.{Framed}
use Rattle.page_changes.specs.declared.met.Met.{Met}
use Rattle.page_changes.specs.Here.{frame_here, own_here, kids_here}

-- ---- what is above

abbrev pub same_table : TableAbove → TableAbove → Bool
same_table a b = same_node a.node b.node && option_eq (sameb role.the_type) a.role b.role

abbrev pub same_above : Above → Above → Bool
same_above a b =
    beq a.in_section b.in_section
    && (beq a.in_list b.in_list && (option_eq same_table a.table b.table && (option_eq same_node a.label b.label && (beq a.hidden b.hidden && beq a.disabled b.disabled))))

-- what is above a node on the two pages: it is the same, or each is said
abbrev pub IsPair : Option Pair → Above → Above → Type 0
IsPair None above other = above ≡ other
IsPair (Some pair) above other = (pair.above ≡ above) × (pair.other ≡ other)

-- ---- one node

-- a node stands on both pages
pub record AreTwins (old new : Trees) (ups others : List Row) (row other : Row) (kids below : Trees) : Type 0 where
  pub here : spot old row.id ≡ Some (spot_with row kids ups)
  pub there : spot new row.id ≡ Some (spot_with other below others)

-- two rows each under what is above it
pub record IsFramedBy (above : Above) (row : Row) (other_above : Above) (other : Row) (framed : Framed) : Type 0 where
  pub same : framed.same ≡ same_frame (frame above row) (frame other_above other)
  pub below : IsPair framed.below (under above row) (under other_above other)

pub record IsFramed (new : Trees) (ups others : List Row) (row other : Row) (framed : Framed) : Type 0 where
  pub same : framed.same ≡ frame_here new (above_of ups) row
  pub below : IsPair framed.below (above_of (row ∷ ups)) (above_of (other ∷ others))

-- a tree of some has the number at its root, and stands wherever these do
abbrev pub Leads : Trees → NodeId → Branch → Type 0
Leads ahead n branch =
    (branch.row.now.id ≡ n) × ((page : Trees) (ups : List Row) → Stand page ups ahead → Stand page ups (tree (seen_row branch.row.now) (seen branch.kids) (seen branch.after)))

-- the trees ahead, where there are some
abbrev pub ahead_of : Option Trees → Trees
ahead_of None = empty
ahead_of (Some t) = seen t

-- what of a node is the same on the new page, and where its children, and those after it, are looked for
pub record Meets (new : Trees) (ups others : List Row) (row : Row) (kids : Trees) (met : Met) : Type 0 where
  pub frame : met.frame ≡ frame_here new (above_of ups) row
  pub own : met.own ≡ own_here new row
  pub roots : met.kids ≡ kids_here new row kids
  pub beneath : List Row
  pub below : Stand new beneath (ahead_of met.below)
  pub pair : IsPair met.pair (above_of (row ∷ ups)) (above_of beneath)
  pub after : Stand new others (ahead_of met.after)

-- ---- trees

-- some trees stand on the old page, and those ahead on the new one
pub record AreBeside (old new : Trees) (pair : Option Pair) (ups others : List Row) (trees ahead : Trees) : Type 0 where
  pub whole : Stand new [] new
  pub here : Stand old ups trees
  pub there : Stand new others ahead
  pub above : IsPair pair (above_of ups) (above_of others)
