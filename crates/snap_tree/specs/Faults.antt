-- The faults of rows in their one order, and the trees that have none.
use Rattle.std.specs.Prelude.{◌==◌, ◌&&◌, ℕ, List, [], ◌∷◌, ◌++◌, length, Bool, true, false, nat_le, nat_lt, if◌then◌else◌, Option, Some, None, is_some}
use Rattle.std.specs.Option.{option_or}
use Rattle.std.specs.List.{list_any}
use Rattle.snap_tree.specs.declared.row.Row.{Row}
use Rattle.snap_tree.specs.declared.fault.TreeFault.{TreeFault}
use Rattle.snap_tree.specs.declared.fault.TreeFault.TheVariants.{Empty, TooMany, DoubleNumber, ParentUnknownOrNotOpen, TooDeep, TextHasKids, RootNotElement, ReferenceWeight}
use Rattle.snap_tree.specs.Trees.{Trees, empty, tree}
use Rattle.snap_tree.specs.Grown.{names, grown}
use Rattle.snap_tree.specs.Rows.{has_number, is_text, own_fault}
use Rattle.snap_tree.specs.Weight.{reference_weight}
use Rattle.snap_tree.specs.declared.build.TheConstants.{MOST_NODES, MOST_DEPTH}
use Rattle.snap_tree.specs.declared.weight.TheConstants.{MOST_WEIGHT}

-- the nodes that are open for one more row, the deepest first: the last root, its last child, and so on
abbrev pub open_rows : Trees → List Row
open_rows empty = []
open_rows (tree x kids empty) = open_rows kids ++ x ∷ []
open_rows (tree x kids (tree y below after)) = open_rows (tree y below after)

-- of these, the one that the row names and those above it
abbrev pub from_parent : Row → List Row → List Row
from_parent r [] = []
from_parent r (x ∷ xs) = if names r x then x ∷ xs else from_parent r xs

-- the ancestors that a row gets where it comes next, its parent first
abbrev pub ancestors : Row → Trees → List Row
ancestors r t = from_parent r (open_rows t)

-- no row comes before
abbrev pub is_first : List Row → Bool
is_first [] = true
is_first (x ∷ earlier) = false

-- the row is out of place: the first row has no parent, and each later one has an open parent
abbrev pub is_misplaced : Bool → Row → ℕ → Bool
is_misplaced true r depth = is_some r.parent
is_misplaced false r depth = depth == 0

abbrev pub is_below_text : List Row → Bool
is_below_text [] = false
is_below_text (parent ∷ above) = is_text parent

-- the first fault of a row whose number is new: whether it is the first row, how many ancestors it
-- gets, and whether its parent is a text
unfoldable pub place_fault : Bool → Row → ℕ → Bool → Option TreeFault
place_fault first r above below_text =
    if is_misplaced first r above then Some (ParentUnknownOrNotOpen r.id)
    else (if first && is_text r then Some (RootNotElement r.id)
    else (if below_text then Some (TextHasKids r.id)
    else (if nat_le MOST_DEPTH above then Some (TooDeep r.id)
    else own_fault r)))

-- the first fault of a row that comes after others
abbrev pub row_fault : List Row → Row → Option TreeFault
row_fault earlier r =
    let above = ancestors r (grown earlier)
    in
    if list_any (has_number r.id) earlier then Some (DoubleNumber r.id)
    else place_fault (is_first earlier) r (length above) (is_below_text above)

-- the first fault of rows that come after others
abbrev pub rows_fault : List Row → List Row → Option TreeFault
rows_fault earlier [] = None
rows_fault earlier (r ∷ rows) = option_or (row_fault earlier r) (rows_fault (earlier ++ r ∷ []) rows)

-- the first fault of a page's rows, before they are weighed
unfoldable pub shape_fault : List Row → Option TreeFault
shape_fault rows =
    if length rows == 0 then Some Empty
    else (if nat_lt MOST_NODES (length rows) then Some TooMany
    else rows_fault [] rows)

-- what references find is too heavy
abbrev pub weight_fault : Trees → Option TreeFault
weight_fault t = if nat_lt MOST_WEIGHT (reference_weight t) then Some ReferenceWeight else None

-- the first fault of a page's rows
unfoldable pub tree_fault : List Row → Option TreeFault
tree_fault rows = option_or (shape_fault rows) (weight_fault (grown rows))
