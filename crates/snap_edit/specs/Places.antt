-- Places among the rows of a page.
use Rattle.std.specs.Prelude.{◌≡◌, ◌≤◌, ◌<◌, ℕ, zero, suc, ◌+◌, ◌-◌, List, [], ◌∷◌, ◌++◌, length, take, drop, slice_index, if◌then◌else◌, Option, Some, None, Result, Err}
use Rattle.std.specs.Option.{option_map}
use Rattle.snap_tree.specs.declared.row.NodeId.{NodeId}
use Rattle.snap_tree.specs.declared.row.Row.{Row}
use Rattle.snap_tree.specs.Trees.{Trees, empty, tree, rows_of, count, sizes_of}
use Rattle.snap_tree.specs.Grown.{grown}
use Rattle.snap_tree.specs.Rows.{is_text}
use Rattle.snap_tree.specs.Spots.{Spot}
use Rattle.snap_tree.specs.Places.{place_from}
use Rattle.snap_tree.specs.Naming.{AreNamed}
use Rattle.snap_edit.specs.declared.fault.EditKind.{EditKind}
use Rattle.snap_edit.specs.declared.fault.EditKind.TheVariants.{NotElement, RootMoved}
use Rattle.snap_edit.specs.Trees.{inserted, with_parent}
use Rattle.snap_edit.specs.Edits.{at, is_root, in_place}

-- the node of a number stands at this place
pub record IsNodeAt (rows : List Row) (n : NodeId) (place : ℕ) : Type 0 where
  pub found : place_from 0 n.0 rows ≡ Some place
  pub in_range : place < length rows

-- what follows where the trees have an element of this number
abbrev pub of_element : Trees → NodeId → Result Trees EditKind → Result Trees EditKind
of_element t n next = at t n (λ s. if is_text s.row then Err NotElement else next)

-- the node of a number stands at this place, and is an element
pub record IsElementAt (rows : List Row) (n : NodeId) (place : ℕ) : Type 0 where
  pub node : IsNodeAt rows n place
  pub follows : (next : Result Trees EditKind) → of_element (grown rows) n next ≡ next

-- what a node's spot gives, where it isn't the root's
abbrev pub at_movable : Trees → NodeId → (Spot → Result Trees EditKind) → Result Trees EditKind
at_movable t n f = at t n (λ s. if is_root s then Err RootMoved else f s)

-- the node of a number stands at this place, and isn't the root
pub record IsMovableAt (rows : List Row) (n : NodeId) (place : ℕ) : Type 0 where
  pub node : IsNodeAt rows n place
  pub follows : (f : Spot → Result Trees EditKind) → at_movable (grown rows) n f ≡ at (grown rows) n f

-- the trees after this many, where there are so many
abbrev pub after_first : ℕ → Trees → Option Trees
after_first zero t = Some t
after_first (suc k) empty = None
after_first (suc k) (tree r kids after) = after_first k after

-- the place of the row where a child would begin that has this many before it, given the place of its
-- parent and what is below that; none where there are fewer children
abbrev pub child_place : ℕ → ℕ → Trees → Option ℕ
child_place place k below = option_map (λ rest. place + 1 + (count below - count rest)) (after_first k below)

-- the size of the subtree at a place
abbrev pub size_at : List Row → ℕ → ℕ
size_at rows place = slice_index (sizes_of (grown rows)) place

-- the rows of the subtree at a place, and the others
abbrev pub subtree_at : List Row → ℕ → List Row
subtree_at rows place = take (size_at rows place) (drop place rows)

abbrev pub rest_without : List Row → ℕ → List Row
rest_without rows place = take place rows ++ drop (size_at rows place) (drop place rows)

-- the first row names this parent
abbrev pub hung_rows : NodeId → List Row → List Row
hung_rows p [] = []
hung_rows p (r ∷ rows) = with_parent p r ∷ rows

-- where other trees are put in below a node as a child that has so many before it, their rows begin here
pub record IsPlaceIn (rows : List Row) (p : NodeId) (k at : ℕ) : Type 0 where
  pub follows : (next : Result Trees EditKind) → in_place (grown rows) p k next ≡ next
  pub fits : at ≤ length rows
  pub rows_are : (others : Trees) → rows_of (inserted p k others (grown rows)) ≡ take at rows ++ (rows_of others ++ drop at rows)
  pub named : (others : Trees) → AreNamed (Some p) others → AreNamed None (inserted p k others (grown rows))
