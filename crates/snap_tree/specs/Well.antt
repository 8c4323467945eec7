-- What holds of every tree that is built.
use Rattle.std.specs.Prelude.{◌≡◌, ◌<◌, ◌≤◌, List, [], ◌∷◌, length, true, false}
use Rattle.std.specs.List.{list_any, AllByRecursion}
use Rattle.snap_tree.specs.declared.row.Row.{Row}
use Rattle.snap_tree.specs.Trees.{Trees, empty, tree, rows_of, count}
use Rattle.snap_tree.specs.Rows.{has_number, is_text}
use Rattle.snap_tree.specs.WellRow.{IsWellRow}
use Rattle.snap_tree.specs.Weight.{reference_weight}
pub use Rattle.snap_tree.specs.Spots.{number_of}
use Rattle.snap_tree.specs.declared.build.TheConstants.{MOST_NODES, MOST_DEPTH}
use Rattle.snap_tree.specs.declared.weight.TheConstants.{MOST_WEIGHT}

-- a node in its place: it names the node above it, it isn't too deep, and a text has nothing below it
pub record IsPlaced (above : List Row) (r : Row) (kids : Trees) : Type 0 where
  pub named : r.parent ≡ number_of above
  pub shallow : length above < MOST_DEPTH
  pub childless : is_text r ≡ true → kids ≡ empty

-- each node stands in its place, below these ancestors, the nearest first
abbrev pub EachPlaced : List Row → Trees → Type 0
EachPlaced above empty = Unit {0}
EachPlaced above (tree r kids after) = IsPlaced above r kids × (EachPlaced (r ∷ above) kids × EachPlaced above after)

-- there is one root, and it is an element
abbrev pub HasRoot : Trees → Type 0
HasRoot empty = ⊥
HasRoot (tree r kids empty) = is_text r ≡ false
HasRoot (tree r kids (tree y below after)) = ⊥

-- the numbers differ
abbrev pub AreApart : List Row → Type 0
AreApart [] = Unit {0}
AreApart (r ∷ rows) = (list_any (has_number r.id) rows ≡ false) × AreApart rows

pub record IsWell (t : Trees) : Type 0 where
  pub rooted : HasRoot t
  pub placed : EachPlaced [] t
  pub few : count t ≤ MOST_NODES
  pub apart : AreApart (rows_of t)
  pub rows_well : AllByRecursion IsWellRow (rows_of t)
  pub light : reference_weight t ≤ MOST_WEIGHT
