-- Trees in which each node names the one above it as its parent.
use Rattle.std.specs.Prelude.{◌≡◌, Option, Some}
use Rattle.snap_tree.specs.declared.row.NodeId.{NodeId}
use Rattle.snap_tree.specs.Trees.{Trees, empty, tree}

-- each root names this parent, and each node below names the node above it
abbrev pub AreNamed : Option NodeId → Trees → Type 0
AreNamed parent empty = Unit {0}
AreNamed parent (tree r kids after) = (r.parent ≡ parent) × (AreNamed (Some r.id) kids × AreNamed parent after)
