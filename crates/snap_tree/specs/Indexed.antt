-- What a tree keeps beside its rows.
use Rattle.std.specs.Prelude.{◌≡◌, List, map, None, String, Vec}
use Rattle.std.specs.BTreeMap.{BTreeMap}
use Rattle.std.specs.declared.alloc.Global.{Global}
use Rattle.snap_tree.specs.declared.row.NodeId.{NodeId}
use Rattle.snap_tree.specs.declared.row.Row.{Row}
use Rattle.snap_tree.specs.declared.groups.Key.TheVariants.{Tag, Id, For}
use Rattle.snap_tree.specs.declared.index.Index.{Index}
use Rattle.snap_tree.specs.Trees.{sizes_of}
use Rattle.snap_tree.specs.Grown.{grown}
use Rattle.snap_tree.specs.Faults.{tree_fault}
use Rattle.snap_tree.specs.Places.{IsPlaces}
use Rattle.snap_tree.specs.Groups.{AreGroups}
use Rattle.snap_tree.specs.Spots.{spots}
use Rattle.snap_tree.specs.Labels.{outer_label}

-- the index is that of these rows
pub record IsIndex (rows : List Row) (index : Index) : Type 0 where
  pub sized : index.sizes.items ≡ sizes_of (grown rows)
  pub placed : IsPlaces index.places rows
  pub ids : AreGroups Id index.ids rows
  pub fors : AreGroups For index.fors rows
  pub outer : index.outer.items ≡ map (outer_label (grown rows)) (spots (grown rows))

-- the rows have no fault, and the index and the groups of tags are theirs
pub record IsKept (rows : List Row) (index : Index) (tags : BTreeMap (String Global) (Vec NodeId Global)) : Type 0 where
  pub sound : tree_fault rows ≡ None
  pub indexed : IsIndex rows index
  pub tagged : AreGroups Tag tags rows
