-- Marks of the nodes that may have a row.
use Rattle.std.specs.Prelude.{◌≡◌, List, slice_get, Bool, true, Option, Some, None}
use Rattle.std.specs.List.{AllByRecursion}
use Rattle.snap_tree.specs.declared.row.NodeId.{NodeId}
use Rattle.judge_core.specs.declared.outcomes.OutRow.{OutRow}

-- past the end of the marks each counts as marked
abbrev pub or_marked : Option Bool → Bool
or_marked None = true
or_marked (Some mark) = mark

abbrev pub is_marked : List Bool → NodeId → Bool
is_marked marks n = or_marked (slice_get marks n.0)

-- the node of each of these rows is marked
abbrev pub AreMarked : List Bool → List OutRow → Type 0
AreMarked marks rows = AllByRecursion (λ row. is_marked marks row.node ≡ true) rows
