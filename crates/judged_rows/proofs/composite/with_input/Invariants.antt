use Rattle.std.proofs.Common.{◌≡◌, Option, map, take, drop}
use Rattle.std.specs.List.{filter_map}
use Rattle.snap_tree.specs.declared.row.NodeId.{NodeId}
use Rattle.judge_core.specs.declared.outcomes.OutRow.{OutRow}
use Rattle.judged_rows.specs.Merging.{AreOn, filled_by}
use Rattle.judged_rows.proofs.composite.with_input.Given as goal

abbrev pub invariant-loop-slot : goal.invariant-loop-slot
invariant-loop-slot l =
    (f : NodeId → Option OutRow) → AreOn f → l.rows ≡ filter_map f (map (λ s. s.node) l.slots) →
    (l.left ≡ filter_map f (map (λ s. s.node) (drop l.slot-index l.slots))) × (l.filled.items ≡ map (filled_by f) (take l.slot-index l.slots))
