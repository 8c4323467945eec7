use Rattle.std.proofs.Common.{◌≡◌, Option, map, take, drop}
use Rattle.std.specs.List.{filter_map}
use Rattle.std.specs.Option.{option_copied}
use Rattle.snap_tree.specs.declared.row.NodeId.{NodeId}
use Rattle.judge_core.specs.declared.outcomes.OutRow.{OutRow}
use Rattle.judged_rows.specs.Merging.{AreOn}
use Rattle.reaudit.proofs.before.rows_before.Given as goal

abbrev pub invariant-loop-node : goal.invariant-loop-node
invariant-loop-node l =
    (f : NodeId → Option OutRow) → AreOn f → l.rows ≡ filter_map f (map (λ row. row.id) l.nodes) →
    (l.left ≡ filter_map f (map (λ row. row.id) (drop l.node-index l.nodes))) × (map option_copied l.before.items ≡ map (λ row. f row.id) (take l.node-index l.nodes))
