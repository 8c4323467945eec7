use Rattle.std.proofs.Common.{◌≡◌, Option, map, take}
use Rattle.std.specs.List.{filter_map, AllByRecursion}
use Rattle.snap_tree.specs.declared.row.NodeId.{NodeId}
use Rattle.rule_core.specs.declared.info.RuleNo.{RuleNo}
use Rattle.judge_core.specs.declared.outcomes.OutRow.{OutRow}
use Rattle.judge_core.specs.Outcomes.{inputs_of, rules_among}
use Rattle.judged_rows.specs.Merging.{AreOn, slot_of}
use Rattle.judged_rows.specs.Parts.{rows_found}
use Rattle.judged_rows.proofs.composite.all_slots.Given as goal

abbrev pub invariant-loop-number : goal.invariant-loop-number
invariant-loop-number l =
    (f : RuleNo → NodeId → Option OutRow) → ((rule : RuleNo) → AreOn (f rule)) → AllByRecursion (λ input. rows_found l.parts input.0 ≡ filter_map (f input) l.nodes) (inputs_of l.info) →
    l.slots.items ≡ map (slot_of f (rules_among (take l.number-index l.number-items))) l.nodes
