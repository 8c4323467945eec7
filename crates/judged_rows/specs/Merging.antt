-- How the rows of a composite rule come of its inputs' rows, one input after another.
use Rattle.std.specs.Prelude.{◌≡◌, ◌==◌, List, [], ◌∷◌, map, if◌then◌else◌, Option, Some, None, option_map, IfSome}
use Rattle.std.specs.List.{filter_map}
use Rattle.snap_tree.specs.declared.row.NodeId.{NodeId}
use Rattle.rule_core.specs.declared.info.RuleNo.{RuleNo}
use Rattle.rule_core.specs.declared.reason.Reason.TheVariants.{Merged}
use Rattle.judge_core.specs.declared.outcomes.OutRow.{OutRow}
use Rattle.judge_core.specs.Composites.{merge}
use Rattle.judged_rows.specs.declared.composite.Found.{Found}
use Rattle.judged_rows.specs.declared.composite.Slot.{Slot}

-- what some rows on a node merge to: nothing, where there are none
abbrev pub merged : List OutRow → Option Found
merged [] = None
merged (row ∷ rows) = Some (record { auto = merge (map (λ r. r.auto) (row ∷ rows)); last = merge (map (λ r. r.last) (row ∷ rows)) })

-- what was found, with one more row
abbrev pub with_row : Option Found → Option OutRow → Option Found
with_row found None = found
with_row None (Some row) = Some (record { auto = row.auto; last = row.last })
with_row (Some found) (Some row) = Some (record { auto = merge (found.auto ∷ row.auto ∷ []); last = merge (found.last ∷ row.last ∷ []) })

-- the leading row, where it is on this node
abbrev pub head_on : NodeId → List OutRow → Option OutRow
head_on node [] = None
head_on node (row ∷ rows) = if row.node.0 == node.0 then Some row else None

-- the rows after it
abbrev pub after : NodeId → List OutRow → List OutRow
after node [] = []
after node (row ∷ rows) = if row.node.0 == node.0 then rows else row ∷ rows

-- rows of nodes, each on its own
abbrev pub AreOn : (NodeId → Option OutRow) → Type 0
AreOn f = (n : NodeId) → IfSome (f n) (λ row. row.node ≡ n)

-- a slot with the row that an input has there
abbrev pub filled_by : (NodeId → Option OutRow) → Slot → Slot
filled_by f slot = record { node = slot.node; found = with_row slot.found (f slot.node) }

-- the slot of a node with the rows that inputs have there
abbrev pub slot_of : (RuleNo → NodeId → Option OutRow) → List RuleNo → NodeId → Slot
slot_of f inputs n = record { node = n; found = merged (filter_map (λ input. f input n) inputs) }

-- the row of a composite rule in a slot where something was found
abbrev pub slot_row : RuleNo → Slot → Option OutRow
slot_row rule slot =
    option_map (λ found. record { rule = rule; node = slot.node; auto = found.auto; reason = Merged; evidence = []; last = found.last; hand = [] }) slot.found
