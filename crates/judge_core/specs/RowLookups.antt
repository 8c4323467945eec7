-- The row of a rule on a node, in the outcomes of a page.
use Rattle.std.specs.Prelude.{List, ◌&&◌, ◌==◌, Bool, Option}
use Rattle.std.specs.List.{find}
use Rattle.snap_tree.specs.declared.row.NodeId.{NodeId}
use Rattle.rule_core.specs.declared.info.RuleNo.{RuleNo}
use Rattle.judge_core.specs.declared.outcomes.OutRow.{OutRow}

abbrev pub is_row_on : RuleNo → NodeId → OutRow → Bool
is_row_on rule node row = row.rule.0 == rule.0 && row.node.0 == node.0

abbrev pub row_at : RuleNo → NodeId → List OutRow → Option OutRow
row_at rule node rows = find (is_row_on rule node) rows
