use Rattle.std.proofs.Common.{◌≡◌, take}
use Rattle.std.specs.List.{filter_map}
use Rattle.rule_core.specs.Pages.{on_node}
use Rattle.rules_more.specs.LabelInName.{name_has_label}
use Rattle.rules_more.proofs.label_in_name.NameHasLabelRule.judge_page.Given as goal

abbrev pub invariant-loop-row : goal.invariant-loop-row
invariant-loop-row l = l.verdicts.items ≡ filter_map (λ row. on_node row.id (name_has_label l.tree row.id)) (take l.row-index l.row-items)
