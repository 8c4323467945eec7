use Rattle.std.proofs.Common.{◌≡◌, take}
use Rattle.std.specs.List.{filter_map}
use Rattle.rule_core.specs.Pages.{on_node}
use Rattle.rule_core.proofs.rule.Rule.judge_page.Given as goal

abbrev pub invariant-loop-row : goal.invariant-loop-row
invariant-loop-row g l = l.verdicts.items ≡ filter_map (λ row. on_node row.id (g.Self.Rule.means l.tree row.id)) (take l.row-index l.row-items)
