use Rattle.std.proofs.Common.{◌≡◌, take}
use Rattle.std.specs.List.{filter_map}
use Rattle.rule_core.specs.Pages.{on_node}
use Rattle.rules_tables.specs.HeadersReferToCells.{headers_refer_to_cells}
use Rattle.rules_tables.proofs.headers_refer_to_cells.HeadersReferToCellsRule.judge_page.Given as goal

abbrev pub invariant-loop-row : goal.invariant-loop-row
invariant-loop-row l = l.verdicts.items ≡ filter_map (λ row. on_node row.id (headers_refer_to_cells l.tree row.id)) (take l.row-index l.row-items)
