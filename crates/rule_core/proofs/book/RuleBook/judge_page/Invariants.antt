use Rattle.std.proofs.Common.{◌≡◌, take}
use Rattle.std.specs.List.{filter_map}
use Rattle.counts.specs.Counts.{raised}
use Rattle.rule_core.specs.Pages.{on_node}
use Rattle.rule_core.proofs.book.RuleBook.judge_page.Given as goal

abbrev pub invariant-loop-row : goal.invariant-loop-row
invariant-loop-row g l =
    (l.verdicts.items ≡ filter_map (λ row. on_node row.id (g.Self.RuleBook.book.means l.rule l.tree row.id)) (take l.row-index l.row-items))
    × (g.Self.RuleBook.calls l.self ≡ raised (g.Self.RuleBook.calls l.fn.self) l.row-index)
