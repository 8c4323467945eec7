use Rattle.std.proofs.Common.{◌≡◌, ◌+◌, ◌≤◌, List, length, map, take, filter}
use Rattle.std.specs.List.{filter_map, Contains}
use Rattle.std.specs.Option.{option_copied}
use Rattle.snap_tree.specs.Trees.{Document}
use Rattle.judge_core.specs.declared.judgement.Judgement.{Judgement}
use Rattle.judge_core.specs.Outcomes.{atomic_row}
use Rattle.judged_rows.specs.ByNode.{IsByNode}
use Rattle.rule_core.specs.Reach.{is_affected}
use Rattle.rule_core.specs.Local.{AreVersions}
use Rattle.reaudit.specs.Nodes.{AreKnown}
use Rattle.reaudit.specs.Before.{KeepsRows}
use Rattle.reaudit.proofs.again.placed_rows.Given as goal

abbrev pub invariant-loop-it : goal.invariant-loop-it
invariant-loop-it g l =
    let book = g.B.RuleBook.book in
    record {
      rows : (old : Document) (earlier js : List Judgement) → Contains book.infos l.info → AreVersions old l.new → AreKnown old l.new l.some → KeepsRows book l.info.no l.new (map option_copied l.before) old earlier → IsByNode js l.by_node
          → l.rows.items ≡ filter_map (λ p. atomic_row book l.new js l.info.no p.node) (take l.it-index l.some);
      counted : (old : Document) (earlier : List Judgement) → AreKnown old l.new l.some → KeepsRows book l.info.no l.new (map option_copied l.before) old earlier
          → g.B.RuleBook.calls l.book ≤ g.B.RuleBook.calls l.initial.book + length (filter (λ p. is_affected l.info (book.means l.info.no) old l.new p.node) (take l.it-index l.some));
      within : g.B.RuleBook.calls l.book ≤ g.B.RuleBook.calls l.initial.book + l.it-index;
    }
