use Rattle.std.proofs.Common.{◌≡◌, ◌+◌, ◌≤◌, List, map, take}
use Rattle.std.specs.List.{AllByRecursion}
use Rattle.judge_core.specs.declared.judgement.Judgement.{Judgement}
use Rattle.judge_core.specs.Outcomes.{judgings}
use Rattle.judged_rows.specs.ByNode.{IsByNode}
use Rattle.judged_rows.specs.Parts.{IsPart}
use Rattle.audit.proofs.page.parts_of.Given as goal

abbrev pub invariant-loop-info : goal.invariant-loop-info
invariant-loop-info g l =
    (map (λ p. p.info) l.parts.items ≡ take l.info-index l.infos)
    × ((js : List Judgement) → IsByNode js l.by_node → AllByRecursion (IsPart g.B.RuleBook.book l.tree js) l.parts.items)
    × (g.B.RuleBook.calls l.book ≤ g.B.RuleBook.calls l.initial.book + judgings (record { infos = take l.info-index l.infos; means = g.B.RuleBook.book.means }) l.tree)
