use Rattle.std.proofs.Common.{◌≡◌, ◌+◌, ◌≤◌, List, map, take, drop}
use Rattle.std.specs.List.{sum_by, flat_map, AllByRecursion}
use Rattle.judge_core.specs.declared.judgement.Judgement.{Judgement}
use Rattle.judge_core.specs.Outcomes.{rule_rows, outcomes}
use Rattle.judged_rows.specs.ByNode.{IsByNode}
use Rattle.judged_rows.specs.Parts.{IsPart}
use Rattle.reaudit.specs.Costs.{affected_cost, whole_cost}
use Rattle.reaudit.specs.Marks.{AreMarked}
use Rattle.reaudit.proofs.edited.parts_again.Given as goal

abbrev pub invariant-loop-info : goal.invariant-loop-info
invariant-loop-info g l =
    let book = g.B.RuleBook.book in
    record {
      infos : map (λ p. p.info) l.parts.items ≡ take l.info-index l.infos;
      left : (earlier : List Judgement) → l.rows ≡ outcomes book l.old earlier → l.left ≡ flat_map (rule_rows book l.old earlier) (drop l.info-index l.infos);
      marked : AreMarked l.nodes.marks.items l.left;
      parts : (earlier js : List Judgement) → l.rows ≡ outcomes book l.old earlier → IsByNode js l.by_node → AllByRecursion (IsPart book l.new js) l.parts.items;
      counted : (earlier : List Judgement) → l.rows ≡ outcomes book l.old earlier → g.B.RuleBook.calls l.book ≤ g.B.RuleBook.calls l.initial.book + sum_by (affected_cost book l.old l.new) (take l.info-index l.infos);
      within : g.B.RuleBook.calls l.book ≤ g.B.RuleBook.calls l.initial.book + sum_by (whole_cost l.new) (take l.info-index l.infos);
    }
