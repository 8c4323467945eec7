use Rattle.std.proofs.Common.{◌≡◌, ◌+◌, ◌≤◌, List, take}
use Rattle.judge_core.specs.declared.judgement.Judgement.{Judgement}
use Rattle.judged_rows.specs.ByNode.{IsByNode}
use Rattle.reaudit.specs.Relisted.{relisted_rows, relisted_cost}
use Rattle.reaudit.proofs.relisted.rows_relisted.Given as goal

abbrev pub invariant-loop-row : goal.invariant-loop-row
invariant-loop-row g l =
    record {
      rows : (js : List Judgement) → IsByNode js l.by_node → l.rows.items ≡ relisted_rows g.B.RuleBook.book l.info l.new js (take l.row-index l.own);
      counted : g.B.RuleBook.calls l.book ≤ g.B.RuleBook.calls l.initial.book + relisted_cost l.info (take l.row-index l.own);
    }
