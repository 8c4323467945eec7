use Rattle.std.proofs.Common.{◌≡◌, List, map, take}
use Rattle.judge_core.specs.declared.judgement.Judgement.{Judgement}
use Rattle.judged_rows.specs.ByNode.{IsByNode}
use Rattle.judged_rows.specs.Again.{again}
use Rattle.audit.proofs.judged.rows_again.Given as goal

abbrev pub invariant-loop-row : goal.invariant-loop-row
invariant-loop-row l = (js : List Judgement) → IsByNode js l.by_node → l.now.items ≡ map (again js) (take l.row-index l.rows)
