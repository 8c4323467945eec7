use Rattle.std.proofs.Common.{◌≡◌, List, map}
use Rattle.judge_core.specs.declared.judgement.Judgement.{Judgement}
use Rattle.judge_core.specs.Outcomes.{row_of}
use Rattle.judged_rows.specs.ByNode.{IsByNode}
use Rattle.audit.proofs.atomic.rows_of.Given as goal

abbrev pub invariant-loop-found : goal.invariant-loop-found
invariant-loop-found l = (js : List Judgement) → IsByNode js l.by_node → l.rows.items ≡ map (λ v. row_of l.rule v.node js v.verdict) l.yielded
