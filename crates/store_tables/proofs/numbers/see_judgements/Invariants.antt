use Rattle.std.proofs.Common.{take, All}
use Rattle.judge_core.specs.declared.judgement.Judgement.{Judgement}
use Rattle.store_tables.specs.Numbers.{AreNumbers}
use Rattle.store_tables.proofs.numbers.see_judgements.Given as goal

abbrev pub invariant-loop-j : goal.invariant-loop-j
invariant-loop-j l = All (λ (j : Judgement). AreNumbers j.rule.0 j.node.0) (take l.j-index l.js)
