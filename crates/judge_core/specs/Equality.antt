-- When two values are equal, as `==` says.
use Rattle.std.specs.Prelude.{Bool}
use Rattle.judge_core.specs.declared.judgement.Judgement.{Judgement}
use Rattle.judge_core.specs.declared.outcomes.OutRow.{OutRow}
use Rattle.judge_core.specs.declared.outcomes.Outcomes.{Outcomes}
use Rattle.judge_core.specs.contracts.judgement.JudgementPartialEq.TheImpl as judgement
use Rattle.judge_core.specs.contracts.outcomes.OutRowPartialEq.TheImpl as row
use Rattle.judge_core.specs.contracts.outcomes.OutcomesPartialEq.TheImpl as outcomes

-- `==` of judgements, of rows, and of outcomes

abbrev pub same_judgement : Judgement → Judgement → Bool
same_judgement = (judgement.ghosts).eq

abbrev pub same_row : OutRow → OutRow → Bool
same_row = (row.ghosts).eq

abbrev pub same_outcomes : Outcomes → Outcomes → Bool
same_outcomes = (outcomes.ghosts).eq
