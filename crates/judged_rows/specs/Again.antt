-- Rows of outcomes that were found before, with their final outcomes anew.
use Rattle.std.specs.Prelude.{◌==◌, List, Bool}
use Rattle.rule_core.specs.declared.info.RuleNo.{RuleNo}
use Rattle.judge_core.specs.declared.judgement.Judgement.{Judgement}
use Rattle.judge_core.specs.declared.outcomes.OutRow.{OutRow}
use Rattle.judge_core.specs.Judgements.{final}

abbrev pub is_of_rule : RuleNo → OutRow → Bool
is_of_rule rule row = row.rule.0 == rule.0

-- the row of an atomic rule, as it is under these judgements
abbrev pub again : List Judgement → OutRow → OutRow
again js row =
    let judged = final row.auto row.rule row.node row.evidence js in
    record { rule = row.rule; node = row.node; auto = row.auto; reason = row.reason; evidence = row.evidence; last = judged.last; hand = judged.hand }
