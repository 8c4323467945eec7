use Rattle.std.proofs.Common.{[], cond, map, ap, ◌∙◌, arith}
use Rattle.std.proofs.lemmas.List.{take_all}
use Rattle.rule_core.specs.Infos.{is_atomic}
use Rattle.judge_core.specs.Outcomes.{composite_rows}
use Rattle.judged_rows.specs.declared.parts.RulePart.{RulePart}
use Rattle.judged_rows.proofs.parts.all_merged.Goals as goal

pub returns : goal.returns
returns c =
    λ book page js says are.
    c.loop-part.invariant book page js says are ∙ ap (map (λ (p : RulePart). cond (is_atomic p.info) [] (composite_rows book page js p.info))) (take_all c.loop-part.part-index c.args.parts.now (omega arith))
