use Rattle.std.proofs.Common.{◌∙◌, arith}
use Rattle.judge_core.proofs.Lists.{flat_map_more}
use Rattle.reports.specs.Earl.{rule_assertions}
use Rattle.reports.specs.Writing.{tokens_of, all_tokens}
use Rattle.reports.proofs.Chosen.{flat_map_parts, flat_map_walked}
use Rattle.reports.proofs.assertions.push_page.Goals as goal

pub loop-info-preserved : goal.loop-info-preserved
loop-info-preserved c =
    let told = c.in_ok-push_rule.ensures in
    let before = c.loop-info.writer.tokens in (
      told.before ∙ c.loop-info.invariant.0,
      flat_map_more (λ info. all_tokens (rule_assertions c.args.page.now info)) c.args.infos.now c.loop-info.info-index _ c.args.writer.now.tokens before c.push_rule.new.writer.tokens c.loop-info-test.true
          c.loop-info.invariant.1 told.tokens,
    )

pub returns-clause-tokens : goal.returns-clause-tokens
returns-clause-tokens c =
    flat_map_walked (λ info. all_tokens (rule_assertions c.args.page.now info)) c.args.infos.now c.loop-info.info-index _ _ _ (omega arith) (omega arith)
    (flat_map_parts tokens_of (rule_assertions c.args.page.now) c.args.infos.now) c.loop-info.invariant.1
