use Rattle.std.proofs.Common.{◌++◌, ◌∙◌, ap, arith}
use Rattle.judge_core.proofs.Lists.{flat_map_more}
use Rattle.keep_core.specs.declared.page.SitePage.{SitePage}
use Rattle.reports.specs.Earl.{page_assertions}
use Rattle.reports.specs.Writing.{tokens_of, all_tokens}
use Rattle.reports.proofs.Chosen.{flat_map_parts, flat_map_walked}
use Rattle.reports.proofs.assertions.push_pages.Goals as goal

pub loop-page-preserved : goal.loop-page-preserved
loop-page-preserved c =
    let told = c.in_ok-push_page.ensures in
    let before = c.loop-page.writer.tokens in (
      told.before ∙ c.loop-page.invariant.0,
      flat_map_more (λ page. all_tokens (page_assertions c.args.infos.now page)) c.args.pages.now c.loop-page.page-index c.page-item.result c.args.writer.now.tokens before c.push_page.new.writer.tokens c.loop-page-test.true
          c.loop-page.invariant.1 (told.tokens ∙ ap (λ (p : SitePage). before ++ all_tokens (page_assertions c.args.infos.now p)) c.page-item.is),
    )

pub returns-clause-tokens : goal.returns-clause-tokens
returns-clause-tokens c =
    flat_map_walked (λ page. all_tokens (page_assertions c.args.infos.now page)) c.args.pages.now c.loop-page.page-index _ _ _ (omega arith) (omega arith)
    (flat_map_parts tokens_of (page_assertions c.args.infos.now) c.args.pages.now) c.loop-page.invariant.1
