use Rattle.std.proofs.Common.{◌++◌, ◌∙◌, ap}
use Rattle.judge_core.proofs.Lists.{flat_map_more}
use Rattle.keep_core.specs.declared.page.SitePage.{SitePage}
use Rattle.reports.specs.SiteReport.{page_line}
use Rattle.reports.proofs.Summing.{sums_more}
use Rattle.reports.proofs.site.push_pages.Goals as goal

pub loop-page-preserved : goal.loop-page-preserved
loop-page-preserved c =
    let infos = c.args.infos.now in
    let pages = c.args.pages.now in
    let i = c.loop-page.page-index in
    let page = c.page-item.result in
    let lines = c.loop-page.report.items in
    let told = c.in_ok-here.ensures in (
      flat_map_more (page_line infos) pages i page c.args.report.now.items lines c.push_page.new.report.items c.loop-page-test.true c.loop-page.invariant.0
          (told.line ∙ ap (λ (p : SitePage). lines ++ page_line infos p) c.page-item.is),
      sums_more infos pages i page c.loop-page.sums c.in_ok-here.here c.and-sums.result c.loop-page-test.true c.page-item.is c.loop-page.invariant.1 told.sums c.and-sums.ensures,
    )
