use Rattle.std.proofs.Common.{◌∙◌, ap}
use Rattle.reports.specs.SiteReport.{page_sums}
use Rattle.made_audit.proofs.Summing.{sums_more}
use Rattle.made_audit.proofs.sums.sums_of.Goals as goal

pub loop-page-preserved : goal.loop-page-preserved
loop-page-preserved c =
    sums_more c.args.infos.now c.args.pages.now c.loop-page.page-index c.page-item.result c.loop-page.sums c.page_sums-here.result _ c.loop-page-test.true c.page-item.is c.loop-page.invariant
    (c.page_sums-here.ensures ∙ ap (page_sums c.args.infos.now) c.as_slice.ensures) c.and-sums.ensures
