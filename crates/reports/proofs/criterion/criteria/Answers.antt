use Rattle.std.proofs.Common.{◌∙◌, ap}
use Rattle.reports.specs.Walking.{worse, result_in}
use Rattle.reports.proofs.Worst.{page_more}
use Rattle.reports.proofs.criterion.criteria.Goals as goal

pub loop-page-preserved : goal.loop-page-preserved
loop-page-preserved c =
    let of = c.args.c in
    let found = c.loop-page.found in
    page_more of c.args.pages.now c.loop-page.page-index c.page-item.result found c.worse-found.result c.loop-page-test.true c.page-item.is c.loop-page.invariant
    (c.worse-found.ensures ∙ ap (worse found) (c.on_page.ensures ∙ ap (result_in of) c.as_slice.ensures))
