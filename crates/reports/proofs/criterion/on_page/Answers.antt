use Rattle.reports.proofs.Worst.{row_more}
use Rattle.reports.proofs.criterion.on_page.Goals as goal

pub loop-row-preserved : goal.loop-row-preserved
loop-row-preserved c =
    row_more c.args.c c.args.rows.now c.loop-row.row-index c.row-item.result c.loop-row.found c.with_row-found.result c.loop-row-test.true c.row-item.is c.loop-row.invariant c.with_row-found.ensures
