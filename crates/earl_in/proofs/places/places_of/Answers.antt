use Rattle.earl_in.proofs.Rows.{rows_more}
use Rattle.earl_in.proofs.places.places_of.Goals as goal

pub loop-row-preserved : goal.loop-row-preserved
loop-row-preserved c =
    rows_more c.args.rows.now c.loop-row.row-index c.row-item.result c.loop-row.places c.put.new.places c.loop-row-test.true c.row-item.is c.loop-row.invariant c.in_ok-put.ensures
