use Rattle.kept_verdicts.proofs.MarkSteps.{marks_step}
use Rattle.kept_verdicts.proofs.marks.marks_of.Goals as goal

pub loop-row-preserved : goal.loop-row-preserved
loop-row-preserved c =
    marks_step c.args.rows.now c.args.js.now c.loop-row.row-index c.row-item.result c.row-item.result c.counting_place-place.result _ _ c.loop-row-test.true c.row-item.is
    c.counting_place-place.ensures c.loop-row.invariant c.mark.ensures
