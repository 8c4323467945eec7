use Rattle.std.proofs.Common.{◌++◌, arith}
use Rattle.reports.specs.TextReport.{is_of, row_line}
use Rattle.reports.proofs.Chosen.{all_walked}
use Rattle.reports.proofs.text.push_rows.Goals as goal

pub returns : goal.returns
returns c =
    let info = c.args.info.now in
    all_walked (λ row. info.id ++ row_line row) (is_of info) c.args.rows.now c.loop-row.row-index _ _ (omega arith) (omega arith) c.loop-row.invariant
