use Rattle.std.proofs.Common.{arith}
use Rattle.reports.specs.TextReport.{is_known}
use Rattle.http_replies.specs.Shown.{row_data}
use Rattle.http_replies.proofs.Picked.{all_picked}
use Rattle.http_replies.proofs.outcomes.rows_value.Goals as goal

pub returns : goal.returns
returns c = all_picked (row_data c.args.infos.now) (is_known c.args.infos.now) c.args.rows.now c.loop-row.row-index _ (omega arith) (omega arith) c.loop-row.invariant
