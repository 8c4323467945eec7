use Rattle.std.proofs.Common.{arith}
use Rattle.snap_json.proofs.StraightRows.{row_takes}
use Rattle.snap_json.proofs.straight.take_row.Goals as goal

pub returns : goal.returns
returns c =
    row_takes c.args.reader.now c.begin_object.new.reader c.take_members.new.reader c.in_ok-members.members c.in_ok-row.row (grind arith) c.in_ok-members.ensures c.in_ok-row.ensures
