use Rattle.std.proofs.Common.{take}
use Rattle.snap_edit.specs.Taken.{AreNumbers}
use Rattle.snap_edit.proofs.taken.numbers_of.Given as goal

abbrev pub invariant-loop-row : goal.invariant-loop-row
invariant-loop-row l = AreNumbers l.numbers (take l.row-index l.rows)
