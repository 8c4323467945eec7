use Rattle.std.proofs.Common.{take}
use Rattle.reaudit.specs.Marks.{AreMarked}
use Rattle.reaudit.proofs.marks.marks_of.Given as goal

abbrev pub invariant-loop-row : goal.invariant-loop-row
invariant-loop-row l = AreMarked l.marks.items (take l.row-index l.rows)
