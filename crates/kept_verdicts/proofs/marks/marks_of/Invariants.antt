use Rattle.std.proofs.Common.{take}
use Rattle.kept_verdicts.specs.Verdicts.{AreMarked}
use Rattle.kept_verdicts.proofs.marks.marks_of.Given as goal

abbrev pub invariant-loop-row : goal.invariant-loop-row
invariant-loop-row l = AreMarked (take l.row-index l.rows) l.js l.marks.items
