use Rattle.std.proofs.Common.{take}
use Rattle.page_changes.specs.References.{AreNaming}
use Rattle.page_changes.proofs.labels.labels_among.Given as goal

abbrev pub invariant-loop-row : goal.invariant-loop-row
invariant-loop-row l = AreNaming (take l.row-index l.rows) l.labels
