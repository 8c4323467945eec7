use Rattle.std.proofs.Common.{take}
use Rattle.snap_tree.specs.Groups.{AreGroups}
use Rattle.snap_tree.proofs.groups.groups_of.Given as goal

abbrev pub invariant-loop-row : goal.invariant-loop-row
invariant-loop-row l = AreGroups l.key l.groups (take l.row-index l.rows)
