use Rattle.std.proofs.Common.{map, take}
use Rattle.rules_tables.specs.Heads.{Keeps}
use Rattle.rules_tables.specs.Survey.{seen_placed}
use Rattle.rules_tables.proofs.heads.Cells.of.Given as goal

abbrev pub invariant-loop-one : goal.invariant-loop-one
invariant-loop-one l = Keeps l.cells (map seen_placed (take l.one-index l.placed))
