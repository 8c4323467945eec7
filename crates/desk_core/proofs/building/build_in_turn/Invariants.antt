use Rattle.std.proofs.Common.{◌≡◌, ◌++◌, length, map}
use Rattle.desk_core.specs.Imports.{first_fault}
use Rattle.desk_core.specs.Placing.{entries_of, work_of}
use Rattle.desk_core.proofs.building.build_in_turn.Given as goal

abbrev pub invariant-loop-first : goal.invariant-loop-first
invariant-loop-first l =
    (l.works.items ++ map work_of l.left.items ≡ map work_of l.fn.placed.items)
    × (first_fault (entries_of l.left.items) ≡ first_fault (entries_of l.fn.placed.items))

abbrev pub decreases-loop-first : goal.decreases-loop-first
decreases-loop-first l = length l.left.items
