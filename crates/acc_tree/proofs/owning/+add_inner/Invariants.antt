use Rattle.std.proofs.Common.{◌≡◌, ◌++◌, ◌≤◌}
use Rattle.snap_tree.specs.Trees.{count}
use Rattle.acc_tree.specs.Seen.{seen}
use Rattle.acc_tree.specs.Owning.{owned_in, takes_nothing}
use Rattle.acc_tree.proofs.owning.+add_inner.Given as goal

abbrev pub decreases-add_inner : goal.decreases-add_inner
decreases-add_inner l = count l.trees

abbrev pub invariant-loop-row : goal.invariant-loop-row
invariant-loop-row l =
    (count l.rest ≤ count l.fn.trees) × (l.list.items ++ owned_in l.through 0 takes_nothing l.above (seen l.rest) ≡ l.fn.list.items ++ owned_in l.fn.through 0 takes_nothing l.fn.above (seen l.fn.trees))

abbrev pub decreases-loop-row : goal.decreases-loop-row
decreases-loop-row l = count l.rest
