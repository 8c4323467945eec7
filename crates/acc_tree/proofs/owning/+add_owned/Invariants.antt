use Rattle.std.proofs.Common.{◌≡◌, ◌++◌, ◌≤◌}
use Rattle.snap_tree.specs.Trees.{count}
use Rattle.acc_tree.specs.Seen.{seen}
use Rattle.acc_tree.specs.Owning.{owned_in, taken}
use Rattle.acc_tree.proofs.owning.+add_owned.Given as goal

abbrev pub decreases-add_owned : goal.decreases-add_owned
decreases-add_owned l = count l.trees

abbrev pub invariant-loop-row : goal.invariant-loop-row
invariant-loop-row l =
    (count l.rest ≤ count l.fn.trees)
    × (l.list.items ++ owned_in l.through 1 (taken l.through (seen l.tree.trees) 1) l.above (seen l.rest) ≡ l.fn.list.items ++ owned_in l.fn.through 1 (taken l.fn.through (seen l.fn.tree.trees) 1) l.fn.above (seen l.fn.trees))

abbrev pub decreases-loop-row : goal.decreases-loop-row
decreases-loop-row l = count l.rest
