use Rattle.std.proofs.Common.{◌≡◌, ◌++◌, ◌≤◌}
use Rattle.snap_tree.specs.Trees.{count}
use Rattle.acc_tree.specs.Seen.{seen}
use Rattle.acc_tree.specs.Sights.{aboves_in}
use Rattle.acc_tree.proofs.sights.+add_aboves.Given as goal

abbrev pub decreases-add_aboves : goal.decreases-add_aboves
decreases-add_aboves l = count l.trees

abbrev pub invariant-loop-branch : goal.invariant-loop-branch
invariant-loop-branch l =
    (count l.rest ≤ count l.fn.trees) × (l.list.items ++ aboves_in l.above (seen l.rest) ≡ l.fn.list.items ++ aboves_in l.fn.above (seen l.fn.trees))

abbrev pub decreases-loop-branch : goal.decreases-loop-branch
decreases-loop-branch l = count l.rest
