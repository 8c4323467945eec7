use Rattle.std.proofs.Common.{◌≡◌, ◌++◌, ◌≤◌}
use Rattle.snap_tree.specs.Trees.{count}
use Rattle.acc_tree.specs.Seen.{seen}
use Rattle.rules_more.specs.Contexts.{verdicts_in}
use Rattle.rules_more.proofs.required_context.+add_verdicts.Given as goal

abbrev pub decreases-add_verdicts : goal.decreases-add_verdicts
decreases-add_verdicts l = count l.trees

abbrev pub invariant-loop-branch : goal.invariant-loop-branch
invariant-loop-branch l =
    (count l.rest ≤ count l.fn.trees)
    × (l.verdicts.items ++ verdicts_in l.above l.contexts (seen l.rest) ≡ l.fn.verdicts.items ++ verdicts_in l.fn.above l.fn.contexts (seen l.fn.trees))

abbrev pub decreases-loop-branch : goal.decreases-loop-branch
decreases-loop-branch l = count l.rest
