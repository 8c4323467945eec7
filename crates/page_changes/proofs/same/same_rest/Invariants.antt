use Rattle.std.proofs.Common.{◌≡◌}
use Rattle.std.specs.Cmp.Lexicographic.{pointwise}
use Rattle.snap_tree.specs.Trees.{count}
use Rattle.acc_tree.specs.Seen.{seen}
use Rattle.page_keys.specs.Keys.{root_numbers}
use Rattle.page_keys.specs.Same.{same_node}
use Rattle.page_changes.proofs.same.same_rest.Given as goal

abbrev pub invariant-loop-one : goal.invariant-loop-one
invariant-loop-one l = pointwise same_node (root_numbers (seen l.left)) (root_numbers (seen l.right)) ≡ pointwise same_node (root_numbers (seen l.fn.a)) (root_numbers (seen l.fn.b))

abbrev pub decreases-loop-one : goal.decreases-loop-one
decreases-loop-one l = count l.left
