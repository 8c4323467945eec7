use Rattle.std.proofs.Common.{◌≡◌, ◌++◌, filter, length}
use denote.Text.{Utf8}
use denote.Shadow.{shadow}
use Rattle.texts.specs.Words.{words}
use Rattle.acc_tree.specs.Following.{are_apart, follows as followed_ones}
use Rattle.acc_tree.specs.References.{found}
use Rattle.acc_tree.specs.Seen.{seen, seen_row}
use Rattle.acc_tree.proofs.Once.{left}
use Rattle.acc_tree.proofs.following.follows.Given as goal

abbrev pub invariant-loop-node : goal.invariant-loop-node
invariant-loop-node l =
    shadow (Utf8 l.rest)
    × (l.nodes.items ++ filter (are_apart (seen l.tree.trees) l.row.id) (left l.before (found (seen l.tree.trees) (words l.rest))) ≡ followed_ones (seen l.tree.trees) (seen_row l.row))

abbrev pub decreases-loop-node : goal.decreases-loop-node
decreases-loop-node l = length l.rest
