use Rattle.acc_tree.proofs.Sighting.{height}
use Rattle.acc_tree.proofs.following.+is_above.Given as goal

abbrev pub decreases-is_above : goal.decreases-is_above
decreases-is_above l = height l.tree.now.trees l.parent
