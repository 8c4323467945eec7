use Rattle.acc_tree.proofs.Sighting.{height}
use Rattle.acc_tree.proofs.sights.+above_children.Given as goal

abbrev pub decreases-above_children : goal.decreases-above_children
decreases-above_children l = height l.tree.now.trees l.parent
