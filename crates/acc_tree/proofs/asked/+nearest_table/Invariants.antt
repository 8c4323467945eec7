use Rattle.acc_tree.proofs.Sighting.{height}
use Rattle.acc_tree.proofs.asked.+nearest_table.Given as goal

abbrev pub decreases-nearest_table : goal.decreases-nearest_table
decreases-nearest_table l = height l.tree.now.trees l.parent
