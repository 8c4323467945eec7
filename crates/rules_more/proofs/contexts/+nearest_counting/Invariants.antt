use Rattle.acc_tree.proofs.Sighting.{height}
use Rattle.rules_more.proofs.contexts.+nearest_counting.Given as goal

abbrev pub decreases-nearest_counting : goal.decreases-nearest_counting
decreases-nearest_counting l = height l.tree.now.trees l.parent
