use Rattle.acc_tree.proofs.Sighting.{height}
use Rattle.acc_tree.proofs.pages.+is_hidden_above.Given as goal

abbrev pub decreases-is_hidden_above : goal.decreases-is_hidden_above
decreases-is_hidden_above l = height l.tree.now.trees l.parent
