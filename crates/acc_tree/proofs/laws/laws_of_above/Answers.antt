use Rattle.acc_tree.proofs.Nearest.{tells_nearest}
use Rattle.acc_tree.proofs.laws.laws_of_above.Goals as goal

pub returns : goal.returns
returns c = tells_nearest
