use Rattle.std.specs.Option.{option_copied}
use Rattle.acc_tree.proofs.Sighting.{row_seen}
use Rattle.acc_tree.proofs.sights.row_of.Goals as goal

pub returns : goal.returns
returns c = row_seen c.args.tree.now.trees c.args.n (option_copied c.node.result) c.node.ensures.spot
