use Rattle.std.proofs.Common.{false, ◌∙◌}
use Rattle.acc_tree.specs.Inclusion.{included}
use Rattle.acc_tree.proofs.Sighting.{said_found, said_none}
use Rattle.acc_tree.proofs.pages.included.Goals as goal

pub returns-in-Some : goal.returns-in-Some
returns-in-Some c =
    let trees = c.args.tree.now.trees in
    c.included_in.ensures ∙ said_found included false trees c.law_of_climbing.ensures c.args.n c.in-Some.row.now c.in-Some.ensures.spot

pub returns-in-None : goal.returns-in-None
returns-in-None c = said_none included false c.args.tree.now.trees c.args.n c.in-None.ensures.spot
