use Rattle.std.proofs.Common.{None, ◌∙◌}
use Rattle.acc_tree.specs.Roles.{implicit}
use Rattle.acc_tree.proofs.Sighting.{said_found, said_none}
use Rattle.acc_tree.proofs.pages.implicit_role.Goals as goal

pub returns-in-Some : goal.returns-in-Some
returns-in-Some c =
    let trees = c.args.tree.now.trees in
    c.implicit_in.ensures ∙ said_found implicit None trees c.law_of_climbing.ensures c.args.n c.in-Some.row.now c.in-Some.ensures.spot

pub returns-in-None : goal.returns-in-None
returns-in-None c = said_none implicit None c.args.tree.now.trees c.args.n c.in-None.ensures.spot
