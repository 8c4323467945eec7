use Rattle.std.proofs.Common.{None, ◌∙◌}
use Rattle.acc_tree.specs.Roles.{role_at}
use Rattle.acc_tree.proofs.Sighting.{said_found, said_none}
use Rattle.acc_tree.proofs.pages.role.Goals as goal

pub returns-in-Some : goal.returns-in-Some
returns-in-Some c =
    let trees = c.args.tree.now.trees in
    c.role_in.ensures ∙ said_found role_at None trees c.law_of_climbing.ensures c.args.n c.in-Some.row.now c.in-Some.ensures.spot

pub returns-in-None : goal.returns-in-None
returns-in-None c = said_none role_at None c.args.tree.now.trees c.args.n c.in-None.ensures.spot
