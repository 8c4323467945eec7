use Rattle.std.proofs.Common.{None, ◌∙◌}
use Rattle.acc_tree.specs.Roles.{explicit}
use Rattle.acc_tree.proofs.Sighting.{said_found, said_none}
use Rattle.acc_tree.proofs.pages.explicit_role.Goals as goal

pub returns-in-Some : goal.returns-in-Some
returns-in-Some c =
    let trees = c.args.tree.now.trees in
    c.explicit_at.ensures ∙ said_found (λ _ row. explicit row) None trees c.law_of_climbing.ensures c.args.n c.in-Some.row.now c.in-Some.ensures.spot

pub returns-in-None : goal.returns-in-None
returns-in-None c = said_none (λ _ row. explicit row) None c.args.tree.now.trees c.args.n c.in-None.ensures.spot
