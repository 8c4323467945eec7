use Rattle.std.proofs.Common.{◌∙◌, ap}
use Rattle.acc_tree.proofs.Sighting.{sight_with, sight_found, sight_none}
use Rattle.acc_tree.proofs.sights.sight_of.Goals as goal

pub returns-in-Some-below : goal.returns-in-Some-below
returns-in-Some-below c =
    ap (sight_with c.in-Some.row.now c.in-Some-below.below) c.above_children.ensures
    ∙ sight_found c.args.tree.now.trees c.law_of_climbing.ensures c.args.n c.in-Some.row.now c.in-Some-below.below c.in-Some.ensures.spot c.in-Some-below.ensures.below

pub returns-in-None : goal.returns-in-None
returns-in-None c = sight_none (λ s. s.row) c.args.tree.now.trees c.args.n c.in-None.ensures.spot
