use Rattle.std.proofs.Common.{◌∙◌}
use Rattle.acc_tree.proofs.Ancestors.{ancestor_found, ancestor_none}
use Rattle.acc_tree.proofs.following.is_ancestor.Goals as goal

pub returns-in-Some : goal.returns-in-Some
returns-in-Some c =
    c.is_above.ensures ∙ ancestor_found c.args.tree.now.trees c.law_of_climbing.ensures c.args.n c.args.m c.in-Some.row.now c.in-Some.ensures.spot

pub returns-in-None : goal.returns-in-None
returns-in-None c = ancestor_none c.args.tree.now.trees c.args.n c.args.m c.in-None.ensures.spot
