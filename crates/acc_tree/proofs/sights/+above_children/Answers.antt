use Rattle.std.proofs.Common.{sym, ◌∙◌, ap, arith}
use Rattle.acc_tree.specs.Frames.{under}
use Rattle.acc_tree.specs.Seen.{seen_row, seen}
use Rattle.acc_tree.specs.Sights.{above_children}
use Rattle.acc_tree.proofs.Sighting.{above_step, above_none, height, height_step}
use Rattle.acc_tree.proofs.sights.+above_children.Goals as goal

pub above_children-requires : goal.above_children-requires
above_children-requires t c =
    let trees = c.args.tree.now.trees in
    let less = height_step trees c.law_of_climbing.ensures c.in-Some.n c.in-Some-node.row.now c.in-Some-node.ensures.spot in
    let here = ap (height trees) c.in-Some.is in
    (omega (arith, less, here, c.decreases), tt)

pub returns-in-Some-node : goal.returns-in-Some-node
returns-in-Some-node t c =
    let trees = c.args.tree.now.trees in
    c.under.ensures ∙ ap (λ a. under a (seen_row c.in-Some-node.row.now)) c.above_children.ensures ∙ above_step trees c.law_of_climbing.ensures c.in-Some.n c.in-Some-node.row.now c.in-Some-node.ensures.spot
    ∙ ap (above_children (seen trees)) (sym c.in-Some.is)

pub returns-in-None : goal.returns-in-None
returns-in-None t c =
    c.nothing-in-None.ensures ∙ above_none c.args.tree.now.trees c.in-Some.n c.in-None.ensures.spot ∙ ap (above_children (seen c.args.tree.now.trees)) (sym c.in-Some.is)
