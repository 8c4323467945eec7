use Rattle.std.proofs.Common.{◌||◌, sym, ◌∙◌, ap, arith}
use Rattle.acc_tree.specs.Seen.{seen}
use Rattle.acc_tree.specs.Sights.{above_children}
use Rattle.acc_tree.proofs.Sighting.{above_step, above_none, height, height_step}
use Rattle.acc_tree.proofs.pages.+is_hidden_above.Goals as goal

pub is_hidden_above-requires : goal.is_hidden_above-requires
is_hidden_above-requires t c =
    let trees = c.args.tree.now.trees in
    let less = height_step trees c.law_of_climbing.ensures c.in-Some.n c.in-Some-node.row.now c.in-Some-node.ensures.spot in
    let here = ap (height trees) c.in-Some.is in
    (omega (arith, less, here, c.decreases), tt)

pub returns-in-Some-node : goal.returns-in-Some-node
returns-in-Some-node t c =
    let trees = c.args.tree.now.trees in
    ap (λ b. b || c.is_hidden.result) c.is_hidden_above.ensures ∙ ap (λ b. (above_children (seen trees) c.in-Some-node.row.now.parent).hidden || b) c.is_hidden.ensures
    ∙ ap (λ a. a.hidden) (above_step trees c.law_of_climbing.ensures c.in-Some.n c.in-Some-node.row.now c.in-Some-node.ensures.spot ∙ ap (above_children (seen trees)) (sym c.in-Some.is))

pub returns-in-None : goal.returns-in-None
returns-in-None t c = ap (λ a. a.hidden) (above_none c.args.tree.now.trees c.in-Some.n c.in-None.ensures.spot ∙ ap (above_children (seen c.args.tree.now.trees)) (sym c.in-Some.is))
