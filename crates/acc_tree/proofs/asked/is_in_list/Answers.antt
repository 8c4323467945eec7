use Rattle.std.proofs.Common.{sym, ◌∙◌, ap}
use Rattle.acc_tree.specs.Frames.{holds_items}
use Rattle.acc_tree.specs.Seen.{seen}
use Rattle.acc_tree.specs.Sights.{above_children}
use Rattle.acc_tree.proofs.Sighting.{above_step, above_none}
use Rattle.acc_tree.proofs.asked.is_in_list.Goals as goal

pub returns-in-Some-node : goal.returns-in-Some-node
returns-in-Some-node c =
    let trees = c.args.tree.now.trees in
    c.holds_items.ensures ∙ ap holds_items c.html_tag.ensures
    ∙ ap (λ a. a.in_list) (above_step trees c.law_of_climbing.ensures c.in-Some.n c.in-Some-node.row.now c.in-Some-node.ensures.spot ∙ ap (above_children (seen trees)) (sym c.in-Some.is))

pub returns-in-None : goal.returns-in-None
returns-in-None c = ap (λ a. a.in_list) (above_none c.args.tree.now.trees c.in-Some.n c.in-None.ensures.spot ∙ ap (above_children (seen c.args.tree.now.trees)) (sym c.in-Some.is))
