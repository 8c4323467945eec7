use Rattle.std.proofs.Common.{◌++◌, filter, sym, ◌∙◌, ap, append_assoc, rules}
use Rattle.texts.specs.Words.{words}
use Rattle.acc_tree.specs.Following.{once, are_apart}
use Rattle.acc_tree.specs.References.{found}
use Rattle.acc_tree.specs.Seen.{seen}
use Rattle.acc_tree.proofs.Once.{left, first_kept, first_left, all_left}
use Rattle.acc_tree.proofs.following.follows.Goals as goal

pub loop-node-init : goal.loop-node-init
loop-node-init c =
    let trees = seen c.args.tree.now.trees in
    let apart = are_apart trees c.args.row.now.id in
    let all = found trees (words c.text_at-rest.result.now) in (
      search rules,
      ap (λ nodes. nodes ++ filter apart (left c.new-before.result all)) c.new-nodes.ensures.items ∙ ap (filter apart) (all_left c.new-before.result c.new-before.ensures.empty all)
          ∙ ap (λ text. filter apart (once (found trees (words text)))) c.text_at-rest.ensures,
    )

pub loop-node-preserved : goal.loop-node-preserved
loop-node-preserved c =
    let trees = seen c.args.tree.now.trees in
    let apart = are_apart trees c.args.row.now.id in
    let rest = found trees (words c.in-Some.later.now) in (
      search rules,
      ap (λ nodes. nodes ++ filter apart (left c.add_new.new.before rest)) c.in_ok-add_new.ensures.nodes
          ∙ append_assoc c.loop-node.nodes.items (first_kept apart c.loop-node.before c.in-Some.node) (filter apart (left c.add_new.new.before rest))
          ∙ ap (λ nodes. c.loop-node.nodes.items ++ nodes) (first_left apart c.loop-node.before c.add_new.new.before c.in-Some.node rest c.in_ok-add_new.ensures.before)
          ∙ ap (λ all. c.loop-node.nodes.items ++ filter apart (left c.loop-node.before all)) (sym c.in-Some.ensures.found)
          ∙ c.loop-node.invariant.1,
    )
