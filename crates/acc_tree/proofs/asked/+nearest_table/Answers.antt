use Rattle.std.proofs.Common.{sym, ◌∙◌, ap, arith}
use Rattle.acc_tree.specs.Frames.{is_table}
use Rattle.acc_tree.specs.Seen.{seen_row, seen}
use Rattle.acc_tree.specs.Sights.{above_children}
use Rattle.acc_tree.proofs.Asking.{is_nearest, not_nearest}
use Rattle.acc_tree.proofs.Sighting.{above_step, above_none, height, height_step}
use Rattle.acc_tree.proofs.asked.+nearest_table.Goals as goal

pub nearest_table-requires : goal.nearest_table-requires
nearest_table-requires t c =
    let trees = c.args.tree.now.trees in
    let less = height_step trees c.law_of_climbing.ensures c.in-Some.n c.in-Some-node.row.now c.in-Some-node.ensures.spot in
    let here = ap (height trees) c.in-Some.is in
    (omega (arith, less, here, c.decreases), tt)

pub returns-then-is_table : goal.returns-then-is_table
returns-then-is_table t c =
    let trees = c.args.tree.now.trees in
    let row = c.in-Some-node.row.now in
    let is = sym (c.is_table.ensures ∙ ap is_table c.html_tag.ensures) ∙ c.if-is_table.true in
    is_nearest (above_children (seen trees) row.parent) (seen_row row) is
    ∙ ap (λ a. a.table) (above_step trees c.law_of_climbing.ensures c.in-Some.n row c.in-Some-node.ensures.spot ∙ ap (above_children (seen trees)) (sym c.in-Some.is))

pub returns-else-is_table : goal.returns-else-is_table
returns-else-is_table t c =
    let trees = c.args.tree.now.trees in
    let row = c.in-Some-node.row.now in
    let not = sym (c.is_table.ensures ∙ ap is_table c.html_tag.ensures) ∙ c.if-is_table.false in
    c.nearest_table.ensures ∙ not_nearest (above_children (seen trees) row.parent) (seen_row row) not
    ∙ ap (λ a. a.table) (above_step trees c.law_of_climbing.ensures c.in-Some.n row c.in-Some-node.ensures.spot ∙ ap (above_children (seen trees)) (sym c.in-Some.is))

pub returns-in-None : goal.returns-in-None
returns-in-None t c = ap (λ a. a.table) (above_none c.args.tree.now.trees c.in-Some.n c.in-None.ensures.spot ∙ ap (above_children (seen c.args.tree.now.trees)) (sym c.in-Some.is))
