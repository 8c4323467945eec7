use Rattle.std.proofs.Common.{sym, ◌∙◌, ap, arith}
use Rattle.std.specs.List.{list_any}
use Rattle.snap_tree.specs.Rows.{has_number}
use Rattle.acc_tree.specs.Following.{rows_above}
use Rattle.acc_tree.specs.Seen.{seen}
use Rattle.acc_tree.proofs.Sighting.{height, height_step}
use Rattle.acc_tree.proofs.Ancestors.{rows_step, rows_none, any_here, any_further}
use Rattle.acc_tree.proofs.following.+is_above.Goals as goal

pub is_above-requires : goal.is_above-requires
is_above-requires t c =
    let trees = c.args.tree.now.trees in
    let less = height_step trees c.law_of_climbing.ensures c.in-Some.p c.in-Some-node.row.now c.in-Some-node.ensures.spot in
    let here = ap (height trees) c.in-Some.is in
    (omega (arith, less, here, c.decreases), tt)

pub returns-then-row-n : goal.returns-then-row-n
returns-then-row-n t c =
    let trees = c.args.tree.now.trees in
    any_here c.args.n c.in-Some-node.row.now (rows_above (seen trees) c.in-Some-node.row.now.parent) c.if-row-n.true
    ∙ ap (list_any (has_number c.args.n)) (rows_step trees c.law_of_climbing.ensures c.in-Some.p c.in-Some-node.row.now c.in-Some-node.ensures.spot ∙ ap (rows_above (seen trees)) (sym c.in-Some.is))

pub returns-else-row-n : goal.returns-else-row-n
returns-else-row-n t c =
    let trees = c.args.tree.now.trees in
    c.is_above.ensures ∙ any_further c.args.n c.in-Some-node.row.now (rows_above (seen trees) c.in-Some-node.row.now.parent) c.if-row-n.false
    ∙ ap (list_any (has_number c.args.n)) (rows_step trees c.law_of_climbing.ensures c.in-Some.p c.in-Some-node.row.now c.in-Some-node.ensures.spot ∙ ap (rows_above (seen trees)) (sym c.in-Some.is))

pub returns-in-None : goal.returns-in-None
returns-in-None t c =
    let trees = c.args.tree.now.trees in
    ap (list_any (has_number c.args.n)) (rows_none trees c.in-Some.p c.in-None.ensures.spot ∙ ap (rows_above (seen trees)) (sym c.in-Some.is))
