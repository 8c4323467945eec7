use Rattle.std.proofs.Common.{◌≡◌, Some, None, Option, sym, ◌∙◌, ap}
use Rattle.std.specs.Option.{option_or}
use Rattle.aria_tables.specs.declared.role.Role.{Role}
use Rattle.snap_tree.specs.declared.row.NodeId.{NodeId}
use Rattle.acc_tree.specs.Following.{rows_above}
use Rattle.acc_tree.specs.Pages.{role}
use Rattle.acc_tree.specs.Seen.{seen}
use Rattle.rules_more.specs.RequiredContext.{counting, nearest}
use Rattle.rules_more.proofs.Climbing.{climbed, climbed_none}
use Rattle.rules_more.proofs.contexts.+nearest_counting.Goals as goal

pub returns-in-Some-counting : goal.returns-in-Some-counting
returns-in-Some-counting t c =
    let trees = c.args.tree.now.trees in
    let passed = c.args.passed.now in
    let own : counting passed (role (seen trees) c.in-Some.n) ≡ Some c.in-Some-counting.role = ap (counting passed) (sym c.role.ensures) ∙ sym c.counting.ensures ∙ c.in-Some-counting.is in
    ap (λ (o : Option Role). option_or o (nearest passed (rows_above (seen trees) c.in-Some-node.row.now.parent))) (sym own)
    ∙ climbed passed trees c.law_of_climbing.ensures c.in-Some.n c.in-Some-node.row.now c.in-Some-node.ensures.spot
    ∙ ap (λ (p : Option NodeId). nearest passed (rows_above (seen trees) p)) (sym c.in-Some.is)

pub returns-in-None-counting : goal.returns-in-None-counting
returns-in-None-counting t c =
    let trees = c.args.tree.now.trees in
    let passed = c.args.passed.now in
    let own : counting passed (role (seen trees) c.in-Some.n) ≡ None = ap (counting passed) (sym c.role.ensures) ∙ sym c.counting.ensures ∙ c.in-None-counting.is in
    c.nearest_counting.ensures
    ∙ ap (λ (o : Option Role). option_or o (nearest passed (rows_above (seen trees) c.in-Some-node.row.now.parent))) (sym own)
    ∙ climbed passed trees c.law_of_climbing.ensures c.in-Some.n c.in-Some-node.row.now c.in-Some-node.ensures.spot
    ∙ ap (λ (p : Option NodeId). nearest passed (rows_above (seen trees) p)) (sym c.in-Some.is)

pub returns-in-None : goal.returns-in-None
returns-in-None t c =
    let trees = c.args.tree.now.trees in
    let passed = c.args.passed.now in
    climbed_none passed trees c.in-Some.n c.in-None.ensures.spot
    ∙ ap (λ (p : Option NodeId). nearest passed (rows_above (seen trees) p)) (sym c.in-Some.is)
