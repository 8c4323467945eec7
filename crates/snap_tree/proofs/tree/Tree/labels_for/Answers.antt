use Rattle.std.proofs.Common.{sym, ◌∙◌, ap, arith}
use Rattle.snap_tree.specs.Labels.{labels_for}
use Rattle.snap_tree.proofs.Weights.{labelled, labels_of_stranger, all_labels_grouped}
use Rattle.snap_tree.proofs.tree.Tree.labels_for.Goals as goal

pub index-row-requires : goal.index-row-requires
index-row-requires c =
    let at = labelled c.page-page.result.now.rows.items c.page-page.result.now.index.outer.items c.args.n c.in-Some.place c.page-page.result.now.kept.indexed.outer (sym (c.page-page.result.now.kept.indexed.placed c.args.n.0) ∙ sym c.in-Some.ensures) in
    omega (arith, at.in_rows, c.page-page.result.now.rows.ok.0)

pub index-outer-requires : goal.index-outer-requires
index-outer-requires c =
    let at = labelled c.page-page.result.now.rows.items c.page-page.result.now.index.outer.items c.args.n c.in-Some.place c.page-page.result.now.kept.indexed.outer (sym (c.page-page.result.now.kept.indexed.placed c.args.n.0) ∙ sym c.in-Some.ensures) in
    omega (arith, at.in_outer, c.page-page.result.now.index.outer.ok.0)

pub returns : goal.returns
returns c =
    let at = labelled c.page-page.result.now.rows.items c.page-page.result.now.index.outer.items c.args.n c.in-Some.place c.page-page.result.now.kept.indexed.outer (sym (c.page-page.result.now.kept.indexed.placed c.args.n.0) ∙ sym c.in-Some.ensures) in
    c.from_vec-2.ensures ∙ c.in_ok-labels.ensures ∙ all_labels_grouped c.page-page.result.now.index.ids c.page-page.result.now.index.fors c.page-page.result.now.rows.items c.index-row.result.now c.index-outer.result.now c.page-page.result.now.kept.indexed.ids c.page-page.result.now.kept.indexed.fors
    ∙ sym (at.labels c.index-row.result.now c.index-outer.result.now c.index-row.ensures c.index-outer.ensures) ∙ ap (λ d. labels_for d.trees c.args.n) c.page-page.ensures

pub returns-in_default : goal.returns-in_default
returns-in_default c =
    let none = labels_of_stranger c.page-page.result.now.rows.items c.args.n (sym (c.page-page.result.now.kept.indexed.placed c.args.n.0) ∙ sym c.in_default.ensures) in
    c.from_vec.ensures ∙ c.new.ensures.items ∙ sym none ∙ ap (λ d. labels_for d.trees c.args.n) c.page-page.ensures
