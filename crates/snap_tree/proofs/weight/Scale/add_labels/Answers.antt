use Rattle.std.proofs.Common.{sym, ◌∙◌, ap, ◌+◌}
use Rattle.snap_tree.specs.Labels.{id_of, labels_by}
use Rattle.snap_tree.specs.Weight.{weight_of}
use Rattle.snap_tree.specs.Weighing.{saturated}
use Rattle.snap_tree.proofs.Weights.{labels_grouped, labels_with_outer, labels_without_outer}
use Rattle.snap_tree.proofs.weight.Scale.add_labels.Goals as goal

pub returns-in-Some : goal.returns-in-Some
returns-in-Some c =
    let by = c.labels_by.ensures ∙ labels_grouped c.self.inside.index.now.ids c.self.inside.index.now.fors c.self.inside.rows.now c.args.row.now.id (id_of c.args.row.now) c.self.invariant.indexed.ids c.self.invariant.indexed.fors ∙ ap (λ t. labels_by t c.args.row.now.id (id_of c.args.row.now)) c.self.view_is in
    c.saturating_add.ensures ∙ ap (λ n. saturated (c.add_numbers-sum.result + n)) c.weight_of.ensures ∙ ap (λ n. saturated (n + weight_of c.args.self.now c.in-Some.label)) c.add_numbers-sum.ensures
    ∙ labels_with_outer c.args.self.now c.args.row.now c.args.outer c.in-Some.label c.args.sum c.labels_by.result.now (sym c.is_labelable.ensures ∙ c.if-not-is_labelable.false) by c.in-Some.is

pub returns-in-None : goal.returns-in-None
returns-in-None c =
    let by = c.labels_by.ensures ∙ labels_grouped c.self.inside.index.now.ids c.self.inside.index.now.fors c.self.inside.rows.now c.args.row.now.id (id_of c.args.row.now) c.self.invariant.indexed.ids c.self.invariant.indexed.fors ∙ ap (λ t. labels_by t c.args.row.now.id (id_of c.args.row.now)) c.self.view_is in
    c.add_numbers-sum.ensures ∙ labels_without_outer c.args.self.now c.args.row.now c.args.outer c.args.sum c.labels_by.result.now (sym c.is_labelable.ensures ∙ c.if-not-is_labelable.false) by c.in-None.is
