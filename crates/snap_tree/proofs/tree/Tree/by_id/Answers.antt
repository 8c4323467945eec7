use Rattle.std.proofs.Common.{◌∙◌, ap}
use Rattle.std.specs.List.{slice_get}
use Rattle.snap_tree.specs.Labels.{first_with_id}
use Rattle.snap_tree.proofs.Weights.{first_grouped}
use Rattle.snap_tree.proofs.tree.Tree.by_id.Goals as goal

pub returns : goal.returns
returns c =
    c.copied.ensures ∙ c.first.ensures.value ∙ ap (λ ns. slice_get ns 0) c.group.ensures
    ∙ first_grouped c.page.result.now.index.ids c.page.result.now.rows.items c.args.id.now c.page.result.now.kept.indexed.ids ∙ ap (λ d. first_with_id d.trees c.args.id.now) c.page.ensures
