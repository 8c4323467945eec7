use Rattle.std.proofs.Common.{◌∙◌, ap}
use Rattle.std.specs.Option.{option_map_or}
use Rattle.std.specs.List.{slice_get}
use Rattle.snap_tree.specs.Labels.{first_with_id}
use Rattle.snap_tree.specs.Weight.{weight_of}
use Rattle.snap_tree.proofs.Weights.{first_grouped}
use Rattle.snap_tree.proofs.weight.Scale.id_weight.Goals as goal

pub returns-in-Some : goal.returns-in-Some
returns-in-Some c =
    let first = c.in-Some.ensures.value ∙ ap (λ ns. slice_get ns 0) c.group.ensures ∙ first_grouped c.self.inside.index.now.ids c.self.inside.rows.now c.args.id.now c.self.invariant.indexed.ids ∙ ap (λ t. first_with_id t c.args.id.now) c.self.view_is in
    c.weight_of.ensures ∙ ap (λ o. option_map_or (weight_of c.args.self.now) o 0) first

pub returns-in-None : goal.returns-in-None
returns-in-None c =
    let first = c.in-None.ensures.value ∙ ap (λ ns. slice_get ns 0) c.group.ensures ∙ first_grouped c.self.inside.index.now.ids c.self.inside.rows.now c.args.id.now c.self.invariant.indexed.ids ∙ ap (λ t. first_with_id t c.args.id.now) c.self.view_is in
    ap (λ o. option_map_or (weight_of c.args.self.now) o 0) first
