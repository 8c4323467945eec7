use Rattle.std.proofs.Common.{ap, ◌∙◌}
use Rattle.std.specs.List.{sum_by}
use Rattle.texts.specs.Words.{words}
use Rattle.snap_tree.specs.Weight.{id_weight}
use Rattle.snap_tree.proofs.Weights.{saturated_end}
use Rattle.snap_tree.proofs.weight.Scale.add_listed.Goals as goal

pub returns : goal.returns
returns c =
    saturated_end c.loop-id.sum (sum_by (id_weight c.args.self.now) (words c.loop-id.rest.now)) c.loop-id.invariant.1 (ap (sum_by (id_weight c.args.self.now)) c.in_default-next_word.ensures) ∙ c.loop-id.invariant.2
