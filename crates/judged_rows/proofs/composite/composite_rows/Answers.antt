use Rattle.std.proofs.Common.{◌∙◌, ap}
use Rattle.std.specs.List.{filter_map}
use Rattle.judge_core.specs.Outcomes.{inputs_of}
use Rattle.judged_rows.specs.Merging.{slot_row}
use Rattle.judged_rows.proofs.Merged.{rows_of_slots}
use Rattle.judged_rows.proofs.composite.composite_rows.Goals as goal

pub returns : goal.returns
returns c =
    λ f on all.
    c.in_ok-rows.ensures ∙ ap (filter_map (slot_row c.args.info.now.no)) (c.as_slice.ensures.value ∙ c.in_ok-slots.ensures f on all) ∙ rows_of_slots f c.args.info.now.no (inputs_of c.args.info.now) c.args.nodes.now
