use Rattle.std.proofs.Common.{[], ◌++◌, ◌∙◌, ap, arith}
use Rattle.std.specs.Option.{option_to_list}
use Rattle.judge_core.proofs.Lists.{filter_map_more}
use Rattle.judged_rows.specs.Merging.{slot_row}
use Rattle.judged_rows.proofs.composite.slot_rows.Goals as goal

pub loop-slot-preserved : goal.loop-slot-preserved
loop-slot-preserved c =
    filter_map_more (slot_row c.args.rule) c.args.slots.now c.loop-slot.slot-index _ [] c.loop-slot.rows.items _ (omega arith) c.loop-slot.invariant
    (c.in_ok-push_row.ensures ∙ ap (λ o. c.loop-slot.rows.items ++ option_to_list o) c.slot_row.ensures)
