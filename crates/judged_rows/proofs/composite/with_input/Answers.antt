use Rattle.std.proofs.Common.{[], ◌∷◌, ◌++◌, ◌∙◌, ap, arith}
use Rattle.judged_rows.proofs.Merged.{slot_more}
use Rattle.judged_rows.proofs.composite.with_input.Goals as goal

pub loop-slot-preserved : goal.loop-slot-preserved
loop-slot-preserved c =
    λ f on begins.
    let at = c.loop-slot.invariant f on begins in
    slot_more f on c.args.slots.now c.loop-slot.slot-index _ c.loop-slot.left.now _ c.loop-slot.filled.items _ (omega arith) at.0 at.1 c.after-left.ensures
    (c.in_ok-push.ensures.items ∙ ap (λ s. c.loop-slot.filled.items ++ s ∷ []) c.with_head.ensures)
