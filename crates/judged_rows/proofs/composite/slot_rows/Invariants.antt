use Rattle.std.proofs.Common.{◌≡◌, take}
use Rattle.std.specs.List.{filter_map}
use Rattle.judged_rows.specs.Merging.{slot_row}
use Rattle.judged_rows.proofs.composite.slot_rows.Given as goal

abbrev pub invariant-loop-slot : goal.invariant-loop-slot
invariant-loop-slot l = l.rows.items ≡ filter_map (slot_row l.rule) (take l.slot-index l.slots)
