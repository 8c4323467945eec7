use Rattle.std.proofs.Common.{length, ◌-◌, ◌≤◌}
use Rattle.http_messages.specs.Blocks.{MayStart}
use Rattle.http_messages.proofs.blocks.block_end_from.Given as goal

abbrev pub invariant-loop-at : goal.invariant-loop-at
invariant-loop-at l = record { within : l.at ≤ length l.bytes; may : MayStart l.at l.bytes }

abbrev pub decreases-loop-at : goal.decreases-loop-at
decreases-loop-at l = length l.bytes - l.at
