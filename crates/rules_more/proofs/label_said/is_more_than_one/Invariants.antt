use Rattle.std.proofs.Common.{◌≡◌, ◌≤◌, length}
use Rattle.rules_more.proofs.label_said.is_more_than_one.Given as goal

abbrev pub invariant-loop-c : goal.invariant-loop-c
invariant-loop-c l = (l.count ≡ length l.yielded) × (l.count ≤ 1)
