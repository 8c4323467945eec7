use Rattle.std.proofs.Common.{◌≡◌, None, map, take}
use Rattle.judged_rows.proofs.composite.empty_slots.Given as goal

abbrev pub invariant-loop-node : goal.invariant-loop-node
invariant-loop-node l = l.slots.items ≡ map (λ n. record { node = n; found = None }) (take l.node-index l.nodes)
