use Rattle.std.proofs.Common.{◌≡◌, map, take}
use Rattle.acc_tree.proofs.owning.numbers_of.Given as goal

abbrev pub invariant-loop-item : goal.invariant-loop-item
invariant-loop-item l = l.numbers.items ≡ map (λ i. i.node) (take l.item-index l.items)
