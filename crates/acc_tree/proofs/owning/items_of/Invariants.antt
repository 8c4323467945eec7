use Rattle.std.proofs.Common.{◌≡◌, map, take}
use Rattle.acc_tree.specs.Owning.{item_of}
use Rattle.acc_tree.proofs.owning.items_of.Given as goal

abbrev pub invariant-loop-element : goal.invariant-loop-element
invariant-loop-element l = l.items.items ≡ map item_of (take l.element-index l.elements)
