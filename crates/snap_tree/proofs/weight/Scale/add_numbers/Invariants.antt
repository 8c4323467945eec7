use Rattle.std.proofs.Common.{◌≡◌, ◌+◌, take}
use Rattle.std.specs.List.{sum_by}
use Rattle.snap_tree.specs.Weight.{weight_of}
use Rattle.snap_tree.specs.Weighing.{saturated}
use Rattle.snap_tree.proofs.weight.Scale.add_numbers.Given as goal

abbrev pub invariant-loop-n : goal.invariant-loop-n
invariant-loop-n l = l.sum ≡ saturated (l.fn.from + sum_by (weight_of l.self) (take l.n-index l.numbers))
