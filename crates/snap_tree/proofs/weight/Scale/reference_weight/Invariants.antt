use Rattle.std.proofs.Common.{◌≡◌, take}
use Rattle.std.specs.List.{sum_by}
use Rattle.snap_tree.specs.Spots.{spots}
use Rattle.snap_tree.specs.Weight.{found_weight}
use Rattle.snap_tree.specs.Weighing.{saturated}
use Rattle.snap_tree.proofs.weight.Scale.reference_weight.Given as goal

abbrev pub invariant-loop-place : goal.invariant-loop-place
invariant-loop-place l = l.sum ≡ saturated (sum_by (found_weight l.self) (take l.place (spots l.self)))
