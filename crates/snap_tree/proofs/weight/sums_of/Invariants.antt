use Rattle.std.proofs.Common.{◌≡◌, ◌*◌, ◌≤◌, take}
use Rattle.std.specs.List.{sum_by}
use Rattle.snap_tree.specs.Weight.{node_weight}
use Rattle.snap_tree.specs.Weighing.{sums_from}
use Rattle.snap_tree.proofs.weight.sums_of.Given as goal

abbrev pub invariant-loop-row : goal.invariant-loop-row
invariant-loop-row l =
    (l.sum ≤ 65537 * l.row-index) × (l.sum ≡ sum_by node_weight (take l.row-index l.rows)) × (l.sums.items ≡ sums_from 0 (take l.row-index l.rows))
