use Rattle.std.proofs.Common.{◌≡◌, ◌++◌, drop}
use Rattle.std.specs.List.{flat_map, filter_map}
use Rattle.acc_tree.specs.Owning.{in_its_place, taken}
use Rattle.acc_tree.specs.Seen.{seen, seen_row}
use Rattle.acc_tree.specs.Sights.{sight_of}
use Rattle.acc_tree.proofs.owning.add_taken.Given as goal

abbrev pub invariant-loop-node : goal.invariant-loop-node
invariant-loop-node l =
    l.list.items ++ flat_map (in_its_place l.through) (filter_map (sight_of (seen l.tree.trees)) (drop l.node-index l.node-items)) ≡ l.fn.list.items ++ taken l.fn.through (seen l.fn.tree.trees) 1 (seen_row l.fn.row)
