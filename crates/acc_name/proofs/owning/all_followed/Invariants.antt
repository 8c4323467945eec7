use Rattle.std.proofs.Common.{◌≡◌, ◌++◌, string_bytes, drop}
use Rattle.std.specs.List.{flat_map, filter_map}
use Rattle.acc_tree.specs.Seen.{seen_row, seen}
use Rattle.acc_tree.specs.Sights.{sight_of}
use Rattle.acc_name.specs.Names.{followed_text, all_followed}
use Rattle.acc_name.proofs.owning.all_followed.Given as goal

abbrev pub invariant-loop-node : goal.invariant-loop-node
invariant-loop-node l =
    string_bytes l.text ++ flat_map (followed_text l.scope.node l.scope.hidden) (filter_map (sight_of (seen l.tree.trees)) (drop l.node-index l.node-items))
    ≡ all_followed (seen l.tree.trees) l.scope.node l.scope.hidden (seen_row l.row)
