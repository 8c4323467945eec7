use Rattle.std.proofs.Common.{◌≡◌, length}
use Rattle.std.specs.List.{flat_map}
use Rattle.acc_tree.specs.Seen.{seen}
use Rattle.page_keys.specs.Same.{all_same}
use Rattle.page_keys.specs.Nodes.{tree_keys}
use Rattle.page_changes.proofs.tags.trees_same.Given as goal

abbrev pub invariant-loop-node : goal.invariant-loop-node
invariant-loop-node l =
    let old = seen l.pages.old.now.trees in
    let new = seen l.pages.new.now.trees in
    all_same old new (flat_map (tree_keys old) l.rest) ≡ all_same old new (flat_map (tree_keys old) l.fn.nodes)

abbrev pub decreases-loop-node : goal.decreases-loop-node
decreases-loop-node l = length l.rest
