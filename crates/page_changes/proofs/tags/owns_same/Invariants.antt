use Rattle.std.proofs.Common.{◌≡◌, map, length}
use Rattle.acc_tree.specs.Seen.{seen}
use Rattle.page_keys.specs.Keys.{own_key}
use Rattle.page_keys.specs.Same.{all_same}
use Rattle.page_changes.proofs.tags.owns_same.Given as goal

abbrev pub invariant-loop-node : goal.invariant-loop-node
invariant-loop-node l =
    let old = seen l.pages.old.now.trees in
    let new = seen l.pages.new.now.trees in
    all_same old new (map own_key l.rest) ≡ all_same old new (map own_key l.fn.nodes)

abbrev pub decreases-loop-node : goal.decreases-loop-node
decreases-loop-node l = length l.rest
