use Rattle.std.proofs.Common.{◌≡◌, length}
use Rattle.acc_tree.specs.Seen.{seen}
use Rattle.page_changes.specs.References.{nodes_same}
use Rattle.page_changes.proofs.references.nodes_same.Given as goal

abbrev pub invariant-loop-node : goal.invariant-loop-node
invariant-loop-node l = nodes_same (seen l.pages.old.now.trees) (seen l.pages.new.now.trees) l.rest ≡ nodes_same (seen l.pages.old.now.trees) (seen l.pages.new.now.trees) l.fn.nodes

abbrev pub decreases-loop-node : goal.decreases-loop-node
decreases-loop-node l = length l.rest
