use Rattle.std.proofs.Common.{◌≡◌, ◌+◌, ◌*◌, ◌++◌, ◌&&◌, ◌≤◌}
use Rattle.snap_tree.specs.Trees.{count}
use Rattle.acc_tree.specs.Seen.{seen}
use Rattle.page_changes.specs.References.{IsMemory, rows_same, below_same}
use Rattle.page_changes.proofs.references.+adding.Given as goal

abbrev pub decreases-add_below : goal.decreases-add_below
decreases-add_below l = 2 * count l.trees

abbrev pub decreases-add_kids : goal.decreases-add_kids
decreases-add_kids l = 2 * count l.trees + 1

abbrev pub invariant-add_below-loop-branch : goal.invariant-add_below-loop-branch
invariant-add_below-loop-branch l =
    let old = seen l.pages.old.now.trees in
    let new = seen l.pages.new.now.trees in
    record {
      fewer : count l.rest ≤ count l.fn.trees;
      list : l.list.items ++ below_same old new l.label (seen l.rest) ≡ l.fn.list.items ++ below_same old new l.label (seen l.fn.trees);
      all : (l.all && rows_same old new l.label (seen l.rest)) ≡ rows_same old new l.label (seen l.fn.trees);
      memory : IsMemory old new l.memory;
    }

abbrev pub decreases-add_below-loop-branch : goal.decreases-add_below-loop-branch
decreases-add_below-loop-branch l = count l.rest
