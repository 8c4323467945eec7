use Rattle.std.proofs.Common.{◌≡◌, ◌+◌, ◌*◌, ◌++◌, ◌&&◌, ◌≤◌, List, vec_len}
use Rattle.std.specs.Option.{option_copied}
use Rattle.snap_tree.specs.declared.row.Row.{Row}
use Rattle.snap_tree.specs.Trees.{count}
use Rattle.acc_tree.specs.Frames.{above_of}
use Rattle.acc_tree.specs.Seen.{seen}
use Rattle.page_keys.specs.Classes.{table_in}
use Rattle.page_changes.specs.Beside.{AreBeside, ahead_of}
use Rattle.page_changes.specs.Here.{tree_here, marks_here}
use Rattle.page_changes.proofs.marks.+adding.Given as goal

abbrev pub decreases-add_marks : goal.decreases-add_marks
decreases-add_marks l = 2 * count l.trees

abbrev pub decreases-add_below : goal.decreases-add_below
decreases-add_below l = 2 * count l.trees + 1

abbrev pub invariant-add_marks-loop-branch : goal.invariant-add_marks-loop-branch
invariant-add_marks-loop-branch l =
    let old = seen l.old.trees in
    let new = seen l.new.trees in
    record {
      fewer : count l.rest ≤ count l.fn.trees;
      longer : vec_len l.fn.list ≤ vec_len l.list;
      beside : (ups others : List Row) → AreBeside old new (option_copied l.pair) ups others (seen l.fn.trees) (ahead_of l.fn.ahead) → l.table ≡ table_in (above_of ups)
          → AreBeside old new (option_copied l.pair) ups others (seen l.rest) (ahead_of l.next);
      list : (ups others : List Row) → AreBeside old new (option_copied l.pair) ups others (seen l.fn.trees) (ahead_of l.fn.ahead) → l.table ≡ table_in (above_of ups)
          → l.list.items ++ marks_here new (above_of ups) l.above_same (seen l.rest) ≡ l.fn.list.items ++ marks_here new (above_of ups) l.above_same (seen l.fn.trees);
      all : (ups others : List Row) → AreBeside old new (option_copied l.pair) ups others (seen l.fn.trees) (ahead_of l.fn.ahead) → l.table ≡ table_in (above_of ups)
          → (l.all && tree_here new (above_of ups) (seen l.rest)) ≡ tree_here new (above_of ups) (seen l.fn.trees);
    }

abbrev pub decreases-add_marks-loop-branch : goal.decreases-add_marks-loop-branch
decreases-add_marks-loop-branch l = count l.rest
