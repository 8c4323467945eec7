use Rattle.std.proofs.Common.{◌≡◌, ◌++◌, ◌≤◌}
use Rattle.snap_tree.specs.Trees.{count}
use Rattle.snap_tree.specs.Labelling.{labels_around}
use Rattle.snap_tree.proofs.labels.+add_labels_around.Given as goal

abbrev pub decreases-add_labels_around : goal.decreases-add_labels_around
decreases-add_labels_around l = count l.trees

abbrev pub invariant-loop-branch : goal.invariant-loop-branch
invariant-loop-branch l =
    (count l.rest ≤ count l.fn.trees) × (l.labels.items ++ labels_around l.around l.rest ≡ l.fn.labels.items ++ labels_around l.fn.around l.fn.trees)

abbrev pub decreases-loop-branch : goal.decreases-loop-branch
decreases-loop-branch l = count l.rest
