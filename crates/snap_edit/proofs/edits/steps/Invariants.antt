use Rattle.std.proofs.Common.{◌≡◌, ◌+◌, length, None}
use Rattle.snap_tree.specs.Grown.{grown}
use Rattle.snap_tree.specs.Faults.{tree_fault}
use Rattle.snap_edit.specs.Edits.{edited_from}
use Rattle.snap_edit.proofs.edits.steps.Given as goal

abbrev pub invariant-loop-edit : goal.invariant-loop-edit
invariant-loop-edit l =
    (tree_fault l.rows.items ≡ None)
    × (l.index + length l.rest ≡ length l.edits)
    × (edited_from l.index l.rest (grown l.rows.items) ≡ edited_from 0 l.edits (grown l.fn.rows.items))

abbrev pub decreases-loop-edit : goal.decreases-loop-edit
decreases-loop-edit l = length l.rest
