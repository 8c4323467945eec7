use Rattle.std.proofs.Common.{sym, ◌∙◌, ap}
use Rattle.snap_tree.specs.Grown.{grown}
use Rattle.snap_tree.specs.Faults.{tree_fault}
use Rattle.snap_edit.specs.Edits.{effect}
use Rattle.snap_edit.proofs.Settling.{settles, breaks}
use Rattle.snap_edit.proofs.edits.step.Goals as goal

pub returns-in-Some-clause-refused : goal.returns-in-Some-clause-refused
returns-in-Some-clause-refused c =
    let found = ap tree_fault (sym c.as_slice.ensures.value) ∙ sym c.in_ok-fault.ensures ∙ c.in-Some.is in
    breaks c.in-Ok.new.items (effect (grown c.args.rows.items) c.args.edit.now) c.in-Some.fault c.in-Ok.ensures.made found

pub returns-in-None-clause-edited : goal.returns-in-None-clause-edited
returns-in-None-clause-edited c =
    let found = ap tree_fault (sym c.as_slice.ensures.value) ∙ sym c.in_ok-fault.ensures ∙ c.in-None.is in
    settles c.in-Ok.new.items (effect (grown c.args.rows.items) c.args.edit.now) c.in-Ok.ensures.made found
