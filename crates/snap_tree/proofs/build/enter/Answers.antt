use Rattle.std.proofs.Common.{reverse, not, sym, ◌∙◌, ap}
use Rattle.snap_tree.specs.Opened.{is_below}
use Rattle.snap_tree.proofs.Entering.{taken_or_new, row_fault_double, row_fault_is, placed_of_row, entered}
use Rattle.snap_tree.proofs.build.enter.Goals as goal

pub returns-then-not-is_new-clause-fault : goal.returns-then-not-is_new-clause-fault
returns-then-not-is_new-clause-fault c =
    row_fault_double c.args.earlier.now c.args.row.now (taken_or_new c.args.places.now c.args.earlier.now c.args.row.now _ c.requires.placed c.in_ok-is_new.ensures.vacant ∙ ap not c.if-not-is_new.true)

pub returns-in-Some-clause-fault : goal.returns-in-Some-clause-fault
returns-in-Some-clause-fault c =
    let unused = taken_or_new c.args.places.now c.args.earlier.now c.args.row.now _ c.requires.placed c.in_ok-is_new.ensures.vacant ∙ ap not c.if-not-is_new.false in
    let is = row_fault_is c.args.path.now.items c.close_to_parent.new.path.items c.args.earlier.now c.args.row.now _ _ _ c.requires.opens c.close_to_parent.ensures unused c.is_empty.ensures (c.len.ensures ∙ c.close_to_parent.new.path.ok.0) (c.is_below_text-below_text.ensures ∙ ap (λ xs. is_below (reverse xs)) c.deref.ensures.value) in
    let fault = is ∙ sym c.place_fault.ensures in
    fault ∙ c.in-Some.is

pub returns-clause-sound : goal.returns-clause-sound
returns-clause-sound c =
    let unused = taken_or_new c.args.places.now c.args.earlier.now c.args.row.now _ c.requires.placed c.in_ok-is_new.ensures.vacant ∙ ap not c.if-not-is_new.false in
    let is = row_fault_is c.args.path.now.items c.close_to_parent.new.path.items c.args.earlier.now c.args.row.now _ _ _ c.requires.opens c.close_to_parent.ensures unused c.is_empty.ensures (c.len.ensures ∙ c.close_to_parent.new.path.ok.0) (c.is_below_text-below_text.ensures ∙ ap (λ xs. is_below (reverse xs)) c.deref.ensures.value) in
    let fault = is ∙ sym c.place_fault.ensures in
    fault ∙ c.in_default.is

pub returns-clause-entered : goal.returns-clause-entered
returns-clause-entered c =
    let unused = taken_or_new c.args.places.now c.args.earlier.now c.args.row.now _ c.requires.placed c.in_ok-is_new.ensures.vacant ∙ ap not c.if-not-is_new.false in
    let is = row_fault_is c.args.path.now.items c.close_to_parent.new.path.items c.args.earlier.now c.args.row.now _ _ _ c.requires.opens c.close_to_parent.ensures unused c.is_empty.ensures (c.len.ensures ∙ c.close_to_parent.new.path.ok.0) (c.is_below_text-below_text.ensures ∙ ap (λ xs. is_below (reverse xs)) c.deref.ensures.value) in
    let fault = is ∙ sym c.place_fault.ensures in
    rw (c.in_ok-push.ensures.items, c.is_text.ensures)
    (entered c.args.places.now c.put.new.self c.args.path.now.items c.close_to_parent.new.path.items c.args.earlier.now c.args.row.now c.requires c.in_ok-is_new.ensures.put unused c.close_to_parent.ensures (placed_of_row c.args.earlier.now c.args.row.now unused (fault ∙ c.in_default.is)))
