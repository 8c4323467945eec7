use Rattle.std.proofs.Common.{sym, ◌∙◌}
use Rattle.snap_edit.proofs.Standing.{page_of_sound}
use Rattle.snap_edit.proofs.Moving.{insert_makes}
use Rattle.snap_edit.proofs.moves.insert.Goals as goal

pub place_in-requires : goal.place_in-requires
place_in-requires c = rw c.as_slice.ensures.value (page_of_sound c.args.rows.items c.requires)

pub returns-clause-made : goal.returns-clause-made
returns-clause-made c =
    let place = rw c.as_slice.ensures.value at c.in_ok-begin.ensures.place in
    let taken = rw (c.as_slice-2.ensures.value, c.as_slice-3.ensures) at c.in_ok-has_taken.ensures in
    let fault = rw c.as_slice-4.ensures at c.in_ok-fault.ensures in
    let copied = c.in_ok-subtree.ensures ∙ c.as_slice-5.ensures in
    insert_makes place (sym taken ∙ c.if-branch.false) (sym fault ∙ c.in_default.is) copied c.in_ok-put_in.ensures
