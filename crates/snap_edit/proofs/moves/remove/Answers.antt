use Rattle.snap_edit.proofs.Standing.{run_at}
use Rattle.snap_edit.proofs.Settling.{passed_on}
use Rattle.snap_edit.proofs.Moving.{removed}
use Rattle.snap_edit.proofs.moves.remove.Goals as goal

pub returns-in_err-place-clause-refused : goal.returns-in_err-place-clause-refused
returns-in_err-place-clause-refused c =
    passed_on _ _ _ c.from_residual.ensures.1 (rw (← c.as_slice.ensures.value) (c.in_err-place.ensures.refused _))

pub take_out-requires : goal.take_out-requires
take_out-requires c = run_at (rw c.as_slice.ensures.value at c.in_ok-place.ensures.place).node

pub returns-clause-made : goal.returns-clause-made
returns-clause-made c =
    let at = rw c.as_slice.ensures.value at c.in_ok-place.ensures.place in
    removed c.requires at c.in_ok-_subtree.ensures.rest
