use Rattle.snap_edit.proofs.Standing.{run_at}
use Rattle.snap_edit.proofs.Settling.{passed_on}
use Rattle.snap_edit.proofs.Moving.{lifted, within, into_itself, move_declined, move_makes}
use Rattle.snap_edit.proofs.moves.move_to.Goals as goal

pub returns-in_err-from-clause-refused : goal.returns-in_err-from-clause-refused
returns-in_err-from-clause-refused c =
    passed_on _ _ _ c.from_residual.ensures.1 (rw (← c.as_slice.ensures.value) (c.in_err-from.ensures.refused _))

pub take_out-requires : goal.take_out-requires
take_out-requires c = run_at (rw c.as_slice.ensures.value at c.in_ok-from.ensures.place).node

pub returns-then-is_some-clause-refused : goal.returns-then-is_some-clause-refused
returns-then-is_some-clause-refused c =
    let at = rw c.as_slice.ensures.value at c.in_ok-from.ensures.place in
    let l = lifted c.requires at c.in_ok-subtree.ensures.subtree c.in_ok-subtree.ensures.rest in
    let here =
    within c.args.parent l c.as_slice-2.ensures.value c.place_of.ensures c.is_some.ensures c.if-is_some.true
    in
    into_itself c.args.parent c.args.place l here

pub place_in-requires : goal.place_in-requires
place_in-requires c =
    let at = rw c.as_slice.ensures.value at c.in_ok-from.ensures.place in
    let l = lifted c.requires at c.in_ok-subtree.ensures.subtree c.in_ok-subtree.ensures.rest in
    rw c.as_slice-3.ensures.value l.page

pub returns-in_err-begin-clause-refused : goal.returns-in_err-begin-clause-refused
returns-in_err-begin-clause-refused c =
    let at = rw c.as_slice.ensures.value at c.in_ok-from.ensures.place in
    let l = lifted c.requires at c.in_ok-subtree.ensures.subtree c.in_ok-subtree.ensures.rest in
    let out =
    within c.args.parent l c.as_slice-2.ensures.value c.place_of.ensures c.is_some.ensures c.if-is_some.false
    in
    let declined = rw c.as_slice-3.ensures.value at c.in_err-begin.ensures.refused in
    passed_on _ _ _ c.from_residual-in_err-begin.ensures.1 (move_declined _ c.args.parent c.args.place l out declined)

pub returns-clause-made : goal.returns-clause-made
returns-clause-made c =
    let at = rw c.as_slice.ensures.value at c.in_ok-from.ensures.place in
    let l = lifted c.requires at c.in_ok-subtree.ensures.subtree c.in_ok-subtree.ensures.rest in
    let out =
    within c.args.parent l c.as_slice-2.ensures.value c.place_of.ensures c.is_some.ensures c.if-is_some.false
    in
    move_makes l out (rw c.as_slice-3.ensures.value at c.in_ok-begin.ensures.place) c.in_ok-put_in.ensures
