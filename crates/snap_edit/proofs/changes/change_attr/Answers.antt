use Rattle.std.specs.Option.{option_copied}
use Rattle.snap_edit.specs.Attrs.{attrs_after}
use Rattle.snap_edit.proofs.Standing.{makes_attrs}
use Rattle.snap_edit.proofs.Settling.{passed_on}
use Rattle.snap_edit.proofs.changes.change_attr.Goals as goal

pub returns-in_err-place-clause-refused : goal.returns-in_err-place-clause-refused
returns-in_err-place-clause-refused c =
    passed_on _ _ _ c.from_residual.ensures.1 (rw (← c.as_slice.ensures.value) (c.in_err-place.ensures.refused _))

pub returns-clause-made : goal.returns-clause-made
returns-clause-made c =
    let at = rw c.as_slice.ensures.value at c.in_ok-place.ensures.place in
    let f = attrs_after c.args.name.now (option_copied c.args.value) in
    makes_attrs f c.requires at c.index.ensures c.attrs.ensures c.in_ok-attrs.ensures c.in_ok-put_attrs.ensures
