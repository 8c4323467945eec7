use Rattle.std.proofs.Common.{refl}
use Rattle.snap_edit.specs.Attrs.{with_facts}
use Rattle.snap_edit.proofs.Standing.{page_of_sound, stands, at_there, makes_changed}
use Rattle.snap_edit.proofs.changes.set_facts.Goals as goal

pub returns-clause-made : goal.returns-clause-made
returns-clause-made c =
    let at = rw c.as_slice.ensures.value at c.in_ok-place.ensures.place in
    let h = stands (page_of_sound c.args.rows.items c.requires) at in
    makes_changed (with_facts c.args.facts) h (λ r. record { id = refl; parent = refl })
    c.index_mut.ensures.value refl (at_there h _)
