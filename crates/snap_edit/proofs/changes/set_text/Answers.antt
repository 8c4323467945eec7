use Rattle.std.proofs.Common.{Err, set, refl, sym, ◌∙◌, ap}
use Rattle.snap_edit.specs.declared.fault.EditKind.TheVariants.{NotText}
use Rattle.snap_tree.specs.declared.row.Body.TheVariants.{Words}
use Rattle.snap_edit.specs.Attrs.{with_text}
use Rattle.snap_edit.proofs.Standing.{page_of_sound, stands, at_text, makes_changed, with_body}
use Rattle.snap_edit.proofs.changes.set_text.Goals as goal

pub returns-then-not-is_text-clause-refused : goal.returns-then-not-is_text-clause-refused
returns-then-not-is_text-clause-refused c =
    let at = rw c.as_slice.ensures.value at c.in_ok-place.ensures.place in
    at_text _ (Err NotText) at c.index.ensures (sym c.is_text.ensures ∙ c.if-not-is_text.true)

pub returns-clause-made : goal.returns-clause-made
returns-clause-made c =
    let at = rw c.as_slice.ensures.value at c.in_ok-place.ensures.place in
    let h = stands (page_of_sound c.args.rows.items c.requires) at in
    let row = c.index_mut.result.now in
    let body = c.in_ok-rows.ensures ∙ ap Words c.in_ok-text.ensures in
    let text = ap (λ body. set c.args.rows.items c.in_ok-place.place (with_body row body)) body in
    let found = at_text _ (Err NotText) at c.index.ensures (sym c.is_text.ensures ∙ c.if-not-is_text.false) in
    makes_changed (with_text c.args.text.now) h (λ r. record { id = refl; parent = refl })
    c.index_mut.ensures.value text found
