use Rattle.std.proofs.Common.{length, sym, ◌∙◌, ap, arith}
use Rattle.std.specs.List.{remove}
use Rattle.snap_edit.proofs.Setting.{old_at, new_name}
use Rattle.snap_edit.proofs.attrs.attrs_without.Goals as goal

pub remove-requires : goal.remove-requires
remove-requires c =
    let at = old_at c.args.name.now c.args.attrs.now c.in-Some.place (sym c.attr_place.ensures ∙ c.in-Some.is) in
    omega (arith, at.in_range, c.in_ok-copies.copies.ok.0, ap length c.in_ok-copies.ensures)

pub returns-in_default : goal.returns-in_default
returns-in_default c =
    let new = new_name 0 c.args.name.now c.args.attrs.now (sym c.attr_place.ensures ∙ c.in_default.is) in
    c.in_ok-copies.ensures ∙ sym new.stays

pub returns : goal.returns
returns c =
    let at = old_at c.args.name.now c.args.attrs.now c.in-Some.place (sym c.attr_place.ensures ∙ c.in-Some.is) in
    c.remove.ensures.items ∙ ap (λ attrs. remove attrs c.in-Some.place) c.in_ok-copies.ensures ∙ sym at.goes
