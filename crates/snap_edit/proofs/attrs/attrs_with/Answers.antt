use Rattle.std.proofs.Common.{length, get_or, set, sym, ◌∙◌, ap, arith, ◌++◌, ◌∷◌, []}
use Rattle.snap_tree.specs.declared.row.Attr.{Attr}
use Rattle.snap_edit.specs.Attrs.{attrs_with}
use Rattle.snap_edit.proofs.Setting.{old_at, new_name}
use Rattle.snap_edit.proofs.attrs.attrs_with.Goals as goal

pub index_mut-requires : goal.index_mut-requires
index_mut-requires c =
    let at = old_at c.args.name.now c.args.attrs.now c.in-Some.place (sym c.attr_place.ensures ∙ c.in-Some.is) in
    omega (arith, at.in_range, c.in_ok-copies.copies.ok.0, ap length c.in_ok-copies.ensures)

pub returns-in-Some : goal.returns-in-Some
returns-in-Some c =
    let at = old_at c.args.name.now c.args.attrs.now c.in-Some.place (sym c.attr_place.ensures ∙ c.in-Some.is) in
    let attr = c.index_mut.result.now in
    let place = c.in-Some.place in
    let value = c.in_ok-value.value in
    ap (λ (a : Attr). set c.in_ok-copies.copies.items place (record { name = a.name; value = value })) c.index_mut.ensures.value
    ∙ ap (λ attrs. set attrs place (record { name = (get_or attrs place attr).name; value = value })) c.in_ok-copies.ensures
    ∙ sym (at.gets value attr)
    ∙ ap (λ value. attrs_with c.args.name.now value c.args.attrs.now) c.in_ok-value.ensures

pub returns-in_ok-push-in-None : goal.returns-in_ok-push-in-None
returns-in_ok-push-in-None c =
    let new = new_name 0 c.args.name.now c.args.attrs.now (sym c.attr_place.ensures ∙ c.in-None.is) in
    let value = c.in_ok-value.value in
    c.in_ok-push-in-None.ensures.items
    ∙ ap (λ attrs. attrs ++ record { name = c.in_ok-name-in-None.name; value = value } ∷ []) c.in_ok-copies.ensures
    ∙ ap (λ name. c.args.attrs.now ++ record { name = name; value = value } ∷ []) c.in_ok-name-in-None.ensures
    ∙ sym (new.last value)
    ∙ ap (λ value. attrs_with c.args.name.now value c.args.attrs.now) c.in_ok-value.ensures
