use Rattle.std.proofs.Common.{sym, ◌∙◌}
use Rattle.std.specs.Prelude.{codes}
use Rattle.snap_json.specs.Fields.{number_of, parent_of, text_of, name_of, space_of, attrs_of, facts_of}
use Rattle.snap_json.proofs.OneMore.{same_key, apart_from, adds, with_unasked, with_id, with_parent, with_space, with_tag, with_attrs, with_text, with_facts}
use Rattle.snap_json.proofs.straight.take_member.Goals as goal

pub returns-in_ok-number : goal.returns-in_ok-number
returns-in_ok-number c =
    let m = c.args.found.now in
    let x = c.in_ok-number.field-0 in
    adds number_of c.args.key.now (codes "n") c.args.reader.now c.number.new.reader x m _ (same_key _ _ (sym c.eq.ensures ∙ c.if-eq.true)) (λ d ms h is. with_id d ms m h x is) c.in_ok-number.ensures

pub returns-in_ok-parent : goal.returns-in_ok-parent
returns-in_ok-parent c =
    let m = c.args.found.now in
    let x = c.in_ok-parent.field-0 in
    adds parent_of c.args.key.now (codes "p") c.args.reader.now c.parent.new.reader x m _ (same_key _ _ (sym c.eq-else-eq.ensures ∙ c.if-eq-2.true)) (λ d ms h is. with_parent d ms m h x is) c.in_ok-parent.ensures

pub returns-in_ok-found : goal.returns-in_ok-found
returns-in_ok-found c =
    let m = c.args.found.now in
    let x = c.in_ok-found.field-0 in
    adds space_of c.args.key.now (codes "ns") c.args.reader.now c.space.new.reader x m _ (same_key _ _ (sym c.eq-else-eq-2.ensures ∙ c.if-eq-3.true)) (λ d ms h is. with_space d ms m h x is) c.in_ok-found.ensures

pub returns-in_ok-name : goal.returns-in_ok-name
returns-in_ok-name c =
    let m = c.args.found.now in
    let x = c.in_ok-name.field-0 in
    adds name_of c.args.key.now (codes "tag") c.args.reader.now c.name.new.reader x m _ (same_key _ _ (sym c.eq-else-eq-3.ensures ∙ c.if-eq-4.true)) (λ d ms h is. with_tag d ms m h x is) c.in_ok-name.ensures

pub returns-in_ok-found-2 : goal.returns-in_ok-found-2
returns-in_ok-found-2 c =
    let m = c.args.found.now in
    let x = c.in_ok-found-2.field-0 in
    adds attrs_of c.args.key.now (codes "attrs") c.args.reader.now c.attrs.new.reader x m _ (same_key _ _ (sym c.eq-else-eq-4.ensures ∙ c.if-eq-5.true)) (λ d ms h is. with_attrs d ms m h x is) c.in_ok-found-2.ensures

pub returns-in_ok-text : goal.returns-in_ok-text
returns-in_ok-text c =
    let m = c.args.found.now in
    let x = c.in_ok-text.field-0 in
    adds text_of c.args.key.now (codes "text") c.args.reader.now c.text.new.reader x m _ (same_key _ _ (sym c.eq-else-eq-5.ensures ∙ c.if-eq-6.true)) (λ d ms h is. with_text d ms m h x is) c.in_ok-text.ensures

pub returns-in_ok-found-3 : goal.returns-in_ok-found-3
returns-in_ok-found-3 c =
    let m = c.args.found.now in
    let x = c.in_ok-found-3.field-0 in
    adds facts_of c.args.key.now (codes "f") c.args.reader.now c.facts.new.reader x m _ (same_key _ _ (sym c.eq-else-eq-6.ensures ∙ c.if-eq-7.true)) (λ d ms h is. with_facts d ms m h x is) c.in_ok-found-3.ensures

pub returns-in_ok-unasked : goal.returns-in_ok-unasked
returns-in_ok-unasked c =
    let k = c.args.key.now in
    let t = c.in_ok-unasked.ensures in (
      t.0,
      t.1,
      λ ms h.
          with_unasked t.0 ms k c.args.found.now h
          (apart_from k (codes "n") (sym c.eq.ensures ∙ c.if-eq.false))
          (apart_from k (codes "p") (sym c.eq-else-eq.ensures ∙ c.if-eq-2.false))
          (apart_from k (codes "ns") (sym c.eq-else-eq-2.ensures ∙ c.if-eq-3.false))
          (apart_from k (codes "tag") (sym c.eq-else-eq-3.ensures ∙ c.if-eq-4.false))
          (apart_from k (codes "attrs") (sym c.eq-else-eq-4.ensures ∙ c.if-eq-5.false))
          (apart_from k (codes "text") (sym c.eq-else-eq-5.ensures ∙ c.if-eq-6.false))
          (apart_from k (codes "f") (sym c.eq-else-eq-6.ensures ∙ c.if-eq-7.false)),
    )
