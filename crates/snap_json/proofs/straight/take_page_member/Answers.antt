use Rattle.std.proofs.Common.{refl, sym, ◌∙◌, arith}
use Rattle.std.specs.Prelude.{codes}
use Rattle.serde_json.specs.Data.{array, string}
use Rattle.snap_json.proofs.TokenValues.{string_read}
use Rattle.snap_json.proofs.StraightRows.{rows_read}
use Rattle.snap_json.proofs.OneMore.{same_key, apart_from, adds_to_page, with_url, with_rows, with_other}
use Rattle.snap_json.proofs.straight.take_page_member.Goals as goal

pub returns-in_ok-lent : goal.returns-in_ok-lent
returns-in_ok-lent c =
    let m = c.args.found.now in
    let x = c.in_ok-lent.field-0 in
    adds_to_page c.args.key.now (codes "url") c.args.reader.now c.lent.new.reader (string x.now) m _ (same_key _ _ (sym c.eq.ensures ∙ c.if-eq.true))
    (string_read 126 c.args.reader.now c.lent.new.reader x.now c.in_ok-lent.ensures) (λ ms h. with_url (string x.now) ms m h x refl)

pub returns-in_ok-take_rows : goal.returns-in_ok-take_rows
returns-in_ok-take_rows c =
    let m = c.args.found.now in
    let rows = c.in_ok-take_rows.field-0 in
    let t = c.in_ok-take_rows.ensures in
    adds_to_page c.args.key.now (codes "nodes") c.args.reader.now c.take_rows.new.reader (array t.0) m _ (same_key _ _ (sym c.eq-else-eq.ensures ∙ c.if-eq-2.true))
    (rows_read c.args.reader.now c.begin_array.new.reader c.take_rows.new.reader rows (grind arith) t) (λ ms h. with_rows (array t.0) ms m h rows t.0 refl t.2)

pub returns-in_ok-plain : goal.returns-in_ok-plain
returns-in_ok-plain c =
    let k = c.args.key.now in
    let t = c.in_ok-plain.ensures 126 in (
      t.0,
      t.1,
      λ ms h.
          with_other t.0 ms c.args.found.now h k
          (apart_from k (codes "url") (sym c.eq.ensures ∙ c.if-eq.false))
          (apart_from k (codes "nodes") (sym c.eq-else-eq.ensures ∙ c.if-eq-2.false)),
    )
