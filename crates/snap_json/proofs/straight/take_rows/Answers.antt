use Rattle.std.proofs.Common.{◌≡◌, ◌-◌, length, None, Ok, refl, sym, subst, arith}
use Rattle.json.specs.Json.{after_end_array, value}
use Rattle.json.proofs.Grammar.{after_end_array-shorter}
use Rattle.snap_json.specs.Pages.{rows_of}
use Rattle.snap_json.specs.Straight.{TakesRow}
use Rattle.snap_json.proofs.Turns.{Leads, leads_init, leads_turn, leads_end}
use Rattle.snap_json.proofs.StraightRows.{AreRows, one_row}
use Rattle.snap_json.proofs.straight.take_rows.Goals as goal

pub rows-init : goal.rows-init
rows-init c =
    let all = c.args.reader.now in
    (length all, omega arith, omega arith, subst (λ xs. Leads AreRows (value 125) all (length all) all xs) (sym c.new-found.ensures.items) (leads_init AreRows (value 125) all))

pub rows-preserved : goal.rows-preserved
rows-preserved c =
    let l = c.rows in
    let n = l.invariant.0 in
    let going : (after_end_array l.reader ≡ None) × (c.take_end_array.new.self ≡ l.reader) = grind arith in
    let row = c.in_ok-row.row in
    let r = c.take_row.new.reader in
    let t : TakesRow l.reader row r = subst (λ x. TakesRow x row r) going.1 c.in_ok-row.ensures in
    let less = t.1.1 in
    let turn = leads_turn AreRows (value 125) c.args.reader.now n l.reader r l.found.items t.0 row (omega (arith, less, l.invariant.1)) going.0 t.1.0 (one_row t.0 row t.2) l.invariant.3 in (
      n - 1,
      omega (arith, less, l.invariant.1),
      omega (arith, less, l.invariant.2),
      subst (λ xs. Leads AreRows (value 125) c.args.reader.now (n - 1) r xs) (sym c.in_ok-push.ensures.items) turn,
    )

pub returns : goal.returns
returns c =
    let l = c.rows in
    let r = c.take_end_array.new.self in
    let over = after_end_array-shorter l.reader r (grind arith) in
    let w = leads_end AreRows (value 125) c.args.reader.now l.invariant.0 l.reader r l.found.items l.invariant.1 (grind arith) (λ place. refl) l.invariant.3 in
    (w.0, (w.1, omega (arith, over, l.invariant.2)), subst (λ rows. rows_of 1 w.0 ≡ Ok rows) (sym c.from_vec.ensures) (w.2 1))
