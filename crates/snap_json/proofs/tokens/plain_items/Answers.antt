use Rattle.std.proofs.Common.{◌≡◌, ◌-◌, [], ◌∷◌, ◌++◌, length, None, subst, arith}
use Rattle.json.specs.Json.{after_end_array, value}
use Rattle.json.proofs.Grammar.{after_end_array-shorter}
use Rattle.snap_json.specs.Straight.{ReadsAny}
use Rattle.snap_json.proofs.Turns.{leads_init, leads_turn, leads_end}
use Rattle.snap_json.proofs.StraightRows.{Any}
use Rattle.snap_json.proofs.tokens.plain_items.Goals as goal

pub items-init : goal.items-init
items-init c = (length c.args.reader.now, [], omega arith, omega arith, leads_init Any (value 123) c.args.reader.now)

pub items-preserved : goal.items-preserved
items-preserved c =
    let l = c.items in
    let n = l.invariant.0 in
    let going : (after_end_array l.reader ≡ None) × (c.take_end_array.new.self ≡ l.reader) = grind arith in
    let r = c.plain.new.reader in
    let t : ReadsAny 123 l.reader r = subst (λ x. ReadsAny 123 x r) going.1 (c.in_ok-plain.ensures 123) in
    let less = t.1.1 in (
      n - 1,
      l.invariant.1 ++ 0 ∷ [],
      omega (arith, less, l.invariant.2),
      omega (arith, less, l.invariant.3),
      leads_turn Any (value 123) c.args.reader.now n l.reader r l.invariant.1 t.0 0 (omega (arith, less, l.invariant.2)) going.0 t.1.0 (λ rest more are. tt) l.invariant.4,
    )

pub items-smaller : goal.items-smaller
items-smaller c =
    let l = c.items in
    let going : (after_end_array l.reader ≡ None) × (c.take_end_array.new.self ≡ l.reader) = grind arith in
    let t : ReadsAny 123 l.reader c.plain.new.reader = subst (λ x. ReadsAny 123 x c.plain.new.reader) going.1 (c.in_ok-plain.ensures 123) in
    t.1.1

pub returns : goal.returns
returns c =
    let l = c.items in
    let r = c.take_end_array.new.self in
    let over = after_end_array-shorter l.reader r (grind arith) in
    let w = leads_end Any (value 123) c.args.reader.now l.invariant.0 l.reader r l.invariant.1 l.invariant.2 (grind arith) tt l.invariant.4 in
    (w.0, (w.1, omega (arith, over, l.invariant.3)))
