use Rattle.std.proofs.Common.{◌≡◌, ◌-◌, length, None, refl, sym, subst, arith}
use Rattle.json.specs.Json.{after_end_array, value}
use Rattle.json.proofs.Grammar.{after_end_array-shorter}
use Rattle.snap_json.specs.Straight.{TakesPair}
use Rattle.snap_json.proofs.Turns.{Leads, leads_init, leads_turn, leads_end}
use Rattle.snap_json.proofs.StraightRows.{AreAttrs, one_attr}
use Rattle.snap_json.proofs.tokens.pairs.Goals as goal

pub pairs-init : goal.pairs-init
pairs-init c =
    let all = c.args.reader.now in
    (length all, omega arith, omega arith, subst (λ xs. Leads AreAttrs (value 123) all (length all) all xs) (sym c.new-found.ensures.items) (leads_init AreAttrs (value 123) all))

pub pairs-preserved : goal.pairs-preserved
pairs-preserved c =
    let l = c.pairs in
    let n = l.invariant.0 in
    let going : (after_end_array l.reader ≡ None) × (c.take_end_array.new.self ≡ l.reader) = grind arith in
    let a = c.in_ok-attr.attr in
    let r = c.pair.new.reader in
    let t : TakesPair l.reader a r = subst (λ x. TakesPair x a r) going.1 c.in_ok-attr.ensures in
    let less = t.1.1 in
    let turn = leads_turn AreAttrs (value 123) c.args.reader.now n l.reader r l.found.items t.0 a (omega (arith, less, l.invariant.1)) going.0 t.1.0 (one_attr t.0 a t.2) l.invariant.3 in (
      n - 1,
      omega (arith, less, l.invariant.1),
      omega (arith, less, l.invariant.2),
      subst (λ xs. Leads AreAttrs (value 123) c.args.reader.now (n - 1) r xs) (sym c.in_ok-push.ensures.items) turn,
    )

pub returns : goal.returns
returns c =
    let l = c.pairs in
    let r = c.take_end_array.new.self in
    let over = after_end_array-shorter l.reader r (grind arith) in
    let w = leads_end AreAttrs (value 123) c.args.reader.now l.invariant.0 l.reader r l.found.items l.invariant.1 (grind arith) refl l.invariant.3 in
    (w.0, (w.1, omega (arith, over, l.invariant.2)), subst (AreAttrs w.0) (sym c.from_vec.ensures) w.2)
