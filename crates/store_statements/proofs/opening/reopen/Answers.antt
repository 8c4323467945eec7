use Rattle.std.proofs.Common.{arith, ◌≡◌, false, IsTrue, refl, sym, subst, ap, ◌∙◌, Ok, Err, Result, IfOk}
use Rattle.sqlite_trees.specs.View.{IsClean}
use Rattle.sqlite_trees.specs.Tree.{Trees}
use Rattle.sqlite.specs.Held.{state}
use Rattle.sqlite.specs.Effect.{Database}
use Rattle.sqlite_catalog.specs.Listing.{IsSound}
use Rattle.sql_rows.specs.Opened.{AllRise}
use Rattle.sql_rows.proofs.OpenLemmas.{rises_in, open_by, fresh_by}
use Rattle.sqlite.specs.State.{HasCleanDisk}
use Rattle.store_statements.proofs.opening.reopen.Goals as goal

three : {A E : Type 0} (r : Result A E) (P Q R X : A → Type 0) → ((a : A) → P a → Q a → R a → X a) → IfOk r P → IfOk r Q → IfOk r R → IfOk r X
three (Ok a) P Q R X f p q r = f a p q r
three (Err e) P Q R X f p q r = tt

pub returns-clause-rise : goal.returns-clause-rise
returns-clause-rise g c =
    let store = c.into_store-store.result in
    three c.over.result _ _ _ _ (λ conn opens clean trees now.
    let honest : IsClean (g.S.Store.view store) = omega (arith, clean, now) in
    let whole = sym (c.is_broken.ensures honest) ∙ c.if-is_broken.false in
    let there : (g.S.Store.view conn.store).trees ≡ (g.S.Store.view store).trees = trees now in
    let sound : IsSound conn.schema (g.S.Store.view store).trees = subst (IsSound conn.schema) there ((opens now).1 (opens now).0.is_open).0 in
    subst (λ (t : Trees). AllRise (record { schema = conn.schema; trees = t })) (sym there) (rises_in (g.S.Store.view store) conn.schema sound (g.met.S.Alter.listed store whole) (g.met.S.Store.ordered store whole)))
    c.over.ensures.opens c.over.ensures.clean c.over.ensures.trees

pub returns-clause-again : goal.returns-clause-again
returns-clause-again g c =
    let store = c.into_store-store.result in
    let old = g.S.Store.view c.args.conn.store in
    let view = g.S.Store.view store in
    three c.over.result _ _ _ _ (λ conn opens clean trees.
    let honest : HasCleanDisk (state g.S.Store conn) → IsClean view = λ now. omega (arith, clean, now) in
    let whole : HasCleanDisk (state g.S.Store conn) → view.is_broken ≡ false = λ now. sym (c.is_broken.ensures (honest now)) ∙ c.if-is_broken.false in
    let is_open : HasCleanDisk (state g.S.Store conn) → IsTrue view.is_open = λ now. open_by view view.is_open refl (g.met.S.Store.broken_if_shut store) (whole now) in
    record {
      clean = omega (arith, clean, c.into_store-store.ensures.quiet.clean);
      was_open = λ now. (c.into_store-store.ensures.undone.kept (honest now)).was_open (is_open now);
      rows = λ now. trees now ∙ (c.into_store-store.ensures.undone.undone (is_open now)).0;
      crash = λ now db left.
          let fresh = fresh_by old view c.into_store-store.ensures.undone (c.into_store-store.ensures.numbered (honest now)) (g.met.S.Store.broken_if_shut store) (whole now) (honest now) in
          let is : db ≡ view.committed =
          g.met.S.Store.settled conn.store db (opens now).0.is_open left ∙ sym (ap (λ (d : Database). d.trees) (opens now).0.clean) ∙ trees now ∙ fresh.clean in
          c.into_store-store.ensures.quiet.outcomes db (subst (g.S.Store.recovers store) (sym is) (g.met.S.Store.stays store (is_open now)));
    }) c.over.ensures.opens c.over.ensures.clean c.over.ensures.trees
