-- No statement inside a transaction touches the last commit.
use Rattle.std.proofs.Common.{◌≡◌, ◌⊎◌, inl, inr, ℕ, List, Option, Some, None, Ok, Err, Result, IfOk, IfErr, OnOk, IsTrue, sym, ap, subst, ◌∙◌}
use Rattle.sqlite.specs.declared.error.Error.{Error}
use Rattle.sqlite.specs.Order.{Row}
use Rattle.std.specs.Borrow.{MutBor}
use Rattle.sqlite_trees.specs.declared.store.Store.{Ghosts}
use Rattle.sqlite.specs.Held.{Held, state}
use Rattle.sqlite.specs.State.{State, HasCleanDisk, Survives, IsUnchanged, IsRolledBack, KeepsCommit, Fails, ExecutesInside, Shown, FailsToQuery, IsTooLate, IsNotRun}
use Rattle.sqlite_schema.specs.declared.command.Returning.{Returning}
use Rattle.sqlite_schema.specs.declared.schema.Schema.{Schema}
use Rattle.sqlite.specs.Listing.{understood}
use Rattle.sql_rows.specs.Inside.{StaysInside, Steps}
use Rattle.sqlite.proofs.Callers.{IsPlain}

pub unchanged_keeps : (old new : State) → IsUnchanged old new → KeepsCommit old new
unchanged_keeps old new h = record { was_open = λ _. h.0.was_open; committed = λ _. h.0.committed_is }

pub undone_keeps : (old new : State) → IsRolledBack old new → KeepsCommit old new
undone_keeps old new h = record { was_open = h.was_open; committed = λ is_open. (h.undone is_open).1 }

pub executed_keeps : (sql : List ℕ) (params : Row) (old new : State) (r : Result ℕ Error) → ExecutesInside 0 sql params old new r → KeepsCommit old new
executed_keeps sql params old new (Ok count) h = record { was_open = λ _. h.1.was_open; committed = λ _. h.1.committed_is }
executed_keeps sql params old new (Err e) (inl (ran, inl same)) = unchanged_keeps old new same
executed_keeps sql params old new (Err e) (inl (ran, inr undone)) = undone_keeps old new undone
executed_keeps sql params old new (Err e) (inr (ends, e_is, same)) = unchanged_keeps old new same

fails_keeps : (old new : State) (P : Type 0) (e : Error) → Fails old new P e → KeepsCommit old new
fails_keeps old new P e h = undone_keeps old new h.3

not_run_keeps : (sql : List ℕ) (params : Row) (old new : State) (e : Error) → IsNotRun old new sql params e → KeepsCommit old new
unfolding IsNotRun
not_run_keeps sql params old new e (inl h) = unchanged_keeps old new h.1
not_run_keeps sql params old new e (inr h) = fails_keeps old new ⊥ e h

pub refused_keeps : (sql : List ℕ) (params : Row) (old new : State) (e : Error) → FailsToQuery sql params old new e → KeepsCommit old new
unfolding FailsToQuery
refused_keeps sql params old new e (inl h) = not_run_keeps sql params old new e h
refused_keeps sql params old new e (inr (c, it, h)) = by c.returning h
  where
    by : (r : Option Returning) → Rattle.sqlite.specs.State.FailsToShow old new sql c (Rattle.sqlite.specs.Clock.timed params c.formats it.now) e r → KeepsCommit old new
    by None h = unchanged_keeps old new h.3
    by (Some what) (inl h) = unchanged_keeps old new h.1
    by (Some what) (inr h) = fails_keeps old new _ e h

pub late_keeps : (sql : List ℕ) (params : Row) (old new : State) (e : Error) → FailsToQuery sql params old new e ⊎ IsTooLate sql params old new e → KeepsCommit old new
late_keeps sql params old new e (inl h) = refused_keeps sql params old new e h
late_keeps sql params old new e (inr h) = unchanged_keeps old new h.5

pub shown_keeps : (sql : List ℕ) (params : Row) (old new : State) (rows : List Row) → IsTrue old.in_transaction → Shown sql params old new rows → KeepsCommit old new
unfolding Shown
shown_keeps sql params old new rows inside (c, it, h) = by c.returning h
  where
    by : (r : Option Returning) → Rattle.sqlite.specs.State.ShowsRows old new sql c (Rattle.sqlite.specs.Clock.timed params c.formats it.now) rows r → KeepsCommit old new
    by None h = unchanged_keeps old new h.3
    by (Some what) (count, w, is) = record { was_open = λ _. w.shown.was_open; committed = λ _. rw inside at w.shown.committed_is }

pub queried_keeps : (sql : List ℕ) (params : Row) (old new : State) {X : Type 0} (view : X → List Row) (r : Result X Error) → IsTrue old.in_transaction → IfOk r (λ x. Shown sql params old new (view x))
    → IfErr r (λ e. FailsToQuery sql params old new e ⊎ IsTooLate sql params old new e) → KeepsCommit old new
queried_keeps sql params old new view (Ok x) inside shown failed = shown_keeps sql params old new (view x) inside shown
queried_keeps sql params old new view (Err e) inside shown failed = late_keeps sql params old new e failed

-- a query with no RETURNING leaves the state
pub shown_same : (sql : List ℕ) (params : Row) (old new : State) (schema : Schema) → old.now.schema ≡ schema → IsPlain (understood schema sql) → (rows : List Row) → Shown sql params old new rows → IsUnchanged old new
unfolding Shown
shown_same sql params old new schema has plain rows h =
    let known = sym h.1.is ∙ ap (λ s. understood s sql) has in
    let bare = subst IsPlain (sym known) plain in
    (rw bare.0 at h.2).3

-- ---- calls one after another

pub keeps_then : (a b c : State) → KeepsCommit a b → KeepsCommit b c → KeepsCommit a c
keeps_then a b c p q = record { was_open = λ h. p.was_open (q.was_open h); committed = λ h. q.committed h ∙ p.committed (q.was_open h) }

pub stays_then : {A B E F : Type 0} (a b c : State) (first : Result A E) (r : Result B F) (x : A) → first ≡ Ok x → StaysInside a b first → StaysInside b c r → StaysInside a c r
stays_then a b c first r x is p q inside =
    let one = p inside in
    let two = q (subst (λ f. OnOk f (IsTrue b.in_transaction)) is one.1) in
    (keeps_then a b c one.0 two.0, two.1)

pub executed_stays : (sql : List ℕ) (params : Row) (old new : State) (r : Result ℕ Error) → (IsTrue old.in_transaction → ExecutesInside 0 sql params old new r) → StaysInside old new r
executed_stays sql params old new (Ok count) h inside = (executed_keeps sql params old new (Ok count) (h inside), (h inside).1.mode)
executed_stays sql params old new (Err e) h inside = (executed_keeps sql params old new (Err e) (h inside), tt)

shown_inside : (sql : List ℕ) (params : Row) (old new : State) (rows : List Row) → IsTrue old.in_transaction → Shown sql params old new rows → IsTrue new.in_transaction
unfolding Shown
shown_inside sql params old new rows inside (c, it, h) = by c.returning h
  where
    by : (r : Option Returning) → Rattle.sqlite.specs.State.ShowsRows old new sql c (Rattle.sqlite.specs.Clock.timed params c.formats it.now) rows r → IsTrue new.in_transaction
    by None h = h.3.0.mode ∙ inside
    by (Some what) (count, w, is) = w.shown.mode ∙ inside

pub queried_stays : (sql : List ℕ) (params : Row) (old new : State) {X : Type 0} (view : X → List Row) (r : Result X Error) → IfOk r (λ x. Shown sql params old new (view x))
    → IfErr r (λ e. FailsToQuery sql params old new e ⊎ IsTooLate sql params old new e) → StaysInside old new r
queried_stays sql params old new view (Ok x) shown failed inside = (shown_keeps sql params old new (view x) inside shown, shown_inside sql params old new (view x) inside shown)
queried_stays sql params old new view (Err e) shown failed inside = (late_keeps sql params old new e failed, tt)

-- what a statement makes, unless it fails
pub if_executed : (sql : List ℕ) (params : Row) (old new : State) (r : Result ℕ Error) (P : Type 0) → ((count : ℕ) → ExecutesInside 0 sql params old new (Ok count) → P) → ExecutesInside 0 sql params old new r → OnOk r P
if_executed sql params old new (Ok count) P makes h = makes count h
if_executed sql params old new (Err e) P makes h = tt

-- ---- steps of a transaction

module _ {S : Type 0} (g : Ghosts S) (sql : List ℕ) (params : Row) (old new : MutBor (Held S)) where
  pub executed_steps : (r : Result ℕ Error) → new.ghost_name ≡ old.ghost_name → Survives (state g old.now) (state g new.now) (λ _. ⊥)
      → (HasCleanDisk (state g new.now) → IsTrue (state g old.now).in_transaction → ExecutesInside 0 sql params (state g old.now) (state g new.now) r) → Steps g old new r
  executed_steps r same survives runs = record { same_reference = same; kept = λ clean. executed_stays sql params (state g old.now) (state g new.now) r (runs clean); survives = survives }

  pub queried_steps : {X : Type 0} (view : X → List Row) (r : Result X Error) → new.ghost_name ≡ old.ghost_name → Survives (state g old.now) (state g new.now) (λ _. ⊥)
      → (HasCleanDisk (state g new.now) → IfOk r (λ x. Shown sql params (state g old.now) (state g new.now) (view x)))
      → (HasCleanDisk (state g new.now) → IfErr r (λ e. FailsToQuery sql params (state g old.now) (state g new.now) e ⊎ IsTooLate sql params (state g old.now) (state g new.now) e)) → Steps g old new r
  queried_steps view r same survives ok err =
      record { same_reference = same; kept = λ clean. queried_stays sql params (state g old.now) (state g new.now) view r (ok clean) (err clean); survives = survives }
