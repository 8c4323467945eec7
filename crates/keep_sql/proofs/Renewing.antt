-- An older store that gets its last table.
use Rattle.std.proofs.Common.{◌≡◌, inl, inr, ℕ, pos, true, false, take, Some, None, refl, sym, ap, subst, ◌∙◌, true≢false}
use Rattle.sqlite_trees.specs.Tree.{Trees}
use Rattle.sqlite_trees.specs.declared.store.Store.{Ghosts}
use Rattle.sqlite.specs.Effect.{Database}
use Rattle.sqlite.specs.Held.{Held, state}
use Rattle.sqlite.specs.State.{State, IsUnchanged}
use Rattle.store_statements.specs.Schema.{the_tables}
use Rattle.store_statements.specs.Stored.{Stored, stored, editions_at}
use Rattle.store_statements.specs.Changes.{IsReady, AddsEdition}
use Rattle.store_statements.specs.Making.{HasTables}
use Rattle.store_tables.specs.Editions.{edition_shown}
use Rattle.store_tables.proofs.Steps.{some_same}
use Rattle.keep_sql.specs.Reading.{rows_in, edition_in}
use Rattle.keep_sql.specs.Preparing.{IsOlder, NotesNone, IsRenewed, RenewsOurs, Renews, with_last, is_taken}
use Rattle.keep_sql.proofs.Ready.{store_same, ready_same, all_left}
use Rattle.keep_sql.proofs.Noting.{noted_over}

-- in a transaction that has begun
pub older_ready : {S : Type 0} (g : Ghosts S) (conn begun : Held S) → begun ≡ record conn { in_transaction = true } → IsOlder (state g conn) → HasTables (take 6 the_tables) (state g begun)
older_ready g conn begun is older =
    subst (λ (h : Held _). HasTables (take 6 the_tables) (state g h)) (sym is) (record { store = record { schema_is = older.schema_is; sound = older.sound; rise = older.rise }; inside = refl })

pub renewed_from : {S : Type 0} (g : Ghosts S) (conn begun : Held S) (new : State) (number : ℕ) → begun ≡ record conn { in_transaction = true } → IsRenewed (state g begun) new number → IsRenewed (state g conn) new number
renewed_from g conn begun new number is made = by (subst (λ (h : Held _). IsRenewed (state g h) new number) is made)
  where
    by : IsRenewed (state g (record conn { in_transaction = true })) new number → IsRenewed (state g conn) new number
    by h = record { ready = h.ready; rows = h.rows; edition = h.edition }

-- an edition was found
pub found_last : (old mid new : State) (number : ℕ) → IsReady mid → rows_in mid ≡ with_last old → edition_in mid ≡ Some (Some number) → IsUnchanged mid new → IsRenewed old new number
found_last old mid new number ready last found same =
    let rows : rows_in new ≡ rows_in mid = ap (λ (d : Database). stored d.trees) same.0.now_is in
    record { ready = ready_same mid new ready same; rows = inr (rows ∙ last); edition = ap (λ (s : Stored). edition_shown (editions_at s)) rows ∙ found }

-- none was
pub noted_last : (old mid new : State) → rows_in mid ≡ with_last old → IsReady new → edition_in mid ≡ Some None → AddsEdition (pos 0) (rows_in mid) (rows_in new) → IsRenewed old new 0
noted_last old mid new last ready none adds = record {
  ready = ready;
  rows = inl (ap (λ (s : Stored). edition_shown (editions_at s)) (sym last) ∙ none, subst (λ (s : Stored). AddsEdition (pos 0) s (rows_in new)) last adds);
  edition = noted_over (rows_in mid) (rows_in new) none adds;
}

-- ---- as one transaction

pub renews_taken : (old mid new : State) (number : ℕ) → IsRenewed old mid number → is_taken number ≡ true → new.now ≡ mid.now → Renews old new number
renews_taken old mid new number made taken same =
    let rows : rows_in new ≡ rows_in mid = ap (λ (d : Database). stored d.trees) same in
    record {
      edition = ap (λ (s : Stored). edition_shown (editions_at s)) rows ∙ made.edition;
      made = inl (taken, store_same mid new same made.ready.store, subst (NotesNone (with_last old)) (sym rows) made.rows);
    }

pub renews_untaken : (old mid new : State) (number : ℕ) → IsRenewed old mid number → is_taken number ≡ false → new.now ≡ old.now → Renews old new number
renews_untaken old mid new number made untaken same =
    record { edition = ap (λ (d : Database). edition_shown (editions_at (stored d.trees))) same ∙ by made.rows; made = inr (untaken, same) }
  where
    by : NotesNone (with_last old) (rows_in mid) → edition_in old ≡ Some (Some number)
    by (inl (none, adds)) =
        let zero : 0 ≡ number = some_same 0 number (some_same (Some 0) (Some number) (sym (noted_over (with_last old) (rows_in mid) none adds) ∙ made.edition)) in
        absurd (true≢false (ap is_taken zero ∙ untaken))
    by (inr same) = ap (λ (s : Stored). edition_shown (editions_at s)) (sym same) ∙ made.edition

-- and what a crash leaves of it
pub renewed_left : (old mid : State) (number : ℕ) (db : Trees) → IsRenewed old mid number → db ≡ mid.now.trees → RenewsOurs old db
renewed_left old mid number db made is = (all_left mid db made.ready is, subst (λ (t : Trees). NotesNone (with_last old) (stored t)) (sym is) made.rows)
