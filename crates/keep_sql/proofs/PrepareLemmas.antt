-- A store that was prepared, and what a crash leaves of it.
use Rattle.std.proofs.Common.{◌≡◌, ◌⊎◌, inl, inr, ℕ, ◌≤◌, pos, [], Bool, true, false, Option, Some, None, option_map, Result, Ok, Err, IfOk, IsTrue, refl, sym, ap, ap₂, subst, ◌∙◌, arith, true≢false}
use Rattle.std.specs.List.{AllByRecursion}
use Rattle.sqlite_schema.specs.declared.schema.Schema.{Schema}
use Rattle.sqlite_schema.specs.declared.schema.Table.{Table}
use Rattle.sqlite_trees.specs.Tree.{Trees}
use Rattle.sqlite_trees.specs.View.{doubt}
use Rattle.sqlite_trees.specs.declared.store.Store.{Ghosts}
use Rattle.sqlite.specs.Effect.{Database, IsDatabase}
use Rattle.sqlite.specs.Held.{Held, state}
use Rattle.sqlite.specs.State.{State, HasCleanDisk, Survives}
use Rattle.sqlite.proofs.StateLemmas.{survives_weaker}
use Rattle.keep_core.specs.declared.tables.Tables.{Tables}
use Rattle.keep_core.specs.Tables.{no_tables}
use Rattle.sql_rows.specs.Tables.{Rise}
use Rattle.sql_rows.specs.Stores as rows
use Rattle.store_statements.specs.Schema.{schema_of, old_schema, the_schema}
use Rattle.store_statements.specs.Stored.{Stored, stored, editions_at}
use Rattle.store_statements.specs.Changes.{IsStore, AddsEdition}
use Rattle.store_statements.specs.Making.{nothing}
use Rattle.store_statements.specs.Opening.{OpensAgain}
use Rattle.store_tables.specs.Reading.{◌>>=◌}
use Rattle.store_tables.specs.Editions.{edition_shown, kept_edition, noted}
use Rattle.store_tables.specs.Told.{Sites, sites_told, tables_in}
use Rattle.keep_sql.specs.Reading.{rows_in, edition_in}
use Rattle.keep_sql.specs.Preparing.{IsSound, IsBare, IsOlder, HasNone, HasSix, HasRows, MakesRows, IsPrepared, Prepares, Notes, NotesNone, NotesOurs, MakesOurs, RenewsOurs, Renews, with_last, is_taken}
use Rattle.keep_sql.specs.declared.keeper.Prepared.TheVariants.{Ready, OtherEdition}
use Rattle.keep_sql.specs.Keeper.{Keeper, first_of, held, told, LeftBy, LeftShut, Leaves, LeavesPrepared, MadeOf, Across, Between, IsToldOf, FoundEdition, StaysStored}
use Rattle.keep_sql.proofs.Ready.{all_of}
use Rattle.keep_sql.proofs.Noting.{noted_over}
use Rattle.keep_sql.proofs.KeepLemmas.{told_rows}

none_of : (s : State) → IsBare s → HasNone s.now.trees
none_of s h = subst (λ (k : Schema). IsDatabase (record { schema = k; trees = s.now.trees })) h.schema_is h.database

stands : (schema : Schema) (s : State) → IsSound s → s.now.schema ≡ schema → rows.IsStore schema s
stands schema s h is = record {
  schema_is = is;
  sound = h.database;
  rise = subst (λ (k : Schema). AllByRecursion (λ (t : Table). Rise (s.now.trees t.tree)) k.tables) is h.rise;
}

pub store_of : (s : State) → IsSound s → s.now.schema ≡ the_schema → IsStore s
store_of = stands the_schema

pub older_of : (s : State) → IsSound s → s.now.schema ≡ old_schema → IsOlder s
older_of = stands old_schema

six_of : (s : State) → IsOlder s → HasSix s.now.trees
six_of s h = subst (λ (k : Schema). IsDatabase (record { schema = k; trees = s.now.trees })) h.schema_is h.sound

-- ---- the transaction

module _ (old new : State) (sound : HasCleanDisk old → IsSound old) where
  -- of a store without tables
  pub left_of_none : old.now.schema ≡ schema_of [] → Survives old new (λ db. IsBare old → MakesOurs db) → Survives old new (IsPrepared old.now.trees)
  left_of_none bare h = survives_weaker old new (λ db. IsBare old → MakesOurs db) (IsPrepared old.now.trees) (λ clean db made. by (sound (omega (arith, clean, h.clean))) db made) h
    where
      by : IsSound old → (db : Trees) → (IsBare old → MakesOurs db) → IsPrepared old.now.trees db
      by s db made =
          let b : IsBare old = record { schema_is = bare; database = s.database } in
          let ours = made b in
          (ours.0, inl (none_of old b, ours.1))

  -- of an older one
  pub left_of_older : old.now.schema ≡ old_schema → Survives old new (λ db. IsOlder old → RenewsOurs old db) → Survives old new (IsPrepared old.now.trees)
  left_of_older six h = survives_weaker old new (λ db. IsOlder old → RenewsOurs old db) (IsPrepared old.now.trees) (λ clean db made. by (sound (omega (arith, clean, h.clean))) db made) h
    where
      by : IsSound old → (db : Trees) → (IsOlder old → RenewsOurs old db) → IsPrepared old.now.trees db
      by s db made =
          let older = older_of old s six in
          let ours = made older in
          (ours.0, inr (with_last old, inl (six_of old older, refl), ours.1))

  -- and of one with all
  pub left_of_all : old.now.schema ≡ the_schema → Survives old new (λ db. IsStore old → NotesOurs old db) → Survives old new (IsPrepared old.now.trees)
  left_of_all all h = survives_weaker old new (λ db. IsStore old → NotesOurs old db) (IsPrepared old.now.trees) (λ clean db made. by (sound (omega (arith, clean, h.clean))) db made) h
    where
      by : IsSound old → (db : Trees) → (IsStore old → NotesOurs old db) → IsPrepared old.now.trees db
      by s db made =
          let mine = store_of old s all in
          let ours = made mine in
          (ours.0, inr (rows_in old, inr (all_of old mine, refl), inl (ours.1, ours.2)))

pub prepares_none : (old new : State) → IsBare old → IsStore new → AddsEdition (pos 0) nothing (rows_in new) → Prepares 0 old.now.trees new.now.trees
prepares_none old new bare store made = inl (refl, (all_of new store, inl (none_of old bare, made)))

prepares_older : (old new : State) (number : ℕ) → IsOlder old → Renews old new number → Prepares number old.now.trees new.now.trees
prepares_older old new number older h = by h.made
  where
    by : ((is_taken number ≡ true) × IsStore new × NotesNone (with_last old) (rows_in new)) ⊎ ((is_taken number ≡ false) × (new.now ≡ old.now)) → Prepares number old.now.trees new.now.trees
    by (inl (taken, store, notes)) = inl (taken, (all_of new store, inr (with_last old, inl (six_of old older, refl), notes)))
    by (inr (untaken, same)) = inr (untaken, ap (λ (d : Database). d.trees) same)

prepares_all : (old new : State) (number : ℕ) → IsStore old → Notes old new number → Prepares number old.now.trees new.now.trees
prepares_all old new number mine h = by h.made
  where
    found : new.now ≡ old.now → (b : Bool) → is_taken number ≡ b → Prepares number old.now.trees new.now.trees
    found same true taken = inl (taken, (all_of new h.store, inr (rows_in old, inr (all_of old mine, refl), inr (ap (λ (d : Database). stored d.trees) same))))
    found same false untaken = inr (untaken, ap (λ (d : Database). d.trees) same)

    by : (new.now ≡ old.now) ⊎ ((number ≡ 0) × NotesOurs old new.now.trees) → Prepares number old.now.trees new.now.trees
    by (inl same) = found same (is_taken number) refl
    by (inr (zero, ours)) = inl (ap is_taken zero, (ours.0, inr (rows_in old, inr (all_of old mine, refl), inl (ours.1, ours.2))))

-- what is known of a store that was prepared, by what renewing it tells, and by what noting the edition of one with all tables does
abbrev pub IsFound : State → ℕ → Type 0
IsFound new number = (is_taken number ≡ true → IsStore new) × (edition_in new ≡ Some (Some number))

pub older_store : {E : Type 0} (old new : State) (r : Result ℕ E) → IfOk r (Renews old new) → IfOk r (IsFound new)
older_store old new (Ok number) h = (by h.made, h.edition)
  where
    by : ((is_taken number ≡ true) × IsStore new × NotesNone (with_last old) (rows_in new)) ⊎ ((is_taken number ≡ false) × (new.now ≡ old.now)) → is_taken number ≡ true → IsStore new
    by (inl made) taken = made.1
    by (inr stays) taken = absurd (true≢false (sym taken ∙ stays.0))
older_store old new (Err e) h = tt

pub older_made : {E : Type 0} (old new : State) (r : Result ℕ E) → IsOlder old → IfOk r (Renews old new) → IfOk r (λ number. Prepares number old.now.trees new.now.trees)
older_made old new (Ok number) older h = prepares_older old new number older h
older_made old new (Err e) older h = tt

pub all_store : {E : Type 0} (old new : State) (r : Result ℕ E) → IfOk r (Notes old new) → IfOk r (IsFound new)
all_store old new (Ok number) h = (λ _. h.store, h.edition)
all_store old new (Err e) h = tt

pub all_made : {E : Type 0} (old new : State) (r : Result ℕ E) → IsStore old → IfOk r (Notes old new) → IfOk r (λ number. Prepares number old.now.trees new.now.trees)
all_made old new (Ok number) mine h = prepares_all old new number mine h
all_made old new (Err e) mine h = tt

-- ---- what is told

-- tables are told where an edition and sites are
abbrev tables_of : Option ℕ → Option Sites → Option Tables
tables_of edition sites = edition >>= (λ e. sites >>= (λ s. Some (record { edition = e; sites = s })))

-- the edition 0, noted where none was, changes nothing that is told
pub edition_told : (old new : Stored) → edition_shown (editions_at old) ≡ Some None → AddsEdition (pos 0) old new → tables_in new ≡ tables_in old
unfolding tables_in
edition_told old new none adds =
    let edition : kept_edition (editions_at new) ≡ kept_edition (editions_at old) = ap (option_map noted) (noted_over old new none adds) ∙ sym (ap (option_map noted) none) in
    let sites : sites_told new ≡ sites_told old = ap sites_told adds.0 in
    ap₂ tables_of edition sites

none_told : tables_in nothing ≡ Some no_tables
unfolding tables_in
none_told = refl

-- what the one transaction makes of rows tells what they told
pub rows_told : (db : Trees) (new : Stored) → MakesRows db new → (HasNone db × (tables_in new ≡ Some no_tables)) ⊎ ((s : Stored) × HasRows db s × (tables_in new ≡ tables_in s))
rows_told db new (inl (none, adds)) = inl (none, edition_told nothing new refl adds ∙ none_told)
rows_told db new (inr (s, has, inl (unnoted, adds))) = inr (s, has, edition_told s new unnoted adds)
rows_told db new (inr (s, has, inr same)) = inr (s, has, ap tables_in same)

editions_had : (db : Trees) (s : Stored) → HasRows db s → edition_shown (editions_at (stored db)) ≡ edition_shown (editions_at s)
editions_had db s (inl (six, is)) = ap (λ (r : Stored). edition_shown (editions_at r)) (sym is)
editions_had db s (inr (all, is)) = ap (λ (r : Stored). edition_shown (editions_at r)) (sym is)

-- what is told of a store that was opened again and prepared
module _ (old mid new : State) (again : OpensAgain old mid) (rows : HasCleanDisk mid → mid.now.trees ≡ old.now.trees) (after : doubt mid.is_clean ≤ doubt new.is_clean) where
  clean_mid : HasCleanDisk new → HasCleanDisk mid
  clean_mid clean = omega (arith, clean, after)

  from_old : (number : ℕ) → (HasCleanDisk new → IsTrue new.is_open → Prepares number mid.now.trees new.now.trees) → HasCleanDisk new → IsTrue new.is_open → Prepares number old.now.trees new.now.trees
  from_old number made clean is_open = subst (λ (t : Trees). Prepares number t new.now.trees) (rows (clean_mid clean)) (made clean is_open)

  module _ (number : ℕ) (made : HasCleanDisk new → IsTrue new.is_open → Prepares number mid.now.trees new.now.trees) where
    -- where rows of its edition are taken
    module _ (taken : is_taken number ≡ true) where
      made_of_old : HasCleanDisk new → IsTrue new.is_open → MakesRows old.now.trees (rows_in new)
      made_of_old clean is_open = by (from_old number made clean is_open)
        where
          by : Prepares number old.now.trees new.now.trees → MakesRows old.now.trees (rows_in new)
          by (inl (its, (all, rows))) = rows
          by (inr (untaken, same)) = absurd (true≢false (sym taken ∙ untaken))

      pub told_prepared : IsToldOf old new
      told_prepared clean is_open = by (rows_told old.now.trees (rows_in new) (made_of_old clean is_open))
        where
          now_told : told new ≡ tables_in (rows_in new)
          now_told = told_rows new clean is_open

          by : (HasNone old.now.trees × (tables_in (rows_in new) ≡ Some no_tables)) ⊎ ((s : Stored) × HasRows old.now.trees s × (tables_in (rows_in new) ≡ tables_in s))
              → (HasNone old.now.trees × (told new ≡ Some no_tables)) ⊎ ((s : Stored) × HasRows old.now.trees s × (told new ≡ tables_in s))
          by (inl (none, empty)) = inl (none, now_told ∙ empty)
          by (inr (s, has, gives)) = inr (s, has, now_told ∙ gives)

      -- the edition that it had noted
      pub found_ours : (HasCleanDisk new → IsTrue new.is_open → edition_in new ≡ Some (Some number)) → FoundEdition Ready old new
      found_ours noted clean is_open = by (made_of_old clean is_open)
        where
          by : MakesRows old.now.trees (rows_in new) → HasNone old.now.trees ⊎ ((edition_in old ≡ Some None) ⊎ ((n : ℕ) × (is_taken n ≡ true) × (edition_in old ≡ Some (Some n))))
          by (inl (none, adds)) = inl none
          by (inr (s, has, inl (unnoted, adds))) = inr (inl (editions_had old.now.trees s has ∙ unnoted))
          by (inr (s, has, inr same)) = inr (inr (number, taken, editions_had old.now.trees s has ∙ ap (λ (r : Stored). edition_shown (editions_at r)) (sym same) ∙ noted clean is_open))

    -- and where they aren't
    module _ (other : is_taken number ≡ false) where
      stays_old : Prepares number old.now.trees new.now.trees → new.now.trees ≡ old.now.trees
      stays_old (inl (taken, made)) = absurd (true≢false (sym taken ∙ other))
      stays_old (inr (untaken, same)) = same

      pub stays_other : StaysStored old new
      stays_other clean is_open = stays_old (from_old number made clean is_open)

      pub found_other : (HasCleanDisk new → IsTrue new.is_open → edition_in new ≡ Some (Some number)) → FoundEdition (OtherEdition number) old new
      found_other noted clean is_open = ap (λ (t : Trees). edition_shown (editions_at (stored t))) (sym (stays_old (from_old number made clean is_open))) ∙ noted clean is_open

  -- where that failed
  pub stays_failed : (HasCleanDisk new → IsTrue new.is_open → new.now ≡ mid.now) → StaysStored old new
  stays_failed same clean is_open = ap (λ (d : Database). d.trees) (same clean is_open) ∙ rows (clean_mid clean)

  -- and what a crash leaves
  pub left_prepared : Survives mid new (IsPrepared mid.now.trees) → HasCleanDisk new → (db : Trees) → new.may_leave db → (HasCleanDisk old × old.may_leave db) ⊎ IsPrepared old.now.trees db
  left_prepared h clean db left = by (h.crash clean db left)
    where
      by : mid.may_leave db ⊎ IsPrepared mid.now.trees db → (HasCleanDisk old × old.may_leave db) ⊎ IsPrepared old.now.trees db
      by (inl earlier) = inl (omega (arith, clean_mid clean, again.clean), again.crash (clean_mid clean) db earlier)
      by (inr made) = inr (subst (λ (t : Trees). IsPrepared t db) (rows (clean_mid clean)) made)

-- ---- the keeper

module _ {S : Type 0} (g : Ghosts S) (old : Keeper S) (conn : Held S) (is : held old ≡ Some conn) where
  left_first : (ready waiting : Option (Held S)) (shut : Option S) (db : Trees) → LeftBy g (first_of ready waiting) db → LeftBy g ready db ⊎ (LeftBy g waiting db ⊎ LeftShut g shut db)
  left_first (Some c) waiting shut db h = inl h
  left_first None waiting shut db h = inr (inl h)

  pub leaves_held : (db : Trees) → (HasCleanDisk (state g conn) × (state g conn).may_leave db) ⊎ IsPrepared (state g conn).now.trees db → Leaves g old db ⊎ MadeOf g (held old) db
  leaves_held db (inl left) = inl (left_first old.ready old.waiting old.shut db (subst (λ o. LeftBy g o db) (sym is) left))
  leaves_held db (inr made) = inr (subst (λ o. MadeOf g o db) (sym is) made)

  -- with what was made of the connection: a keeper that is ready, one that waits, and one whose store is shut
  module _ (new : Keeper S) where
    pub leaves_ready : (after : Held S) → new.ready ≡ Some after → new.waiting ≡ None → new.shut ≡ old.shut
        → (HasCleanDisk (state g after) → (db : Trees) → (state g after).may_leave db → (HasCleanDisk (state g conn) × (state g conn).may_leave db) ⊎ IsPrepared (state g conn).now.trees db) → LeavesPrepared g old new
    leaves_ready after ready waiting shut h db (inl left) = let mine : LeftBy g (Some after) db = subst (λ o. LeftBy g o db) ready left in leaves_held db (h mine.0 db mine.1)
    leaves_ready after ready waiting shut h db (inr (inl left)) = absurd (subst (λ o. LeftBy g o db) waiting left)
    leaves_ready after ready waiting shut h db (inr (inr left)) = inl (inr (inr (subst (λ o. LeftShut g o db) shut left)))

    pub leaves_waiting : (after : Held S) → new.ready ≡ None → new.waiting ≡ Some after → new.shut ≡ old.shut
        → (HasCleanDisk (state g after) → (db : Trees) → (state g after).may_leave db → (HasCleanDisk (state g conn) × (state g conn).may_leave db) ⊎ IsPrepared (state g conn).now.trees db) → LeavesPrepared g old new
    leaves_waiting after ready waiting shut h db (inl left) = absurd (subst (λ o. LeftBy g o db) ready left)
    leaves_waiting after ready waiting shut h db (inr (inl left)) = let mine : LeftBy g (Some after) db = subst (λ o. LeftBy g o db) waiting left in leaves_held db (h mine.0 db mine.1)
    leaves_waiting after ready waiting shut h db (inr (inr left)) = inl (inr (inr (subst (λ o. LeftShut g o db) shut left)))

    pub leaves_shut : (store : S) → new.ready ≡ None → new.waiting ≡ None → new.shut ≡ Some store → doubt (state g conn).is_clean ≤ doubt (g.view store).is_clean
        → ((db : Trees) → g.recovers store db → (state g conn).may_leave db) → LeavesPrepared g old new
    leaves_shut store ready waiting shut after h db (inl left) = absurd (subst (λ o. LeftBy g o db) ready left)
    leaves_shut store ready waiting shut after h db (inr (inl left)) = absurd (subst (λ o. LeftBy g o db) waiting left)
    leaves_shut store ready waiting shut after h db (inr (inr left)) =
        let mine : LeftShut g (Some store) db = subst (λ o. LeftShut g o db) shut left in
        let clean : doubt (g.view store).is_clean ≡ 0 = mine.0 in
        leaves_held db (inl (omega (arith, clean, after), h db mine.1))

  pub across_held : (P : State → State → Type 0) (after : Held S) → P (state g conn) (state g after) → Across g P (held old) (Some after)
  across_held P after h = subst (λ o. Across g P o (Some after)) (sym is) h

  -- a keeper that waits
  pub found_held : (P : State → State → Type 0) (ready : Option (Held S)) (after : Held S) → ready ≡ None → P (state g conn) (state g after) → Across g P (held old) (first_of ready (Some after))
  found_held P ready after none h = subst (λ o. Across g P (held old) (first_of o (Some after))) (sym none) (across_held P after h)

  pub between_held : (P : State → State → Type 0) (after : Held S) → P (state g conn) (state g after) → Between g P (held old) (Some after)
  between_held P after h = subst (λ o. Between g P o (Some after)) (sym is) h

-- where there is no connection, before or after
module _ {S : Type 0} (g : Ghosts S) where
  pub leaves_none : (old new : Keeper S) → new.ready ≡ None → new.waiting ≡ None → new.shut ≡ old.shut → LeavesPrepared g old new
  leaves_none old new ready waiting shut db (inl left) = absurd (subst (λ o. LeftBy g o db) ready left)
  leaves_none old new ready waiting shut db (inr (inl left)) = absurd (subst (λ o. LeftBy g o db) waiting left)
  leaves_none old new ready waiting shut db (inr (inr left)) = inl (inr (inr (subst (λ o. LeftShut g o db) shut left)))

  pub between_none : (P : State → State → Type 0) (old : Option (Held S)) → Between g P old None
  between_none P (Some a) = tt
  between_none P None = tt
