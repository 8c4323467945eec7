-- A store that was opened anew, and what preparing makes of it.
use Rattle.std.specs.Prelude.{◌≡◌, ◌⊎◌, ◌==◌, ◌||◌, ℕ, pos, [], Bool, true, false, Option, None, Some, Result, OnErr, IsTrue}
use Rattle.sqlite_trees.specs.declared.store.Store.{Ghosts}
use Rattle.sqlite.specs.Held.{Held, state}
use Rattle.sqlite_trees.specs.Tree.{Trees}
use Rattle.sqlite.specs.Effect.{IsDatabase}
use Rattle.sqlite.specs.State.{State, HasCleanDisk, IsUnchanged}
use Rattle.sql_rows.specs.Opened.{AllRise}
use Rattle.sql_rows.specs.Stores as rows
use Rattle.store_statements.specs.Schema.{schema_of, old_schema, the_schema}
use Rattle.store_statements.specs.Stored.{Stored, stored, editions_at}
use Rattle.store_statements.specs.Changes.{IsStore, IsReady, AddsEdition}
use Rattle.store_statements.specs.Making.{nothing}
use Rattle.store_tables.specs.Editions.{edition_shown}
use Rattle.keep_sql.specs.Reading.{rows_in, edition_in}

-- a database, the rows of whose tables rise
pub record IsSound (s : State) : Type 0 where
  pub database : IsDatabase s.now
  pub rise : AllRise s.now

-- a database without tables
pub record IsBare (s : State) : Type 0 where
  pub schema_is : s.now.schema ≡ schema_of []
  pub database : IsDatabase s.now

-- a database of the first six tables
abbrev pub IsOlder : State → Type 0
IsOlder = rows.IsStore old_schema

-- trees that are a database without tables, an older one with the first six, and one with all
abbrev pub HasNone : Trees → Type 0
HasNone db = IsDatabase (record { schema = schema_of []; trees = db })

abbrev pub HasSix : Trees → Type 0
HasSix db = IsDatabase (record { schema = old_schema; trees = db })

abbrev pub HasAll : Trees → Type 0
HasAll db = IsDatabase (record { schema = the_schema; trees = db })

-- the rows of a store that has tables: an older one has no language
abbrev pub HasRows : Trees → Stored → Type 0
HasRows db s = (HasSix db × (s ≡ record (stored db) { languages = [] })) ⊎ (HasAll db × (s ≡ stored db))

-- the editions of rows that are taken: of none, or of the rules of one of these
abbrev pub is_taken : ℕ → Bool
is_taken number = number == 0 || (number == 1 || (number == 2 || (number == 3003 || number == 4003)))

-- where no edition is noted, 0 is, and else the rows stay
abbrev pub NotesNone : Stored → Stored → Type 0
NotesNone old new = ((edition_shown (editions_at old) ≡ Some None) × AddsEdition (pos 0) old new) ⊎ (new ≡ old)

-- what the one transaction makes of the rows: a store without tables gets all, and in them the edition 0 and no other row; one
-- that has some gets the last where it lacks it, and notes 0 where no edition is noted
abbrev pub MakesRows : Trees → Stored → Type 0
MakesRows old new = (HasNone old × AddsEdition (pos 0) nothing new) ⊎ ((s : Stored) × HasRows old s × NotesNone s new)

-- the transaction, after which a store has all tables
abbrev pub IsPrepared : Trees → Trees → Type 0
IsPrepared old new = HasAll new × MakesRows old (stored new)

-- it is made where rows of the edition are taken, and else nothing is
abbrev pub Prepares : ℕ → Trees → Trees → Type 0
Prepares number old new = ((is_taken number ≡ true) × IsPrepared old new) ⊎ ((is_taken number ≡ false) × (new ≡ old))

-- ---- steps

-- the rows of an older store with the last table, which is empty
abbrev pub with_last : State → Stored
with_last s = record (rows_in s) { languages = [] }

-- an error of a call on a connection leaves the rows as they were
abbrev pub KeepsOnErr : {S A E : Type 0} → Ghosts S → Held S → Held S → Result A E → Type 0
KeepsOnErr g old new result = HasCleanDisk (state g new) → IsTrue (state g new).is_open → OnErr result ((state g new).now ≡ (state g old).now)

-- of a store with all tables, in which no edition is noted, 0 was
abbrev pub NotesOurs : State → Trees → Type 0
NotesOurs s db = HasAll db × (edition_in s ≡ Some None) × AddsEdition (pos 0) (rows_in s) (stored db)

-- of one without tables, all were made, and 0 was noted
abbrev pub MakesOurs : Trees → Type 0
MakesOurs db = HasAll db × AddsEdition (pos 0) nothing (stored db)

-- of an older one, the last table was made, and 0 was noted where no edition was
abbrev pub RenewsOurs : State → Trees → Type 0
RenewsOurs s db = HasAll db × NotesNone (with_last s) (stored db)

-- in a transaction: an edition was found among the rows, or none was, and 0 is noted
abbrev pub NotesInside : Stored → State → Option ℕ → Type 0
NotesInside s new (Some number) = edition_shown (editions_at s) ≡ Some (Some number)
NotesInside s new None = IsReady new × (edition_shown (editions_at s) ≡ Some None) × AddsEdition (pos 0) s (rows_in new)

-- and where one was found the rows are as they were
abbrev pub StaysFound : State → State → Option ℕ → Type 0
StaysFound old new (Some number) = IsUnchanged old new
StaysFound old new None = Unit {0}

-- as one transaction
abbrev pub NotesStore : State → State → Option ℕ → Type 0
NotesStore old new (Some number) = (new.now ≡ old.now) × (edition_in old ≡ Some (Some number))
NotesStore old new None = IsStore new × (edition_in old ≡ Some None) × AddsEdition (pos 0) (rows_in old) (rows_in new)

-- an edition is found, or 0 is noted, which the store has then
pub record Notes (old new : State) (number : ℕ) : Type 0 where
  pub store : IsStore new
  pub edition : edition_in new ≡ Some (Some number)
  pub made : (new.now ≡ old.now) ⊎ ((number ≡ 0) × NotesOurs old new.now.trees)

-- in a transaction: an older store got its last table, and this edition is noted then
pub record IsRenewed (old new : State) (number : ℕ) : Type 0 where
  pub ready : IsReady new
  pub rows : NotesNone (with_last old) (rows_in new)
  pub edition : edition_in new ≡ Some (Some number)

-- an older store: what the transaction makes of it, or that it is as it was, by the number that is noted
pub record Renews (old new : State) (number : ℕ) : Type 0 where
  pub edition : edition_in new ≡ Some (Some number)
  pub made : ((is_taken number ≡ true) × IsStore new × NotesNone (with_last old) (rows_in new)) ⊎ ((is_taken number ≡ false) × (new.now ≡ old.now))
