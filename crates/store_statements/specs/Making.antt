-- A store whose tables are made one after another.
use Rattle.std.specs.Prelude.{◌≡◌, ℕ, List, [], ◌∷◌, ◌++◌, take, Result, OnOk}
use Rattle.std.specs.Borrow.{MutBor}
use Rattle.sqlite_schema.specs.declared.schema.Table.{Table}
use Rattle.sqlite_trees.specs.declared.store.Store.{Ghosts}
use Rattle.sqlite.specs.Held.{Held, state}
use Rattle.sqlite.specs.State.{State, HasCleanDisk}
use Rattle.sqlite.specs.Change.{KeepsRows}
use Rattle.sql_rows.specs.Stores as rows
use Rattle.store_statements.specs.Schema.{schema_of, the_tables}
use Rattle.store_statements.specs.Stored.{Stored}

-- a store that has these tables and no other, in a transaction
abbrev pub HasTables : List Table → State → Type 0
HasTables tables = rows.IsReady (schema_of tables)

-- a table is made behind these, whose rows stay; it is empty, and the transaction goes on
pub record MakesTable (tables : List Table) (table : Table) (old new : State) : Type 0 where
  pub ready : HasTables (tables ++ table ∷ []) new
  pub empty : new.now.trees table.tree ≡ []
  pub others : KeepsRows tables old.now.trees new.now.trees

-- a call in a transaction makes this table, where so many of the tables stand and no other
abbrev pub MakesTableInside : {S A E : Type 0} → Ghosts S → ℕ → Table → MutBor (Held S) → MutBor (Held S) → Result A E → Type 0
MakesTableInside g count table old new result =
    HasCleanDisk (state g new.now) → HasTables (take count the_tables) (state g old.now) → OnOk result (MakesTable (take count the_tables) table (state g old.now) (state g new.now))

-- the last table is made behind the six of an older store, whose rows stay
abbrev pub MakesLast : Stored → Stored → Type 0
MakesLast old new = new ≡ record old { languages = [] }

-- nothing is stored
abbrev pub nothing : Stored
nothing = record { sites = []; members = []; pages = []; judgements = []; outcomes = []; editions = []; languages = [] }
