-- A store of tables, and what a statement in a transaction makes of it.
use Rattle.std.specs.Prelude.{◌≡◌, ℕ, List, IsTrue}
use Rattle.std.specs.List.{AllByRecursion}
use Rattle.sqlite_value.specs.Order.{Row}
use Rattle.sqlite.specs.Effect.{IsDatabase}
use Rattle.sqlite.specs.State.{State}
use Rattle.sqlite_schema.specs.declared.schema.Table.{Table}
use Rattle.sqlite_schema.specs.declared.schema.Schema.{Schema}
use Rattle.sql_rows.specs.Tables.{Rise, kept}
use Rattle.sql_rows.specs.Changes.{Changes, OthersStay}

-- a database of these tables, whose rowids rise
pub record IsStore (schema : Schema) (s : State) : Type 0 where
  pub schema_is : s.now.schema ≡ schema
  pub sound : IsDatabase s.now
  pub rise : AllByRecursion (λ (t : Table). Rise (s.now.trees t.tree)) schema.tables

-- and a transaction is open
pub record IsReady (schema : Schema) (s : State) : Type 0 where
  pub store : IsStore schema s
  pub inside : IsTrue s.in_transaction

-- the rows of one group of one table are changed and nothing else is, and the transaction goes on
pub record Alters (schema : Schema) (table : Table) (group : List (List ℕ)) (change : List Row → List Row) (old new : State) : Type 0 where
  pub ready : IsReady schema new
  pub changes : Changes group change (kept (old.now.trees table.tree)) (kept (new.now.trees table.tree))
  pub others : OthersStay schema table old.now.trees new.now.trees
