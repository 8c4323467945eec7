-- What a statement does to the rows of a table, and to the other tables of its schema.
use Rattle.std.specs.Prelude.{◌≡◌, ◌≢◌, List, ℕ}
use Rattle.std.specs.List.{AllByRecursion}
use Rattle.sqlite_value.specs.Order.{Row}
use Rattle.sqlite_trees.specs.Tree.{Trees}
use Rattle.sqlite_schema.specs.declared.schema.Table.{Table}
use Rattle.sqlite_schema.specs.declared.schema.Schema.{Schema}
use Rattle.sql_rows.specs.Tables.{rows_of, rows_outside}

-- the rows of one group are changed, and those of every other group stay as they are
pub record Changes (group : List (List ℕ)) (change : List Row → List Row) (old new : List Row) : Type 0 where
  pub there : rows_of group new ≡ change (rows_of group old)
  pub elsewhere : rows_outside group new ≡ rows_outside group old

-- every other table stays
abbrev pub OthersStay : Schema → Table → Trees → Trees → Type 0
OthersStay schema table old new = AllByRecursion (λ (t : Table). (t.tree ≢ table.tree) → new t.tree ≡ old t.tree) schema.tables
