-- What is known of a database once its store was opened anew.
use Rattle.std.specs.List.{AllByRecursion}
use Rattle.sqlite.specs.Effect.{Database}
use Rattle.sqlite_schema.specs.declared.schema.Table.{Table}
use Rattle.sql_rows.specs.Tables.{Rise}

-- the rows of each table rise
abbrev pub AllRise : Database → Type 0
AllRise db = AllByRecursion (λ (t : Table). Rise (db.trees t.tree)) db.schema.tables
