-- A store whose rows stay is a store.
use Rattle.std.proofs.Common.{◌≡◌, sym, ap, subst, ◌∙◌}
use Rattle.std.specs.List.{AllByRecursion}
use Rattle.sqlite.specs.Effect.{Database, IsDatabase}
use Rattle.sqlite.specs.State.{State, IsUnchanged}
use Rattle.sqlite_schema.specs.declared.schema.Schema.{Schema}
use Rattle.sqlite_schema.specs.declared.schema.Table.{Table}
use Rattle.sqlite_trees.specs.Tree.{Trees}
use Rattle.sql_rows.specs.Tables.{Rise}
use Rattle.store_statements.specs.Schema.{the_schema}
use Rattle.store_statements.specs.Changes.{IsStore, IsReady}
use Rattle.keep_sql.specs.Preparing.{HasAll}

pub store_same : (old new : State) → new.now ≡ old.now → IsStore old → IsStore new
store_same old new same h = record {
  schema_is = ap (λ (d : Database). d.schema) same ∙ h.schema_is;
  sound = subst IsDatabase (sym same) h.sound;
  rise = subst (λ (d : Database). AllByRecursion (λ (t : Table). Rise (d.trees t.tree)) the_schema.tables) (sym same) h.rise;
}

pub ready_same : (old new : State) → IsReady old → IsUnchanged old new → IsReady new
ready_same old new h same = record { store = store_same old new same.0.now_is h.store; inside = same.0.mode ∙ h.inside }

-- it has all tables
pub all_of : (s : State) → IsStore s → HasAll s.now.trees
all_of s h = subst (λ (k : Schema). IsDatabase (record { schema = k; trees = s.now.trees })) h.schema_is h.sound

-- and so do the trees that a transaction commits
pub all_left : (s : State) (db : Trees) → IsReady s → db ≡ s.now.trees → HasAll db
all_left s db h is = subst HasAll (sym is) (all_of s h.store)
