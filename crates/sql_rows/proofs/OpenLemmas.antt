-- A store that isn't broken keeps the rows of each table in order of their rowids.
use Rattle.std.proofs.Common.{◌≡◌, Bool, true, false, IsTrue, refl, sym, subst, ◌∙◌, true≢false}
use Rattle.sqlite_trees.specs.View.{View, IsShaped, IsOrdered, IsClean, IsRolledBack}
use Rattle.sqlite_trees.specs.Objects.{IsListed, catalog_tree}
use Rattle.sqlite_trees.specs.declared.store.Shape.TheVariants as shape
use Rattle.sqlite_schema.specs.declared.schema.Table.{Table}
use Rattle.sqlite_schema.specs.declared.schema.Schema.{Schema}
use Rattle.sqlite_rules.proofs.ListLemmas.{all_from}
use Rattle.sqlite_catalog.specs.Listing.{IsSound}
use Rattle.sqlite_catalog.proofs.LayoutLemmas.{objects_rise, table_shape}
use Rattle.sqlite.specs.Steps.{IsFresh}
use Rattle.sql_rows.specs.Tables.{Rise}
use Rattle.sql_rows.specs.Opened.{AllRise}

pub rises_in : (v : View) (schema : Schema) → IsSound schema v.trees → IsListed (v.trees catalog_tree) v.shape v.reals → IsOrdered v.shape v.trees → AllRise (record { schema = schema; trees = v.trees })
rises_in v schema sound listed ordered =
    all_from (λ (t : Table). Rise (v.trees t.tree)) schema.tables (λ t h.
    let is : v.shape t.tree ≡ shape.Table = (table_shape listed (objects_rise v listed ordered).0 sound.lists.listed t h).0 in
    let shaped = subst (λ s. IsShaped s (v.trees t.tree)) is (ordered t.tree) in
    record { up = shaped.0; numbered = shaped.1 })

pub open_by : (v : View) (b : Bool) → v.is_open ≡ b → (v.is_open ≡ false → IsTrue v.is_broken) → v.is_broken ≡ false → IsTrue v.is_open
open_by v true is law whole = is
open_by v false is law whole = absurd (true≢false (sym (law is) ∙ whole))

-- a store that was rolled back and isn't broken is as one that was just opened
pub fresh_by : (old new : View) → IsRolledBack old new → IsTrue new.is_numbered → (new.is_open ≡ false → IsTrue new.is_broken) → new.is_broken ≡ false → IsClean new → IsFresh new
fresh_by old new undone numbered law whole clean =
    let is_open = open_by new new.is_open refl law whole in
    record {
      sound = whole;
      numbered = numbered;
      clean = (undone.undone is_open).0 ∙ sym ((undone.kept clean).committed is_open);
      unmarked = (undone.kept clean).marks is_open;
    }
