-- What CREATE TABLE does.
use Rattle.std.proofs.Common.{◌≡◌, ℕ, List, [], false, None, Ok, sym, ap, subst, ◌∙◌}
use Rattle.sqlite.specs.State.{State, Executes, Writes}
use Rattle.sqlite.specs.Does.{Tally, lacks_sequence}
use Rattle.sqlite.specs.Effect.{Database, IsDatabase}
use Rattle.sqlite.specs.Tree.{Trees}
use Rattle.sqlite.specs.Change.{created, next_tree, KeepsRows}
use Rattle.sqlite.specs.Compile.{table_defined_by}
use Rattle.sqlite.specs.Command.TheVariants.{CreateTable}
use Rattle.sqlite.specs.Listing.{understood}
use Rattle.sqlite.proofs.Callers.{IsPlain, command_of, statement_of, runs_as}
use Rattle.sqlite_schema.specs.declared.schema.Table.{Table}
use Rattle.sqlite_schema.specs.declared.schema.Schema.{Schema}
use Rattle.sql_rows.proofs.Statements.{went, same_value}

-- the table is there, empty, and the rows of the others stay
pub record Creates (schema : Schema) (table : Table) (old new : State) : Type 0 where
  pub schema_is : new.now.schema ≡ created schema table
  pub empty : new.now.trees (next_tree schema) ≡ []
  pub others : KeepsRows schema.tables old.now.trees new.now.trees
  pub sound : IsDatabase new.now

pub creates : (sql : List ℕ) (schema : Schema) (table : Table) (old new : State) (count : ℕ) → command_of (understood schema sql) ≡ CreateTable → statement_of sql (understood schema sql) ≡ sql → table_defined_by sql ≡ Ok table → IsPlain (understood schema sql)
    → lacks_sequence (created schema table) ≡ false → old.now.schema ≡ schema → Executes sql [] old new (Ok count) → Creates schema table old new
creates sql schema table old new count is text defined plain quiet has h =
    let w = subst (λ t. Writes old new None CreateTable t [] count) text (runs_as sql [] old new schema has CreateTable is plain count h) in
    let all = went w.changed in
    let first = went all.1 in
    let made = first.1 in
    let both : Ok made.table ≡ Ok table = sym made.defined ∙ defined in
    let same : made.table ≡ table = cc in
    let after : first.0.schema ≡ created schema table = made.is ∙ ap (λ s. created s made.table) has ∙ ap (created schema) same in
    let lacks : lacks_sequence first.0.schema ≡ false = ap lacks_sequence after ∙ quiet in
    let now : new.now ≡ first.0 = ap (λ (p : Tally × Database). p.1) (same_value all.2) ∙ same_value (rw lacks at first.2) in
    record {
      schema_is = ap (λ (d : Database). d.schema) now ∙ after;
      empty = ap (λ (d : Database). d.trees (next_tree schema)) now ∙ subst (λ s. first.0.trees (next_tree s) ≡ []) has made.empty;
      others = subst (λ (t : Trees). KeepsRows schema.tables old.now.trees t) (ap (λ (d : Database). d.trees) (sym now)) (subst (λ s. KeepsRows s.tables old.now.trees first.0.trees) has made.others);
      sound = w.sound;
    }
