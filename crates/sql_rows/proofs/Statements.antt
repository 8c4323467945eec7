-- What INSERT OR REPLACE, INSERT and DELETE do to a table that no foreign key refers to and that counts no rowids.
use Rattle.std.proofs.Common.{◌≡◌, ◌≢◌, ◌⊎◌, inl, inr, ℕ, ◌/◌, List, [], ◌∷◌, length, false, Option, Some, None, Ok, Err, Result, sym, ap, subst, ◌∙◌}
use Rattle.std.specs.Prelude.{ℤ}
use Rattle.sqlite_value.specs.declared.value.Value.TheVariants.{Null, Int}
use Rattle.sqlite_value.specs.Order.{Row}
use Rattle.sqlite_trees.specs.Tree.{Trees, put_row}
use Rattle.sqlite_schema.specs.declared.schema.Keys.{Keys}
use Rattle.sqlite_schema.specs.declared.schema.Table.{Table}
use Rattle.sqlite_schema.specs.declared.schema.Schema.{Schema}
use Rattle.sqlite_schema.specs.declared.command.Command.{Command}
use Rattle.sqlite_schema.specs.declared.command.Conflict.TheVariants.{Replace}
use Rattle.sqlite_schema.specs.declared.command.Source.TheVariants.{Values}
use Rattle.sqlite_schema.specs.declared.program.Program.{Program}
use Rattle.sqlite_rules.specs.declared.error.Refusal.{Refusal}
use Rattle.sqlite_rules.specs.declared.error.Rowids.TheVariants.{Given, Chosen}
use Rattle.sqlite_rules.specs.Edit.{edit_of, edited, next_rowid, with_rowid, without_all, taken_by, Applies}
use Rattle.sqlite_rules.specs.Action.{works}
use Rattle.sqlite_rules.specs.Calls.{ids_of}
use Rattle.sqlite_rules.specs.Cast.{cast_row}
use Rattle.sqlite_rules.specs.Keys.{AreConflicts}
use Rattle.sqlite_rules.proofs.ListLemmas.{all_has, all_from}
use Rattle.sqlite_sql.specs.Term.{Term}
use Rattle.sqlite.specs.declared.run.Mode.{Mode}
use Rattle.sqlite.specs.Effect.{Database, Answers}
use Rattle.sqlite.specs.Does.{Tally, OnRows}
use Rattle.sqlite.specs.Rows.{Written, Task, Edited, Puts, Clears, Judged, Upserts, Tries, TriesEach, InsertsOr, Inserts, Deletes, count_of, mended, nothing, stamped}
use Rattle.sqlite.specs.Effect.{value_rows}
use Rattle.sqlite.proofs.Callers.{one_step}
use Rattle.sql_rows.specs.Changes.{OthersStay}

-- a part that gave a value did not stop on the way
pub went : {B E R : Type 0} {b : B} {Stops : E → Type 0} → ((stop : E) × Stops stop × (Ok b ≡ Err stop)) ⊎ R → R
went (inl stopped) = absurd (let e = stopped.2 in cc)
went (inr on) = on

pub same_value : {B E : Type 0} {a b : B} → ◌≡◌ {A = Result B E} (Ok a) (Ok b) → a ≡ b
same_value e = cc

-- what a statement on rows leaves is what its rows come to
pub concluded : (task : Task) (mode : Mode) (command : Command) (db : Trees) (tally : Tally) (after : Database)
    → OnRows task mode None command db (Ok (tally, after)) → (w : Written) × Rattle.sqlite.specs.Does.WritesRows task db command (Ok w) × (after ≡ record { schema = task.schema; trees = w.trees })
concluded task mode command db tally after h =
    let done = went h in
    (done.0, done.1, ap (λ (p : Tally × Database). p.1) (same_value (went (went done.2).2).2))

others_then : (schema : Schema) (table : Table) (a b c : Trees) → OthersStay schema table a b → OthersStay schema table b c → OthersStay schema table a c
others_then schema table a b c p q =
    all_from (λ (t : Table). (t.tree ≢ table.tree) → c t.tree ≡ a t.tree) schema.tables
    (λ t h other. all_has _ schema.tables t q h other ∙ all_has _ schema.tables t p h other)

-- `works` says which actions of foreign keys a change sets off
abbrev pub IsQuiet : Schema → Table → Type 0
IsQuiet schema table = (keys : Keys) (olds news : List Row) → works schema keys 0 table.tree olds news ≡ []

module _ (schema : Schema) (given : Table) where
  abbrev table : Table
  table = record given { is_counted = false }

  abbrev task_of : Option ℕ → Keys → Row → Task
  task_of limit keys params = record { limit = limit; keys = keys; schema = schema; table = table; params = params }

  module _ (quiet : IsQuiet schema table) (limit : Option ℕ) (keys : Keys) (params : Row) where
    abbrev task : Task
    task = task_of limit keys params

    applied : (db next : Trees) (gone : List ℤ) (sources : List Row) → Edited schema keys db (edit_of db table gone Given 0 sources) (Ok next) → Applies schema keys db (edit_of db table gone Given 0 sources) next
    applied db next gone sources h =
        let edit = edit_of db table gone Given 0 sources in
        one_step schema keys db next edit (quiet keys (taken_by db edit) edit.news) h

    -- ---- INSERT OR REPLACE

    abbrev made : List Row → Row → Row
    made rows cells = Int (next_rowid rows) ∷ cells

    -- the rows that share its rowid or its key are gone, and the new row is there
    pub record Replaces (db : Trees) (cells : Row) (next : Trees) : Type 0 where
      pub found : List Row
      pub conflicts : AreConflicts None schema.indexes table (db table.tree) (made (db table.tree) cells) found
      pub rows : next table.tree ≡ put_row (made (db table.tree) cells) (without_all (db table.tree) (ids_of found))
      pub others : OthersStay schema table db next

    puts_one : (new : Row) (db : Trees) (one : Written) → cast_row table new ≡ new → Puts task new db (Ok one) → (one.trees table.tree ≡ put_row new (db table.tree)) × OthersStay schema table db one.trees
    puts_one new db one cast h =
        let edit = went h in
        let is : one.trees ≡ edit.0 = ap (λ (w : Written). w.trees) (same_value edit.2) in
        let now = applied db edit.0 [] (new ∷ []) edit.1 in
        (ap (λ (t : Trees). t table.tree) is ∙ now.rows ∙ ap (λ r. put_row r (db table.tree)) cast, subst (OthersStay schema table db) (sym is) now.tables)

    clears : (new : Row) (db : Trees) (found : List Row) (one : Written) → cast_row table new ≡ new
        → Clears task Replace new db found (Ok one) → (one.trees table.tree ≡ put_row new (without_all (db table.tree) (ids_of found))) × OthersStay schema table db one.trees
    clears new db [] one cast h = puts_one new db one cast h
    clears new db (x ∷ more) one cast h =
        let cleared = went h in
        let first = applied db cleared.0 (ids_of (x ∷ more)) [] cleared.1 in
        let then = puts_one new cleared.0 one cast cleared.2 in
        (then.0 ∙ ap (put_row new) first.rows, others_then schema table db cleared.0 one.trees first.tables then.1)

    judged : (db : Trees) (new : Row) (verdict : Option Refusal) (one : Written) → Judged task Replace [] new db verdict (Ok one) → Upserts task Replace new db [] (Ok one)
    judged db new None one h = h
    judged db new (Some why) one h = absurd cc

    tries : (cells : Row) (db : Trees) (one : Written) → cast_row table (made (db table.tree) cells) ≡ made (db table.tree) cells → Tries task Replace [] (made (db table.tree) cells) db (Ok one) → Replaces db cells one.trees
    tries cells db one cast (inl refused) = absurd (let e = refused.1 in cc)
    tries cells db one cast (inr h) =
        let new = made (db table.tree) cells in
        let up = judged db new h.0 one h.2 in
        let done = clears new db up.0 one cast up.2 in
        record { found = up.0; conflicts = up.1; rows = done.0; others = done.1 }

    pub replaces : (terms : List Term) (width : ℕ) (source cells : Row) (db : Trees) (w : Written)
        → value_rows (stamped table params) width (length terms / width) terms ≡ source ∷ []
        → cast_row table (mended Replace table source) ≡ Null ∷ cells
        → cast_row table (made (db table.tree) cells) ≡ made (db table.tree) cells
        → InsertsOr task Replace [] (Values terms width) db (Ok w) → Replaces db cells w.trees
    replaces terms width source cells db w sourced cast_source cast_made h =
        let given = went h in
        let counted = went given.2 in
        let tried = went counted.2 in
        let counts = went tried.2 in
        let each = subst (λ rows. TriesEach task Replace [] rows (count_of counted.0) (nothing db) (Ok tried.0)) (given.1.1 ∙ sourced) tried.1 in
        let one = went each in
        let new : with_rowid Chosen (db table.tree) (cast_row table (mended Replace table source)) ≡ made (db table.tree) cells = ap (with_rowid Chosen (db table.tree)) cast_source in
        let put = tries cells db one.0 cast_made (subst (λ r. Tries task Replace [] r db (Ok one.0)) new one.1) in
        let trees : w.trees ≡ one.0.trees = ap (λ (x : Written). x.trees) (same_value counts.2) ∙ same_value counts.1 ∙ ap (λ (x : Written × ℤ). x.0.trees) (same_value one.2) in
        subst (Replaces db cells) (sym trees) put

    -- ---- INSERT

    -- the new row is there
    pub record Adds (db : Trees) (cells : Row) (next : Trees) : Type 0 where
      pub rows : next table.tree ≡ put_row (made (db table.tree) cells) (db table.tree)
      pub others : OthersStay schema table db next

    pub adds : (terms : List Term) (width : ℕ) (source cells : Row) (db : Trees) (w : Written) → value_rows (stamped table params) width (length terms / width) terms ≡ source ∷ [] → cast_row table source ≡ Null ∷ cells
        → Inserts task (Values terms width) db (Ok w) → Adds db cells w.trees
    adds terms width source cells db w sourced cast h =
        let given = went h in
        let counted = went given.2 in
        let edit = went counted.2 in
        let counts = went edit.2 in
        let from : given.0 ≡ source ∷ [] = given.1.1 ∙ sourced in
        let whole = edit_of db table [] Chosen 0 given.0 in
        let now = one_step schema keys db edit.0 whole (quiet keys (taken_by db whole) whole.news) edit.1 in
        let is : w.trees ≡ edit.0 = ap (λ (x : Written). x.trees) (same_value counts.2) ∙ same_value counts.1 in
        let put : edited db whole ≡ put_row (made (db table.tree) cells) (db table.tree) =
        ap (λ rows. edited db (edit_of db table [] Chosen 0 rows)) from ∙ ap (λ r. put_row (with_rowid Chosen (db table.tree) r) (db table.tree)) cast in
        record { rows = ap (λ (t : Trees). t table.tree) is ∙ now.rows ∙ put; others = subst (OthersStay schema table db) (sym is) now.tables }

    -- ---- DELETE

    -- the rows that the query finds are gone
    pub record Removes (db : Trees) (q : Program) (next : Trees) : Type 0 where
      pub found : List Row
      pub answers : Answers (record { schema = schema; trees = db }) q params found
      pub rows : next table.tree ≡ without_all (db table.tree) (ids_of found)
      pub others : OthersStay schema table db next

    pub removes : (q : Program) (db : Trees) (w : Written) → Deletes task q db (Ok w) → Removes db q w.trees
    removes q db w h =
        let asked = went h in
        let edit = went asked.2 in
        let is : w.trees ≡ edit.0 = ap (λ (x : Written). x.trees) (same_value edit.2) in
        let now = applied db edit.0 (ids_of asked.0) [] edit.1 in
        record { found = asked.0; answers = asked.1; rows = ap (λ (t : Trees). t table.tree) is ∙ now.rows; others = subst (OthersStay schema table db) (sym is) now.tables }
