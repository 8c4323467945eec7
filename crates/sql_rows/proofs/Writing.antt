-- What the writing statements do to a keyed table of a store.
use Rattle.std.proofs.Common.{◌≡◌, ◌⊎◌, inl, inr, ℕ, suc, ◌/◌, ℤ, List, [], ◌∷◌, ◌++◌, length, filter, Bool, true, false, not, Some, None, Ok, slice_get, refl, sym, ap, ap₂, subst, ◌∙◌, ◌&&◌, ◌||◌, Less}
use Rattle.std.specs.List.{AllByRecursion}
use Rattle.std.proofs.lemmas.Bool.{cases_eq}
use Rattle.sqlite_value.specs.declared.value.Value.{Value}
use Rattle.sqlite_value.specs.declared.value.Value.TheVariants.{Null, Int, Real, Text, Blob}
use Rattle.sqlite_value.specs.declared.keys.Collation.TheVariants.{Binary}
use Rattle.sqlite_value.specs.Order.{Row, column, value_cmp}
use Rattle.sqlite_value.specs.Keys.{plain}
use Rattle.sqlite_trees.specs.Tree.{Trees, rowid, put_row}
use Rattle.sqlite_sql.specs.Ops.{binary}
use Rattle.sqlite_sql.specs.Term.{Term, col}
use Rattle.sqlite_sql.specs.Query.{IsAnswer}
use Rattle.sqlite_schema.specs.Rules.{equal, agree, Fits}
use Rattle.sqlite_schema.specs.declared.schema.Table.{Table}
use Rattle.sqlite_schema.specs.declared.schema.Schema.{Schema}
use Rattle.sqlite_schema.specs.declared.command.Command.{Command}
use Rattle.sqlite_schema.specs.declared.command.Command.TheVariants.{Insert, InsertOr, Delete}
use Rattle.sqlite_schema.specs.declared.command.Conflict.TheVariants.{Replace}
use Rattle.sqlite_schema.specs.declared.command.Source.TheVariants.{Values}
use Rattle.sqlite_rules.specs.Lists.{Has}
use Rattle.sqlite_rules.specs.Edit.{next_rowid, without_all}
use Rattle.sqlite_rules.specs.Calls.{ids_of}
use Rattle.sqlite_rules.specs.Keys.{conflicts}
use Rattle.sqlite_rules.proofs.ListLemmas.{all_has, all_from}
use Rattle.sqlite_rules.proofs.RuleLemmas.{fits_obeyed}
use Rattle.sqlite.specs.Effect.{Database, value_rows}
use Rattle.sqlite.specs.Does.{Does, AtPlace, OnRows, Tally}
use Rattle.sqlite.specs.Listing.{understood}
use Rattle.sqlite.specs.Program.{overlay}
use Rattle.sqlite.specs.Rows.{Task, stamped}
use Rattle.sqlite.specs.State.{State, Writes, ExecutesInside, mode_of}
use Rattle.sqlite.proofs.Callers.{IsPlain, command_of, statement_of, runs_as}
use Rattle.named_rows.specs.ByName as named
use Rattle.sql_rows.specs.Tables.{kept, leads, name_in, is_row, Rise}
use Rattle.sql_rows.specs.Changes.{Changes, OthersStay}
use Rattle.sql_rows.specs.Keyed.{KeyKind, IsNamedBy, IsKeyed}
use Rattle.sql_rows.specs.Queries.{simple, wheres, AreGiven, BeginWithTexts}
use Rattle.sql_rows.specs.Stores.{IsStore, IsReady, Alters}
use Rattle.sql_rows.proofs.Casting.{are_exact, source_cast, mended_cast, made_cast}
use Rattle.sql_rows.proofs.Groups.{name_behind, leads_behind, kept_outside, kept_without, leads_key, keys_are, take_changes, drop_changes, add_changes, put_changes}
use Rattle.sql_rows.proofs.Raw.{AreFound, removed, rise_kept, all_below, put_is, put_rises, put_kept, push_is, push_rises, kept_push}
use Rattle.sql_rows.proofs.Selects.{passes_group, alone, found_rowids}
use Rattle.sql_rows.proofs.Statements.{concluded, Replaces, replaces, Adds, adds, Removes, removes}
use Rattle.sql_rows.proofs.Typed.{AreOf, key_in, plain_key, agree_is}

never_equal : (v : Value) (n : ℤ) → value_cmp v (Int n) ≡ Less → equal Binary v (Int n) ≡ false
unfolding binary
never_equal Null n less = refl
never_equal (Int m) n less = rw less refl
never_equal (Real x) n less = rw less refl
never_equal (Text t) n less = rw less refl
never_equal (Blob b) n less = rw less refl

or_false : (b : Bool) → (b || false) ≡ b
or_false true = refl
or_false false = refl

of_behind : (kinds : List KeyKind) (at : ℕ) (v : Value) (cells : Row) → AreOf at kinds cells → AreOf (suc at) kinds (v ∷ cells)
of_behind [] at v cells h = tt
of_behind (k ∷ kinds) at v cells h = (h.0, of_behind kinds (suc at) v cells h.1)

module _ (schema : Schema) (given : Table) (kinds : List KeyKind) (keyed : IsKeyed schema (record given { is_counted = false }) kinds) where
  abbrev table : Table
  table = record given { is_counted = false }

  pub fits_of : (s : State) → IsStore schema s → Fits schema s.now.trees
  fits_of s store = subst (λ k. Fits k s.now.trees) store.schema_is (fits_obeyed s.now.schema s.now.trees store.sound.obeys)

  pub rise_of : (s : State) → IsStore schema s → Rise (s.now.trees table.tree)
  rise_of s store = all_has (λ (t : Table). Rise (s.now.trees t.tree)) schema.tables table store.rise keyed.listed

  pub known : (s : State) → IsStore schema s → (r : Row) → Has (s.now.trees table.tree) r → AreOf 1 kinds r
  known s store r h = key_in schema s.now.trees table (fits_of s store) keyed.listed keyed.keyless r h kinds 0 keyed.columns

  module _ (old new : State) (ready : IsReady schema old) where
    abbrev db : Trees
    db = old.now.trees

    abbrev rows : List Row
    rows = db table.tree

    rises : Rise rows
    rises = rise_of old ready.store

    abbrev task_for : Row → Table → Task
    task_for params t = record { limit = old.step_limit; keys = (mode_of old).keys; schema = schema; table = t; params = params }

    rise_all : OthersStay schema table db new.now.trees → Rise (new.now.trees table.tree) → AllByRecursion (λ (t : Table). Rise (new.now.trees t.tree)) schema.tables
    rise_all others here = all_from (λ (t : Table). Rise (new.now.trees t.tree)) schema.tables (λ t h. by t h (cases_eq t.tree table.tree))
      where
        by : (t : Table) → Has schema.tables t → (t.tree ≡ table.tree) ⊎ (t.tree ≡ table.tree → ⊥) → Rise (new.now.trees t.tree)
        by t h (inl same) = subst (λ n. Rise (new.now.trees n)) (sym same) here
        by t h (inr other) = subst Rise (sym (all_has _ schema.tables t others h other)) (all_has (λ (u : Table). Rise (db u.tree)) schema.tables t ready.store.rise h)

    on_rows : (params : Row) (command : Command) (at : ℕ) (tally : Tally) → slice_get schema.tables at ≡ Some table
        → AtPlace (λ t. OnRows (task_for params t) (mode_of old) None command db) (slice_get schema.tables at) (Ok (tally, new.now)) → OnRows (task_for params table) (mode_of old) None command db (Ok (tally, new.now))
    on_rows params command at tally place h = subst (λ o. AtPlace (λ t. OnRows (task_for params t) (mode_of old) None command db) o (Ok (tally, new.now))) place h

    in_schema : (params : Row) (text : List ℕ) (command : Command) (tally : Tally) → Does old.step_limit (mode_of old) params old.now text None command (Ok (tally, new.now))
        → Does old.step_limit (mode_of old) params (record old.now { schema = schema }) text None command (Ok (tally, new.now))
    in_schema params text command tally h = subst (λ s. Does old.step_limit (mode_of old) params (record old.now { schema = s }) text None command (Ok (tally, new.now))) ready.store.schema_is h

    -- ---- rows that are put

    module _ (cells : Row) (group : List (List ℕ)) (fit : IsNamedBy kinds group) (mine : leads 0 group cells ≡ true) (are : AreOf 0 kinds cells) where
      abbrev made : Row
      made = Int (next_rowid rows) ∷ cells

      abbrev taken : Row → Bool
      taken = is_row 1 group (name_in 0 group cells)

      conflict_is : (r : Row) → Has rows r → conflicts None schema.indexes table made r ≡ taken r
      conflict_is r h =
          let below = all_has (λ s. value_cmp (rowid s) (Int (next_rowid rows)) ≡ Less) rows r (all_below rows rises) h in
          let fresh : agree plain (0 ∷ []) r (0 ∷ []) made ≡ false = ap (λ c. equal c (column r 0) (Int (next_rowid rows)) && true) plain_key ∙ ap (λ b. b && true) (never_equal (rowid r) (next_rowid rows) below) in
          let key = agree_is kinds 1 r made (known old ready.store r h) (of_behind kinds 0 _ cells are) ∙ keys_are kinds group 1 r made fit (sym (leads_behind group 0 made) ∙ mine) in
          keyed.conflicting made r ∙ ap₂ (λ a b. a || (b || false)) fresh key ∙ or_false _ ∙ ap (λ n. is_row 1 group n r) (sym (name_behind group 0 made))

      pub puts : (sql : List ℕ) (params : Row) (count at width : ℕ) (terms : List Term) → slice_get schema.tables at ≡ Some table → command_of (understood schema sql) ≡ InsertOr at Replace (Values terms width) [] → IsPlain (understood schema sql)
          → value_rows (stamped table params) width (length terms / width) terms ≡ (Null ∷ cells) ∷ [] → are_exact table.columns cells ≡ true → ExecutesInside 0 sql params old new (Ok count)
          → Alters schema table group (named.put_row (name_in 0 group) cells) old new
      puts sql params count at width terms place is bare sourced exact h =
          let command : Command = InsertOr at Replace (Values terms width) [] in
          let text = statement_of sql (understood schema sql) in
          let w : Writes old new None command text params count = runs_as sql params old new schema ready.store.schema_is command is bare count h.0 in
          let done = concluded (task_for params table) (mode_of old) command db w.tally new.now (on_rows params command at w.tally place (in_schema params text command w.tally w.changed)) in
          let put : Replaces schema given keyed.quiet old.step_limit (mode_of old).keys params db cells done.0.trees =
          replaces schema given keyed.quiet old.step_limit (mode_of old).keys params terms width (Null ∷ cells) cells db done.0 sourced (mended_cast table cells exact) (made_cast table cells exact (next_rowid rows)) done.1 in
          let now : new.now.trees ≡ done.0.trees = ap (λ (d : Database). d.trees) done.2 in
          let found : AreFound taken rows put.found = record {
            sound = λ x k. let c = put.conflicts.sound x k in (c.0, c.1, sym (conflict_is c.0 c.1) ∙ c.2, c.3);
            complete = λ r k passing. put.conflicts.complete r k (conflict_is r k ∙ passing);
          } in
          let with_made : new.now.trees table.tree ≡ put_row made (without_all rows (ids_of put.found)) = subst (λ (t : Trees). t table.tree ≡ put_row made (without_all rows (ids_of put.found))) (sym now) put.rows in
          let others_left : put_row made (without_all rows (ids_of put.found)) ≡ put_row made (filter (λ r. not (taken r)) rows) = ap (put_row made) (removed rows rises taken put.found found) in
          let here : new.now.trees table.tree ≡ filter (λ r. not (taken r)) rows ++ made ∷ [] = with_made ∙ others_left ∙ put_is rows rises taken cells in
          let others : OthersStay schema table db new.now.trees = subst (OthersStay schema table db) (sym now) put.others in
          record {
            ready = record {
              store = record { schema_is = ap (λ (d : Database). d.schema) done.2; sound = w.sound; rise = rise_all others (subst Rise (sym here) (put_rises rows rises taken cells)) };
              inside = h.1.mode;
            };
            changes = subst (Changes group (named.put_row (name_in 0 group) cells) (kept rows))
                (sym (ap kept here ∙ put_kept rows rises taken cells ∙ ap (λ l. l ++ cells ∷ []) (kept_without group (name_in 0 group cells) rows))) (put_changes group cells mine (kept rows));
            others = others;
          }

    -- a row comes behind the others
    pub puts_more : (cells : Row) (group : List (List ℕ)) → leads 0 group cells ≡ true → (sql : List ℕ) (params : Row) (count at width : ℕ) (terms : List Term) → slice_get schema.tables at ≡ Some table
        → command_of (understood schema sql) ≡ Insert at (Values terms width) → IsPlain (understood schema sql) → value_rows (stamped table params) width (length terms / width) terms ≡ (Null ∷ cells) ∷ [] → are_exact table.columns cells ≡ true
        → ExecutesInside 0 sql params old new (Ok count) → Alters schema table group (named.put_row (name_in 0 group) cells) old new
    puts_more cells group mine sql params count at width terms place is bare sourced exact h =
        let command : Command = Insert at (Values terms width) in
        let text = statement_of sql (understood schema sql) in
        let w : Writes old new None command text params count = runs_as sql params old new schema ready.store.schema_is command is bare count h.0 in
        let done = concluded (task_for params table) (mode_of old) command db w.tally new.now (on_rows params command at w.tally place (in_schema params text command w.tally w.changed)) in
        let put : Adds schema given keyed.quiet old.step_limit (mode_of old).keys params db cells done.0.trees =
        adds schema given keyed.quiet old.step_limit (mode_of old).keys params terms width (Null ∷ cells) cells db done.0 sourced (source_cast table cells exact) done.1 in
        let now : new.now.trees ≡ done.0.trees = ap (λ (d : Database). d.trees) done.2 in
        let here : new.now.trees table.tree ≡ rows ++ (Int (next_rowid rows) ∷ cells) ∷ [] = subst (λ (t : Trees). t table.tree ≡ put_row (Int (next_rowid rows) ∷ cells) rows) (sym now) put.rows ∙ push_is rows rises cells in
        let others : OthersStay schema table db new.now.trees = subst (OthersStay schema table db) (sym now) put.others in
        record {
          ready = record { store = record { schema_is = ap (λ (d : Database). d.schema) done.2; sound = w.sound; rise = rise_all others (subst Rise (sym here) (push_rises rows rises cells)) }; inside = h.1.mode };
          changes = subst (Changes group (named.put_row (name_in 0 group) cells) (kept rows)) (sym (ap kept here ∙ kept_push rows (Int (next_rowid rows) ∷ cells))) (add_changes group cells mine (kept rows));
          others = others;
        }

    -- ---- rows that are taken out

    module _ (test : Row → Bool) (names : List (List ℕ)) (params : Row) (texts : BeginWithTexts names kinds) (bound : AreGiven 0 names params) (passes_is : (r : Row) → leads 1 names r ≡ test r) where
      -- the rows that pass are gone
      pub record Takes : Type 0 where
        pub goes_on : IsReady schema new
        pub here : new.now.trees table.tree ≡ filter (λ r. not (test r)) rows
        pub others : OthersStay schema table db new.now.trees

      pub takes : (sql : List ℕ) (count at : ℕ) → slice_get schema.tables at ≡ Some table → command_of (understood schema sql) ≡ Delete at (record { lets = []; body = simple table.tree (wheres 1 0 names) (col 1 0 ∷ []) [] }) → IsPlain (understood schema sql)
          → overlay db [] table.tree ≡ rows → ExecutesInside 0 sql params old new (Ok count) → Takes
      takes sql count at place is bare own h =
          let terms = wheres 1 0 names in
          let command : Command = Delete at (record { lets = []; body = simple table.tree terms (col 1 0 ∷ []) [] }) in
          let text = statement_of sql (understood schema sql) in
          let w : Writes old new None command text params count = runs_as sql params old new schema ready.store.schema_is command is bare count h.0 in
          let done = concluded (task_for params table) (mode_of old) command db w.tally new.now (on_rows params command at w.tally place (in_schema params text command w.tally w.changed)) in
          let gone : Removes schema given keyed.quiet old.step_limit (mode_of old).keys params db _ done.0.trees = removes schema given keyed.quiet old.step_limit (mode_of old).keys params _ db done.0 done.1 in
          let answer : IsAnswer (simple table.tree terms (col 1 0 ∷ []) []) (overlay db []) params gone.found = gone.answers.answer Null in
          let ids = found_rowids table.tree terms db params gone.found (alone table.tree terms (col 1 0 ∷ []) [] db (overlay db []) params gone.found own answer) in
          let there = λ (r : Row) (k : Has rows r). passes_group names kinds 1 0 params r texts bound (known old ready.store r k) ∙ passes_is r in
          let now : new.now.trees ≡ done.0.trees = ap (λ (d : Database). d.trees) done.2 in
          let found : AreFound test rows gone.found = record {
            sound = λ x k. let c = ids.sound x k in (c.0, c.1, sym (there c.0 c.1) ∙ c.2, c.3);
            complete = λ r k passing. ids.complete r k (there r k ∙ passing);
          } in
          let without : new.now.trees table.tree ≡ without_all rows (ids_of gone.found) = subst (λ (t : Trees). t table.tree ≡ without_all rows (ids_of gone.found)) (sym now) gone.rows in
          let here : new.now.trees table.tree ≡ filter (λ r. not (test r)) rows = without ∙ removed rows rises test gone.found found in
          let others : OthersStay schema table db new.now.trees = subst (OthersStay schema table db) (sym now) gone.others in
          record {
            goes_on = record { store = record { schema_is = ap (λ (d : Database). d.schema) done.2; sound = w.sound; rise = rise_all others (subst Rise (sym here) (rise_kept (λ r. not (test r)) rows rises)) }; inside = h.1.mode };
            here = here;
            others = others;
          }

    -- all rows of a group
    pub drops : (group : List (List ℕ)) (params : Row) → BeginWithTexts group kinds → AreGiven 0 group params → (sql : List ℕ) (count at : ℕ) → slice_get schema.tables at ≡ Some table
        → command_of (understood schema sql) ≡ Delete at (record { lets = []; body = simple table.tree (wheres 1 0 group) (col 1 0 ∷ []) [] }) → IsPlain (understood schema sql) → overlay db [] table.tree ≡ rows → ExecutesInside 0 sql params old new (Ok count)
        → Alters schema table group (λ _. []) old new
    drops group params texts bound sql count at place is bare own h =
        let t = takes (leads 1 group) group params texts bound (λ _. refl) sql count at place is bare own h in
        record { ready = t.goes_on; changes = subst (Changes group (λ _. []) (kept rows)) (sym (ap kept t.here ∙ kept_outside group rows)) (drop_changes group (kept rows)); others = t.others }

    -- the row of a name in a group
    pub drops_one : (group : List (List ℕ)) (n : List ℕ) (params : Row) → BeginWithTexts (group ++ n ∷ []) kinds → AreGiven 0 (group ++ n ∷ []) params → (sql : List ℕ) (count at : ℕ) → slice_get schema.tables at ≡ Some table
        → command_of (understood schema sql) ≡ Delete at (record { lets = []; body = simple table.tree (wheres 1 0 (group ++ n ∷ [])) (col 1 0 ∷ []) [] }) → IsPlain (understood schema sql) → overlay db [] table.tree ≡ rows
        → ExecutesInside 0 sql params old new (Ok count) → Alters schema table group (named.take_row (name_in 0 group) n) old new
    drops_one group n params texts bound sql count at place is bare own h =
        let t = takes (is_row 1 group n) (group ++ n ∷ []) params texts bound (leads_key group n 1) sql count at place is bare own h in
        record { ready = t.goes_on; changes = subst (Changes group (named.take_row (name_in 0 group) n) (kept rows)) (sym (ap kept t.here ∙ kept_without group n rows)) (take_changes group n (kept rows)); others = t.others }
