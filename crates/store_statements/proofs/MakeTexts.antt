-- What the texts that make the tables do.
use Rattle.std.proofs.Common.{◌≡◌, ℕ, List, [], ◌∷◌, ◌++◌, codes, Ok, refl, sym, subst, ◌∙◌, false}
use Rattle.std.specs.Prelude.{take}
use Rattle.std.specs.List.{AllByRecursion}
use Rattle.sqlite_schema.specs.declared.schema.Table.{Table}
use Rattle.sqlite_schema.specs.declared.command.Command.TheVariants.{CreateTable}
use Rattle.sqlite_trees.specs.Tree.{Trees}
use Rattle.sqlite.specs.Change.{created, next_tree, KeepsRows}
use Rattle.sqlite.specs.Compile.{table_defined_by}
use Rattle.sqlite.specs.Does.{lacks_sequence}
use Rattle.sqlite.specs.Listing.{understood}
use Rattle.sqlite.specs.State.{State, ExecutesInside}
use Rattle.sqlite.proofs.Callers.{IsPlain, command_of, statement_of}
use Rattle.sqlite_tied.specs.Compute.{everything}
use Rattle.sql_rows.specs.Tables.{Rise}
use Rattle.sql_rows.proofs.Creating.{creates}
use Rattle.store_statements.specs.Schema.{schema_of, the_tables, sites_table, members_table, pages_table, judgements_table, outcomes_table, edition_table, languages_table}
use Rattle.store_statements.specs.Making.{HasTables, MakesTable}

no_rows : Rise []
no_rows = record { up = tt; numbered = tt }

rise_behind : (tables : List Table) (table : Table) (old new : Trees) → KeepsRows tables old new → new table.tree ≡ [] → AllByRecursion (λ (t : Table). Rise (old t.tree)) tables → AllByRecursion (λ (t : Table). Rise (new t.tree)) (tables ++ table ∷ [])
rise_behind [] table old new keeps empty rise = (subst Rise (sym empty) no_rows, tt)
rise_behind (t ∷ tables) table old new keeps empty rise = (subst Rise (sym keeps.0) rise.0, rise_behind tables table old new keeps.1 empty rise.1)

-- what is known of a text that makes a table
record IsMaker (tables : List Table) (table : Table) (sql : List ℕ) : Type 0 where
  command : command_of (understood (schema_of tables) sql) ≡ CreateTable
  statement : statement_of sql (understood (schema_of tables) sql) ≡ sql
  defined : table_defined_by sql ≡ Ok (record table { tree = 0 })
  plain : IsPlain (understood (schema_of tables) sql)
  uncounted : lacks_sequence (created (schema_of tables) (record table { tree = 0 })) ≡ false
  next : created (schema_of tables) (record table { tree = 0 }) ≡ schema_of (tables ++ table ∷ [])
  tree : next_tree (schema_of tables) ≡ table.tree

makes : (tables : List Table) (table : Table) (sql : List ℕ) → IsMaker tables table sql → (old new : State) (count : ℕ) → HasTables tables old → ExecutesInside 0 sql [] old new (Ok count) → MakesTable tables table old new
makes tables table sql it old new count was h =
    let made = creates sql (schema_of tables) (record table { tree = 0 }) old new count it.command it.statement it.defined it.plain it.uncounted was.store.schema_is h.0 in
    let empty : new.now.trees table.tree ≡ [] = subst (λ n. new.now.trees n ≡ []) it.tree made.empty in
    record {
      ready = record {
        store = record { schema_is = made.schema_is ∙ it.next; sound = made.sound; rise = rise_behind tables table old.now.trees new.now.trees made.others empty was.store.rise };
        inside = h.1.mode;
      };
      empty = empty;
      others = made.others;
    }

abbrev make_sites_text : List ℕ
make_sites_text = codes "CREATE TABLE sites (name TEXT NOT NULL, counter INTEGER NOT NULL, PRIMARY KEY (name)) STRICT"

sites_maker : IsMaker (take 0 the_tables) sites_table make_sites_text
unfolding understood everything
sites_maker = record { command = refl; statement = refl; defined = refl; plain = (refl, refl); uncounted = refl; next = refl; tree = refl }

pub makes_sites : (old new : State) (count : ℕ) → HasTables (take 0 the_tables) old → ExecutesInside 0 make_sites_text [] old new (Ok count) → MakesTable (take 0 the_tables) sites_table old new
makes_sites = makes (take 0 the_tables) sites_table make_sites_text sites_maker

abbrev make_members_text : List ℕ
make_members_text = codes "CREATE TABLE members (site TEXT NOT NULL, user TEXT NOT NULL, role INTEGER NOT NULL, PRIMARY KEY (site, user)) STRICT"

members_maker : IsMaker (take 1 the_tables) members_table make_members_text
unfolding understood everything
members_maker = record { command = refl; statement = refl; defined = refl; plain = (refl, refl); uncounted = refl; next = refl; tree = refl }

pub makes_members : (old new : State) (count : ℕ) → HasTables (take 1 the_tables) old → ExecutesInside 0 make_members_text [] old new (Ok count) → MakesTable (take 1 the_tables) members_table old new
makes_members = makes (take 1 the_tables) members_table make_members_text members_maker

abbrev make_pages_text : List ℕ
make_pages_text = codes "CREATE TABLE pages (site TEXT NOT NULL, page TEXT NOT NULL, rev INTEGER NOT NULL, hand TEXT NOT NULL, snapshot BLOB NOT NULL, PRIMARY KEY (site, page)) STRICT"

pages_maker : IsMaker (take 2 the_tables) pages_table make_pages_text
unfolding understood everything
pages_maker = record { command = refl; statement = refl; defined = refl; plain = (refl, refl); uncounted = refl; next = refl; tree = refl }

pub makes_pages : (old new : State) (count : ℕ) → HasTables (take 2 the_tables) old → ExecutesInside 0 make_pages_text [] old new (Ok count) → MakesTable (take 2 the_tables) pages_table old new
makes_pages = makes (take 2 the_tables) pages_table make_pages_text pages_maker

abbrev make_judgements_text : List ℕ
make_judgements_text = codes "CREATE TABLE judgements (site TEXT NOT NULL, page TEXT NOT NULL, seq INTEGER NOT NULL, rule INTEGER NOT NULL, node INTEGER NOT NULL, verdict INTEGER NOT NULL, hand TEXT NOT NULL, note TEXT NOT NULL, evidence TEXT NOT NULL, PRIMARY KEY (site, page, seq)) STRICT"

judgements_maker : IsMaker (take 3 the_tables) judgements_table make_judgements_text
unfolding understood everything
judgements_maker = record { command = refl; statement = refl; defined = refl; plain = (refl, refl); uncounted = refl; next = refl; tree = refl }

pub makes_judgements : (old new : State) (count : ℕ) → HasTables (take 3 the_tables) old → ExecutesInside 0 make_judgements_text [] old new (Ok count) → MakesTable (take 3 the_tables) judgements_table old new
makes_judgements = makes (take 3 the_tables) judgements_table make_judgements_text judgements_maker

abbrev make_outcomes_text : List ℕ
make_outcomes_text = codes "CREATE TABLE outcomes (site TEXT NOT NULL, page TEXT NOT NULL, seq INTEGER NOT NULL, rule INTEGER NOT NULL, node INTEGER NOT NULL, auto INTEGER NOT NULL, reason TEXT NOT NULL, evidence TEXT NOT NULL, last INTEGER NOT NULL, hand TEXT NOT NULL, PRIMARY KEY (site, page, seq)) STRICT"

outcomes_maker : IsMaker (take 4 the_tables) outcomes_table make_outcomes_text
unfolding understood everything
outcomes_maker = record { command = refl; statement = refl; defined = refl; plain = (refl, refl); uncounted = refl; next = refl; tree = refl }

pub makes_outcomes : (old new : State) (count : ℕ) → HasTables (take 4 the_tables) old → ExecutesInside 0 make_outcomes_text [] old new (Ok count) → MakesTable (take 4 the_tables) outcomes_table old new
makes_outcomes = makes (take 4 the_tables) outcomes_table make_outcomes_text outcomes_maker

abbrev make_edition_text : List ℕ
make_edition_text = codes "CREATE TABLE edition (number INT NOT NULL, PRIMARY KEY (number)) STRICT"

edition_maker : IsMaker (take 5 the_tables) edition_table make_edition_text
unfolding understood everything
edition_maker = record { command = refl; statement = refl; defined = refl; plain = (refl, refl); uncounted = refl; next = refl; tree = refl }

pub makes_edition : (old new : State) (count : ℕ) → HasTables (take 5 the_tables) old → ExecutesInside 0 make_edition_text [] old new (Ok count) → MakesTable (take 5 the_tables) edition_table old new
makes_edition = makes (take 5 the_tables) edition_table make_edition_text edition_maker

abbrev make_languages_text : List ℕ
make_languages_text = codes "CREATE TABLE languages (site TEXT NOT NULL, seq INTEGER NOT NULL, tag TEXT NOT NULL, PRIMARY KEY (site, seq)) STRICT"

languages_maker : IsMaker (take 6 the_tables) languages_table make_languages_text
unfolding understood everything
languages_maker = record { command = refl; statement = refl; defined = refl; plain = (refl, refl); uncounted = refl; next = refl; tree = refl }

pub makes_languages : (old new : State) (count : ℕ) → HasTables (take 6 the_tables) old → ExecutesInside 0 make_languages_text [] old new (Ok count) → MakesTable (take 6 the_tables) languages_table old new
makes_languages = makes (take 6 the_tables) languages_table make_languages_text languages_maker
