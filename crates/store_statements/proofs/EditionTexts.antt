-- The texts on the edition.
use Rattle.std.proofs.Common.{◌≡◌, inl, inr, ℕ, ℤ, List, [], ◌∷◌, codes, Ok, refl, false}
use Rattle.sqlite_value.specs.declared.value.Value.TheVariants.{Null, Int}
use Rattle.sqlite_value.specs.Order.{Row}
use Rattle.sqlite_sql.specs.Term.{Term, lit, col}
use Rattle.sqlite_schema.specs.declared.command.Command.TheVariants.{Insert, Delete, Select}
use Rattle.sqlite_schema.specs.declared.command.Source.TheVariants.{Values}
use Rattle.sqlite.specs.Listing.{understood, reads_listing}
use Rattle.sqlite.specs.State.{State, ExecutesInside, Shown, IsUnchanged}
use Rattle.sqlite.proofs.Callers.{IsPlain, command_of}
use Rattle.sqlite_tied.specs.Compute.{everything}
use Rattle.sql_rows.specs.Keyed.{KeyKind, IsKeyed, number}
use Rattle.sql_rows.specs.Queries.{simple, wheres, shows, sorts}
use Rattle.sql_rows.proofs.Reading.{shows_group}
use Rattle.sql_rows.proofs.Writing.{puts_more, drops}
use Rattle.store_statements.specs.Schema.{the_schema, key_index, edition_table}
use Rattle.store_statements.specs.Stored.{stored, editions_at}
use Rattle.store_statements.specs.Changes.{IsReady, Makes, DropsEditions, AddsEdition}
use Rattle.store_statements.proofs.StoreLemmas.{made_editions}

abbrev kinds : List KeyKind
kinds = number ∷ []

keyed : IsKeyed the_schema edition_table kinds
keyed = record {
  listed = inr (inr (inr (inr (inr (inl refl)))));
  keyless = refl;
  columns = ((_, refl, (refl, refl, refl)), tt);
  index = key_index edition_table;
  indexed = inr (inr (inr (inr (inr (inl refl)))));
  guarded = refl;
  order = refl;
  places = refl;
  conflicting = λ new row. refl;
  quiet = λ keys olds news. refl;
}

abbrev edition_rows_text : List ℕ
edition_rows_text = codes "SELECT number FROM edition ORDER BY number"

edition_rows_is : (command_of (understood the_schema edition_rows_text) ≡ Select (record { lets = []; body = simple 10 (wheres 1 0 ([])) (shows (0 ∷ [])) (sorts 1 kinds) }) (codes "number" ∷ [])) × (reads_listing the_schema edition_rows_text ≡ false)
unfolding understood everything
edition_rows_is = (refl, refl)

edition_rows_plain : IsPlain (understood the_schema edition_rows_text)
unfolding understood everything
edition_rows_plain = (refl, refl)

abbrev drop_editions_text : List ℕ
drop_editions_text = codes "DELETE FROM edition"

drop_editions_is : command_of (understood the_schema drop_editions_text) ≡ Delete 5 (record { lets = []; body = simple 10 (wheres 1 0 ([])) (col 1 0 ∷ []) [] })
unfolding understood everything
drop_editions_is = refl

drop_editions_plain : IsPlain (understood the_schema drop_editions_text)
unfolding understood everything
drop_editions_plain = (refl, refl)

abbrev add_edition_text : List ℕ
add_edition_text = codes "INSERT INTO edition (number) VALUES (?1)"

abbrev add_edition_terms : List Term
add_edition_terms = lit Null ∷ col 0 0 ∷ []

add_edition_is : command_of (understood the_schema add_edition_text) ≡ Insert 5 (Values add_edition_terms 2)
unfolding understood everything
add_edition_is = refl

add_edition_plain : IsPlain (understood the_schema add_edition_text)
unfolding understood everything
add_edition_plain = (refl, refl)

module _ (old new : State) (ready : IsReady old) where
  pub shows_edition_rows : (rows : List Row) → Shown edition_rows_text ([]) old new rows → (rows ≡ editions_at (stored old.now.trees)) × IsUnchanged old new
  shows_edition_rows rows h =
      shows_group the_schema edition_table kinds keyed old new ready.store edition_rows_text (codes "number" ∷ []) ([]) edition_rows_plain edition_rows_is.1 refl rows ([]) (0 ∷ []) tt tt tt edition_rows_is.0 h

  pub adds_edition : (edition : ℤ) (count : ℕ) → ExecutesInside 0 add_edition_text (Int edition ∷ []) old new (Ok count) → Makes (AddsEdition edition) old new
  adds_edition edition count h =
      made_editions _ old new (puts_more the_schema edition_table kinds keyed old new ready (Int edition ∷ []) ([]) refl add_edition_text (Int edition ∷ []) count 5 2 add_edition_terms refl add_edition_is add_edition_plain refl refl h)

  pub drops_editions : (count : ℕ) → ExecutesInside 0 drop_editions_text ([]) old new (Ok count) → Makes DropsEditions old new
  drops_editions count h =
      made_editions _ old new (drops the_schema edition_table kinds keyed old new ready ([]) ([]) tt tt drop_editions_text count 5 refl drop_editions_is drop_editions_plain refl h)
