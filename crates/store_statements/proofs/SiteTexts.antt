-- The texts on sites.
use Rattle.std.proofs.Common.{◌≡◌, inl, ℕ, ℤ, List, [], ◌∷◌, codes, Ok, refl, false}
use Rattle.sqlite_value.specs.declared.value.Value.TheVariants.{Null, Int, Text}
use Rattle.sqlite_value.specs.Order.{Row}
use Rattle.sqlite_sql.specs.Term.{Term, lit, col}
use Rattle.sqlite_schema.specs.declared.command.Command.TheVariants.{InsertOr, Select}
use Rattle.sqlite_schema.specs.declared.command.Conflict.TheVariants.{Replace}
use Rattle.sqlite_schema.specs.declared.command.Source.TheVariants.{Values}
use Rattle.sqlite.specs.Listing.{understood, reads_listing}
use Rattle.sqlite.specs.State.{State, ExecutesInside, Shown, IsUnchanged}
use Rattle.sqlite.proofs.Callers.{IsPlain, command_of}
use Rattle.sqlite_tied.specs.Compute.{everything}
use Rattle.sql_rows.specs.Keyed.{KeyKind, IsKeyed, text}
use Rattle.sql_rows.specs.Queries.{simple, wheres, shows, sorts}
use Rattle.sql_rows.proofs.Reading.{shows_one, shows_group}
use Rattle.sql_rows.proofs.Writing.{puts}
use Rattle.store_statements.specs.Schema.{the_schema, key_index, sites_table}
use Rattle.store_statements.specs.Stored.{stored, names_at, site_at}
use Rattle.store_statements.specs.Changes.{IsReady, Makes, PutsSite}
use Rattle.store_statements.proofs.StoreLemmas.{made_sites}

abbrev kinds : List KeyKind
kinds = text ∷ []

keyed : IsKeyed the_schema sites_table kinds
keyed = record {
  listed = inl refl;
  keyless = refl;
  columns = ((_, refl, (refl, refl, refl)), tt);
  index = key_index sites_table;
  indexed = inl refl;
  guarded = refl;
  order = refl;
  places = refl;
  conflicting = λ new row. refl;
  quiet = λ keys olds news. refl;
}

abbrev site_row_text : List ℕ
site_row_text = codes "SELECT counter FROM sites WHERE name = ?1"

site_row_is : (site : List ℕ) → (command_of (understood the_schema site_row_text) ≡ Select (record { lets = []; body = simple 0 (wheres 1 0 (site ∷ [])) (shows (1 ∷ [])) [] }) (codes "counter" ∷ [])) × (reads_listing the_schema site_row_text ≡ false)
unfolding understood everything
site_row_is site = (refl, refl)

site_row_plain : IsPlain (understood the_schema site_row_text)
unfolding understood everything
site_row_plain = (refl, refl)

abbrev site_names_text : List ℕ
site_names_text = codes "SELECT name FROM sites ORDER BY name"

site_names_is : (command_of (understood the_schema site_names_text) ≡ Select (record { lets = []; body = simple 0 (wheres 1 0 ([])) (shows (0 ∷ [])) (sorts 1 kinds) }) (codes "name" ∷ [])) × (reads_listing the_schema site_names_text ≡ false)
unfolding understood everything
site_names_is = (refl, refl)

site_names_plain : IsPlain (understood the_schema site_names_text)
unfolding understood everything
site_names_plain = (refl, refl)

abbrev put_site_text : List ℕ
put_site_text = codes "INSERT OR REPLACE INTO sites (name, counter) VALUES (?1, ?2)"

abbrev put_site_terms : List Term
put_site_terms = lit Null ∷ col 0 0 ∷ col 0 1 ∷ []

put_site_is : command_of (understood the_schema put_site_text) ≡ InsertOr 0 Replace (Values put_site_terms 3) []
unfolding understood everything
put_site_is = refl

put_site_plain : IsPlain (understood the_schema put_site_text)
unfolding understood everything
put_site_plain = (refl, refl)

module _ (old new : State) (ready : IsReady old) where
  pub shows_site_row : (site : List ℕ) → (rows : List Row) → Shown site_row_text (Text site ∷ []) old new rows → (rows ≡ site_at site (stored old.now.trees)) × IsUnchanged old new
  shows_site_row site rows h =
      shows_one the_schema sites_table kinds keyed old new ready.store site_row_text (codes "counter" ∷ []) (Text site ∷ []) site_row_plain (site_row_is site).1 refl rows ([]) site (1 ∷ []) tt (refl, tt) (refl, tt) (site_row_is site).0 h

  pub puts_site : (site : List ℕ) (counter : ℤ) (count : ℕ) → ExecutesInside 0 put_site_text (Text site ∷ Int counter ∷ []) old new (Ok count) → Makes (PutsSite site counter) old new
  puts_site site counter count h =
      made_sites _ old new (puts the_schema sites_table kinds keyed old new ready (Text site ∷ Int counter ∷ []) ([]) tt refl (refl, tt) put_site_text (Text site ∷ Int counter ∷ []) count 0 3 put_site_terms refl put_site_is put_site_plain refl refl h)

  pub shows_site_names : (rows : List Row) → Shown site_names_text ([]) old new rows → (rows ≡ names_at (stored old.now.trees)) × IsUnchanged old new
  shows_site_names rows h =
      shows_group the_schema sites_table kinds keyed old new ready.store site_names_text (codes "name" ∷ []) ([]) site_names_plain site_names_is.1 refl rows ([]) (0 ∷ []) tt tt tt site_names_is.0 h
