-- The texts on sites' languages.
use Rattle.std.proofs.Common.{◌≡◌, inl, inr, ℕ, ℤ, List, [], ◌∷◌, codes, Ok, refl, false}
use Rattle.sqlite_value.specs.declared.value.Value.TheVariants.{Null, Int, Text}
use Rattle.sqlite_value.specs.Order.{Row}
use Rattle.sqlite_sql.specs.Term.{Term, lit, col}
use Rattle.sqlite_schema.specs.declared.command.Command.TheVariants.{Insert, Delete, Select}
use Rattle.sqlite_schema.specs.declared.command.Source.TheVariants.{Values}
use Rattle.sqlite.specs.Listing.{understood, reads_listing}
use Rattle.sqlite.specs.State.{State, ExecutesInside, Shown, IsUnchanged}
use Rattle.sqlite.proofs.Callers.{IsPlain, command_of}
use Rattle.sqlite_tied.specs.Compute.{everything}
use Rattle.sql_rows.specs.Keyed.{KeyKind, IsKeyed, text, number}
use Rattle.sql_rows.specs.Queries.{simple, wheres, shows, sorts}
use Rattle.sql_rows.proofs.Canon.{name_same}
use Rattle.sql_rows.proofs.Reading.{shows_group}
use Rattle.sql_rows.proofs.Writing.{puts_more, drops}
use Rattle.store_statements.specs.Schema.{the_schema, key_index, languages_table}
use Rattle.store_statements.specs.Stored.{stored, languages_at}
use Rattle.store_statements.specs.Changes.{IsReady, Makes, DropsLanguages, AddsLanguage}
use Rattle.store_statements.proofs.StoreLemmas.{made_languages}

abbrev kinds : List KeyKind
kinds = text ∷ number ∷ []

keyed : IsKeyed the_schema languages_table kinds
keyed = record {
  listed = inr (inr (inr (inr (inr (inr (inl refl))))));
  keyless = refl;
  columns = ((_, refl, (refl, refl, refl)), ((_, refl, (refl, refl, refl)), tt));
  index = key_index languages_table;
  indexed = inr (inr (inr (inr (inr (inr (inl refl))))));
  guarded = refl;
  order = refl;
  places = refl;
  conflicting = λ new row. refl;
  quiet = λ keys olds news. refl;
}

abbrev site_languages_text : List ℕ
site_languages_text = codes "SELECT seq, tag FROM languages WHERE site = ?1 ORDER BY site, seq"

site_languages_is : (site : List ℕ) → (command_of (understood the_schema site_languages_text) ≡ Select (record { lets = []; body = simple 12 (wheres 1 0 (site ∷ [])) (shows (1 ∷ 2 ∷ [])) (sorts 1 kinds) }) (codes "seq" ∷ codes "tag" ∷ [])) × (reads_listing the_schema site_languages_text ≡ false)
unfolding understood everything
site_languages_is site = (refl, refl)

site_languages_plain : IsPlain (understood the_schema site_languages_text)
unfolding understood everything
site_languages_plain = (refl, refl)

abbrev drop_languages_text : List ℕ
drop_languages_text = codes "DELETE FROM languages WHERE site = ?1"

drop_languages_is : (site : List ℕ) → command_of (understood the_schema drop_languages_text) ≡ Delete 6 (record { lets = []; body = simple 12 (wheres 1 0 (site ∷ [])) (col 1 0 ∷ []) [] })
unfolding understood everything
drop_languages_is site = refl

drop_languages_plain : IsPlain (understood the_schema drop_languages_text)
unfolding understood everything
drop_languages_plain = (refl, refl)

abbrev add_language_text : List ℕ
add_language_text = codes "INSERT INTO languages (site, seq, tag) VALUES (?1, ?2, ?3)"

abbrev add_language_terms : List Term
add_language_terms = lit Null ∷ col 0 0 ∷ col 0 1 ∷ col 0 2 ∷ []

add_language_is : command_of (understood the_schema add_language_text) ≡ Insert 6 (Values add_language_terms 4)
unfolding understood everything
add_language_is = refl

add_language_plain : IsPlain (understood the_schema add_language_text)
unfolding understood everything
add_language_plain = (refl, refl)

module _ (old new : State) (ready : IsReady old) where
  pub shows_site_languages : (site : List ℕ) → (rows : List Row) → Shown site_languages_text (Text site ∷ []) old new rows → (rows ≡ languages_at site (stored old.now.trees)) × IsUnchanged old new
  shows_site_languages site rows h =
      shows_group the_schema languages_table kinds keyed old new ready.store site_languages_text (codes "seq" ∷ codes "tag" ∷ []) (Text site ∷ []) site_languages_plain (site_languages_is site).1 refl rows (site ∷ []) (1 ∷ 2 ∷ []) tt (refl, tt) (refl, tt) (site_languages_is site).0 h

  pub drops_languages : (site : List ℕ) → (count : ℕ) → ExecutesInside 0 drop_languages_text (Text site ∷ []) old new (Ok count) → Makes (DropsLanguages site) old new
  drops_languages site count h =
      made_languages site _ old new (drops the_schema languages_table kinds keyed old new ready (site ∷ []) (Text site ∷ []) (refl, tt) (refl, tt) drop_languages_text count 6 refl (drop_languages_is site) drop_languages_plain refl h)

  pub adds_language : (site : List ℕ) (seq : ℤ) (tag : List ℕ) (count : ℕ) → ExecutesInside 0 add_language_text (Text site ∷ Int seq ∷ Text tag ∷ []) old new (Ok count) → Makes (AddsLanguage site seq tag) old new
  adds_language site seq tag count h =
      made_languages site _ old new (puts_more the_schema languages_table kinds keyed old new ready (Text site ∷ Int seq ∷ Text tag ∷ []) (site ∷ []) (rw (name_same site site refl) refl) add_language_text (Text site ∷ Int seq ∷ Text tag ∷ []) count 6 4 add_language_terms refl add_language_is add_language_plain refl refl h)
