-- The texts on pages.
use Rattle.std.proofs.Common.{◌≡◌, inl, inr, ℕ, ℤ, List, [], ◌∷◌, codes, Ok, refl, false}
use Rattle.sqlite_value.specs.declared.value.Value.TheVariants.{Null, Int, Text, Blob}
use Rattle.sqlite_value.specs.Order.{Row}
use Rattle.sqlite_sql.specs.Term.{Term, lit, col}
use Rattle.sqlite_schema.specs.declared.command.Command.TheVariants.{InsertOr, Delete, Select}
use Rattle.sqlite_schema.specs.declared.command.Conflict.TheVariants.{Replace}
use Rattle.sqlite_schema.specs.declared.command.Source.TheVariants.{Values}
use Rattle.sqlite.specs.Listing.{understood, reads_listing}
use Rattle.sqlite.specs.State.{State, ExecutesInside, Shown, IsUnchanged}
use Rattle.sqlite.proofs.Callers.{IsPlain, command_of}
use Rattle.sqlite_tied.specs.Compute.{everything}
use Rattle.sql_rows.specs.Keyed.{KeyKind, IsKeyed, text}
use Rattle.sql_rows.specs.Queries.{simple, wheres, shows, sorts}
use Rattle.sql_rows.proofs.Canon.{name_same}
use Rattle.sql_rows.proofs.Reading.{shows_group, shows_one}
use Rattle.sql_rows.proofs.Writing.{puts, drops_one}
use Rattle.store_statements.specs.Schema.{the_schema, key_index, pages_table}
use Rattle.store_statements.specs.Stored.{stored, page_at, heads_at}
use Rattle.store_statements.specs.Changes.{IsReady, Makes, PutsPage, DropsPage}
use Rattle.store_statements.proofs.StoreLemmas.{made_pages}

abbrev kinds : List KeyKind
kinds = text ∷ text ∷ []

keyed : IsKeyed the_schema pages_table kinds
keyed = record {
  listed = inr (inr (inl refl));
  keyless = refl;
  columns = ((_, refl, (refl, refl, refl)), ((_, refl, (refl, refl, refl)), tt));
  index = key_index pages_table;
  indexed = inr (inr (inl refl));
  guarded = refl;
  order = refl;
  places = refl;
  conflicting = λ new row. refl;
  quiet = λ keys olds news. refl;
}

abbrev page_row_text : List ℕ
page_row_text = codes "SELECT rev, hand, snapshot FROM pages WHERE site = ?1 AND page = ?2"

page_row_is : (site page : List ℕ) → (command_of (understood the_schema page_row_text) ≡ Select (record { lets = []; body = simple 4 (wheres 1 0 (site ∷ page ∷ [])) (shows (2 ∷ 3 ∷ 4 ∷ [])) [] }) (codes "rev" ∷ codes "hand" ∷ codes "snapshot" ∷ [])) × (reads_listing the_schema page_row_text ≡ false)
unfolding understood everything
page_row_is site page = (refl, refl)

page_row_plain : IsPlain (understood the_schema page_row_text)
unfolding understood everything
page_row_plain = (refl, refl)

abbrev heads_text : List ℕ
heads_text = codes "SELECT page, rev, hand FROM pages WHERE site = ?1 ORDER BY site, page"

heads_is : (site : List ℕ) → (command_of (understood the_schema heads_text) ≡ Select (record { lets = []; body = simple 4 (wheres 1 0 (site ∷ [])) (shows (1 ∷ 2 ∷ 3 ∷ [])) (sorts 1 kinds) }) (codes "page" ∷ codes "rev" ∷ codes "hand" ∷ [])) × (reads_listing the_schema heads_text ≡ false)
unfolding understood everything
heads_is site = (refl, refl)

heads_plain : IsPlain (understood the_schema heads_text)
unfolding understood everything
heads_plain = (refl, refl)

abbrev put_page_text : List ℕ
put_page_text = codes "INSERT OR REPLACE INTO pages (site, page, rev, hand, snapshot) VALUES (?1, ?2, ?3, ?4, ?5)"

abbrev put_page_terms : List Term
put_page_terms = lit Null ∷ col 0 0 ∷ col 0 1 ∷ col 0 2 ∷ col 0 3 ∷ col 0 4 ∷ []

put_page_is : command_of (understood the_schema put_page_text) ≡ InsertOr 2 Replace (Values put_page_terms 6) []
unfolding understood everything
put_page_is = refl

put_page_plain : IsPlain (understood the_schema put_page_text)
unfolding understood everything
put_page_plain = (refl, refl)

abbrev drop_page_text : List ℕ
drop_page_text = codes "DELETE FROM pages WHERE site = ?1 AND page = ?2"

drop_page_is : (site page : List ℕ) → command_of (understood the_schema drop_page_text) ≡ Delete 2 (record { lets = []; body = simple 4 (wheres 1 0 (site ∷ page ∷ [])) (col 1 0 ∷ []) [] })
unfolding understood everything
drop_page_is site page = refl

drop_page_plain : IsPlain (understood the_schema drop_page_text)
unfolding understood everything
drop_page_plain = (refl, refl)

module _ (old new : State) (ready : IsReady old) where
  pub shows_page_row : (site page : List ℕ) → (rows : List Row) → Shown page_row_text (Text site ∷ Text page ∷ []) old new rows → (rows ≡ page_at site page (stored old.now.trees)) × IsUnchanged old new
  shows_page_row site page rows h =
      shows_one the_schema pages_table kinds keyed old new ready.store page_row_text (codes "rev" ∷ codes "hand" ∷ codes "snapshot" ∷ []) (Text site ∷ Text page ∷ []) page_row_plain (page_row_is site page).1 refl rows (site ∷ []) page (2 ∷ 3 ∷ 4 ∷ []) tt (refl, (refl, tt)) (refl, (refl, tt)) (page_row_is site page).0 h

  pub shows_heads : (site : List ℕ) → (rows : List Row) → Shown heads_text (Text site ∷ []) old new rows → (rows ≡ heads_at site (stored old.now.trees)) × IsUnchanged old new
  shows_heads site rows h =
      shows_group the_schema pages_table kinds keyed old new ready.store heads_text (codes "page" ∷ codes "rev" ∷ codes "hand" ∷ []) (Text site ∷ []) heads_plain (heads_is site).1 refl rows (site ∷ []) (1 ∷ 2 ∷ 3 ∷ []) tt (refl, tt) (refl, tt) (heads_is site).0 h

  pub puts_page : (site page : List ℕ) (rev : ℤ) (hand snapshot : List ℕ) (count : ℕ) → ExecutesInside 0 put_page_text (Text site ∷ Text page ∷ Int rev ∷ Text hand ∷ Blob snapshot ∷ []) old new (Ok count) → Makes (PutsPage site page rev hand snapshot) old new
  puts_page site page rev hand snapshot count h =
      made_pages site _ old new (puts the_schema pages_table kinds keyed old new ready (Text site ∷ Text page ∷ Int rev ∷ Text hand ∷ Blob snapshot ∷ []) (site ∷ []) tt (rw (name_same site site refl) refl) (refl, (refl, tt)) put_page_text (Text site ∷ Text page ∷ Int rev ∷ Text hand ∷ Blob snapshot ∷ []) count 2 6 put_page_terms refl put_page_is put_page_plain refl refl h)

  pub drops_page : (site page : List ℕ) → (count : ℕ) → ExecutesInside 0 drop_page_text (Text site ∷ Text page ∷ []) old new (Ok count) → Makes (DropsPage site page) old new
  drops_page site page count h =
      made_pages site _ old new (drops_one the_schema pages_table kinds keyed old new ready (site ∷ []) page (Text site ∷ Text page ∷ []) (refl, (refl, tt)) (refl, (refl, tt)) drop_page_text count 2 refl (drop_page_is site page) drop_page_plain refl h)
