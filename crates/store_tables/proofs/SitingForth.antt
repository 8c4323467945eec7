-- A site that is put with its members, where tables were told before.
use Rattle.std.proofs.Common.{◌≡◌, ℕ, List, [], ◌∷◌, map, Option, Some, None, option_map, is_some, refl, sym, ap, ◌∙◌, All}
use Rattle.std.specs.Prelude.{IsTrue}
use Rattle.std.proofs.lemmas.List.Elements.{All-head, All-tail}
use Rattle.sqlite_value.specs.Order.{Row}
use Rattle.named_rows.specs.ByName.{at, put_row, put_rows}
use Rattle.sql_rows.specs.Tables.{name_at, rows_of}
use Rattle.sql_rows.specs.Changes.{Changes}
use Rattle.keep_core.specs.declared.member.Member.{Member}
use Rattle.keep_core.specs.declared.site.Site.{Site}
use Rattle.keep_core.specs.declared.tables.KeptSite.{KeptSite}
use Rattle.keep_core.specs.declared.change.Change.TheVariants.{PutSite}
use Rattle.keep_core.specs.Fits.{FitsSite}
use Rattle.keep_core.specs.Names.{is_name}
use Rattle.keep_core.specs.Tables.{pages_in}
use Rattle.store_tables.specs.Told.{Sites}
use Rattle.keep_core.specs.Changes.{changed_sites, put_site}
use Rattle.store_statements.specs.Stored.{Stored, sites_in, pages_of}
use Rattle.store_tables.specs.Reading.{read_each, read_found}
use Rattle.store_tables.specs.Members.{member_from, member_cells}
use Rattle.store_tables.specs.Told.{OfSite, of_site, read_page, read_site, sites_told}
use Rattle.store_tables.specs.Sites.{site_cells}
use Rattle.store_tables.specs.Languages.{language_rows, languages_shown}
use Rattle.store_tables.proofs.LanguageRows.{languages_show}
use Rattle.store_tables.specs.Batches.{PutsWhole, ReadsSite}
use Rattle.store_tables.proofs.Steps.{some_same, found_reads}
use Rattle.store_tables.proofs.Named.{site_reads, site_read}
use Rattle.store_tables.proofs.Telling.{Houses, TellsSite}
use Rattle.store_tables.proofs.Elsewhere.{StaysElsewhere, stays_through, tells_elsewhere, members_by, languages_by}
use Rattle.store_tables.proofs.Siting.{role_back, shown_member, pages_by_these, change, changes_one, row_there, members_there, languages_there, no_pages}
use Rattle.store_tables.proofs.Undone.{undone, site_undone}
use Rattle.store_tables.proofs.Shows.{site_shows}
use Rattle.store_tables.proofs.Forth.{tables_moved}

-- ---- members that are written

member_shows : (site : List ℕ) (m : Member) → IsTrue (is_name m.user) → member_from (shown_member (member_cells site m)) ≡ Some m
unfolding member_from
member_shows site m named = rw (named, role_back m.role) refl

members_show : (site : List ℕ) (ms : List Member) → All (λ (m : Member). IsTrue (is_name m.user)) ms → read_each member_from (map shown_member (map (member_cells site) ms)) ≡ Some ms
members_show site [] named = refl
members_show site (m ∷ ms) named =
    let P : Member → Type 0 = λ m. IsTrue (is_name m.user) in
    rw (member_shows site m (All-head P m ms named), members_show site ms (All-tail P m ms named)) refl

module _ (site : Site) where
  module _ (old : Stored) (ss ms ls : List Row) (sites : Changes [] (put_row (name_at 0) (site_cells site)) old.sites ss)
      (members : Changes (site.name ∷ []) (λ _. put_rows (name_at 1) (map (member_cells site.name) site.members) []) old.members ms)
      (languages : Changes (site.name ∷ []) (λ _. language_rows site.name site.languages) old.languages ls) (fits : FitsSite site) (whole : ReadsSite site.name old) where
    abbrev made : Stored
    made = record old { sites = ss; members = ms; languages = ls }

    abbrev before : OfSite
    before = of_site site.name old

    abbrev after : OfSite
    after = of_site site.name made

    there : at (name_at 0) site.name (sites_in made) ≡ Some (site_cells site)
    there = row_there site old ss ms ls sites members languages fits whole

    members_read : read_each member_from after.members ≡ Some site.members
    members_read = ap (λ (rs : List Row). read_each member_from (map shown_member rs)) (members_there site old ss ms ls sites members languages fits whole) ∙ members_show site.name site.members fits.users

    languages_read : languages_shown after.languages ≡ Some site.languages
    languages_read = ap languages_shown (languages_there site old ss ms ls sites members languages fits whole) ∙ languages_show site.name site.languages fits.languages

    -- the pages that are kept of the site
    pages_read : (y : Option KeptSite) → read_found (read_site before) (at (name_at 0) site.name (sites_in old)) ≡ Some y → read_each (read_page before) (pages_of site.name old) ≡ Some (pages_in y)
    pages_read y reads = by (at (name_at 0) site.name (sites_in old)) refl reads
      where
        by : (o : Option Row) → at (name_at 0) site.name (sites_in old) ≡ o → read_found (read_site before) o ≡ Some y → read_each (read_page before) (pages_of site.name old) ≡ Some (pages_in y)
        by None none reads =
            ap (read_each (read_page before)) (no_pages site old ss ms ls sites members languages fits whole (ap is_some none)) ∙ ap (λ (k : Option KeptSite). Some (pages_in k)) (some_same None y reads)
        by (Some r) is reads =
            let found = found_reads (read_site before r) y reads in
            (site_reads before r found.0 found.1).pages ∙ ap (λ (k : Option KeptSite). Some (pages_in k)) (sym found.2)

    houses : Houses old site.name → Houses made site.name
    houses told = record { members = λ r had its. ap is_some there; languages = λ r had its. ap is_some there; pages = λ r had its. ap is_some there; judgements = told.judgements; outcomes = told.outcomes }

    site_on : (y : Option KeptSite) → TellsSite old site.name y → TellsSite made site.name (change site y)
    site_on y told = record {
      reads = ap (read_found (read_site after)) there
          ∙ ap (option_map Some) (site_read after (site_cells site) k (record {
            site = site_shows site.name site.counter after.members after.languages site.members site.languages fits.name fits.counter members_read languages_read;
            pages = pages_by_these before after.members after.languages (pages_of site.name old) ∙ pages_read y told.reads;
          }));
      houses = houses told.houses;
    }
      where
        k : KeptSite
        k = record { site = site; pages = pages_in y }

    elsewhere : StaysElsewhere site.name made old
    elsewhere =
        let whole_one = record made { languages = old.languages } in
        let one = record whole_one { members = old.members } in
        stays_through site.name made whole_one old
        (languages_by site.name made (λ _. rows_of (site.name ∷ []) old.languages) old.languages
        (undone (site.name ∷ []) (λ _. language_rows site.name site.languages) old.languages ls languages))
        (stays_through site.name whole_one one old
        (members_by site.name whole_one (λ _. rows_of (site.name ∷ []) old.members) old.members
        (undone (site.name ∷ []) (λ _. put_rows (name_at 1) (map (member_cells site.name) site.members) []) old.members ms members))
        (site_undone site.name old (site_cells site) ss refl sites))

    made_moved : (t : Sites) → sites_told old ≡ Some t → sites_told made ≡ Some (changed_sites (PutSite site) t)
    made_moved t is = tables_moved site.name (change site) (put_site site) old made (changes_one site) site_on (tells_elsewhere site.name made old elsewhere) t is

  -- where tables are told before a site is put that fits, the rows tell afterwards what that changes to these
  pub put_moved : (old new : Stored) → PutsWhole site old new → FitsSite site → ReadsSite site.name old → (t : Sites) → sites_told old ≡ Some t → sites_told new ≡ Some (changed_sites (PutSite site) t)
  put_moved old new puts fits whole t is = ap sites_told puts.same ∙ made_moved old new.sites new.members new.languages puts.sites puts.members puts.languages fits whole t is
