-- A list of languages in place of another, and new outcomes of pages, where tables were told before.
use Rattle.std.proofs.Common.{◌≡◌, ℕ, List, [], ◌∷◌, map, true, Option, Some, None, option_map, is_some, refl, sym, ap, ◌∙◌, true≢false}
use Rattle.sqlite_value.specs.declared.value.Value.{Value}
use Rattle.sqlite_value.specs.Order.{Row, column}
use Rattle.named_rows.specs.ByName.{at, with_row}
use Rattle.snap_tree.specs.Langs.{AreLangs}
use Rattle.sql_rows.specs.Tables.{name_at, rows_of}
use Rattle.sql_rows.specs.Changes.{Changes}
use Rattle.keep_core.specs.declared.page.PageOutcomes.{PageOutcomes}
use Rattle.keep_core.specs.declared.site.Site.{Site}
use Rattle.keep_core.specs.declared.tables.KeptSite.{KeptSite}
use Rattle.keep_core.specs.declared.change.Change.TheVariants.{PutLanguages}
use Rattle.keep_core.specs.Tables.{site_name}
use Rattle.keep_core.specs.Changes.{refreshed, changed_sites}
use Rattle.keep_core.specs.Fits.{Fits}
use Rattle.store_statements.specs.Stored.{Stored, sites_in}
use Rattle.store_tables.specs.Reading.{read_found}
use Rattle.store_tables.specs.Languages.{language_rows, languages_shown}
use Rattle.store_tables.specs.Sites.{site_from}
use Rattle.store_tables.specs.Told.{Sites, OfSite, of_site, read_site, is_site, sites_told}
use Rattle.store_tables.specs.Batches.{RelistsWhole}
use Rattle.store_tables.specs.Numbers.{IsNumbered}
use Rattle.store_tables.proofs.Steps.{found_reads}
use Rattle.store_tables.proofs.Named.{site_from_reads, site_reads, site_read}
use Rattle.store_tables.proofs.Siting.{site_parts, pages_by_these}
use Rattle.store_tables.proofs.LanguageRows.{languages_show}
use Rattle.store_tables.proofs.Telling.{Houses, TellsSite}
use Rattle.store_tables.proofs.Forth.{tables_moved}
use Rattle.store_tables.proofs.Elsewhere.{StaysElsewhere, tells_elsewhere, languages_by}
use Rattle.store_tables.proofs.Undone.{undone}
use Rattle.store_tables.proofs.WithRows.{with_twice}
use Rattle.store_tables.proofs.Relisted.{with_list, lists_one}
use Rattle.store_tables.proofs.RefreshedForth.{refreshed_moved}

-- a site reads with another list where that reads
relisted_shows : (name : List ℕ) (counter : Value) (members rows others : List Row) (x : Site) (langs : List (List ℕ)) → site_from name counter members rows ≡ Some x → languages_shown others ≡ Some langs
    → site_from name counter members others ≡ Some (record x { languages = langs })
unfolding site_from
relisted_shows name counter members rows others x langs is tells =
    let parts = site_parts name counter members rows x is in
    rw (site_from_reads name counter members rows x is, parts.0, parts.1, tells) refl

module _ (site : List ℕ) (langs : List (List ℕ)) (form : AreLangs langs) where
  module _ (old : Stored) (ls : List Row) (languages : Changes (site ∷ []) (λ _. language_rows site langs) old.languages ls) (kept : is_site old site ≡ true) where
    abbrev listed : Stored
    listed = record old { languages = ls }

    abbrev before : OfSite
    before = of_site site old

    abbrev after : OfSite
    after = of_site site listed

    tells : languages_shown after.languages ≡ Some langs
    tells = ap (λ (rows : List Row). languages_shown (map (λ r. column r 1 ∷ column r 2 ∷ []) rows)) languages.there ∙ languages_show site langs form

    houses : Houses old site → Houses listed site
    houses told = record { members = told.members; languages = λ r had its. kept; pages = told.pages; judgements = told.judgements; outcomes = told.outcomes }

    site_on : (y : Option KeptSite) → TellsSite old site y → TellsSite listed site (option_map (with_list site langs) y)
    site_on y told = by (at (name_at 0) site (sites_in old)) refl told.reads
      where
        by : (o : Option Row) → at (name_at 0) site (sites_in old) ≡ o → read_found (read_site before) o ≡ Some y → TellsSite listed site (option_map (with_list site langs) y)
        by None none reads = absurd (true≢false (sym kept ∙ ap is_some none))
        by (Some r) is reads =
            let found = found_reads (read_site before r) y reads in
            let parts = site_reads before r found.0 found.1 in
            record {
              reads = ap (read_found (read_site after)) is
                  ∙ ap (option_map Some) (site_read after r (with_list site langs found.0) (record {
                    site = relisted_shows (name_at 0 r) (column r 1) before.members before.languages after.languages found.0.site langs parts.site tells;
                    pages = pages_by_these before before.members after.languages before.pages ∙ parts.pages;
                  }))
                  ∙ ap (λ (o : Option KeptSite). Some (option_map (with_list site langs) o)) (sym found.2);
              houses = houses told.houses;
            }

    elsewhere : StaysElsewhere site listed old
    elsewhere =
        languages_by site listed (λ _. rows_of (site ∷ []) old.languages) old.languages (undone (site ∷ []) (λ _. language_rows site langs) old.languages ls languages)

    listed_moved : (t : Sites) → sites_told old ≡ Some t → sites_told listed ≡ Some (with_row site_name site (with_list site langs) t)
    listed_moved t is = tables_moved site (option_map (with_list site langs)) (with_row site_name site (with_list site langs)) old listed (lists_one site langs) site_on (tells_elsewhere site listed old elsewhere) t is

-- where tables are told before a list of languages that fits, the rows tell afterwards what that changes to these
pub relisted_moved : (site : List ℕ) (langs : List (List ℕ)) (os : List PageOutcomes) (old new : Stored) → RelistsWhole site langs os old new → Fits (PutLanguages site langs os) → IsNumbered (PutLanguages site langs os)
    → (t : Sites) → sites_told old ≡ Some t → sites_told new ≡ Some (changed_sites (PutLanguages site langs os) t)
relisted_moved site langs os old new h fits numbered t is =
    let still : is_site h.mid site ≡ true = ap (λ (s : Stored). is_site s site) h.same ∙ h.kept in
    let first : sites_told h.mid ≡ Some (with_row site_name site (with_list site langs) t) = ap sites_told h.same ∙ listed_moved site langs fits.0 old h.mid.languages h.languages h.kept t is in
    refreshed_moved site os h.mid new still h.each numbered (with_row site_name site (with_list site langs) t) first
    ∙ ap Some (with_twice site_name site (with_list site langs) (refreshed os) (λ _. refl) t)
