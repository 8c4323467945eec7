-- What tables are told after a list of languages takes the place of another, and pages get new outcomes.
use Rattle.std.proofs.Common.{◌≡◌, ℕ, List, [], ◌∷◌, map, true, Option, Some, None, option_map, is_some, IfSome, IsSome, refl, sym, ap, ◌∙◌, true≢false}
use Rattle.std.specs.Option.{option_to_list}
use Rattle.sqlite_value.specs.Order.{Row, column}
use Rattle.named_rows.specs.ByName.{at, with_row}
use Rattle.named_rows.proofs.Lookups.{at_named, at_with_row, at_with_row_other}
use Rattle.named_rows.proofs.Order.{in_order_with_row}
use Rattle.sql_rows.specs.Tables.{name_at}
use Rattle.sql_rows.specs.Changes.{Changes}
use Rattle.keep_core.specs.declared.page.PageOutcomes.{PageOutcomes}
use Rattle.keep_core.specs.declared.tables.KeptSite.{KeptSite}
use Rattle.keep_core.specs.declared.change.Change.TheVariants.{PutLanguages}
use Rattle.keep_core.specs.Tables.{site_name}
use Rattle.keep_core.specs.Changes.{refreshed, changed_sites}
use Rattle.store_statements.specs.Stored.{Stored, sites_in, site_at, members_at, languages_at}
use Rattle.store_tables.specs.Reading.{read_found}
use Rattle.store_tables.specs.Languages.{language_rows, languages_shown}
use Rattle.store_tables.specs.Sites.{site_from, site_shown}
use Rattle.store_tables.specs.Told.{Sites, OfSite, of_site, read_site, is_site, sites_told}
use Rattle.store_tables.specs.Batches.{RelistsWhole}
use Rattle.store_tables.proofs.Steps.{some_same, some_of, found_reads}
use Rattle.store_tables.proofs.Each.{ChangesAt}
use Rattle.store_tables.proofs.Named.{site_from_named, site_reads, site_read}
use Rattle.store_tables.proofs.Siting.{site_parts, pages_by_these}
use Rattle.store_tables.proofs.LanguageRows.{shown_language, languages_back}
use Rattle.store_tables.proofs.Telling.{Houses, TellsSite, tables_turned}
use Rattle.store_tables.proofs.Elsewhere.{StaysElsewhere, tells_elsewhere, languages_by}
use Rattle.store_tables.proofs.WithRows.{with_twice}
use Rattle.store_tables.proofs.Refreshed.{refreshed_told}

module _ (site : List ℕ) (langs : List (List ℕ)) where
  abbrev pub with_list : KeptSite → KeptSite
  with_list s = record s { site = record s.site { languages = langs } }

  pub lists_one : ChangesAt (name_at 0) site_name site (option_map with_list) (with_row site_name site with_list)
  lists_one = record {
    in_order = λ ts up. in_order_with_row site_name site with_list (λ _ _. refl) ts up;
    there = λ ts up. at_with_row site_name site with_list (λ _ _. refl) ts;
    elsewhere = λ ts m other up. at_with_row_other site_name site with_list (λ _ _. refl) m ts other;
  }

  module _ (old : Stored) (ls : List Row) (languages : Changes (site ∷ []) (λ _. language_rows site langs) old.languages ls) (kept : is_site old site ≡ true)
      (whole : IsSome (site_shown site (site_at site old) (members_at site old) (languages_at site old))) where
    abbrev listed : Stored
    listed = record old { languages = ls }

    abbrev before : OfSite
    before = of_site site old

    abbrev after : OfSite
    after = of_site site listed

    there : after.languages ≡ map shown_language (language_rows site langs)
    there = ap (map shown_language) languages.there

    houses : Houses listed site → Houses old site
    houses told = record { members = told.members; languages = λ r had its. kept; pages = told.pages; judgements = told.judgements; outcomes = told.outcomes }

    site_back : (x : Option KeptSite) → TellsSite listed site x → (y : Option KeptSite) × TellsSite old site y × (x ≡ option_map with_list y)
    site_back x told = by (at (name_at 0) site (sites_in old)) refl (at_named (name_at 0) site (sites_in old)) told.reads
      where
        by : (o : Option Row) → at (name_at 0) site (sites_in old) ≡ o → IfSome o (λ r. name_at 0 r ≡ site) → read_found (read_site after) o ≡ Some x → (y : Option KeptSite) × TellsSite old site y × (x ≡ option_map with_list y)
        by None none named reads = absurd (true≢false (sym kept ∙ ap is_some none))
        by (Some r) is named reads =
            let found = found_reads (read_site after r) x reads in
            let parts = site_reads after r found.0 found.1 in
            let now = site_parts (name_at 0 r) (column r 1) after.members after.languages found.0.site parts.site in
            let tongues : found.0.site.languages ≡ langs = languages_back site langs found.0.site.languages (sym (ap languages_shown there) ∙ now.2) in
            let name : found.0.site.name ≡ name_at 0 r = site_from_named (name_at 0 r) (column r 1) after.members after.languages found.0.site parts.site in
            let shown = some_of (site_shown site (site_at site old) (members_at site old) (languages_at site old)) whole in
            let row : option_map Some (site_from site (column r 1) before.members before.languages) ≡ Some shown.0 =
            sym (ap (λ (o : Option Row). site_shown site (option_to_list (option_map (λ r. column r 1 ∷ []) o)) before.members before.languages) is) ∙ shown.1 in
            let was = found_reads (site_from site (column r 1) before.members before.languages) shown.0 row in
            let were = site_parts site (column r 1) before.members before.languages was.0 was.1 in
            let same_name : found.0.site.name ≡ was.0.name = name ∙ named ∙ sym (site_from_named site (column r 1) before.members before.languages was.0 was.1) in
            let counter : found.0.site.counter ≡ was.0.counter = some_same found.0.site.counter was.0.counter (sym now.0 ∙ were.0) in
            let members : found.0.site.members ≡ was.0.members = some_same found.0.site.members was.0.members (sym now.1 ∙ were.1) in
            let k : KeptSite = record { site = was.0; pages = found.0.pages } in (
              Some k,
              record {
                reads = ap (read_found (read_site before)) is
                    ∙ ap (option_map Some) (site_read before r k (record { site = ap (λ n. site_from n (column r 1) before.members before.languages) named ∙ was.1; pages = sym (pages_by_these before before.members after.languages before.pages) ∙ parts.pages }));
                houses = houses told.houses;
              },
              found.2 ∙ (λ i. Some (record { site = record { name = same_name i; counter = counter i; members = members i; languages = tongues i }; pages = found.0.pages })),
            )

    elsewhere : StaysElsewhere site old listed
    elsewhere = languages_by site old (λ _. language_rows site langs) ls languages

    listed_told : (t : Sites) → sites_told listed ≡ Some t → (ts : Sites) × (sites_told old ≡ Some ts) × (t ≡ with_row site_name site with_list ts)
    listed_told t is = tables_turned site (option_map with_list) (with_row site_name site with_list) old listed lists_one site_back (tells_elsewhere site old listed elsewhere) t is

-- where rows tell tables after a list of languages, they told before what that changes to these
pub relisted_told : (site : List ℕ) (langs : List (List ℕ)) (os : List PageOutcomes) (old new : Stored) → RelistsWhole site langs os old new → (t : Sites) → sites_told new ≡ Some t
    → (ts : Sites) × (sites_told old ≡ Some ts) × (t ≡ changed_sites (PutLanguages site langs os) ts)
relisted_told site langs os old new h t is =
    let still : is_site h.mid site ≡ true = ap (λ (s : Stored). is_site s site) h.same ∙ h.kept in
    let later = refreshed_told site os h.mid new still h.each t is in
    let first = listed_told site langs old h.mid.languages h.languages h.kept h.reads later.0 (sym (ap sites_told h.same) ∙ later.1) in
    (first.0, first.1, later.2 ∙ ap (with_row site_name site (refreshed os)) first.2 ∙ with_twice site_name site (with_list site langs) (refreshed os) (λ _. refl) first.0)
