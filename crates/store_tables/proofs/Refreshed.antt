-- What tables are told after new outcomes of pages, one after another.
use Rattle.std.proofs.Common.{◌≡◌, inl, inr, ℕ, List, [], ◌∷◌, false, true, Option, Some, None, is_some, refl, sym, ap, ◌∙◌, true≢false}
use Rattle.sqlite_value.specs.Order.{Row}
use Rattle.named_rows.specs.ByName.{at, with_row}
use Rattle.sql_rows.specs.Tables.{name_at}
use Rattle.keep_core.specs.declared.page.PageOutcomes.{PageOutcomes}
use Rattle.keep_core.specs.declared.tables.KeptSite.{KeptSite}
use Rattle.keep_core.specs.declared.change.Change.TheVariants.{Refresh}
use Rattle.keep_core.specs.Tables.{site_name, page_name}
use Rattle.keep_core.specs.Changes.{having, refreshed, changed_sites}
use Rattle.store_statements.specs.Stored.{Stored, sites_in, pages_of}
use Rattle.store_tables.specs.Reading.{read_found}
use Rattle.store_tables.specs.Told.{Sites, OfSite, of_site, read_page, read_site, is_site, is_page, sites_told}
use Rattle.store_tables.specs.Batches.{RefreshesOne, RefreshesEach}
use Rattle.store_tables.proofs.Steps.{some_same, found_reads}
use Rattle.store_tables.proofs.Each.{reads_at}
use Rattle.store_tables.proofs.Named.{site_reads, page_named}
use Rattle.store_tables.proofs.Telling.{told_site}
use Rattle.store_tables.proofs.WithRows.{with_same, with_absent, with_kept}
use Rattle.store_tables.proofs.Audited.{made_told, still_kept, refreshed_twice}

-- no row is found
none_found : (o : Option Row) → is_some o ≡ false → o ≡ None
none_found None h = refl
none_found (Some r) h = absurd (true≢false h)

module _ (s : Stored) (site page : List ℕ) (without : is_page s site page ≡ false) (k : KeptSite) where
  abbrev mine : OfSite
  mine = of_site site s

  page_missing : (o : Option Row) → read_found (read_site mine) o ≡ Some (Some k) → at page_name page k.pages ≡ None
  page_missing None reads = absurd (let no : None ≡ Some k = some_same None (Some k) reads in cc)
  page_missing (Some r) reads =
      let found = found_reads (read_site mine r) (Some k) reads in
      let same : k ≡ found.0 = let both : Some k ≡ Some found.0 = found.2 in cc in
      let pages = (site_reads mine r found.0 found.1).pages in
      let at_page = reads_at (read_page mine) (name_at 1) page_name (page_named mine) (pages_of site s) found.0.pages pages page in
      let absent : at (name_at 1) page (pages_of site s) ≡ None = none_found (at (name_at 1) page (pages_of site s)) without in
      ap (λ (s : KeptSite). at page_name page s.pages) same
      ∙ sym (some_same None (at page_name page found.0.pages) (sym (ap (read_found (read_page mine)) absent) ∙ at_page))

-- a page without a row isn't in its site
pub page_strange : (s : Stored) (t : Sites) → sites_told s ≡ Some t → (site page : List ℕ) → is_page s site page ≡ false → (k : KeptSite) → at site_name site t ≡ Some k
    → at page_name page k.pages ≡ None
page_strange s t told site page without k is =
    page_missing s site page without k (at (name_at 0) site (sites_in s)) ((told_site s t told site).reads ∙ ap Some is)

-- new outcomes of a page that isn't there change nothing
pub none_refreshed : (site : List ℕ) (o : PageOutcomes) (t : Sites) → ((k : KeptSite) → at site_name site t ≡ Some k → at page_name o.page k.pages ≡ None)
    → with_row site_name site (refreshed (o ∷ [])) t ≡ t
none_refreshed site o t absent = by (at site_name site t) refl
  where
    by : (found : Option KeptSite) → at site_name site t ≡ found → with_row site_name site (refreshed (o ∷ [])) t ≡ t
    by None is = with_absent site_name site (refreshed (o ∷ [])) t is
    by (Some k) is =
        with_kept site_name site (refreshed (o ∷ [])) k
        (ap (λ pages. record k { pages = pages }) (with_absent page_name o.page (having o.outcomes) k.pages (absent k is))) t is

one_told : (site : List ℕ) (o : PageOutcomes) (old new : Stored) → is_site old site ≡ true → RefreshesOne site o old new → (t : Sites) → sites_told new ≡ Some t
    → (ts : Sites) × (sites_told old ≡ Some ts) × (t ≡ with_row site_name site (refreshed (o ∷ [])) ts)
one_told site o old new kept (inl h) t is = made_told site o.page o.outcomes old new.outcomes h.3 kept h.0 h.1 t (sym (ap sites_told h.2) ∙ is)
one_told site o old new kept (inr h) t is =
    let before : sites_told old ≡ Some t = ap sites_told (sym h.1) ∙ is in
    (t, before, sym (none_refreshed site o t (page_strange old t before site o.page h.0)))

pub refreshed_told : (site : List ℕ) (os : List PageOutcomes) (old new : Stored) → is_site old site ≡ true → RefreshesEach site os old new → (t : Sites) → sites_told new ≡ Some t
    → (ts : Sites) × (sites_told old ≡ Some ts) × (t ≡ changed_sites (Refresh site os) ts)
refreshed_told site [] old new kept each t is = (t, ap sites_told (sym each) ∙ is, sym (with_same site_name site t))
refreshed_told site (o ∷ os) old new kept each t is =
    let later = refreshed_told site os each.0 new (still_kept site o old each.0 each.1 kept) each.2 t is in
    let first = one_told site o old each.0 kept each.1 later.0 later.1 in
    (first.0, first.1, later.2 ∙ ap (with_row site_name site (refreshed os)) first.2 ∙ refreshed_twice site o os first.0)
