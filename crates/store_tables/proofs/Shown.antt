-- What the texts show of tables that are told.
use Rattle.std.proofs.Common.{◌≡◌, ℕ, List, [], ◌∷◌, map, Option, Some, None, option_map, is_some, IfSome, refl, sym, ap, ◌∙◌}
use Rattle.std.specs.Option.{option_to_list}
use Rattle.sqlite_value.specs.Order.{Row, column}
use Rattle.named_rows.specs.ByName.{at}
use Rattle.named_rows.proofs.Lookups.{at_named}
use Rattle.sql_rows.specs.Tables.{name_at}
use Rattle.keep_core.specs.declared.tables.KeptPage.{KeptPage}
use Rattle.keep_core.specs.declared.tables.KeptSite.{KeptSite}
use Rattle.keep_core.specs.declared.tables.Tables.{Tables}
use Rattle.keep_core.specs.Tables.{sites_of, edition_of, site_name, page_name, pages_in, judgements_in, outcomes_in, site_of, page_of, heads_of, judgements_of, outcomes_of}
use Rattle.keep_core.specs.Tables as keep
use Rattle.store_statements.specs.Stored.{Stored, sites_in, names_at, editions_at, site_at, members_at, languages_at, page_at, pages_of, heads_at, judgements_at, outcomes_at}
use Rattle.store_tables.specs.Reading.{read_each, read_found}
use Rattle.store_tables.specs.Sites.{site_from, site_shown, names_shown}
use Rattle.store_tables.specs.Cells.{named}
use Rattle.store_tables.specs.Editions.{kept_edition}
use Rattle.store_tables.specs.Pages.{page_from, page_shown, heads_shown}
use Rattle.store_tables.specs.Judgements.{judgements_shown}
use Rattle.store_tables.specs.Outcomes.{outcomes_shown}
use Rattle.store_tables.specs.Told.{OfSite, of_site, read_page, read_site, sites_told, tables_in}
use Rattle.store_tables.proofs.Steps.{some_same, found_reads}
use Rattle.store_tables.proofs.Each.{first_reads, reads_at}
use Rattle.store_tables.proofs.Named.{site_reads, site_row_named, page_reads, page_parts, page_named}
use Rattle.store_tables.proofs.Housing.{told_parts, none_of_site, none_of_page}
use Rattle.store_tables.proofs.Telling.{told_site}
use Rattle.store_tables.proofs.TablesTold.{table_parts}

module _ (s : Stored) (t : Tables) (told : tables_in s ≡ Some t) (site : List ℕ) where
  sites : sites_told s ≡ Some t.sites
  sites = (table_parts s t told).1

  abbrev mine : OfSite
  mine = of_site site s

  -- ---- the site

  pub site_told : site_shown site (site_at site s) (members_at site s) (languages_at site s) ≡ Some (site_of site t)
  site_told = by (at (name_at 0) site (sites_in s)) (at_named (name_at 0) site (sites_in s)) (told_site s t.sites sites site).reads
    where
      by : (o : Option Row) → IfSome o (λ r. name_at 0 r ≡ site) → read_found (read_site mine) o ≡ Some (at site_name site t.sites)
          → site_shown site (option_to_list (option_map (λ r. column r 1 ∷ []) o)) (members_at site s) (languages_at site s) ≡ Some (site_of site t)
      by None named is = ap (λ (k : Option KeptSite). Some (option_map (λ (k : KeptSite). k.site) k)) (some_same None (at site_name site t.sites) is)
      by (Some r) named is =
          let found = found_reads (read_site mine r) (at site_name site t.sites) is in
          let reads = site_reads mine r found.0 found.1 in
          ap (option_map Some) (ap (λ n. site_from n (column r 1) (members_at site s) (languages_at site s)) (sym named) ∙ reads.site)
          ∙ ap (λ (k : Option KeptSite). Some (option_map (λ (k : KeptSite). k.site) k)) (sym found.2)

  -- ---- its pages

  pub pages_told : read_each (read_page mine) (pages_of site s) ≡ Some (keep.pages_of site t)
  pages_told = by (at (name_at 0) site (sites_in s)) refl (told_site s t.sites sites site).reads
    where
      by : (o : Option Row) → at (name_at 0) site (sites_in s) ≡ o → read_found (read_site mine) o ≡ Some (at site_name site t.sites)
          → read_each (read_page mine) (pages_of site s) ≡ Some (keep.pages_of site t)
      by None none is =
          ap (read_each (read_page mine)) (none_of_site s s.pages (told_parts s t.sites sites).pages site (ap is_some none))
          ∙ ap (λ (k : Option KeptSite). Some (pages_in k)) (some_same None (at site_name site t.sites) is)
      by (Some r) there is =
          let found = found_reads (read_site mine r) (at site_name site t.sites) is in
          (site_reads mine r found.0 found.1).pages ∙ ap (λ (k : Option KeptSite). Some (pages_in k)) (sym found.2)

  heads_read : (rs : List Row) (ps : List KeptPage) → read_each (read_page mine) rs ≡ Some ps → heads_shown (map (λ r. column r 1 ∷ column r 2 ∷ column r 3 ∷ []) rs) ≡ Some (map (λ p. p.page.head) ps)
  heads_read [] ps is = ap (λ l. Some (map (λ (p : KeptPage). p.page.head) l)) (some_same [] ps is)
  heads_read (r ∷ rs) ps is =
      let f = first_reads (read_page mine) r rs ps is in
      let head = (page_parts (name_at 1 r) (column r 2) (column r 3) (column r 4) f.0.page (page_reads mine r f.0 f.2).page).0 in
      rw (head, heads_read rs f.1 f.3) (ap (λ l. Some (map (λ (p : KeptPage). p.page.head) l)) (sym f.4))

  pub heads_told : heads_shown (heads_at site s) ≡ Some (heads_of site t)
  heads_told = heads_read (pages_of site s) (keep.pages_of site t) pages_told

  -- ---- one page

  module _ (page : List ℕ) where
    found_page : read_found (read_page mine) (at (name_at 1) page (pages_of site s)) ≡ Some (keep.kept_page site page t)
    found_page = reads_at (read_page mine) (name_at 1) page_name (page_named mine) (pages_of site s) (keep.pages_of site t) pages_told page

    pub page_told : page_shown page (page_at site page s) ≡ Some (page_of site page t)
    page_told = by (at (name_at 1) page (pages_of site s)) (at_named (name_at 1) page (pages_of site s)) found_page
      where
        by : (o : Option Row) → IfSome o (λ r. name_at 1 r ≡ page) → read_found (read_page mine) o ≡ Some (keep.kept_page site page t)
            → page_shown page (option_to_list (option_map (λ r. column r 2 ∷ column r 3 ∷ column r 4 ∷ []) o)) ≡ Some (page_of site page t)
        by None named is = ap (λ (k : Option KeptPage). Some (option_map (λ (k : KeptPage). k.page) k)) (some_same None (keep.kept_page site page t) is)
        by (Some r) named is =
            let found = found_reads (read_page mine r) (keep.kept_page site page t) is in
            ap (option_map Some) (ap (λ n. page_from n (column r 2) (column r 3) (column r 4)) (sym named) ∙ (page_reads mine r found.0 found.1).page)
            ∙ ap (λ (k : Option KeptPage). Some (option_map (λ (k : KeptPage). k.page) k)) (sym found.2)

    pub judgements_told : judgements_shown (judgements_at site page s) ≡ Some (judgements_of site page t)
    judgements_told = by (at (name_at 1) page (pages_of site s)) refl (at_named (name_at 1) page (pages_of site s)) found_page
      where
        by : (o : Option Row) → at (name_at 1) page (pages_of site s) ≡ o → IfSome o (λ r. name_at 1 r ≡ page) → read_found (read_page mine) o ≡ Some (keep.kept_page site page t)
            → judgements_shown (judgements_at site page s) ≡ Some (judgements_of site page t)
        by None none named is =
            ap (λ (rs : List Row). judgements_shown (map (λ r. column r 2 ∷ column r 3 ∷ column r 4 ∷ column r 5 ∷ column r 6 ∷ column r 7 ∷ column r 8 ∷ []) rs)) (none_of_page s s.judgements (told_parts s t.sites sites).judgements site page (ap is_some none))
            ∙ ap (λ (k : Option KeptPage). Some (judgements_in k)) (some_same None (keep.kept_page site page t) is)
        by (Some r) there named is =
            let found = found_reads (read_page mine r) (keep.kept_page site page t) is in
            ap (λ n. judgements_shown (judgements_at site n s)) (sym named) ∙ (page_reads mine r found.0 found.1).judgements ∙ ap (λ (k : Option KeptPage). Some (judgements_in k)) (sym found.2)

    pub outcomes_told : outcomes_shown (outcomes_at site page s) ≡ Some (outcomes_of site page t)
    outcomes_told = by (at (name_at 1) page (pages_of site s)) refl (at_named (name_at 1) page (pages_of site s)) found_page
      where
        by : (o : Option Row) → at (name_at 1) page (pages_of site s) ≡ o → IfSome o (λ r. name_at 1 r ≡ page) → read_found (read_page mine) o ≡ Some (keep.kept_page site page t)
            → outcomes_shown (outcomes_at site page s) ≡ Some (outcomes_of site page t)
        by None none named is =
            ap (λ (rs : List Row). outcomes_shown (map (λ r. column r 2 ∷ column r 3 ∷ column r 4 ∷ column r 5 ∷ column r 6 ∷ column r 7 ∷ column r 8 ∷ column r 9 ∷ []) rs)) (none_of_page s s.outcomes (told_parts s t.sites sites).outcomes site page (ap is_some none))
            ∙ ap (λ (k : Option KeptPage). Some (outcomes_in k)) (some_same None (keep.kept_page site page t) is)
        by (Some r) there named is =
            let found = found_reads (read_page mine r) (keep.kept_page site page t) is in
            ap (λ n. outcomes_shown (outcomes_at site n s)) (sym named) ∙ (page_reads mine r found.0 found.1).outcomes ∙ ap (λ (k : Option KeptPage). Some (outcomes_in k)) (sym found.2)

-- ---- the edition, and the names of all sites

pub edition_told : (s : Stored) (t : Tables) → tables_in s ≡ Some t → kept_edition (editions_at s) ≡ Some (edition_of t)
edition_told s t told = (table_parts s t told).0

names_read : (s : Stored) (rs : List Row) (ks : List KeptSite) → read_each (λ r. read_site (of_site (name_at 0 r) s) r) rs ≡ Some ks
    → names_shown (map (λ r. column r 0 ∷ []) rs) ≡ Some (map site_name ks)
names_read s [] ks is = ap (λ l. Some (map site_name l)) (some_same [] ks is)
names_read s (r ∷ rs) ks is =
    let f = first_reads (λ r. read_site (of_site (name_at 0 r) s) r) r rs ks is in
    let name : named (name_at 0 r) ≡ Some (site_name f.0) = site_row_named (of_site (name_at 0 r) s) r f.0 f.2 in
    rw (name, names_read s rs f.1 f.3) (ap (λ l. Some (map site_name l)) (sym f.4))

pub names_told : (s : Stored) (t : Tables) → tables_in s ≡ Some t → names_shown (names_at s) ≡ Some (sites_of t)
names_told s t told = names_read s (sites_in s) t.sites (told_parts s t.sites (table_parts s t told).1).reads
