-- A change of one page of a site that is kept, before which tables are told, makes the change of these.
use Rattle.std.proofs.Common.{◌≡◌, ℕ, List, true, Option, Some, None, option_map, is_some, refl, sym, ap, ◌∙◌, true≢false}
use Rattle.sqlite_value.specs.Order.{Row, column}
use Rattle.named_rows.specs.ByName.{at, with_row}
use Rattle.named_rows.proofs.Lookups.{at_named}
use Rattle.sql_rows.specs.Tables.{name_at}
use Rattle.keep_core.specs.declared.tables.KeptPage.{KeptPage}
use Rattle.keep_core.specs.declared.tables.KeptSite.{KeptSite}
use Rattle.keep_core.specs.Tables.{site_name, page_name}
use Rattle.store_tables.specs.Told.{Sites}
use Rattle.store_statements.specs.Stored.{Stored, sites_in}
use Rattle.store_tables.specs.Reading.{read_each, read_found}
use Rattle.store_tables.specs.Sites.{site_from}
use Rattle.store_tables.specs.Told.{OfSite, of_site, read_page, read_site, is_site, sites_told}
use Rattle.store_tables.proofs.Steps.{found_reads}
use Rattle.store_tables.proofs.Each.{ChangesAt, reads_at}
use Rattle.store_tables.proofs.Named.{page_named, site_reads, site_read}
use Rattle.store_tables.proofs.Housing.{pages_in_order}
use Rattle.store_tables.proofs.Telling.{Houses, TellsSite}
use Rattle.store_tables.proofs.Elsewhere.{StaysElsewhere, tells_elsewhere}
use Rattle.store_tables.proofs.Paging.{TellsPage, StaysBeside, told_page, found_back, houses_back, with_changed, changes_one}
use Rattle.store_tables.proofs.Forth.{moved, tables_moved}

module _ (site page : List ℕ) (change : Option KeptPage → Option KeptPage) (changed : List KeptPage → List KeptPage) (old new : Stored) (changes : ChangesAt (name_at 1) page_name page change changed)
    (beside : StaysBeside site page new old) (kept : is_site old site ≡ true) (there : (y : Option KeptPage) → TellsPage site page old y → TellsPage site page new (change y)) where
  abbrev before : OfSite
  before = of_site site old

  abbrev after : OfSite
  after = of_site site new

  pages_on : Houses old site → (ss : List KeptPage) → read_each (read_page before) before.pages ≡ Some ss → read_each (read_page after) after.pages ≡ Some (changed ss)
  pages_on told ss is =
      moved (name_at 1) page_name page change changed (read_page before) (read_page after) before.pages after.pages (page_named before) (page_named after)
      changes (pages_in_order site old) (pages_in_order site new)
      (record {
        there = λ y reads. (there y (told_page site page old told y reads)).reads;
        elsewhere = λ m other x reads. found_back site page new old beside m other x (at (name_at 1) m after.pages) (at_named (name_at 1) m after.pages) (ap (read_found (read_page before)) (sym (beside.row m other)) ∙ reads);
      })
      ss is

  still : is_site new site ≡ true
  still = ap (λ (rs : List Row). is_some (at (name_at 0) site rs)) (sym beside.sites) ∙ kept

  site_on : (y : Option KeptSite) → TellsSite old site y → TellsSite new site (option_map (with_changed site page change changed) y)
  site_on y told = by (at (name_at 0) site (sites_in old)) refl told.reads
    where
      by : (o : Option Row) → at (name_at 0) site (sites_in old) ≡ o → read_found (read_site before) o ≡ Some y → TellsSite new site (option_map (with_changed site page change changed) y)
      by None none reads = absurd (true≢false (sym kept ∙ ap is_some none))
      by (Some r) is reads =
          let found = found_reads (read_site before r) y reads in
          let parts = site_reads before r found.0 found.1 in
          let pages = pages_on told.houses found.0.pages parts.pages in
          let was = at page_name page found.0.pages in
          let its = there was (told_page site page old told.houses was (reads_at (read_page before) (name_at 1) page_name (page_named before) before.pages found.0.pages parts.pages page)) in
          let row_on : site_from (name_at 0 r) (column r 1) after.members after.languages ≡ Some found.0.site =
          ap (λ (ms : List Row). site_from (name_at 0 r) (column r 1) ms after.languages) (sym beside.members)
          ∙ ap (λ (ls : List Row). site_from (name_at 0 r) (column r 1) before.members ls) (sym beside.languages) ∙ parts.site in
          let k : KeptSite = record { site = found.0.site; pages = changed found.0.pages } in
          record {
            reads = ap (λ (rs : List Row). read_found (read_site after) (at (name_at 0) site rs)) (sym beside.sites) ∙ ap (read_found (read_site after)) is
                ∙ ap (option_map Some) (site_read after r k (record { site = row_on; pages = pages }))
                ∙ ap (λ (o : Option KeptSite). Some (option_map (with_changed site page change changed) o)) (sym found.2);
            houses = houses_back site page new old beside still told.houses (change was) its;
          }

  pub page_moved : StaysElsewhere site new old → (t : Sites) → sites_told old ≡ Some t → sites_told new ≡ Some (with_row site_name site (with_changed site page change changed) t)
  page_moved elsewhere t is =
      tables_moved site (option_map (with_changed site page change changed)) (with_row site_name site (with_changed site page change changed)) old new (changes_one site page change changed) site_on (tells_elsewhere site new old elsewhere) t is
