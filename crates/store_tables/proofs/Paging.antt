-- A change of one page of a site that is kept, after which tables are told, is a change of tables that were told.
use Rattle.std.proofs.Common.{◌≡◌, ◌⊎◌, inl, inr, ℕ, List, true, Option, Some, None, option_map, is_some, IfSome, refl, sym, ap, ◌∙◌, true≢false}
use Rattle.sqlite_value.specs.Order.{Row, column}
use Rattle.sqlite_rules.specs.Lists.{Has}
use Rattle.named_rows.specs.ByName.{at, with_row}
use Rattle.named_rows.proofs.Lookups.{at_named, at_with_row, at_with_row_other}
use Rattle.named_rows.proofs.Order.{in_order_with_row}
use Rattle.sql_rows.specs.Tables.{name_at}
use Rattle.sql_rows.proofs.Canon.{same_or_not}
use Rattle.keep_core.specs.declared.tables.KeptPage.{KeptPage}
use Rattle.keep_core.specs.declared.tables.KeptSite.{KeptSite}
use Rattle.keep_core.specs.Tables.{site_name, page_name}
use Rattle.store_tables.specs.Told.{Sites}
use Rattle.store_statements.specs.Stored.{Stored, sites_in, members_at, languages_at, pages_of, judgements_at, outcomes_at}
use Rattle.store_tables.specs.Reading.{read_each, read_found}
use Rattle.store_tables.specs.Sites.{site_from}
use Rattle.store_tables.specs.Judgements.{judgements_shown}
use Rattle.store_tables.specs.Outcomes.{outcomes_shown}
use Rattle.store_tables.specs.Told.{OfSite, of_site, read_page, read_site, is_site, is_page, sites_told}
use Rattle.store_tables.proofs.Steps.{found_reads}
use Rattle.store_tables.proofs.Each.{ChangesAt, reads_at, turned}
use Rattle.store_tables.proofs.Named.{page_reads, page_read, page_named, site_reads, site_read}
use Rattle.store_tables.proofs.Housing.{pages_in_order}
use Rattle.store_tables.proofs.Telling.{Houses, TellsSite, tables_turned}
use Rattle.store_tables.proofs.Elsewhere.{StaysElsewhere, tells_elsewhere}

module _ (site page : List ℕ) where
  -- the page as it is kept, or that it isn't; its judgements and outcomes are of a page that is
  pub record TellsPage (s : Stored) (kept : Option KeptPage) : Type 0 where
    pub reads : read_found (read_page (of_site site s)) (at (name_at 1) page (pages_of site s)) ≡ Some kept
    pub judgements : (r : Row) → Has s.judgements r → name_at 0 r ≡ site → name_at 1 r ≡ page → is_page s site page ≡ true
    pub outcomes : (r : Row) → Has s.outcomes r → name_at 0 r ≡ site → name_at 1 r ≡ page → is_page s site page ≡ true

  -- the rows of every other page of the site stay, and so do its own and those of its members and languages
  pub record StaysBeside (old new : Stored) : Type 0 where
    pub sites : sites_in new ≡ sites_in old
    pub members : members_at site new ≡ members_at site old
    pub languages : languages_at site new ≡ languages_at site old
    pub row : (m : List ℕ) → (m ≡ page → ⊥) → at (name_at 1) m (pages_of site new) ≡ at (name_at 1) m (pages_of site old)
    pub judgements : (m : List ℕ) → (m ≡ page → ⊥) → judgements_at site m new ≡ judgements_at site m old
    pub outcomes : (m : List ℕ) → (m ≡ page → ⊥) → outcomes_at site m new ≡ outcomes_at site m old
    pub judged : (r : Row) → (name_at 1 r ≡ page → ⊥) → Has old.judgements r → Has new.judgements r
    pub audited : (r : Row) → (name_at 1 r ≡ page → ⊥) → Has old.outcomes r → Has new.outcomes r

  module _ (s : Stored) where
    pub told_page : Houses s site → (x : Option KeptPage) → read_found (read_page (of_site site s)) (at (name_at 1) page (pages_of site s)) ≡ Some x → TellsPage s x
    told_page told x reads = record {
      reads = reads;
      judgements = λ r had mine its. ap (is_page s site) (sym its) ∙ told.judgements r had mine;
      outcomes = λ r had mine its. ap (is_page s site) (sym its) ∙ told.outcomes r had mine;
    }

  -- what is told of every other page was told of it before
  module _ (old new : Stored) (beside : StaysBeside old new) where
    back : (r : Row) → (name_at 1 r ≡ page → ⊥) → (p : KeptPage) → read_page (of_site site new) r ≡ Some p → read_page (of_site site old) r ≡ Some p
    back r other p is =
        let parts = page_reads (of_site site new) r p is in
        page_read (of_site site old) r p (record {
          page = parts.page;
          judgements = ap judgements_shown (sym (beside.judgements (name_at 1 r) other)) ∙ parts.judgements;
          outcomes = ap outcomes_shown (sym (beside.outcomes (name_at 1 r) other)) ∙ parts.outcomes;
        })

    pub found_back : (m : List ℕ) → (m ≡ page → ⊥) → (x : Option KeptPage) → (o : Option Row) → IfSome o (λ r. name_at 1 r ≡ m) → read_found (read_page (of_site site new)) o ≡ Some x → read_found (read_page (of_site site old)) o ≡ Some x
    found_back m other x None named reads = reads
    found_back m other x (Some r) named reads =
        let found = found_reads (read_page (of_site site new) r) x reads in
        ap (option_map Some) (back r (λ e. other (sym named ∙ e)) found.0 found.1) ∙ sym (ap Some found.2)

    page_stays : (p : List ℕ) → (p ≡ page → ⊥) → is_page new site p ≡ true → is_page old site p ≡ true
    page_stays p other h = ap is_some (sym (beside.row p other)) ∙ h

    pub houses_back : is_site old site ≡ true → Houses new site → (y : Option KeptPage) → TellsPage old y → Houses old site
    houses_back kept told y was = record {
      members = λ r had mine. kept;
      languages = λ r had mine. kept;
      pages = λ r had mine. kept;
      judgements = λ r had mine. judged r had mine (same_or_not (name_at 1 r) page);
      outcomes = λ r had mine. audited r had mine (same_or_not (name_at 1 r) page);
    }
      where
        judged : (r : Row) → Has old.judgements r → name_at 0 r ≡ site → (name_at 1 r ≡ page) ⊎ (name_at 1 r ≡ page → ⊥) → is_page old site (name_at 1 r) ≡ true
        judged r had mine (inl its) = ap (is_page old site) its ∙ was.judgements r had mine its
        judged r had mine (inr other) = page_stays (name_at 1 r) other (told.judgements r (beside.judged r other had) mine)

        audited : (r : Row) → Has old.outcomes r → name_at 0 r ≡ site → (name_at 1 r ≡ page) ⊎ (name_at 1 r ≡ page → ⊥) → is_page old site (name_at 1 r) ≡ true
        audited r had mine (inl its) = ap (is_page old site) its ∙ was.outcomes r had mine its
        audited r had mine (inr other) = page_stays (name_at 1 r) other (told.outcomes r (beside.audited r other had) mine)

  module _ (change : Option KeptPage → Option KeptPage) (changed : List KeptPage → List KeptPage) where
    abbrev pub with_changed : KeptSite → KeptSite
    with_changed s = record s { pages = changed s.pages }

    pub changes_one : ChangesAt (name_at 0) site_name site (option_map with_changed) (with_row site_name site with_changed)
    changes_one = record {
      in_order = λ ts up. in_order_with_row site_name site with_changed (λ _ _. refl) ts up;
      there = λ ts up. at_with_row site_name site with_changed (λ _ _. refl) ts;
      elsewhere = λ ts m other up. at_with_row_other site_name site with_changed (λ _ _. refl) m ts other;
    }

    module _ (old new : Stored) (changes : ChangesAt (name_at 1) page_name page change changed) (beside : StaysBeside old new) (kept : is_site old site ≡ true)
        (there : (x : Option KeptPage) → TellsPage new x → (y : Option KeptPage) × TellsPage old y × (x ≡ change y)) where
      abbrev before : OfSite
      before = of_site site old

      abbrev after : OfSite
      after = of_site site new

      pages_back : Houses new site → (ts : List KeptPage) → read_each (read_page after) after.pages ≡ Some ts → (ss : List KeptPage) × (read_each (read_page before) before.pages ≡ Some ss) × (ts ≡ changed ss)
      pages_back told ts is =
          turned (name_at 1) page_name page change changed (read_page before) (read_page after) before.pages after.pages (page_named before) (page_named after)
          changes (pages_in_order site old) (pages_in_order site new)
          (record {
            there = λ x reads. let y = there x (told_page new told x reads) in (y.0, y.1.reads, y.2);
            elsewhere = λ m other x reads. found_back old new beside m other x (at (name_at 1) m before.pages) (at_named (name_at 1) m before.pages) (ap (read_found (read_page after)) (sym (beside.row m other)) ∙ reads);
          })
          ts is

      site_back : (x : Option KeptSite) → TellsSite new site x → (y : Option KeptSite) × TellsSite old site y × (x ≡ option_map with_changed y)
      site_back x told = by (at (name_at 0) site (sites_in old)) refl (ap (λ (rs : List Row). read_found (read_site after) (at (name_at 0) site rs)) (sym beside.sites) ∙ told.reads)
        where
          by : (o : Option Row) → at (name_at 0) site (sites_in old) ≡ o → read_found (read_site after) o ≡ Some x → (y : Option KeptSite) × TellsSite old site y × (x ≡ option_map with_changed y)
          by None none reads = absurd (true≢false (sym kept ∙ ap is_some none))
          by (Some r) is reads =
              let found = found_reads (read_site after r) x reads in
              let parts = site_reads after r found.0 found.1 in
              let were = pages_back told.houses found.0.pages parts.pages in
              let row_back : site_from (name_at 0 r) (column r 1) before.members before.languages ≡ Some found.0.site =
              ap (λ (ms : List Row). site_from (name_at 0 r) (column r 1) ms before.languages) (sym beside.members)
              ∙ ap (λ (ls : List Row). site_from (name_at 0 r) (column r 1) after.members ls) (sym beside.languages) ∙ parts.site in
              let its = there (at page_name page found.0.pages) (told_page new told.houses (at page_name page found.0.pages) (reads_at (read_page after) (name_at 1) page_name (page_named after) after.pages found.0.pages parts.pages page)) in
              let k : KeptSite = record { site = found.0.site; pages = were.0 } in (
                Some k,
                record {
                  reads = ap (read_found (read_site before)) is
                      ∙ ap (option_map Some) (site_read before r k (record { site = row_back; pages = were.1 }));
                  houses = houses_back old new beside kept told.houses its.0 its.1;
                },
                found.2 ∙ ap (λ (l : List KeptPage). Some (record found.0 { pages = l })) were.2,
              )

      pub page_turned : StaysElsewhere site old new → (t : Sites) → sites_told new ≡ Some t → (ts : Sites) × (sites_told old ≡ Some ts) × (t ≡ with_row site_name site with_changed ts)
      page_turned elsewhere t is = tables_turned site (option_map with_changed) (with_row site_name site with_changed) old new changes_one site_back (tells_elsewhere site old new elsewhere) t is
