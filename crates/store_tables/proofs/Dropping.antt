-- A page that is dropped with its judgements and outcomes.
use Rattle.std.proofs.Common.{◌≡◌, ◌⊎◌, inl, inr, ℕ, List, [], ◌∷◌, map, Bool, true, false, Option, Some, None, option_map, is_some, IfSome, refl, sym, ap, ◌∙◌, true≢false}
use Rattle.std.specs.Option.{option_to_list}
use Rattle.sqlite_value.specs.Order.{Row, column}
use Rattle.sqlite_rules.specs.Lists.{Has}
use Rattle.named_rows.specs.ByName.{at, take_row, with_row}
use Rattle.named_rows.proofs.Lookups.{at_named, at_with_row, at_with_row_other}
use Rattle.named_rows.proofs.Order.{in_order_take, in_order_with_row, at_take, at_take_other}
use Rattle.sql_rows.specs.Tables.{name_at, rows_of}
use Rattle.sql_rows.specs.Changes.{Changes}
use Rattle.sql_rows.proofs.Canon.{same_or_not}
use Rattle.sql_rows.proofs.Groups.{other_group, stays}
use Rattle.keep_core.specs.declared.tables.KeptPage.{KeptPage}
use Rattle.keep_core.specs.declared.tables.KeptSite.{KeptSite}
use Rattle.keep_core.specs.declared.change.Change.TheVariants.{DropPage}
use Rattle.keep_core.specs.Tables.{site_name, page_name}
use Rattle.store_tables.specs.Told.{Sites}
use Rattle.keep_core.specs.Changes.{changed_sites, without_page}
use Rattle.store_statements.specs.Stored.{Stored, sites_in, page_at, judgements_at, outcomes_at}
use Rattle.store_tables.specs.Reading.{read_each, read_found}
use Rattle.store_tables.specs.Pages.{page_from, page_shown}
use Rattle.store_tables.specs.Judgements.{judgements_shown}
use Rattle.store_tables.specs.Outcomes.{outcomes_shown}
use Rattle.store_tables.specs.Told.{OfSite, of_site, read_page, read_site, is_site, is_page, sites_told}
use Rattle.store_tables.specs.Batches.{DropsWhole, ReadsPage}
use Rattle.store_tables.proofs.Steps.{some_same, some_of, found_reads}
use Rattle.store_tables.proofs.Each.{ChangesAt, turned}
use Rattle.store_tables.proofs.Named.{page_reads, page_read, page_named, site_reads, site_read}
use Rattle.store_tables.proofs.Housing.{pages_in_order}
use Rattle.store_tables.proofs.Groups.{none_had, led_by_page, not_led_by_page}
use Rattle.store_tables.proofs.Telling.{Houses, TellsSite, tables_turned}
use Rattle.store_tables.proofs.Elsewhere.{StaysElsewhere, stays_through, tells_elsewhere, pages_by, judgements_by, outcomes_by}

module _ (site page : List ℕ) where
  pub other_page : (p : List ℕ) → (p ≡ page → ⊥) → site ∷ p ∷ [] ≡ site ∷ page ∷ [] → ⊥
  other_page p other same = other cc

  pub takes_one : ChangesAt (name_at 1) page_name page (λ _. None) (take_row page_name page)
  takes_one = record {
    in_order = λ ts up. in_order_take page_name page ts up;
    there = λ ts up. at_take page_name page ts up;
    elsewhere = λ ts m other up. at_take_other page_name page m ts other up;
  }

  changes_one : ChangesAt (name_at 0) site_name site (option_map (without_page page)) (with_row site_name site (without_page page))
  changes_one = record {
    in_order = λ ts up. in_order_with_row site_name site (without_page page) (λ _ _. refl) ts up;
    there = λ ts up. at_with_row site_name site (without_page page) (λ _ _. refl) ts;
    elsewhere = λ ts m other up. at_with_row_other site_name site (without_page page) (λ _ _. refl) m ts other;
  }

  module _ (old : Stored) (ps js os : List Row) (pages : Changes (site ∷ []) (take_row (name_at 1) page) old.pages ps) (judgements : Changes (site ∷ page ∷ []) (λ _. []) old.judgements js)
      (outcomes : Changes (site ∷ page ∷ []) (λ _. []) old.outcomes os) (kept : is_site old site ≡ true) (whole : ReadsPage site page old) where
    abbrev left : Stored
    left = record old { pages = ps; judgements = js; outcomes = os }

    abbrev before : OfSite
    before = of_site site old

    abbrev after : OfSite
    after = of_site site left

    -- ---- the pages of the site

    page_at_other : (m : List ℕ) → (m ≡ page → ⊥) → at (name_at 1) m after.pages ≡ at (name_at 1) m before.pages
    page_at_other m other = ap (at (name_at 1) m) pages.there ∙ at_take_other (name_at 1) page m before.pages other (pages_in_order site old)

    back : (r : Row) → (name_at 1 r ≡ page → ⊥) → (p : KeptPage) → read_page after r ≡ Some p → read_page before r ≡ Some p
    back r other p is =
        let parts = page_reads after r p is in
        page_read before r p (record {
          page = parts.page;
          judgements = ap (λ (rs : List Row). judgements_shown (map (λ r. column r 2 ∷ column r 3 ∷ column r 4 ∷ column r 5 ∷ column r 6 ∷ column r 7 ∷ column r 8 ∷ []) rs))
              (sym (other_group (site ∷ page ∷ []) old.judgements js judgements (site ∷ name_at 1 r ∷ []) refl (other_page (name_at 1 r) other))) ∙ parts.judgements;
          outcomes = ap (λ (rs : List Row). outcomes_shown (map (λ r. column r 2 ∷ column r 3 ∷ column r 4 ∷ column r 5 ∷ column r 6 ∷ column r 7 ∷ column r 8 ∷ column r 9 ∷ []) rs))
              (sym (other_group (site ∷ page ∷ []) old.outcomes os outcomes (site ∷ name_at 1 r ∷ []) refl (other_page (name_at 1 r) other))) ∙ parts.outcomes;
        })

    found_back : (m : List ℕ) → (m ≡ page → ⊥) → (x : Option KeptPage) → (o : Option Row) → IfSome o (λ r. name_at 1 r ≡ m) → read_found (read_page after) o ≡ Some x → read_found (read_page before) o ≡ Some x
    found_back m other x None named reads = reads
    found_back m other x (Some r) named reads =
        let found = found_reads (read_page after r) x reads in
        ap (option_map Some) (back r (λ e. other (sym named ∙ e)) found.0 found.1) ∙ sym (ap Some found.2)

    gone : (x : Option KeptPage) → read_found (read_page after) (at (name_at 1) page after.pages) ≡ Some x → x ≡ None
    gone x reads =
        let none : at (name_at 1) page after.pages ≡ None = ap (at (name_at 1) page) pages.there ∙ at_take (name_at 1) page before.pages (pages_in_order site old) in
        sym (some_same None x (sym (ap (read_found (read_page after)) none) ∙ reads))

    -- the page as it was
    was : (kept : Option KeptPage) × (read_found (read_page before) (at (name_at 1) page before.pages) ≡ Some kept)
    was = by (at (name_at 1) page before.pages) refl (at_named (name_at 1) page before.pages)
      where
        by : (o : Option Row) → at (name_at 1) page before.pages ≡ o → IfSome o (λ r. name_at 1 r ≡ page) → (kept : Option KeptPage) × (read_found (read_page before) o ≡ Some kept)
        by None none named = (None, refl)
        by (Some r) there named =
            let shown = some_of (page_shown page (page_at site page old)) whole.row in
            let row : option_map Some (page_from page (column r 2) (column r 3) (column r 4)) ≡ Some shown.0 =
            sym (ap (λ (o : Option Row). page_shown page (option_to_list (option_map (λ r. column r 2 ∷ column r 3 ∷ column r 4 ∷ []) o))) there) ∙ shown.1 in
            let found = found_reads (page_from page (column r 2) (column r 3) (column r 4)) shown.0 row in
            let judged = some_of (judgements_shown (judgements_at site page old)) whole.judgements in
            let audited = some_of (outcomes_shown (outcomes_at site page old)) whole.outcomes in
            let k : KeptPage = record { page = found.0; judgements = judged.0; outcomes = audited.0 } in (
              Some k,
              ap (option_map Some) (page_read before r k (record {
                page = ap (λ n. page_from n (column r 2) (column r 3) (column r 4)) named ∙ found.1;
                judgements = ap (λ n. judgements_shown (judgements_at site n old)) named ∙ judged.1;
                outcomes = ap (λ n. outcomes_shown (outcomes_at site n old)) named ∙ audited.1;
              })),
            )

    pages_back : (ts : List KeptPage) → read_each (read_page after) after.pages ≡ Some ts → (ss : List KeptPage) × (read_each (read_page before) before.pages ≡ Some ss) × (ts ≡ take_row page_name page ss)
    pages_back ts is =
        turned (name_at 1) page_name page (λ _. None) (take_row page_name page) (read_page before) (read_page after) before.pages after.pages (page_named before) (page_named after)
        takes_one (pages_in_order site old) (pages_in_order site left)
        (record {
          there = λ x reads. (was.0, was.1, gone x reads);
          elsewhere = λ m other x reads. found_back m other x (at (name_at 1) m before.pages) (at_named (name_at 1) m before.pages) (ap (read_found (read_page after)) (sym (page_at_other m other)) ∙ reads);
        })
        ts is

    -- ---- rows of the site's name

    page_stays : (p : List ℕ) → (p ≡ page → ⊥) → is_page left site p ≡ true → is_page old site p ≡ true
    page_stays p other h = ap is_some (sym (page_at_other p other)) ∙ h

    housed : (shown : Row → Row) (rows rest : List Row) → Changes (site ∷ page ∷ []) (λ _. []) rows rest → (is_page old site page ≡ false → map shown (rows_of (site ∷ page ∷ []) rows) ≡ [])
        → ((r : Row) → Has rest r → name_at 0 r ≡ site → is_page left site (name_at 1 r) ≡ true) → (r : Row) → Has rows r → name_at 0 r ≡ site → is_page old site (name_at 1 r) ≡ true
    housed shown rows rest change none told r there mine = by (same_or_not (name_at 1 r) page) (is_page old site page) refl
      where
        by : (name_at 1 r ≡ page) ⊎ (name_at 1 r ≡ page → ⊥) → (b : Bool) → is_page old site page ≡ b → is_page old site (name_at 1 r) ≡ true
        by (inl same) true is = ap (is_page old site) same ∙ is
        by (inl same) false is = absurd (none_had shown (site ∷ page ∷ []) rows (none is) r there (led_by_page site page r mine same))
        by (inr other) b is = page_stays (name_at 1 r) other (told r (stays (site ∷ page ∷ []) rows rest change r (not_led_by_page site page r other) there) mine)

    houses : Houses left site → Houses old site
    houses told = record {
      members = λ r there mine. kept;
      pages = λ r there mine. kept;
      languages = λ r there mine. kept;
      judgements = housed (λ r. column r 2 ∷ column r 3 ∷ column r 4 ∷ column r 5 ∷ column r 6 ∷ column r 7 ∷ column r 8 ∷ []) old.judgements js judgements whole.unjudged told.judgements;
      outcomes = housed (λ r. column r 2 ∷ column r 3 ∷ column r 4 ∷ column r 5 ∷ column r 6 ∷ column r 7 ∷ column r 8 ∷ column r 9 ∷ []) old.outcomes os outcomes whole.unaudited told.outcomes;
    }

    site_back : (x : Option KeptSite) → TellsSite left site x → (y : Option KeptSite) × TellsSite old site y × (x ≡ option_map (without_page page) y)
    site_back x told = by (at (name_at 0) site (sites_in old)) refl told.reads
      where
        by : (o : Option Row) → at (name_at 0) site (sites_in old) ≡ o → read_found (read_site after) o ≡ Some x → (y : Option KeptSite) × TellsSite old site y × (x ≡ option_map (without_page page) y)
        by None none reads = absurd (true≢false (sym kept ∙ ap is_some none))
        by (Some r) there reads =
            let found = found_reads (read_site after r) x reads in
            let parts = site_reads after r found.0 found.1 in
            let were = pages_back found.0.pages parts.pages in
            let k : KeptSite = record { site = found.0.site; pages = were.0 } in (
              Some k,
              record { reads = ap (read_found (read_site before)) there ∙ ap (option_map Some) (site_read before r k (record { site = parts.site; pages = were.1 })); houses = houses told.houses },
              found.2 ∙ ap (λ (l : List KeptPage). Some (record found.0 { pages = l })) were.2,
            )

    elsewhere : StaysElsewhere site old left
    elsewhere =
        let one = record old { pages = ps } in
        let two = record one { judgements = js } in
        stays_through site old one left (pages_by site old (take_row (name_at 1) page) ps pages)
        (stays_through site one two left (judgements_by site one page (λ _. []) js judgements) (outcomes_by site two page (λ _. []) os outcomes))

    left_told : (t : Sites) → sites_told left ≡ Some t → (ts : Sites) × (sites_told old ≡ Some ts) × (t ≡ changed_sites (DropPage site page) ts)
    left_told t is = tables_turned site (option_map (without_page page)) (with_row site_name site (without_page page)) old left changes_one site_back (tells_elsewhere site old left elsewhere) t is

  -- where rows tell tables after a page is dropped that read, they told before what has this page more
  pub dropped_told : (old new : Stored) → DropsWhole site page old new → is_site old site ≡ true → ReadsPage site page old → (t : Sites) → sites_told new ≡ Some t
      → (ts : Sites) × (sites_told old ≡ Some ts) × (t ≡ changed_sites (DropPage site page) ts)
  dropped_told old new drops kept whole t is =
      left_told old new.pages new.judgements new.outcomes drops.pages drops.judgements drops.outcomes kept whole t (sym (ap sites_told drops.same) ∙ is)
