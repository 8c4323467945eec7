-- A site that gets another counter, and pages that are put of it.
use Rattle.std.proofs.Common.{◌≡◌, ◌⊎◌, inl, inr, ℕ, pos, List, [], ◌∷◌, map, true, Option, Some, None, option_map, is_some, IfSome, IsSome, refl, sym, ap, ap₂, ◌∙◌, true≢false}
use Rattle.std.specs.Option.{option_to_list}
use Rattle.sqlite_value.specs.declared.value.Value.TheVariants.{Int, Text}
use Rattle.sqlite_value.specs.Order.{Row, column}
use Rattle.named_rows.specs.ByName.{at, put_row, put_rows, with_row}
use Rattle.named_rows.proofs.Lookups.{at_named, at_put, at_put_other, at_with_row, at_with_row_other}
use Rattle.named_rows.proofs.Order.{in_order_with_row}
use Rattle.sql_rows.specs.Tables.{name_at}
use Rattle.sql_rows.specs.Changes.{Changes}
use Rattle.sql_rows.proofs.Canon.{same_or_not}
use Rattle.keep_core.specs.declared.limits.TheConstants.{MOST_REVISION}
use Rattle.keep_core.specs.declared.page.PagePut.{PagePut}
use Rattle.keep_core.specs.declared.tables.KeptPage.{KeptPage}
use Rattle.keep_core.specs.declared.tables.KeptSite.{KeptSite}
use Rattle.keep_core.specs.declared.change.Change.TheVariants.{PutPages}
use Rattle.keep_core.specs.Tables.{site_name, page_name, judgements_in}
use Rattle.store_tables.specs.Told.{Sites}
use Rattle.keep_core.specs.Changes.{changed_sites, put_over}
use Rattle.store_statements.specs.Stored.{Stored, sites_in, site_at, members_at, languages_at}
use Rattle.store_statements.specs.Changes.{PutsSite}
use Rattle.store_tables.specs.Reading.{read_found}
use Rattle.store_tables.specs.Sites.{site_from, site_shown}
use Rattle.store_tables.specs.Told.{OfSite, of_site, read_site, is_site, sites_told}
use Rattle.store_tables.specs.Batches.{PutsEach, PutsPages}
use Rattle.store_tables.proofs.Steps.{some_same, some_of, found_reads}
use Rattle.store_tables.proofs.Each.{ChangesAt}
use Rattle.store_tables.proofs.Named.{site_from_named, site_reads, site_read}
use Rattle.store_tables.proofs.Telling.{Houses, TellsSite, tables_turned}
use Rattle.store_tables.proofs.Elsewhere.{StaysElsewhere, tells_elsewhere, put_site_by}
use Rattle.store_tables.proofs.Siting.{number_back, site_parts}
use Rattle.store_tables.proofs.WithRows.{with_same, with_twice, with_alike}
use Rattle.store_tables.proofs.Putting.{put_in, put_one_told}

module _ (site : List ℕ) (counter : ℕ) where
  abbrev pub cells : Row
  cells = Text site ∷ Int (pos counter) ∷ []

  abbrev pub with_counter : KeptSite → KeptSite
  with_counter s = record s { site = record s.site { counter = counter } }

  pub counts_one : ChangesAt (name_at 0) site_name site (option_map with_counter) (with_row site_name site with_counter)
  counts_one = record {
    in_order = λ ts up. in_order_with_row site_name site with_counter (λ _ _. refl) ts up;
    there = λ ts up. at_with_row site_name site with_counter (λ _ _. refl) ts;
    elsewhere = λ ts m other up. at_with_row_other site_name site with_counter (λ _ _. refl) m ts other;
  }

  module _ (old : Stored) (ss : List Row) (sites : Changes [] (put_row (name_at 0) cells) old.sites ss) (kept : is_site old site ≡ true) (whole : IsSome (site_shown site (site_at site old) (members_at site old) (languages_at site old))) where
    abbrev counted : Stored
    counted = record old { sites = ss }

    abbrev mine : OfSite
    mine = of_site site old

    row_there : at (name_at 0) site (sites_in counted) ≡ Some cells
    row_there = ap (at (name_at 0) site) sites.there ∙ at_put (name_at 0) cells (sites_in old)

    houses : Houses counted site → Houses old site
    houses told = record { members = λ r had its. kept; languages = λ r had its. kept; pages = λ r had its. kept; judgements = told.judgements; outcomes = told.outcomes }

    site_back : (x : Option KeptSite) → TellsSite counted site x → (y : Option KeptSite) × TellsSite old site y × (x ≡ option_map with_counter y)
    site_back x told = by (at (name_at 0) site (sites_in old)) refl (at_named (name_at 0) site (sites_in old))
      where
        by : (o : Option Row) → at (name_at 0) site (sites_in old) ≡ o → IfSome o (λ r. name_at 0 r ≡ site) → (y : Option KeptSite) × TellsSite old site y × (x ≡ option_map with_counter y)
        by None none named = absurd (true≢false (sym kept ∙ ap is_some none))
        by (Some r) is named =
            let found = found_reads (read_site mine cells) x (sym (ap (read_found (read_site mine)) row_there) ∙ told.reads) in
            let reads = site_reads mine cells found.0 found.1 in
            let parts = site_parts site (Int (pos counter)) mine.members mine.languages found.0.site reads.site in
            let counts : found.0.site.counter ≡ counter = number_back MOST_REVISION counter found.0.site.counter parts.0 in
            let name : found.0.site.name ≡ site = site_from_named site (Int (pos counter)) mine.members mine.languages found.0.site reads.site in
            let shown = some_of (site_shown site (site_at site old) (members_at site old) (languages_at site old)) whole in
            let row : option_map Some (site_from site (column r 1) mine.members mine.languages) ≡ Some shown.0 =
            sym (ap (λ (o : Option Row). site_shown site (option_to_list (option_map (λ r. column r 1 ∷ []) o)) mine.members mine.languages) is) ∙ shown.1 in
            let was = found_reads (site_from site (column r 1) mine.members mine.languages) shown.0 row in
            let were = site_parts site (column r 1) mine.members mine.languages was.0 was.1 in
            let same_name : found.0.site.name ≡ was.0.name = name ∙ sym (site_from_named site (column r 1) mine.members mine.languages was.0 was.1) in
            let members : found.0.site.members ≡ was.0.members = some_same found.0.site.members was.0.members (sym parts.1 ∙ were.1) in
            let languages : found.0.site.languages ≡ was.0.languages = some_same found.0.site.languages was.0.languages (sym parts.2 ∙ were.2) in
            let k : KeptSite = record { site = was.0; pages = found.0.pages } in (
              Some k,
              record {
                reads = ap (read_found (read_site mine)) is ∙ ap (option_map Some) (site_read mine r k (record { site = ap (λ n. site_from n (column r 1) mine.members mine.languages) named ∙ was.1; pages = reads.pages }));
                houses = houses told.houses;
              },
              found.2 ∙ (λ i. Some (record { site = record { name = same_name i; counter = counts i; members = members i; languages = languages i }; pages = found.0.pages })),
            )

    elsewhere : StaysElsewhere site old counted
    elsewhere = put_site_by site old cells ss refl sites

    counted_told : (t : Sites) → sites_told counted ≡ Some t → (ts : Sites) × (sites_told old ≡ Some ts) × (t ≡ with_row site_name site with_counter ts)
    counted_told t is = tables_turned site (option_map with_counter) (with_row site_name site with_counter) old counted counts_one site_back (tells_elsewhere site old counted elsewhere) t is

  counter_told : (old new : Stored) → PutsSite site (pos counter) old new → is_site old site ≡ true → IsSome (site_shown site (site_at site old) (members_at site old) (languages_at site old)) → (t : Sites) → sites_told new ≡ Some t
      → (ts : Sites) × (sites_told old ≡ Some ts) × (t ≡ with_row site_name site with_counter ts)
  counter_told old new puts kept whole t is = counted_told old new.sites puts.1 kept whole t (sym (ap sites_told puts.0) ∙ is)

  pub still_kept : (old new : Stored) → PutsSite site (pos counter) old new → is_site new site ≡ true
  still_kept old new puts = ap (λ (rs : List Row). is_some (at (name_at 0) site rs)) puts.1.there ∙ ap is_some (at_put (name_at 0) cells (sites_in old))

-- ---- pages that are put one after another

-- judgements of each page are as they were after another was put over them
judged_same : (put : PagePut) (kept : List KeptPage) (page : List ℕ) → judgements_in (at page_name page (put_in put kept)) ≡ judgements_in (at page_name page kept)
judged_same put kept page = by (same_or_not page put.page.head.page)
  where
    by : (page ≡ put.page.head.page) ⊎ (page ≡ put.page.head.page → ⊥) → judgements_in (at page_name page (put_in put kept)) ≡ judgements_in (at page_name page kept)
    by (inl same) =
        ap (λ n. judgements_in (at page_name n (put_in put kept))) same ∙ ap judgements_in (at_put page_name (put_over kept put) kept) ∙ ap (λ n. judgements_in (at page_name n kept)) (sym same)
    by (inr other) = ap judgements_in (at_put_other page_name page (put_over kept put) kept other)

over_same : (put : PagePut) (kept : List KeptPage) (puts : List PagePut) → map (put_over (put_in put kept)) puts ≡ map (put_over kept) puts
over_same put kept [] = refl
over_same put kept (p ∷ puts) =
    ap₂ (λ (k : KeptPage) (ks : List KeptPage). k ∷ ks) (ap (λ js. record { page = p.page; judgements = js; outcomes = p.outcomes }) (judged_same put kept p.page.head.page)) (over_same put kept puts)

-- the site with pages that are put
abbrev pub with_puts : List PagePut → KeptSite → KeptSite
with_puts puts s = record s { pages = put_rows page_name (map (put_over s.pages) puts) s.pages }

-- a page that is put, and others after it
pub together : (site : List ℕ) (put : PagePut) (puts : List PagePut) (t : Sites) → with_row site_name site (with_puts puts) (with_row site_name site (λ s. record s { pages = put_in put s.pages }) t) ≡ with_row site_name site (with_puts (put ∷ puts)) t
together site put puts t =
    let with_one : KeptSite → KeptSite = λ s. record s { pages = put_in put s.pages } in
    with_twice site_name site with_one (with_puts puts) (λ _. refl) t
    ∙ with_alike site_name site (λ s. with_puts puts (with_one s)) (with_puts (put ∷ puts))
    (λ s. ap (λ rows. record s { pages = put_rows page_name rows (put_in put s.pages) }) (over_same put s.pages puts)) t

puts_told : (site : List ℕ) (puts : List PagePut) (old new : Stored) → PutsEach site puts old new → is_site old site ≡ true → (t : Sites) → sites_told new ≡ Some t
    → (ts : Sites) × (sites_told old ≡ Some ts) × (t ≡ with_row site_name site (with_puts puts) ts)
puts_told site [] old new same kept t is = (t, ap sites_told (sym same) ∙ is, sym (with_same site_name site t))
puts_told site (put ∷ puts) old new each kept t is =
    let one = each.2 in
    let still : is_site each.0 site ≡ true = ap (λ (s : Stored). is_site s site) one.same ∙ kept in
    let later = puts_told site puts each.0 new each.3 still t is in
    let first = put_one_told site put old each.0 one kept each.1 later.0 later.1 in (
      first.0,
      first.1,
      later.2 ∙ ap (with_row site_name site (with_puts puts)) first.2 ∙ together site put puts first.0,
    )

-- where rows tell tables after pages were put, they told before what that changes to these
pub pages_told : (site : List ℕ) (counter : ℕ) (puts : List PagePut) (old new : Stored) → PutsPages site counter puts old new → (t : Sites) → sites_told new ≡ Some t
    → (ts : Sites) × (sites_told old ≡ Some ts) × (t ≡ changed_sites (PutPages site counter puts) ts)
pages_told site counter puts old new h t is =
    let later = puts_told site puts h.mid new h.each (still_kept site counter old h.mid h.counts) t is in
    let first = counter_told site counter old h.mid h.counts h.kept h.reads later.0 later.1 in
    (first.0, first.1, later.2 ∙ ap (with_row site_name site (with_puts puts)) first.2 ∙ with_twice site_name site (with_counter site counter) (with_puts puts) (λ _. refl) first.0)
