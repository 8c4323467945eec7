-- A site that gets another counter, and pages that are put of it, where tables were told before.
use Rattle.std.proofs.Common.{◌≡◌, ℕ, pos, ◌≤◌, List, [], ◌∷◌, true, Option, Some, None, option_map, is_some, IfSome, refl, sym, ap, ◌∙◌, true≢false, All}
use Rattle.std.specs.Prelude.{IsTrue}
use Rattle.std.proofs.lemmas.List.Elements.{All-head, All-tail}
use Rattle.sqlite_value.specs.declared.value.Value.TheVariants.{Int}
use Rattle.sqlite_value.specs.Order.{Row, column}
use Rattle.named_rows.specs.ByName.{at, put_row, with_row}
use Rattle.named_rows.proofs.Lookups.{at_named, at_put}
use Rattle.sql_rows.specs.Tables.{name_at}
use Rattle.sql_rows.specs.Changes.{Changes}
use Rattle.keep_core.specs.declared.limits.TheConstants.{MOST_REVISION}
use Rattle.keep_core.specs.declared.page.PagePut.{PagePut}
use Rattle.keep_core.specs.declared.tables.KeptSite.{KeptSite}
use Rattle.keep_core.specs.declared.change.Change.TheVariants.{PutPages}
use Rattle.keep_core.specs.Fits.{FitsPage, FitsPages}
use Rattle.keep_core.specs.Names.{is_name}
use Rattle.keep_core.specs.Tables.{site_name}
use Rattle.store_tables.specs.Told.{Sites}
use Rattle.keep_core.specs.Changes.{changed_sites}
use Rattle.store_statements.specs.Stored.{Stored, sites_in}
use Rattle.store_statements.specs.Changes.{PutsSite}
use Rattle.store_tables.specs.Reading.{read_found}
use Rattle.store_tables.specs.Sites.{site_from}
use Rattle.store_tables.specs.Told.{OfSite, of_site, read_site, is_site, sites_told}
use Rattle.store_tables.specs.Batches.{PutsEach, PutsPages}
use Rattle.store_tables.specs.Numbers.{HasNumbers}
use Rattle.store_tables.proofs.Steps.{found_reads}
use Rattle.store_tables.proofs.Named.{site_from_named, site_reads, site_read}
use Rattle.store_tables.proofs.Telling.{Houses, TellsSite}
use Rattle.store_tables.proofs.Elsewhere.{tells_elsewhere}
use Rattle.store_tables.proofs.Siting.{site_parts}
use Rattle.store_tables.proofs.WithRows.{with_same, with_twice}
use Rattle.store_tables.proofs.Counting.{cells, with_counter, counts_one, still_kept, with_puts, together}
use Rattle.store_tables.proofs.Shows.{site_shows}
use Rattle.store_tables.proofs.Undone.{site_undone}
use Rattle.store_tables.proofs.Forth.{tables_moved}
use Rattle.store_tables.proofs.PuttingForth.{put_one_moved}

module _ (site : List ℕ) (counter : ℕ) (named : IsTrue (is_name site)) (within : counter ≤ MOST_REVISION) where
  module _ (old : Stored) (ss : List Row) (sites : Changes [] (put_row (name_at 0) (cells site counter)) old.sites ss) (kept : is_site old site ≡ true) where
    abbrev counted : Stored
    counted = record old { sites = ss }

    abbrev mine : OfSite
    mine = of_site site old

    row_there : at (name_at 0) site (sites_in counted) ≡ Some (cells site counter)
    row_there = ap (at (name_at 0) site) sites.there ∙ at_put (name_at 0) (cells site counter) (sites_in old)

    houses : Houses old site → Houses counted site
    houses told = record { members = λ r had its. ap is_some row_there; languages = λ r had its. ap is_some row_there; pages = λ r had its. ap is_some row_there; judgements = told.judgements; outcomes = told.outcomes }

    site_on : (y : Option KeptSite) → TellsSite old site y → TellsSite counted site (option_map (with_counter site counter) y)
    site_on y told = by (at (name_at 0) site (sites_in old)) refl (at_named (name_at 0) site (sites_in old)) told.reads
      where
        by : (o : Option Row) → at (name_at 0) site (sites_in old) ≡ o → IfSome o (λ r. name_at 0 r ≡ site) → read_found (read_site mine) o ≡ Some y → TellsSite counted site (option_map (with_counter site counter) y)
        by None none its reads = absurd (true≢false (sym kept ∙ ap is_some none))
        by (Some r) is its reads =
            let found = found_reads (read_site mine r) y reads in
            let was = site_reads mine r found.0 found.1 in
            let name : found.0.site.name ≡ site = site_from_named (name_at 0 r) (column r 1) mine.members mine.languages found.0.site was.site ∙ its in
            let parts = site_parts (name_at 0 r) (column r 1) mine.members mine.languages found.0.site was.site in
            let shows : site_from site (Int (pos counter)) mine.members mine.languages ≡ Some (record { name = found.0.site.name; counter = counter; members = found.0.site.members; languages = found.0.site.languages }) =
            site_shows site counter mine.members mine.languages found.0.site.members found.0.site.languages named within parts.1 parts.2
            ∙ ap (λ n. Some (record { name = n; counter = counter; members = found.0.site.members; languages = found.0.site.languages })) (sym name) in
            record {
              reads = ap (read_found (read_site mine)) row_there ∙ ap (option_map Some) (site_read mine (cells site counter) (with_counter site counter found.0) (record { site = shows; pages = was.pages }))
                  ∙ ap (λ (o : Option KeptSite). Some (option_map (with_counter site counter) o)) (sym found.2);
              houses = houses told.houses;
            }

    counted_moved : (t : Sites) → sites_told old ≡ Some t → sites_told counted ≡ Some (with_row site_name site (with_counter site counter) t)
    counted_moved t is =
        tables_moved site (option_map (with_counter site counter)) (with_row site_name site (with_counter site counter)) old counted (counts_one site counter) site_on (tells_elsewhere site counted old (site_undone site old (cells site counter) ss refl sites)) t is

  counter_moved : (old new : Stored) → PutsSite site (pos counter) old new → is_site old site ≡ true → (t : Sites) → sites_told old ≡ Some t → sites_told new ≡ Some (with_row site_name site (with_counter site counter) t)
  counter_moved old new puts kept t is = ap sites_told puts.0 ∙ counted_moved old new.sites puts.1 kept t is

puts_moved : (site : List ℕ) (puts : List PagePut) (old new : Stored) → PutsEach site puts old new → is_site old site ≡ true → All (λ (p : PagePut). FitsPage p.page) puts
    → All (λ (p : PagePut). All HasNumbers p.outcomes.rows) puts → (t : Sites) → sites_told old ≡ Some t → sites_told new ≡ Some (with_row site_name site (with_puts puts) t)
puts_moved site [] old new same kept fit numbered t is = ap sites_told same ∙ is ∙ ap Some (sym (with_same site_name site t))
puts_moved site (put ∷ puts) old new each kept fit numbered t is =
    let P : PagePut → Type 0 = λ p. FitsPage p.page in
    let Q : PagePut → Type 0 = λ p. All HasNumbers p.outcomes.rows in
    let still : is_site each.0 site ≡ true = ap (λ (s : Stored). is_site s site) each.2.same ∙ kept in
    let first = put_one_moved site put old each.0 each.2 kept each.1 (All-head P put puts fit) (All-head Q put puts numbered) t is in
    puts_moved site puts each.0 new each.3 still (All-tail P put puts fit) (All-tail Q put puts numbered) _ first ∙ ap Some (together site put puts t)

-- where tables are told before pages are put that fit, the rows tell afterwards what that changes to these
pub pages_moved : (site : List ℕ) (counter : ℕ) (puts : List PagePut) (old new : Stored) → PutsPages site counter puts old new → FitsPages site counter puts
    → All (λ (p : PagePut). All HasNumbers p.outcomes.rows) puts → (t : Sites) → sites_told old ≡ Some t → sites_told new ≡ Some (changed_sites (PutPages site counter puts) t)
pages_moved site counter puts old new h fits numbered t is =
    let first = counter_moved site counter fits.name fits.within old h.mid h.counts h.kept t is in
    puts_moved site puts h.mid new h.each (still_kept site counter old h.mid h.counts) fits.each numbered (with_row site_name site (with_counter site counter) t) first
    ∙ ap Some (with_twice site_name site (with_counter site counter) (with_puts puts) (λ _. refl) t)
