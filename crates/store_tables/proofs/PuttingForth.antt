-- A page that is put with its outcomes, where tables were told before.
use Rattle.std.proofs.Common.{◌≡◌, ℕ, List, [], ◌∷◌, map, true, Option, Some, None, option_map, is_some, IfSome, Ok, refl, sym, ap, ◌∙◌, All}
use Rattle.sqlite_value.specs.Order.{Row}
use Rattle.named_rows.specs.ByName.{at, put_row, with_row}
use Rattle.named_rows.proofs.Lookups.{at_named, at_put, at_put_other}
use Rattle.snap_json.specs.Pages.{kept_tree}
use Rattle.sql_rows.specs.Tables.{name_at, rows_of}
use Rattle.sql_rows.specs.Changes.{Changes}
use Rattle.sql_rows.proofs.Groups.{other_group, stays}
use Rattle.keep_core.specs.declared.page.PagePut.{PagePut}
use Rattle.keep_core.specs.declared.tables.KeptPage.{KeptPage}
use Rattle.keep_core.specs.Fits.{FitsPage}
use Rattle.keep_core.specs.Tables.{site_name, judgements_in}
use Rattle.store_tables.specs.Told.{Sites}
use Rattle.store_statements.specs.Stored.{Stored, judgements_at}
use Rattle.store_tables.specs.Reading.{read_found}
use Rattle.store_tables.specs.Judgements.{judgements_shown}
use Rattle.store_tables.specs.Outcomes.{outcomes_shown, outcome_rows}
use Rattle.store_tables.specs.Told.{OfSite, of_site, read_page, is_site, sites_told}
use Rattle.store_tables.specs.Pages.{page_cells}
use Rattle.store_tables.specs.Batches.{PutsOne, ReadsPage}
use Rattle.store_tables.specs.Numbers.{HasNumbers}
use Rattle.store_tables.proofs.Steps.{some_same, found_reads}
use Rattle.store_tables.proofs.Named.{page_reads, page_read}
use Rattle.store_tables.proofs.Groups.{not_led_by_page}
use Rattle.store_tables.proofs.Written.{shown_outcome}
use Rattle.store_tables.proofs.Elsewhere.{StaysElsewhere, stays_through, pages_by, outcomes_by}
use Rattle.store_tables.proofs.Paging.{TellsPage, StaysBeside}
use Rattle.store_tables.proofs.Putting.{put_in, page, change, puts_one, other_page}
use Rattle.store_tables.proofs.Undone.{undone}
use Rattle.store_tables.proofs.Shows.{page_shows, outcomes_show}
use Rattle.store_tables.proofs.PagingForth.{page_moved}

module _ (site : List ℕ) (put : PagePut) where
  module _ (old : Stored) (ps os : List Row) (bytes : List ℕ) (written : kept_tree bytes ≡ Ok put.page.tree)
      (pages : Changes (site ∷ []) (put_row (name_at 1) (page_cells site put.page bytes)) old.pages ps)
      (outcomes : Changes (site ∷ page site put ∷ []) (λ _. outcome_rows site (page site put) put.outcomes) old.outcomes os) (kept : is_site old site ≡ true) (whole : ReadsPage site (page site put) old)
      (fits : FitsPage put.page) (numbered : All HasNumbers put.outcomes.rows) where
    abbrev mine : List ℕ
    mine = page site put

    abbrev made : Stored
    made = record old { pages = ps; outcomes = os }

    abbrev before : OfSite
    before = of_site site old

    abbrev after : OfSite
    after = of_site site made

    row_there : at (name_at 1) mine after.pages ≡ Some (page_cells site put.page bytes)
    row_there = ap (at (name_at 1) mine) pages.there ∙ at_put (name_at 1) (page_cells site put.page bytes) before.pages

    outcomes_undone : Changes (site ∷ mine ∷ []) (λ _. rows_of (site ∷ mine ∷ []) old.outcomes) os old.outcomes
    outcomes_undone = undone (site ∷ mine ∷ []) (λ _. outcome_rows site mine put.outcomes) old.outcomes os outcomes

    beside : StaysBeside site mine made old
    beside = record {
      sites = refl;
      members = refl;
      languages = refl;
      row = λ m other. sym (ap (at (name_at 1) m) pages.there ∙ at_put_other (name_at 1) m (page_cells site put.page bytes) before.pages other);
      judgements = λ m other. refl;
      outcomes = λ m other. ap (map shown_outcome) (other_group (site ∷ mine ∷ []) os old.outcomes outcomes_undone (site ∷ m ∷ []) refl (other_page site put m other));
      judged = λ r other had. had;
      audited = λ r other had. stays (site ∷ mine ∷ []) os old.outcomes outcomes_undone r (not_led_by_page site mine r other) had;
    }

    -- the judgements that are kept of the page
    judged : (y : Option KeptPage) → read_found (read_page before) (at (name_at 1) mine before.pages) ≡ Some y → judgements_shown (judgements_at site mine old) ≡ Some (judgements_in y)
    judged y reads = by (at (name_at 1) mine before.pages) refl (at_named (name_at 1) mine before.pages) reads
      where
        by : (o : Option Row) → at (name_at 1) mine before.pages ≡ o → IfSome o (λ r. name_at 1 r ≡ mine) → read_found (read_page before) o ≡ Some y → judgements_shown (judgements_at site mine old) ≡ Some (judgements_in y)
        by None none named reads = ap judgements_shown (whole.unjudged (ap is_some none)) ∙ ap (λ (k : Option KeptPage). Some (judgements_in k)) (some_same None y reads)
        by (Some r) is named reads =
            let found = found_reads (read_page before r) y reads in
            ap (λ n. judgements_shown (judgements_at site n old)) (sym named) ∙ (page_reads before r found.0 found.1).judgements ∙ ap (λ (k : Option KeptPage). Some (judgements_in k)) (sym found.2)

    there : (y : Option KeptPage) → TellsPage site mine old y → TellsPage site mine made (change site put y)
    there y told = record {
      reads = ap (read_found (read_page after)) row_there ∙ ap (option_map Some) (page_read after (page_cells site put.page bytes) k (record {
        page = page_shows put.page bytes fits.head written;
        judgements = judged y told.reads;
        outcomes = ap (λ (rs : List Row). outcomes_shown (map shown_outcome rs)) outcomes.there ∙ outcomes_show site mine put.outcomes numbered;
      }));
      judgements = λ r had of its. ap is_some row_there;
      outcomes = λ r had of its. ap is_some row_there;
    }
      where
        k : KeptPage
        k = record { page = put.page; judgements = judgements_in y; outcomes = put.outcomes }

    elsewhere : StaysElsewhere site made old
    elsewhere =
        let one = record made { pages = old.pages } in
        stays_through site made one old
        (pages_by site made (λ _. rows_of (site ∷ []) old.pages) old.pages (undone (site ∷ []) (put_row (name_at 1) (page_cells site put.page bytes)) old.pages ps pages))
        (outcomes_by site one mine (λ _. rows_of (site ∷ mine ∷ []) old.outcomes) old.outcomes outcomes_undone)

    made_moved : (t : Sites) → sites_told old ≡ Some t → sites_told made ≡ Some (with_row site_name site (λ s. record s { pages = put_in put s.pages }) t)
    made_moved t is = page_moved site mine (change site put) (put_in put) old made (puts_one site put) beside kept there elsewhere t is

  -- where tables are told before a page is put that fits, the rows tell afterwards what that changes to these
  pub put_one_moved : (old new : Stored) → PutsOne site put old new → is_site old site ≡ true → ReadsPage site put.page.head.page old → FitsPage put.page → All HasNumbers put.outcomes.rows
      → (t : Sites) → sites_told old ≡ Some t → sites_told new ≡ Some (with_row site_name site (λ s. record s { pages = put_in put s.pages }) t)
  put_one_moved old new puts kept whole fits numbered t is =
      ap sites_told puts.same ∙ made_moved old new.pages new.outcomes puts.bytes puts.written puts.pages puts.outcomes kept whole fits numbered t is
