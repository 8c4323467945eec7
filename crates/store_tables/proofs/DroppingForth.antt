-- A page that is dropped with its judgements and outcomes, where tables were told before.
use Rattle.std.proofs.Common.{◌≡◌, ℕ, List, [], ◌∷◌, map, true, Option, Some, None, refl, sym, ap, ◌∙◌}
use Rattle.sqlite_value.specs.Order.{Row}
use Rattle.sqlite_rules.specs.Lists.{Has}
use Rattle.named_rows.specs.ByName.{at, take_row}
use Rattle.named_rows.proofs.Order.{at_take, at_take_other}
use Rattle.sql_rows.specs.Tables.{name_at, rows_of}
use Rattle.sql_rows.specs.Changes.{Changes}
use Rattle.sql_rows.proofs.Groups.{other_group, stays}
use Rattle.keep_core.specs.declared.tables.KeptPage.{KeptPage}
use Rattle.keep_core.specs.declared.change.Change.TheVariants.{DropPage}
use Rattle.keep_core.specs.Tables.{page_name}
use Rattle.store_tables.specs.Told.{Sites}
use Rattle.keep_core.specs.Changes.{changed_sites}
use Rattle.store_statements.specs.Stored.{Stored}
use Rattle.store_tables.specs.Reading.{read_found}
use Rattle.store_tables.specs.Told.{OfSite, of_site, read_page, is_site, is_page, sites_told}
use Rattle.store_tables.specs.Batches.{DropsWhole}
use Rattle.store_tables.proofs.Housing.{pages_in_order}
use Rattle.store_tables.proofs.Groups.{none_had, led_by_page, not_led_by_page}
use Rattle.store_tables.proofs.Written.{shown_judgement, shown_outcome}
use Rattle.store_tables.proofs.Elsewhere.{StaysElsewhere, stays_through, pages_by, judgements_by, outcomes_by}
use Rattle.store_tables.proofs.Dropping.{other_page, takes_one}
use Rattle.store_tables.proofs.Paging.{TellsPage, StaysBeside}
use Rattle.store_tables.proofs.Undone.{undone}
use Rattle.store_tables.proofs.PagingForth.{page_moved}

module _ (site page : List ℕ) where
  module _ (old : Stored) (ps js os : List Row) (pages : Changes (site ∷ []) (take_row (name_at 1) page) old.pages ps) (judgements : Changes (site ∷ page ∷ []) (λ _. []) old.judgements js)
      (outcomes : Changes (site ∷ page ∷ []) (λ _. []) old.outcomes os) (kept : is_site old site ≡ true) where
    abbrev left : Stored
    left = record old { pages = ps; judgements = js; outcomes = os }

    abbrev before : OfSite
    before = of_site site old

    abbrev after : OfSite
    after = of_site site left

    judged_undone : Changes (site ∷ page ∷ []) (λ _. rows_of (site ∷ page ∷ []) old.judgements) js old.judgements
    judged_undone = undone (site ∷ page ∷ []) (λ _. []) old.judgements js judgements

    audited_undone : Changes (site ∷ page ∷ []) (λ _. rows_of (site ∷ page ∷ []) old.outcomes) os old.outcomes
    audited_undone = undone (site ∷ page ∷ []) (λ _. []) old.outcomes os outcomes

    beside : StaysBeside site page left old
    beside = record {
      sites = refl;
      members = refl;
      languages = refl;
      row = λ m other. sym (ap (at (name_at 1) m) pages.there ∙ at_take_other (name_at 1) page m before.pages other (pages_in_order site old));
      judgements = λ m other. ap (map shown_judgement) (other_group (site ∷ page ∷ []) js old.judgements judged_undone (site ∷ m ∷ []) refl (other_page site page m other));
      outcomes = λ m other. ap (map shown_outcome) (other_group (site ∷ page ∷ []) os old.outcomes audited_undone (site ∷ m ∷ []) refl (other_page site page m other));
      judged = λ r other had. stays (site ∷ page ∷ []) js old.judgements judged_undone r (not_led_by_page site page r other) had;
      audited = λ r other had. stays (site ∷ page ∷ []) os old.outcomes audited_undone r (not_led_by_page site page r other) had;
    }

    gone : at (name_at 1) page after.pages ≡ None
    gone = ap (at (name_at 1) page) pages.there ∙ at_take (name_at 1) page before.pages (pages_in_order site old)

    -- none of its rows is left
    none_left : (shown : Row → Row) (rows : List Row) → rows_of (site ∷ page ∷ []) rows ≡ [] → (r : Row) → Has rows r → name_at 0 r ≡ site → name_at 1 r ≡ page → is_page left site page ≡ true
    none_left shown rows none r had mine its = absurd (none_had shown (site ∷ page ∷ []) rows (ap (map shown) none) r had (led_by_page site page r mine its))

    there : (y : Option KeptPage) → TellsPage site page old y → TellsPage site page left None
    there y told = record {
      reads = ap (read_found (read_page after)) gone;
      judgements = none_left shown_judgement js judgements.there;
      outcomes = none_left shown_outcome os outcomes.there;
    }

    elsewhere : StaysElsewhere site left old
    elsewhere =
        let one = record left { pages = old.pages } in
        let two = record one { judgements = old.judgements } in
        stays_through site left one old (pages_by site left (λ _. rows_of (site ∷ []) old.pages) old.pages (undone (site ∷ []) (take_row (name_at 1) page) old.pages ps pages))
        (stays_through site one two old (judgements_by site one page (λ _. rows_of (site ∷ page ∷ []) old.judgements) old.judgements judged_undone)
        (outcomes_by site two page (λ _. rows_of (site ∷ page ∷ []) old.outcomes) old.outcomes audited_undone))

    left_moved : (t : Sites) → sites_told old ≡ Some t → sites_told left ≡ Some (changed_sites (DropPage site page) t)
    left_moved t is = page_moved site page (λ _. None) (take_row page_name page) old left (takes_one site page) beside kept there elsewhere t is

  -- where tables are told before a page is dropped, the rows tell afterwards what is without it
  pub dropped_moved : (old new : Stored) → DropsWhole site page old new → is_site old site ≡ true → (t : Sites) → sites_told old ≡ Some t → sites_told new ≡ Some (changed_sites (DropPage site page) t)
  dropped_moved old new drops kept t is = ap sites_told drops.same ∙ left_moved old new.pages new.judgements new.outcomes drops.pages drops.judgements drops.outcomes kept t is
