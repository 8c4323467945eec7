-- New outcomes of pages, one after another, where tables were told before.
use Rattle.std.proofs.Common.{◌≡◌, inl, inr, ℕ, List, [], ◌∷◌, map, true, Option, Some, None, option_map, is_some, IfSome, refl, sym, ap, ◌∙◌, true≢false, All}
use Rattle.std.proofs.lemmas.List.Elements.{All-head, All-tail}
use Rattle.sqlite_value.specs.Order.{Row}
use Rattle.named_rows.specs.ByName.{at, with_row}
use Rattle.named_rows.proofs.Lookups.{at_named}
use Rattle.sql_rows.specs.Tables.{name_at, rows_of}
use Rattle.sql_rows.specs.Changes.{Changes}
use Rattle.sql_rows.proofs.Groups.{other_group, stays}
use Rattle.judge_core.specs.declared.outcomes.Outcomes.{Outcomes}
use Rattle.keep_core.specs.declared.page.PageOutcomes.{PageOutcomes}
use Rattle.keep_core.specs.declared.tables.KeptPage.{KeptPage}
use Rattle.keep_core.specs.declared.change.Change.TheVariants.{Refresh}
use Rattle.keep_core.specs.Tables.{site_name}
use Rattle.keep_core.specs.Changes.{having, refreshed, changed_sites}
use Rattle.store_statements.specs.Stored.{Stored, outcomes_at}
use Rattle.store_tables.specs.Reading.{read_found}
use Rattle.store_tables.specs.Outcomes.{outcomes_shown, outcome_rows}
use Rattle.store_tables.specs.Told.{Sites, OfSite, of_site, read_page, is_site, is_page, sites_told}
use Rattle.store_tables.specs.Batches.{RefreshesOne, RefreshesEach}
use Rattle.store_tables.specs.Numbers.{HasNumbers}
use Rattle.store_tables.proofs.Steps.{found_reads}
use Rattle.store_tables.proofs.Named.{page_reads, page_read}
use Rattle.store_tables.proofs.Groups.{not_led_by_page}
use Rattle.store_tables.proofs.Written.{shown_outcome}
use Rattle.store_tables.proofs.Elsewhere.{StaysElsewhere, outcomes_by}
use Rattle.store_tables.proofs.Paging.{TellsPage, StaysBeside}
use Rattle.store_tables.proofs.Undone.{undone}
use Rattle.store_tables.proofs.Shows.{outcomes_show}
use Rattle.store_tables.proofs.PagingForth.{page_moved}
use Rattle.store_tables.proofs.WithRows.{with_same}
use Rattle.store_tables.proofs.Audited.{audit, audit_in, audits_one, apart, still_kept, refreshed_twice}
use Rattle.store_tables.proofs.Refreshed.{page_strange, none_refreshed}

module _ (site page : List ℕ) (outcomes : Outcomes) (old : Stored) (os : List Row) (audited : Changes (site ∷ page ∷ []) (λ _. outcome_rows site page outcomes) old.outcomes os)
    (kept : is_site old site ≡ true) (page_kept : is_page old site page ≡ true) (numbered : All HasNumbers outcomes.rows) where
  abbrev made : Stored
  made = record old { outcomes = os }

  abbrev before : OfSite
  before = of_site site old

  abbrev after : OfSite
  after = of_site site made

  audited_undone : Changes (site ∷ page ∷ []) (λ _. rows_of (site ∷ page ∷ []) old.outcomes) os old.outcomes
  audited_undone = undone (site ∷ page ∷ []) (λ _. outcome_rows site page outcomes) old.outcomes os audited

  beside : StaysBeside site page made old
  beside = record {
    sites = refl;
    members = refl;
    languages = refl;
    row = λ m other. refl;
    judgements = λ m other. refl;
    outcomes = λ m other. ap (map shown_outcome) (other_group (site ∷ page ∷ []) os old.outcomes audited_undone (site ∷ m ∷ []) refl (apart site page outcomes m other));
    judged = λ r other had. had;
    audited = λ r other had. stays (site ∷ page ∷ []) os old.outcomes audited_undone r (not_led_by_page site page r other) had;
  }

  there : (y : Option KeptPage) → TellsPage site page old y → TellsPage site page made (audit site page outcomes y)
  there y told = record {
    reads = by (at (name_at 1) page before.pages) refl (at_named (name_at 1) page before.pages) told.reads;
    judgements = λ r had mine its. page_kept;
    outcomes = λ r had mine its. page_kept;
  }
    where
      by : (o : Option Row) → at (name_at 1) page before.pages ≡ o → IfSome o (λ r. name_at 1 r ≡ page) → read_found (read_page before) o ≡ Some y
          → read_found (read_page after) (at (name_at 1) page after.pages) ≡ Some (audit site page outcomes y)
      by None none named reads = absurd (true≢false (sym page_kept ∙ ap is_some none))
      by (Some r) is named reads =
          let found = found_reads (read_page before r) y reads in
          let parts = page_reads before r found.0 found.1 in
          ap (read_found (read_page after)) is
          ∙ ap (option_map Some) (page_read after r (having outcomes found.0) (record {
            page = parts.page;
            judgements = parts.judgements;
            outcomes = ap (λ n. outcomes_shown (outcomes_at site n made)) named ∙ ap (λ (rs : List Row). outcomes_shown (map shown_outcome rs)) audited.there ∙ outcomes_show site page outcomes numbered;
          }))
          ∙ ap (λ (o : Option KeptPage). Some (audit site page outcomes o)) (sym found.2)

  elsewhere : StaysElsewhere site made old
  elsewhere = outcomes_by site made page (λ _. rows_of (site ∷ page ∷ []) old.outcomes) old.outcomes audited_undone

  pub made_moved : (t : Sites) → sites_told old ≡ Some t → sites_told made ≡ Some (with_row site_name site (refreshed (record { page = page; outcomes = outcomes } ∷ [])) t)
  made_moved t is = page_moved site page (audit site page outcomes) (audit_in site page outcomes) old made (audits_one site page outcomes) beside kept there elsewhere t is

one_moved : (site : List ℕ) (o : PageOutcomes) (old new : Stored) → is_site old site ≡ true → RefreshesOne site o old new → All HasNumbers o.outcomes.rows → (t : Sites) → sites_told old ≡ Some t
    → sites_told new ≡ Some (with_row site_name site (refreshed (o ∷ [])) t)
one_moved site o old new kept (inl h) numbered t is = ap sites_told h.2 ∙ made_moved site o.page o.outcomes old new.outcomes h.3 kept h.0 numbered t is
one_moved site o old new kept (inr h) numbered t is = ap sites_told h.1 ∙ is ∙ ap Some (sym (none_refreshed site o t (page_strange old t is site o.page h.0)))

-- where tables are told before new outcomes of pages, the rows tell afterwards what that changes to these
pub refreshed_moved : (site : List ℕ) (os : List PageOutcomes) (old new : Stored) → is_site old site ≡ true → RefreshesEach site os old new → All (λ (o : PageOutcomes). All HasNumbers o.outcomes.rows) os
    → (t : Sites) → sites_told old ≡ Some t → sites_told new ≡ Some (changed_sites (Refresh site os) t)
refreshed_moved site [] old new kept each numbered t is = ap sites_told each ∙ is ∙ ap Some (sym (with_same site_name site t))
refreshed_moved site (o ∷ os) old new kept each numbered t is =
    let P : PageOutcomes → Type 0 = λ o. All HasNumbers o.outcomes.rows in
    let first = one_moved site o old each.0 kept each.1 (All-head P o os numbered) t is in
    refreshed_moved site os each.0 new (still_kept site o old each.0 each.1 kept) each.2 (All-tail P o os numbered) (with_row site_name site (refreshed (o ∷ [])) t) first
    ∙ ap Some (refreshed_twice site o os t)
