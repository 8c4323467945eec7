-- Judgements that come behind those of their page, where tables were told before.
use Rattle.std.proofs.Common.{◌≡◌, ℕ, suc, ◌+◌, List, [], ◌∷◌, ◌++◌, map, length, Option, Some, None, option_map, is_some, IfSome, refl, sym, ap, ◌∙◌, arith, true≢false, All}
use Rattle.sqlite_value.specs.Order.{Row}
use Rattle.named_rows.specs.ByName.{at, put_rows}
use Rattle.named_rows.proofs.Lookups.{at_named}
use Rattle.sql_rows.specs.Tables.{name_at, rows_of}
use Rattle.sql_rows.specs.Changes.{Changes}
use Rattle.sql_rows.proofs.Groups.{other_group, stays}
use Rattle.judge_core.specs.declared.judgement.Judgement.{Judgement}
use Rattle.judge_core.specs.declared.outcomes.Outcomes.{Outcomes}
use Rattle.keep_core.specs.declared.tables.KeptPage.{KeptPage}
use Rattle.keep_core.specs.declared.change.Change.TheVariants.{AddJudgements}
use Rattle.store_tables.specs.Told.{Sites}
use Rattle.keep_core.specs.Changes.{with_judgements, changed_sites}
use Rattle.store_statements.specs.Stored.{Stored, judgements_at, outcomes_at}
use Rattle.store_tables.specs.Reading.{read_counted, read_found}
use Rattle.store_tables.specs.Judgements.{judgement_from, judgements_shown}
use Rattle.store_tables.specs.Outcomes.{outcomes_shown, outcome_rows}
use Rattle.store_tables.specs.Told.{OfSite, of_site, read_page, sites_told}
use Rattle.store_tables.specs.Batches.{AddsWhole, ReadsJudged}
use Rattle.store_tables.specs.Numbers.{HasNumbers}
use Rattle.store_tables.proofs.Steps.{found_reads}
use Rattle.store_tables.proofs.Counted.{counted_all}
use Rattle.store_tables.proofs.Named.{page_reads, page_read}
use Rattle.store_tables.proofs.Groups.{not_led_by_page}
use Rattle.store_tables.proofs.Written.{shown_judgement, shown_outcome}
use Rattle.store_tables.proofs.Elsewhere.{StaysElsewhere, stays_through, judgements_by, outcomes_by}
use Rattle.store_tables.proofs.Paging.{TellsPage, StaysBeside}
use Rattle.store_tables.proofs.Judging.{change, judge_in, judges_one, other_page, cells, judgements_there}
use Rattle.store_tables.proofs.Undone.{undone}
use Rattle.store_tables.proofs.Shows.{HasPlace, judgements_show, outcomes_show}
use Rattle.store_tables.proofs.PagingForth.{page_moved}

module _ (site page : List ℕ) (added : List Judgement) (outcomes : Outcomes) where
  module _ (old : Stored) (js os : List Row) (judged : Changes (site ∷ page ∷ []) (put_rows (name_at 2) (cells site page added outcomes old)) old.judgements js)
      (audited : Changes (site ∷ page ∷ []) (λ _. outcome_rows site page outcomes) old.outcomes os) (whole : ReadsJudged site page old)
      (numbers : All HasPlace added) (numbered : All HasNumbers outcomes.rows) where
    abbrev rows : List Row
    rows = cells site page added outcomes old

    abbrev made : Stored
    made = record old { judgements = js; outcomes = os }

    abbrev before : OfSite
    before = of_site site old

    abbrev after : OfSite
    after = of_site site made

    judged_undone : Changes (site ∷ page ∷ []) (λ _. rows_of (site ∷ page ∷ []) old.judgements) js old.judgements
    judged_undone = undone (site ∷ page ∷ []) (put_rows (name_at 2) rows) old.judgements js judged

    audited_undone : Changes (site ∷ page ∷ []) (λ _. rows_of (site ∷ page ∷ []) old.outcomes) os old.outcomes
    audited_undone = undone (site ∷ page ∷ []) (λ _. outcome_rows site page outcomes) old.outcomes os audited

    beside : StaysBeside site page made old
    beside = record {
      sites = refl;
      members = refl;
      languages = refl;
      row = λ m other. refl;
      judgements = λ m other. ap (map shown_judgement) (other_group (site ∷ page ∷ []) js old.judgements judged_undone (site ∷ m ∷ []) refl (other_page site page added outcomes m other));
      outcomes = λ m other. ap (map shown_outcome) (other_group (site ∷ page ∷ []) os old.outcomes audited_undone (site ∷ m ∷ []) refl (other_page site page added outcomes m other));
      judged = λ r other had. stays (site ∷ page ∷ []) js old.judgements judged_undone r (not_led_by_page site page r other) had;
      audited = λ r other had. stays (site ∷ page ∷ []) os old.outcomes audited_undone r (not_led_by_page site page r other) had;
    }

    there : (y : Option KeptPage) → TellsPage site page old y → TellsPage site page made (change site page added outcomes y)
    there y told = record {
      reads = by (at (name_at 1) page before.pages) refl (at_named (name_at 1) page before.pages) told.reads;
      judgements = λ r had mine its. whole.page_kept;
      outcomes = λ r had mine its. whole.page_kept;
    }
      where
        by : (o : Option Row) → at (name_at 1) page before.pages ≡ o → IfSome o (λ r. name_at 1 r ≡ page) → read_found (read_page before) o ≡ Some y
            → read_found (read_page after) (at (name_at 1) page after.pages) ≡ Some (change site page added outcomes y)
        by None none named reads = absurd (true≢false (sym whole.page_kept ∙ ap is_some none))
        by (Some r) is named reads =
            let found = found_reads (read_page before r) y reads in
            let parts = page_reads before r found.0 found.1 in
            let were : judgements_shown (judgements_at site page old) ≡ Some found.0.judgements = ap (λ n. judgements_shown (judgements_at site n old)) (sym named) ∙ parts.judgements in
            let last : read_counted judgement_from (1 + length (judgements_at site page old)) (map shown_judgement rows) ≡ Some added =
            ap (λ n. read_counted judgement_from n (map shown_judgement rows)) (omega arith) ∙ judgements_show site page (suc (length (judgements_at site page old))) added numbers in
            let more : judgements_shown (judgements_at site page made) ≡ Some (found.0.judgements ++ added) =
            ap judgements_shown (judgements_there site page added outcomes old js os judged audited whole)
            ∙ counted_all judgement_from 1 (judgements_at site page old) (map shown_judgement rows) found.0.judgements added were last in
            ap (read_found (read_page after)) is
            ∙ ap (option_map Some) (page_read after r (with_judgements added outcomes found.0) (record {
              page = parts.page;
              judgements = ap (λ n. judgements_shown (judgements_at site n made)) named ∙ more;
              outcomes = ap (λ n. outcomes_shown (outcomes_at site n made)) named ∙ ap (λ (rs : List Row). outcomes_shown (map shown_outcome rs)) audited.there ∙ outcomes_show site page outcomes numbered;
            }))
            ∙ ap (λ (o : Option KeptPage). Some (change site page added outcomes o)) (sym found.2)

    elsewhere : StaysElsewhere site made old
    elsewhere =
        let one = record made { judgements = old.judgements } in
        stays_through site made one old (judgements_by site made page (λ _. rows_of (site ∷ page ∷ []) old.judgements) old.judgements judged_undone)
        (outcomes_by site one page (λ _. rows_of (site ∷ page ∷ []) old.outcomes) old.outcomes audited_undone)

    made_moved : (t : Sites) → sites_told old ≡ Some t → sites_told made ≡ Some (changed_sites (AddJudgements site page added outcomes) t)
    made_moved t is = page_moved site page (change site page added outcomes) (judge_in site page added outcomes) old made (judges_one site page added outcomes) beside whole.site_kept there elsewhere t is

  -- where tables are told before a judgement is added, the rows tell afterwards what that changes to these
  pub added_moved : (old new : Stored) → AddsWhole site page added outcomes old new → ReadsJudged site page old → All HasPlace added → All HasNumbers outcomes.rows
      → (t : Sites) → sites_told old ≡ Some t → sites_told new ≡ Some (changed_sites (AddJudgements site page added outcomes) t)
  added_moved old new adds whole numbers numbered t is =
      ap sites_told adds.same ∙ made_moved old new.judgements new.outcomes adds.judgements adds.outcomes whole numbers numbered t is
