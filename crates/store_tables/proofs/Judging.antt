-- Judgements that come behind those of their page, with the outcomes that they make.
use Rattle.std.proofs.lemmas.List.{map-append}
use Rattle.std.specs.declared.cmp.Ordering.TheVariants.{Greater}
use Rattle.named_rows.proofs.Names.{turned}
use Rattle.std.proofs.Common.{◌≡◌, ℕ, suc, ◌+◌, List, [], ◌∷◌, ◌++◌, map, pos, length, Option, Some, None, option_map, is_some, IfSome, refl, sym, ap, ◌∙◌, arith, true≢false}
use Rattle.sqlite_value.specs.Order.{Row}
use Rattle.named_rows.specs.ByName.{names_cmp, at, put_rows, with_row}
use Rattle.named_rows.proofs.Lookups.{at_named, at_with_row, at_with_row_other}
use Rattle.named_rows.proofs.Order.{in_order_with_row}
use Rattle.sql_rows.specs.Tables.{name_at, number_letters}
use Rattle.sql_rows.specs.Changes.{Changes}
use Rattle.sql_rows.proofs.Groups.{other_group, stays}
use Rattle.judge_core.specs.declared.judgement.Judgement.{Judgement}
use Rattle.judge_core.specs.declared.outcomes.OutRow.{OutRow}
use Rattle.judge_core.specs.declared.outcomes.Outcomes.{Outcomes}
use Rattle.keep_core.specs.declared.tables.KeptPage.{KeptPage}
use Rattle.keep_core.specs.declared.change.Change.TheVariants.{AddJudgements}
use Rattle.keep_core.specs.Tables.{page_name}
use Rattle.store_tables.specs.Told.{Sites}
use Rattle.keep_core.specs.Changes.{with_judgements, changed_sites}
use Rattle.store_statements.specs.Stored.{Stored, judgements_of, judgements_at, outcomes_at}
use Rattle.store_tables.specs.Reading.{read_counted, read_found}
use Rattle.store_tables.specs.Judgements.{judgement_from, judgements_shown}
use Rattle.store_tables.specs.Outcomes.{outcome_from, outcomes_shown, outcome_rows}
use Rattle.store_tables.specs.Told.{OfSite, of_site, read_page, sites_told}
use Rattle.store_tables.specs.Batches.{judgements_cells, AddsWhole, ReadsJudged}
use Rattle.store_tables.proofs.Steps.{some_same, some_of, found_reads}
use Rattle.store_tables.proofs.Each.{ChangesAt}
use Rattle.store_tables.proofs.Counted.{counted_split}
use Rattle.store_tables.proofs.Named.{page_reads, page_read}
use Rattle.store_tables.proofs.Groups.{not_led_by_page}
use Rattle.store_tables.proofs.Appending.{put_all_last}
use Rattle.store_tables.proofs.Written.{shown_judgement, shown_outcome, cell_place, judgements_in_order, judgements_back, behind_all, outcomes_back}
use Rattle.store_tables.proofs.Elsewhere.{StaysElsewhere, stays_through, judgements_by, outcomes_by}
use Rattle.store_tables.proofs.Paging.{TellsPage, StaysBeside, page_turned}

as_many : (rs : List Row) → length (map shown_judgement rs) ≡ length rs
as_many [] = refl
as_many (r ∷ rs) = ap suc (as_many rs)

module _ (site page : List ℕ) (added : List Judgement) (outcomes : Outcomes) where
  abbrev pub change : Option KeptPage → Option KeptPage
  change y = option_map (with_judgements added outcomes) y

  abbrev pub judge_in : List KeptPage → List KeptPage
  judge_in pages = with_row page_name page (with_judgements added outcomes) pages

  pub judges_one : ChangesAt (name_at 1) page_name page change judge_in
  judges_one = record {
    in_order = λ ts up. in_order_with_row page_name page (with_judgements added outcomes) (λ _ _. refl) ts up;
    there = λ ts up. at_with_row page_name page (with_judgements added outcomes) (λ _ _. refl) ts;
    elsewhere = λ ts m other up. at_with_row_other page_name page (with_judgements added outcomes) (λ _ _. refl) m ts other;
  }

  pub other_page : (p : List ℕ) → (p ≡ page → ⊥) → site ∷ p ∷ [] ≡ site ∷ page ∷ [] → ⊥
  other_page p other same = other cc

  module _ (old : Stored) where
    abbrev pub cells : List Row
    cells = judgements_cells site page (suc (length (judgements_at site page old))) added

    module _ (js os : List Row) (judged : Changes (site ∷ page ∷ []) (put_rows (name_at 2) cells) old.judgements js)
        (audited : Changes (site ∷ page ∷ []) (λ _. outcome_rows site page outcomes) old.outcomes os) (whole : ReadsJudged site page old) where
      abbrev made : Stored
      made = record old { judgements = js; outcomes = os }

      abbrev before : OfSite
      before = of_site site old

      abbrev after : OfSite
      after = of_site site made

      beside : StaysBeside site page old made
      beside = record {
        sites = refl;
        members = refl;
        languages = refl;
        row = λ m other. refl;
        judgements = λ m other. ap (map shown_judgement) (other_group (site ∷ page ∷ []) old.judgements js judged (site ∷ m ∷ []) refl (other_page m other));
        outcomes = λ m other. ap (map shown_outcome) (other_group (site ∷ page ∷ []) old.outcomes os audited (site ∷ m ∷ []) refl (other_page m other));
        judged = λ r other had. stays (site ∷ page ∷ []) old.judgements js judged r (not_led_by_page site page r other) had;
        audited = λ r other had. stays (site ∷ page ∷ []) old.outcomes os audited r (not_led_by_page site page r other) had;
      }

      pub judgements_there : judgements_at site page made ≡ judgements_at site page old ++ map shown_judgement cells
      judgements_there =
          let read = some_of (judgements_shown (judgements_at site page old)) whole.judgements in
          let many = as_many (judgements_of site page old) in
          ap (map shown_judgement) (judged.there ∙ put_all_last (name_at 2) cells (judgements_of site page old)
          (judgements_in_order site page (suc (length (judgements_at site page old))) added)
          (λ r x had new.
          let at = cell_place site page (suc (length (judgements_at site page old))) added x new in
          ap (names_cmp (name_at 2 r)) at.2
          ∙ turned (number_letters (pos at.0)) (name_at 2 r) Greater (behind_all 1 (judgements_of site page old) read.0 read.1 at.0 (omega (arith, many, at.1)) r had)))
          ∙ map-append shown_judgement (judgements_of site page old) cells

      there : (x : Option KeptPage) → TellsPage site page made x → (y : Option KeptPage) × TellsPage site page old y × (x ≡ change y)
      there x told = by (at (name_at 1) page before.pages) refl (at_named (name_at 1) page before.pages) told.reads
        where
          by : (o : Option Row) → at (name_at 1) page before.pages ≡ o → IfSome o (λ r. name_at 1 r ≡ page) → read_found (read_page after) o ≡ Some x → (y : Option KeptPage) × TellsPage site page old y × (x ≡ change y)
          by None none named reads = absurd (true≢false (sym whole.page_kept ∙ ap is_some none))
          by (Some r) is named reads =
              let found = found_reads (read_page after r) x reads in
              let parts = page_reads after r found.0 found.1 in
              let all : read_counted judgement_from 1 (judgements_at site page old ++ map shown_judgement cells) ≡ Some found.0.judgements =
              ap judgements_shown (sym judgements_there) ∙ ap (λ n. judgements_shown (judgements_at site n made)) (sym named) ∙ parts.judgements in
              let split = counted_split judgement_from 1 (judgements_at site page old) (map shown_judgement cells) found.0.judgements all in
              let last : split.1 ≡ added = judgements_back site page (suc (length (judgements_at site page old))) added split.1 (ap (λ n. read_counted judgement_from n (map shown_judgement cells)) (omega arith) ∙ split.3) in
              let shown : outcomes_at site page made ≡ map shown_outcome (outcome_rows site page outcomes) = ap (map shown_outcome) audited.there in
              let new_outcomes : found.0.outcomes ≡ outcomes = rows_are found.0.outcomes (sym (ap outcomes_shown shown) ∙ ap (λ n. outcomes_shown (outcomes_at site n made)) (sym named) ∙ parts.outcomes) in
              let were = some_of (outcomes_shown (outcomes_at site page old)) whole.outcomes in
              let k : KeptPage = record { page = found.0.page; judgements = split.0; outcomes = were.0 } in (
                Some k,
                record {
                  reads = ap (read_found (read_page before)) is
                      ∙ ap (option_map Some) (page_read before r k (record {
                        page = parts.page;
                        judgements = ap (λ n. judgements_shown (judgements_at site n old)) named ∙ split.2;
                        outcomes = ap (λ n. outcomes_shown (outcomes_at site n old)) named ∙ were.1;
                      }));
                  judgements = λ r had mine its. whole.page_kept;
                  outcomes = λ r had mine its. whole.page_kept;
                },
                found.2 ∙ (λ i. Some (record { page = found.0.page; judgements = (split.4 ∙ ap (λ l. split.0 ++ l) last) i; outcomes = new_outcomes i })),
              )
            where
              rows_are : (b : Outcomes) → option_map (λ (rows : List OutRow). record { rows = rows }) (read_counted outcome_from 1 (map shown_outcome (outcome_rows site page outcomes))) ≡ Some b → b ≡ outcomes
              rows_are b is = by_rows (read_counted outcome_from 1 (map shown_outcome (outcome_rows site page outcomes))) refl is
                where
                  by_rows : (o : Option (List OutRow)) → read_counted outcome_from 1 (map shown_outcome (outcome_rows site page outcomes)) ≡ o → option_map (λ (rows : List OutRow). record { rows = rows }) o ≡ Some b → b ≡ outcomes
                  by_rows None none is = absurd (let no : None ≡ Some b = is in cc)
                  by_rows (Some rows) reads is = sym (some_same {A = Outcomes} (record { rows = rows }) b is) ∙ ap (λ (l : List OutRow). record { rows = l }) (outcomes_back site page outcomes rows reads)

      elsewhere : StaysElsewhere site old made
      elsewhere =
          let one = record old { judgements = js } in
          stays_through site old one made (judgements_by site old page (put_rows (name_at 2) cells) js judged)
          (outcomes_by site one page (λ _. outcome_rows site page outcomes) os audited)

      made_told : (t : Sites) → sites_told made ≡ Some t → (ts : Sites) × (sites_told old ≡ Some ts) × (t ≡ changed_sites (AddJudgements site page added outcomes) ts)
      made_told t is = page_turned site page change judge_in old made judges_one beside whole.site_kept there elsewhere t is

  -- where rows tell tables after a judgement is added to those that read, they told before what that changes to these
  pub added_told : (old new : Stored) → AddsWhole site page added outcomes old new → ReadsJudged site page old → (t : Sites) → sites_told new ≡ Some t
      → (ts : Sites) × (sites_told old ≡ Some ts) × (t ≡ changed_sites (AddJudgements site page added outcomes) ts)
  added_told old new adds whole t is = made_told old new.judgements new.outcomes adds.judgements adds.outcomes whole t (sym (ap sites_told adds.same) ∙ is)
