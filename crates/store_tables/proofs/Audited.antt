-- New outcomes of pages of a site that is kept, one after another.
use Rattle.std.proofs.Common.{◌≡◌, inl, inr, ℕ, List, [], ◌∷◌, map, true, Option, Some, None, option_map, is_some, IfSome, IsSome, refl, sym, ap, ◌∙◌, true≢false}
use Rattle.sqlite_value.specs.Order.{Row}
use Rattle.named_rows.specs.ByName.{at, with_row}
use Rattle.named_rows.proofs.Lookups.{at_named, at_with_row, at_with_row_other}
use Rattle.named_rows.proofs.Order.{in_order_with_row}
use Rattle.sql_rows.specs.Tables.{name_at}
use Rattle.sql_rows.specs.Changes.{Changes}
use Rattle.sql_rows.proofs.Groups.{other_group, stays}
use Rattle.judge_core.specs.declared.outcomes.OutRow.{OutRow}
use Rattle.judge_core.specs.declared.outcomes.Outcomes.{Outcomes}
use Rattle.keep_core.specs.declared.page.PageOutcomes.{PageOutcomes}
use Rattle.keep_core.specs.declared.tables.KeptPage.{KeptPage}
use Rattle.keep_core.specs.Tables.{site_name, page_name}
use Rattle.keep_core.specs.Changes.{having, refreshed}
use Rattle.store_statements.specs.Stored.{Stored, sites_in, outcomes_at}
use Rattle.store_tables.specs.Reading.{read_counted, read_found}
use Rattle.store_tables.specs.Outcomes.{outcome_from, outcomes_shown, outcome_rows}
use Rattle.store_tables.specs.Told.{Sites, OfSite, of_site, read_page, is_site, is_page, sites_told}
use Rattle.store_tables.specs.Batches.{RefreshesOne}
use Rattle.store_tables.proofs.Steps.{some_same, some_of, found_reads}
use Rattle.store_tables.proofs.Each.{ChangesAt}
use Rattle.store_tables.proofs.Named.{page_reads, page_read}
use Rattle.store_tables.proofs.Groups.{not_led_by_page}
use Rattle.store_tables.proofs.Written.{shown_outcome, outcomes_back}
use Rattle.store_tables.proofs.Elsewhere.{StaysElsewhere, outcomes_by}
use Rattle.store_tables.proofs.Paging.{TellsPage, StaysBeside, page_turned}
use Rattle.store_tables.proofs.WithRows.{with_twice}

module _ (site page : List ℕ) (outcomes : Outcomes) where
  abbrev pub audit : Option KeptPage → Option KeptPage
  audit y = option_map (having outcomes) y

  abbrev pub audit_in : List KeptPage → List KeptPage
  audit_in pages = with_row page_name page (having outcomes) pages

  pub audits_one : ChangesAt (name_at 1) page_name page audit audit_in
  audits_one = record {
    in_order = λ ts up. in_order_with_row page_name page (having outcomes) (λ _ _. refl) ts up;
    there = λ ts up. at_with_row page_name page (having outcomes) (λ _ _. refl) ts;
    elsewhere = λ ts m other up. at_with_row_other page_name page (having outcomes) (λ _ _. refl) m ts other;
  }

  pub apart : (p : List ℕ) → (p ≡ page → ⊥) → site ∷ p ∷ [] ≡ site ∷ page ∷ [] → ⊥
  apart p other same = other cc

  -- outcomes that read back as these
  pub rows_are : (b : Outcomes) → outcomes_shown (map shown_outcome (outcome_rows site page outcomes)) ≡ Some b → b ≡ outcomes
  rows_are b is = by_rows (read_counted outcome_from 1 (map shown_outcome (outcome_rows site page outcomes))) refl is
    where
      by_rows : (o : Option (List OutRow)) → read_counted outcome_from 1 (map shown_outcome (outcome_rows site page outcomes)) ≡ o → option_map (λ (rows : List OutRow). record { rows = rows }) o ≡ Some b → b ≡ outcomes
      by_rows None none is = absurd (let no : None ≡ Some b = is in cc)
      by_rows (Some rows) reads is = sym (some_same {A = Outcomes} (record { rows = rows }) b is) ∙ ap (λ (l : List OutRow). record { rows = l }) (outcomes_back site page outcomes rows reads)

  module _ (old : Stored) (os : List Row) (audited : Changes (site ∷ page ∷ []) (λ _. outcome_rows site page outcomes) old.outcomes os)
      (kept : is_site old site ≡ true) (page_kept : is_page old site page ≡ true) (whole : IsSome (outcomes_shown (outcomes_at site page old))) where
    abbrev made : Stored
    made = record old { outcomes = os }

    abbrev before : OfSite
    before = of_site site old

    abbrev after : OfSite
    after = of_site site made

    beside : StaysBeside site page old made
    beside = record {
      sites = refl;
      members = refl;
      languages = refl;
      row = λ m other. refl;
      judgements = λ m other. refl;
      outcomes = λ m other. ap (map shown_outcome) (other_group (site ∷ page ∷ []) old.outcomes os audited (site ∷ m ∷ []) refl (apart m other));
      judged = λ r other had. had;
      audited = λ r other had. stays (site ∷ page ∷ []) old.outcomes os audited r (not_led_by_page site page r other) had;
    }

    there : (x : Option KeptPage) → TellsPage site page made x → (y : Option KeptPage) × TellsPage site page old y × (x ≡ audit y)
    there x told = by (at (name_at 1) page before.pages) refl (at_named (name_at 1) page before.pages) told.reads
      where
        by : (o : Option Row) → at (name_at 1) page before.pages ≡ o → IfSome o (λ r. name_at 1 r ≡ page) → read_found (read_page after) o ≡ Some x → (y : Option KeptPage) × TellsPage site page old y × (x ≡ audit y)
        by None none named reads = absurd (true≢false (sym page_kept ∙ ap is_some none))
        by (Some r) is named reads =
            let found = found_reads (read_page after r) x reads in
            let parts = page_reads after r found.0 found.1 in
            let shown : outcomes_at site page made ≡ map shown_outcome (outcome_rows site page outcomes) = ap (map shown_outcome) audited.there in
            let new_outcomes : found.0.outcomes ≡ outcomes = rows_are found.0.outcomes (sym (ap outcomes_shown shown) ∙ ap (λ n. outcomes_shown (outcomes_at site n made)) (sym named) ∙ parts.outcomes) in
            let were = some_of (outcomes_shown (outcomes_at site page old)) whole in
            let k : KeptPage = record { page = found.0.page; judgements = found.0.judgements; outcomes = were.0 } in (
              Some k,
              record {
                reads = ap (read_found (read_page before)) is
                    ∙ ap (option_map Some) (page_read before r k (record {
                      page = parts.page;
                      judgements = parts.judgements;
                      outcomes = ap (λ n. outcomes_shown (outcomes_at site n old)) named ∙ were.1;
                    }));
                judgements = λ r had mine its. page_kept;
                outcomes = λ r had mine its. page_kept;
              },
              found.2 ∙ (λ i. Some (record { page = found.0.page; judgements = found.0.judgements; outcomes = new_outcomes i })),
            )

    elsewhere : StaysElsewhere site old made
    elsewhere = outcomes_by site old page (λ _. outcome_rows site page outcomes) os audited

    pub made_told : (t : Sites) → sites_told made ≡ Some t
        → (ts : Sites) × (sites_told old ≡ Some ts) × (t ≡ with_row site_name site (refreshed (record { page = page; outcomes = outcomes } ∷ [])) ts)
    made_told t is = page_turned site page audit audit_in old made audits_one beside kept there elsewhere t is

-- ---- one after another

-- sites stay as they are
pub sites_stay : (site : List ℕ) (o : PageOutcomes) (old new : Stored) → RefreshesOne site o old new → sites_in new ≡ sites_in old
sites_stay site o old new (inl h) = ap sites_in h.2
sites_stay site o old new (inr h) = ap sites_in h.1

pub still_kept : (site : List ℕ) (o : PageOutcomes) (old new : Stored) → RefreshesOne site o old new → is_site old site ≡ true → is_site new site ≡ true
still_kept site o old new one kept = ap (λ (rs : List Row). is_some (at (name_at 0) site rs)) (sites_stay site o old new one) ∙ kept

-- those of one page and then those of others are those of all
pub refreshed_twice : (site : List ℕ) (o : PageOutcomes) (os : List PageOutcomes) (ts : Sites)
    → with_row site_name site (refreshed os) (with_row site_name site (refreshed (o ∷ [])) ts) ≡ with_row site_name site (refreshed (o ∷ os)) ts
refreshed_twice site o os ts = with_twice site_name site (refreshed (o ∷ [])) (refreshed os) (λ _. refl) ts
