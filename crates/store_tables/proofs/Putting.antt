-- A page that is put with its outcomes.
use Rattle.std.proofs.Common.{◌≡◌, ℕ, List, [], ◌∷◌, map, Bool, true, false, Option, Some, None, option_map, is_some, IfSome, Ok, refl, sym, ap, ◌∙◌}
use Rattle.std.specs.Option.{option_to_list}
use Rattle.sqlite_value.specs.Order.{Row, column}
use Rattle.sqlite_rules.specs.Lists.{Has}
use Rattle.named_rows.specs.ByName.{at, put_row, with_row}
use Rattle.named_rows.proofs.Lookups.{at_named, at_put, at_put_other}
use Rattle.named_rows.proofs.Order.{in_order_put}
use Rattle.snap_json.specs.Pages.{kept_tree}
use Rattle.sql_rows.specs.Tables.{name_at, rows_of}
use Rattle.sql_rows.specs.Changes.{Changes}
use Rattle.sql_rows.proofs.Groups.{other_group, stays}
use Rattle.judge_core.specs.declared.judgement.Judgement.{Judgement}
use Rattle.judge_core.specs.declared.outcomes.OutRow.{OutRow}
use Rattle.judge_core.specs.declared.outcomes.Outcomes.{Outcomes}
use Rattle.keep_core.specs.declared.page.PagePut.{PagePut}
use Rattle.keep_core.specs.declared.tables.KeptPage.{KeptPage}
use Rattle.keep_core.specs.Tables.{site_name, page_name, judgements_in}
use Rattle.store_tables.specs.Told.{Sites}
use Rattle.keep_core.specs.Changes.{put_over}
use Rattle.store_statements.specs.Stored.{Stored, page_at, judgements_at, outcomes_at}
use Rattle.store_tables.specs.Reading.{read_counted, read_found}
use Rattle.store_tables.specs.Pages.{page_from, page_shown, page_cells}
use Rattle.store_tables.specs.Outcomes.{outcome_from, outcomes_shown, outcome_rows}
use Rattle.store_tables.specs.Judgements.{judgements_shown}
use Rattle.store_tables.specs.Told.{OfSite, of_site, read_page, is_site, is_page, sites_told}
use Rattle.store_tables.specs.Batches.{PutsOne, ReadsPage}
use Rattle.store_tables.proofs.Steps.{some_same, some_of, found_reads}
use Rattle.store_tables.proofs.Each.{ChangesAt}
use Rattle.store_tables.proofs.Named.{PageReads, page_reads, page_read}
use Rattle.store_tables.proofs.Groups.{none_had, led_by_page, not_led_by_page}
use Rattle.store_tables.proofs.Written.{shown_judgement, shown_outcome, page_back, outcomes_back}
use Rattle.store_tables.proofs.Elsewhere.{StaysElsewhere, stays_through, pages_by, outcomes_by}
use Rattle.store_tables.proofs.Paging.{TellsPage, StaysBeside, with_changed, page_turned}

-- pages with one put over them
abbrev pub put_in : PagePut → List KeptPage → List KeptPage
put_in put pages = put_row page_name (put_over pages put) pages

module _ (site : List ℕ) (put : PagePut) where
  abbrev pub page : List ℕ
  page = put.page.head.page

  abbrev pub change : Option KeptPage → Option KeptPage
  change y = Some (record { page = put.page; judgements = judgements_in y; outcomes = put.outcomes })

  pub puts_one : ChangesAt (name_at 1) page_name page change (put_in put)
  puts_one = record {
    in_order = λ ts up. in_order_put page_name (put_over ts put) ts up;
    there = λ ts up. at_put page_name (put_over ts put) ts;
    elsewhere = λ ts m other up. at_put_other page_name m (put_over ts put) ts other;
  }

  pub other_page : (p : List ℕ) → (p ≡ page → ⊥) → site ∷ p ∷ [] ≡ site ∷ page ∷ [] → ⊥
  other_page p other same = other cc

  module _ (old : Stored) (ps os : List Row) (bytes : List ℕ) (written : kept_tree bytes ≡ Ok put.page.tree) (pages : Changes (site ∷ []) (put_row (name_at 1) (page_cells site put.page bytes)) old.pages ps)
      (outcomes : Changes (site ∷ page ∷ []) (λ _. outcome_rows site page put.outcomes) old.outcomes os) (kept : is_site old site ≡ true) (whole : ReadsPage site page old) where
    abbrev made : Stored
    made = record old { pages = ps; outcomes = os }

    abbrev before : OfSite
    before = of_site site old

    abbrev after : OfSite
    after = of_site site made

    row_there : at (name_at 1) page after.pages ≡ Some (page_cells site put.page bytes)
    row_there = ap (at (name_at 1) page) pages.there ∙ at_put (name_at 1) (page_cells site put.page bytes) before.pages

    beside : StaysBeside site page old made
    beside = record {
      sites = refl;
      members = refl;
      languages = refl;
      row = λ m other. ap (at (name_at 1) m) pages.there ∙ at_put_other (name_at 1) m (page_cells site put.page bytes) before.pages other;
      judgements = λ m other. refl;
      outcomes = λ m other. ap (map shown_outcome) (other_group (site ∷ page ∷ []) old.outcomes os outcomes (site ∷ m ∷ []) refl (other_page m other));
      judged = λ r other had. had;
      audited = λ r other had. stays (site ∷ page ∷ []) old.outcomes os outcomes r (not_led_by_page site page r other) had;
    }

    -- rows of the page's name are there only if it is
    kept_or : (shown : Row → Row) (rows : List Row) → (is_page old site page ≡ false → map shown (rows_of (site ∷ page ∷ []) rows) ≡ []) → (r : Row) → Has rows r → name_at 0 r ≡ site → name_at 1 r ≡ page
        → is_page old site page ≡ true
    kept_or shown rows none r had mine its = by (is_page old site page) refl
      where
        by : (b : Bool) → is_page old site page ≡ b → is_page old site page ≡ true
        by true is = is
        by false is = absurd (none_had shown (site ∷ page ∷ []) rows (none is) r had (led_by_page site page r mine its))

    there : (x : Option KeptPage) → TellsPage site page made x → (y : Option KeptPage) × TellsPage site page old y × (x ≡ change y)
    there x told = by (at (name_at 1) page before.pages) refl (at_named (name_at 1) page before.pages)
      where
        found : (k : KeptPage) × (read_page after (page_cells site put.page bytes) ≡ Some k) × (x ≡ Some k)
        found = found_reads (read_page after (page_cells site put.page bytes)) x (sym (ap (read_found (read_page after)) row_there) ∙ told.reads)

        parts : PageReads after (page_cells site put.page bytes) found.0
        parts = page_reads after (page_cells site put.page bytes) found.0 found.1

        page_is : found.0.page ≡ put.page
        page_is = page_back put.page found.0.page bytes written parts.page

        outcomes_are : found.0.outcomes ≡ put.outcomes
        outcomes_are =
            let there : outcomes_at site page made ≡ map shown_outcome (outcome_rows site page put.outcomes) = ap (map shown_outcome) outcomes.there in
            rows_are put.outcomes found.0.outcomes (sym (ap outcomes_shown there) ∙ parts.outcomes)
          where
            rows_are : (a b : Outcomes) → option_map (λ (rows : List OutRow). record { rows = rows }) (read_counted outcome_from 1 (map shown_outcome (outcome_rows site page a))) ≡ Some b → b ≡ a
            rows_are a b is = by (read_counted outcome_from 1 (map shown_outcome (outcome_rows site page a))) refl is
              where
                by : (o : Option (List OutRow)) → read_counted outcome_from 1 (map shown_outcome (outcome_rows site page a)) ≡ o → option_map (λ (rows : List OutRow). record { rows = rows }) o ≡ Some b → b ≡ a
                by None none is = absurd (let no : None ≡ Some b = is in cc)
                by (Some rows) reads is = sym (some_same {A = Outcomes} (record { rows = rows }) b is) ∙ ap (λ (l : List OutRow). record { rows = l }) (outcomes_back site page a rows reads)

        x_is : (js : List Judgement) → found.0.judgements ≡ js → x ≡ Some (record { page = put.page; judgements = js; outcomes = put.outcomes })
        x_is js same = found.2 ∙ (λ i. Some (record { page = page_is i; judgements = same i; outcomes = outcomes_are i }))

        was : (y : Option KeptPage) → read_found (read_page before) (at (name_at 1) page before.pages) ≡ Some y → TellsPage site page old y
        was y reads = record {
          reads = reads;
          judgements = kept_or shown_judgement old.judgements whole.unjudged;
          outcomes = kept_or shown_outcome old.outcomes whole.unaudited;
        }

        by : (o : Option Row) → at (name_at 1) page before.pages ≡ o → IfSome o (λ r. name_at 1 r ≡ page) → (y : Option KeptPage) × TellsPage site page old y × (x ≡ change y)
        by None none named =
            let empty : [] ≡ found.0.judgements = some_same [] found.0.judgements (sym (ap judgements_shown (whole.unjudged (ap is_some none))) ∙ parts.judgements) in
            (None, was None (ap (read_found (read_page before)) none), x_is [] (sym empty))
        by (Some r) is named =
            let shown = some_of (page_shown page (page_at site page old)) whole.row in
            let row : option_map Some (page_from page (column r 2) (column r 3) (column r 4)) ≡ Some shown.0 =
            sym (ap (λ (o : Option Row). page_shown page (option_to_list (option_map (λ r. column r 2 ∷ column r 3 ∷ column r 4 ∷ []) o))) is) ∙ shown.1 in
            let first = found_reads (page_from page (column r 2) (column r 3) (column r 4)) shown.0 row in
            let audited = some_of (outcomes_shown (outcomes_at site page old)) whole.outcomes in
            let k : KeptPage = record { page = first.0; judgements = found.0.judgements; outcomes = audited.0 } in (
              Some k,
              was (Some k) (ap (read_found (read_page before)) is
                  ∙ ap (option_map Some) (page_read before r k (record {
                    page = ap (λ n. page_from n (column r 2) (column r 3) (column r 4)) named ∙ first.1;
                    judgements = ap (λ n. judgements_shown (judgements_at site n old)) named ∙ parts.judgements;
                    outcomes = ap (λ n. outcomes_shown (outcomes_at site n old)) named ∙ audited.1;
                  }))),
              x_is found.0.judgements refl,
            )

    elsewhere : StaysElsewhere site old made
    elsewhere =
        let one = record old { pages = ps } in
        stays_through site old one made (pages_by site old (put_row (name_at 1) (page_cells site put.page bytes)) ps pages)
        (outcomes_by site one page (λ _. outcome_rows site page put.outcomes) os outcomes)

    made_told : (t : Sites) → sites_told made ≡ Some t → (ts : Sites) × (sites_told old ≡ Some ts) × (t ≡ with_row site_name site (with_changed site page change (put_in put)) ts)
    made_told t is = page_turned site page change (put_in put) old made puts_one beside kept there elsewhere t is

  -- where rows tell tables after a page is put over one that read, they told before what that changes to these
  pub put_one_told : (old new : Stored) → PutsOne site put old new → is_site old site ≡ true → ReadsPage site page old → (t : Sites) → sites_told new ≡ Some t
      → (ts : Sites) × (sites_told old ≡ Some ts) × (t ≡ with_row site_name site (λ s. record s { pages = put_in put s.pages }) ts)
  put_one_told old new puts kept whole t is =
      made_told old new.pages new.outcomes puts.bytes puts.written puts.pages puts.outcomes kept whole t (sym (ap sites_told puts.same) ∙ is)
