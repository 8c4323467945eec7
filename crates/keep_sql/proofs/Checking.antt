-- What was read before rows are replaced or dropped.
use Rattle.std.proofs.Common.{◌≡◌, ℕ, List, [], ◌∷◌, true, Option, Some, None, option_map, is_some, IsSome, Result, Ok, Err, OnOk, IsTrue, refl, sym, ap, subst, ◌∙◌, true≢false}
use Rattle.std.specs.Option.{option_to_list}
use Rattle.sqlite_value.specs.Order.{Row, column}
use Rattle.sqlite.specs.Effect.{Database}
use Rattle.sqlite.specs.State.{State, IsUnchanged}
use Rattle.named_rows.specs.ByName.{at}
use Rattle.sql_rows.specs.Tables.{name_at}
use Rattle.judge_core.specs.declared.judgement.Judgement.{Judgement}
use Rattle.judge_core.specs.declared.outcomes.OutRow.{OutRow}
use Rattle.judge_core.specs.declared.outcomes.Outcomes.{Outcomes}
use Rattle.keep_core.specs.declared.site.Site.{Site}
use Rattle.keep_core.specs.declared.page.Page.{Page}
use Rattle.store_statements.specs.Stored.{Stored, stored, sites_in, pages_of, site_at, members_at, page_at, heads_at, judgements_at, outcomes_at, languages_at}
use Rattle.store_tables.specs.Reading.{read_counted}
use Rattle.store_tables.specs.Judgements.{judgement_from, judgements_shown}
use Rattle.store_tables.specs.Outcomes.{outcome_from, outcomes_shown}
use Rattle.store_tables.specs.Sites.{site_shown}
use Rattle.store_tables.specs.Pages.{page_shown}
use Rattle.store_tables.specs.Told.{is_site, is_page}
use Rattle.store_tables.specs.Batches.{ReadsSite, ReadsPage}
use Rattle.store_tables.proofs.Steps.{some_same, none_some}
use Rattle.store_tables.proofs.Counted.{first_counted}
use Rattle.keep_sql.specs.declared.known.Known.{Known}
use Rattle.keep_sql.specs.Reading.{outcomes_in, Recalls}

pub always : {A E P : Type 0} (r : Result A E) → P → OnOk r P
always (Ok a) p = p
always (Err e) p = tt

pub unchanged_itself : (s : State) → IsTrue s.is_open → IsUnchanged s s
unchanged_itself s is_open = (record { was_open = is_open; is_open = is_open; now_is = refl; committed_is = refl; mode = refl }, record { changes = refl; last_rowid = refl }, refl)

-- outcomes that are known are those that are kept
pub recalled : (known : Option Known) (site page : List ℕ) (os : Outcomes) (s : State) → known ≡ Some (record { site = site; page = page; outcomes = os }) → IsTrue s.is_open → Recalls known s → outcomes_in site page s ≡ Some os
recalled known site page os s is is_open recalls = let told : Recalls (Some (record { site = site; page = page; outcomes = os })) s = subst (λ k. Recalls k s) is recalls in told is_open

pub unchanged_through : (a b c : State) → IsUnchanged a b → IsUnchanged b c → IsUnchanged a c
unchanged_through a b c first second = (
  record {
    was_open = first.0.was_open;
    is_open = second.0.is_open;
    now_is = second.0.now_is ∙ first.0.now_is;
    committed_is = second.0.committed_is ∙ first.0.committed_is;
    mode = second.0.mode ∙ first.0.mode;
  },
  record { changes = second.1.changes ∙ first.1.changes; last_rowid = second.1.last_rowid ∙ first.1.last_rowid },
  second.2 ∙ first.2,
)

-- outcomes that are known stay so where nothing is changed
pub still_recalled : (known : Option Known) (a b : State) → IsUnchanged a b → Recalls known a → Recalls known b
still_recalled None a b same recalls = tt
still_recalled (Some k) a b same recalls = λ is_open. ap (λ (d : Database). outcomes_shown (outcomes_at k.site k.page (stored d.trees))) same.0.now_is ∙ recalls same.0.was_open

pub is_read : {A : Type 0} (o : Option A) (x : A) → o ≡ Some x → IsSome o
is_read o x is = subst IsSome (sym is) refl

module _ (site : List ℕ) (s : Stored) where
  -- a site that reads is there
  pub site_kept : (x : Site) → site_shown site (site_at site s) (members_at site s) (languages_at site s) ≡ Some (Some x) → is_site s site ≡ true
  site_kept x is = by (at (name_at 0) site (sites_in s)) is
    where
      by : (o : Option Row) → site_shown site (option_to_list (option_map (λ r. column r 1 ∷ []) o)) (members_at site s) (languages_at site s) ≡ Some (Some x) → is_some o ≡ true
      by None is = absurd (none_some x (some_same None (Some x) is))
      by (Some r) is = refl

  pub reads_kept : (x : Site) → site_shown site (site_at site s) (members_at site s) (languages_at site s) ≡ Some (Some x) → ReadsSite site s
  reads_kept x is = record {
    reads = is_read (site_shown site (site_at site s) (members_at site s) (languages_at site s)) (Some x) is;
    languages = λ strange. absurd (true≢false (sym (site_kept x is) ∙ strange));
    members = λ strange. absurd (true≢false (sym (site_kept x is) ∙ strange));
    pages = λ strange. absurd (true≢false (sym (site_kept x is) ∙ strange));
  }

  pub reads_none : (x : Option Site) → site_shown site (site_at site s) (members_at site s) (languages_at site s) ≡ Some x
      → (members_at site s ≡ []) × (languages_at site s ≡ []) × (heads_at site s ≡ []) → ReadsSite site s
  reads_none x is none = record {
    reads = is_read (site_shown site (site_at site s) (members_at site s) (languages_at site s)) x is;
    languages = λ _. none.1;
    members = λ _. none.0;
    pages = λ _. none.2;
  }

  pub kept_reads : (x : Site) → site_shown site (site_at site s) (members_at site s) (languages_at site s) ≡ Some (Some x)
      → (is_site s site ≡ true) × IsSome (site_shown site (site_at site s) (members_at site s) (languages_at site s))
  kept_reads x is = (site_kept x is, is_read (site_shown site (site_at site s) (members_at site s) (languages_at site s)) (Some x) is)

none_counted : {X : Type 0} (read : ℕ → Row → Option X) (place : ℕ) (rs : List Row) (ts : List X) → read_counted read place rs ≡ Some ts → ts ≡ [] → rs ≡ []
none_counted read place [] ts is none = refl
none_counted read place (r ∷ rs) ts is none = let f = first_counted read place r rs ts is in let empty : f.0 ∷ f.1 ≡ [] = sym f.4 ∙ none in absurd cc

pub rows_read : (rows : List Row) (os : Outcomes) → outcomes_shown rows ≡ Some os → read_counted outcome_from 1 rows ≡ Some os.rows
rows_read rows os is = by (read_counted outcome_from 1 rows) is
  where
    by : (o : Option (List OutRow)) → option_map (λ (rows : List OutRow). record { rows = rows }) o ≡ Some os → o ≡ Some os.rows
    by None is = absurd (none_some os is)
    by (Some l) is = ap (λ (p : Outcomes). Some p.rows) (some_same {A = Outcomes} (record { rows = l }) os is)

module _ (site page : List ℕ) (s : Stored) where
  page_kept : (x : Page) → page_shown page (page_at site page s) ≡ Some (Some x) → is_page s site page ≡ true
  page_kept x is = by (at (name_at 1) page (pages_of site s)) is
    where
      by : (o : Option Row) → page_shown page (option_to_list (option_map (λ r. column r 2 ∷ column r 3 ∷ column r 4 ∷ []) o)) ≡ Some (Some x) → is_some o ≡ true
      by None is = absurd (none_some x (some_same None (Some x) is))
      by (Some r) is = refl

  -- a page that reads with its judgements and outcomes, without which it has none
  pub reads_page : (found : Option Page) (js : List Judgement) (os : Outcomes) → page_shown page (page_at site page s) ≡ Some found → judgements_shown (judgements_at site page s) ≡ Some js
      → outcomes_shown (outcomes_at site page s) ≡ Some os → (found ≡ None → (js ≡ []) × (os.rows ≡ [])) → ReadsPage site page s
  reads_page None js os row judged audited housed = record {
    row = is_read (page_shown page (page_at site page s)) None row;
    judgements = is_read (judgements_shown (judgements_at site page s)) js judged;
    outcomes = is_read (outcomes_shown (outcomes_at site page s)) os audited;
    unjudged = λ _. none_counted judgement_from 1 (judgements_at site page s) js judged (housed refl).0;
    unaudited = λ _. none_counted outcome_from 1 (outcomes_at site page s) os.rows (rows_read (outcomes_at site page s) os audited) (housed refl).1;
  }
  reads_page (Some x) js os row judged audited housed = record {
    row = is_read (page_shown page (page_at site page s)) (Some x) row;
    judgements = is_read (judgements_shown (judgements_at site page s)) js judged;
    outcomes = is_read (outcomes_shown (outcomes_at site page s)) os audited;
    unjudged = λ strange. absurd (true≢false (sym (page_kept x row) ∙ strange));
    unaudited = λ strange. absurd (true≢false (sym (page_kept x row) ∙ strange));
  }
