-- New outcomes of pages that are those by the book: the pages that are named are by the book then, and others that were so are still.
use Rattle.std.proofs.Common.{◌≡◌, ℕ, List, [], ◌∷◌, get_or, Option, Some, None, option_map, IfSome, refl, sym, ap, ◌∙◌, subst, inl, inr, ◌⊎◌}
use Rattle.std.specs.List.{All}
use Rattle.std.proofs.lemmas.List.Elements.{All-nil, All-cons, All-head, All-tail}
use Rattle.snap_tree.specs.Trees.{with_langs}
use Rattle.rule_core.specs.Books.{Book}
use Rattle.judge_core.specs.Outcomes.{outcomes}
use Rattle.named_rows.specs.ByName.{at, with_row}
use Rattle.named_rows.proofs.Lookups.{all_at, at_with_row, at_with_row_other}
use Rattle.keep_core.specs.declared.page.PageOutcomes.{PageOutcomes}
use Rattle.keep_core.specs.declared.tables.KeptPage.{KeptPage}
use Rattle.keep_core.specs.declared.tables.KeptSite.{KeptSite}
use Rattle.keep_core.specs.declared.change.Change.TheVariants.{Refresh}
use Rattle.keep_core.specs.declared.tables.Tables.{Tables}
use Rattle.keep_core.specs.Tables.{kept_site, kept_page, pages_in, pages_of, languages_in, languages_of, site_name, page_name}
use Rattle.keep_core.specs.Changes.{having, refreshed, with_outcomes, changed}
use Rattle.desk_core.specs.Soundness.{IsWellPage, IsNearlySite, IsNearlySound, IsSoundPage}
use Rattle.desk_core.specs.Refreshing.{AreByBook, IsFreshPage, GoesOn}
use Rattle.desk_core.proofs.Views.{same_or_other, changes_seen}
use Rattle.desk_core.proofs.Refreshing.{refresh_nearly}

if_both : {X : Type 0} (P Q R : X → Type 0) (o : Option X) → ((x : X) → P x → Q x → R x) → IfSome o P → IfSome o Q → IfSome o R
if_both P Q R None both p q = tt
if_both P Q R (Some x) both p q = both x p q

if_mapped : {X : Type 0} (P : X → Type 0) (f : X → X) (o : Option X) → IfSome o (λ x. P (f x)) → IfSome (option_map f o) P
if_mapped P f None h = tt
if_mapped P f (Some x) h = h

module _ (book : Book) (langs : List (List ℕ)) where
  -- the outcomes of a page are by the book
  abbrev pub IsTold : KeptPage → Type 0
  IsTold q = q.outcomes.rows ≡ outcomes book (with_langs q.page.tree langs) q.judgements

  -- new outcomes are, of the page of their name among these
  abbrev pub IsTrueAt : List KeptPage → PageOutcomes → Type 0
  IsTrueAt ps o = IfSome (at page_name o.page ps) (λ q. o.outcomes.rows ≡ outcomes book (with_langs q.page.tree langs) q.judgements)

  abbrev step : PageOutcomes → List KeptPage → List KeptPage
  step o ps = with_row page_name o.page (having o.outcomes) ps

  step_there : (o : PageOutcomes) (ps : List KeptPage) → at page_name o.page (step o ps) ≡ option_map (having o.outcomes) (at page_name o.page ps)
  step_there o ps = at_with_row page_name o.page (having o.outcomes) (λ _ _. refl) ps

  step_elsewhere : (o : PageOutcomes) (n : List ℕ) (ps : List KeptPage) → (n ≡ o.page → ⊥) → at page_name n (step o ps) ≡ at page_name n ps
  step_elsewhere o n ps other = at_with_row_other page_name o.page (having o.outcomes) (λ _ _. refl) n ps other

  -- what is said of a page whatever its outcomes are is so after a step
  anyhow_by : (P : KeptPage → Type 0) (o : PageOutcomes) (n : List ℕ) (ps : List KeptPage) → ((q : KeptPage) → P q → P (having o.outcomes q))
      → (n ≡ o.page) ⊎ (n ≡ o.page → ⊥) → IfSome (at page_name n ps) P → IfSome (at page_name n (step o ps)) P
  anyhow_by P o n ps keeps (inl same) holds =
      subst (λ n. IfSome (at page_name n (step o ps)) P) (sym same) (subst (λ (f : Option KeptPage). IfSome f P) (sym (step_there o ps))
      (if_mapped P (having o.outcomes) (at page_name o.page ps) (if_both P P (λ q. P (having o.outcomes q)) (at page_name o.page ps) (λ q p _. keeps q p) here here)))
    where
      here : IfSome (at page_name o.page ps) P
      here = subst (λ n. IfSome (at page_name n ps) P) same holds
  anyhow_by P o n ps keeps (inr other) holds = subst (λ (f : Option KeptPage). IfSome f P) (sym (step_elsewhere o n ps other)) holds

  step_true : (o p : PageOutcomes) (ps : List KeptPage) → IsTrueAt ps p → IsTrueAt (step o ps) p
  step_true o p ps is =
      anyhow_by (λ q. p.outcomes.rows ≡ outcomes book (with_langs q.page.tree langs) q.judgements) o p.page ps (λ q h. h) (same_or_other p.page o.page) is

  step_named : (o : PageOutcomes) (ps : List KeptPage) → IsTrueAt ps o → IfSome (at page_name o.page (step o ps)) IsTold
  step_named o ps is = subst (λ (f : Option KeptPage). IfSome f IsTold) (sym (step_there o ps)) (if_mapped IsTold (having o.outcomes) (at page_name o.page ps) is)

  step_told : (o : PageOutcomes) (n : List ℕ) (ps : List KeptPage) → (n ≡ o.page) ⊎ (n ≡ o.page → ⊥) → IsTrueAt ps o → IfSome (at page_name n ps) IsTold → IfSome (at page_name n (step o ps)) IsTold
  step_told o n ps (inl same) is told = subst (λ n. IfSome (at page_name n (step o ps)) IsTold) (sym same) (step_named o ps is)
  step_told o n ps (inr other) is told = subst (λ (f : Option KeptPage). IfSome f IsTold) (sym (step_elsewhere o n ps other)) told

  steps_true : (o : PageOutcomes) (new : List PageOutcomes) (ps : List KeptPage) → All (IsTrueAt ps) new → All (IsTrueAt (step o ps)) new
  steps_true o [] ps all = All-nil (IsTrueAt (step o ps))
  steps_true o (p ∷ more) ps all =
      All-cons (IsTrueAt (step o ps)) _ _ (step_true o p ps (All-head (IsTrueAt ps) p more all)) (steps_true o more ps (All-tail (IsTrueAt ps) p more all))

  -- a page that was by the book is so after all of them
  pub told_stays : (new : List PageOutcomes) (n : List ℕ) (ps : List KeptPage) → All (IsTrueAt ps) new → IfSome (at page_name n ps) IsTold → IfSome (at page_name n (with_outcomes new ps)) IsTold
  told_stays [] n ps all told = told
  told_stays (o ∷ more) n ps all told =
      told_stays more n (step o ps) (steps_true o more ps (All-tail (IsTrueAt ps) o more all))
      (step_told o n ps (same_or_other n o.page) (All-head (IsTrueAt ps) o more all) told)

  -- and each page that is named is
  pub named_told : (new : List PageOutcomes) (ps : List KeptPage) → All (IsTrueAt ps) new → All (λ (o : PageOutcomes). IfSome (at page_name o.page (with_outcomes new ps)) IsTold) new
  named_told [] ps all = All-nil (λ (o : PageOutcomes). IfSome (at page_name o.page (with_outcomes [] ps)) IsTold)
  named_told (o ∷ more) ps all =
      let P : PageOutcomes → Type 0 = λ p. IfSome (at page_name p.page (with_outcomes (o ∷ more) ps)) IsTold in
      let first = All-head (IsTrueAt ps) o more all in
      let others = steps_true o more ps (All-tail (IsTrueAt ps) o more all) in
      All-cons P o more (told_stays more o.page (step o ps) others (step_named o ps first)) (named_told more (step o ps) others)

-- ---- of tables

-- the page of a site after new outcomes of that site, and of another
page_there : (site page : List ℕ) (new : List PageOutcomes) (m : Tables) → kept_page site page (changed (Refresh site new) m) ≡ at page_name page (with_outcomes new (pages_of site m))
page_there site page new m =
    ap (λ (o : Option KeptSite). at page_name page (pages_in o)) (at_with_row site_name site (refreshed new) (λ _ _. refl) m.sites) ∙ by (kept_site site m)
  where
    none : (new : List PageOutcomes) → with_outcomes new [] ≡ []
    none [] = refl
    none (o ∷ more) = none more

    by : (o : Option KeptSite) → at page_name page (pages_in (option_map (refreshed new) o)) ≡ at page_name page (with_outcomes new (pages_in o))
    by None = ap (at page_name page) (sym (none new))
    by (Some k) = refl

languages_there : (site : List ℕ) (new : List PageOutcomes) (m : Tables) → languages_of site (changed (Refresh site new) m) ≡ languages_of site m
languages_there site new m = ap languages_in (at_with_row site_name site (refreshed new) (λ _ _. refl) m.sites) ∙ by (kept_site site m)
  where
    by : (o : Option KeptSite) → languages_in (option_map (refreshed new) o) ≡ languages_in o
    by None = refl
    by (Some k) = refl

site_elsewhere : (site n : List ℕ) (new : List PageOutcomes) (m : Tables) → (n ≡ site → ⊥) → kept_site n (changed (Refresh site new) m) ≡ kept_site n m
site_elsewhere site n new m other = at_with_row_other site_name site (refreshed new) (λ _ _. refl) n m.sites other

-- a page of nearly sound tables is well
well_page : (n page : List ℕ) (t : Tables) → IsNearlySound t → IfSome (kept_page n page t) IsWellPage
well_page n page t nearly = by (kept_site n t) (all_at site_name IsNearlySite n t.sites nearly.sites)
  where
    by : (o : Option KeptSite) → IfSome o IsNearlySite → IfSome (at page_name page (pages_in o)) IsWellPage
    by None near = tt
    by (Some k) near = all_at page_name IsWellPage page k.pages near.pages

told_of : (book : Book) (langs : List (List ℕ)) (o : Option KeptPage) → IfSome o (IsSoundPage book langs) → IfSome o (IsTold book langs)
told_of book langs None h = tt
told_of book langs (Some p) h = h.told

sound_of : (book : Book) (langs : List (List ℕ)) (o : Option KeptPage) → IfSome o IsWellPage → IfSome o (IsTold book langs) → IfSome o (IsSoundPage book langs)
sound_of book langs None well told = tt
sound_of book langs (Some p) well told = record { well = well; told = told }

module _ (book : Book) (site : List ℕ) (new : List PageOutcomes) (m : Tables) (by_book : All (AreByBook book site (languages_of site m) m) new) where
  abbrev after : Tables
  after = changed (Refresh site new) m

  -- a page of the site whose outcomes are by the book is by the book
  sound_there : (page : List ℕ) → IsNearlySound m → IfSome (at page_name page (with_outcomes new (pages_of site m))) (IsTold book (languages_of site m)) → IsFreshPage book site page after
  sound_there page nearly told =
      let langs = languages_of site m in
      let now : IfSome (kept_page site page after) (IsTold book langs) = subst (λ (o : Option KeptPage). IfSome o (IsTold book langs)) (sym (page_there site page new m)) told in
      let sound = sound_of book langs (kept_page site page after) (well_page site page after (refresh_nearly site new m nearly)) now in
      subst (λ ls. IfSome (kept_page site page after) (IsSoundPage book ls)) (sym (languages_there site new m)) sound

  fresh_by : (n page : List ℕ) → IsNearlySound m → IsFreshPage book n page m → (n ≡ site) ⊎ (n ≡ site → ⊥) → IsFreshPage book n page after
  fresh_by n page nearly fresh (inl same) =
      let langs = languages_of site m in
      let was : IfSome (kept_page site page m) (IsSoundPage book langs) = subst (λ n. IfSome (kept_page n page m) (IsSoundPage book (languages_of n m))) same fresh in
      let told = told_stays book langs new page (pages_of site m) by_book (told_of book langs (kept_page site page m) was) in
      subst (λ n. IsFreshPage book n page after) (sym same) (sound_there page nearly told)
  fresh_by n page nearly fresh (inr other) =
      subst (λ (o : Option KeptSite). IfSome (at page_name page (pages_in o)) (IsSoundPage book (languages_in o))) (sym (site_elsewhere site n new m other)) fresh

  -- new outcomes by the book go on from the tables
  pub refresh_goes_on : GoesOn book m after
  refresh_goes_on = record {
    nearly = refresh_nearly site new m;
    edition = refl;
    same = changes_seen (Refresh site new) m;
    fresh = λ n page nearly fresh. fresh_by n page nearly fresh (same_or_other n site);
  }

  each_fresh : IsNearlySound m → (some : List PageOutcomes)
      → All (λ (o : PageOutcomes). IfSome (at page_name o.page (with_outcomes new (pages_of site m))) (IsTold book (languages_of site m))) some
      → All (λ (o : PageOutcomes). IsFreshPage book site o.page after) some
  each_fresh nearly some told = λ i d within. sound_there (get_or some i d).page nearly (told i d within)

  -- and each page that is named is by the book then
  pub refresh_freshens : IsNearlySound m → All (λ (o : PageOutcomes). IsFreshPage book site o.page after) new
  refresh_freshens nearly = each_fresh nearly new (named_told book (languages_of site m) new (pages_of site m) by_book)
