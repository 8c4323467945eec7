-- New outcomes of pages leave all else of them; and those of all pages of a site, under a list of languages.
use Rattle.std.proofs.Common.{◌≡◌, ℕ, List, [], ◌∷◌, length, map, IsTrue, refl, sym, ap, ◌∙◌, subst}
use Rattle.std.specs.declared.cmp.Ordering.{Ordering}
use Rattle.std.specs.declared.cmp.Ordering.TheVariants.{Less, Equal, Greater}
use Rattle.std.specs.Ordering.{match_ordering}
use Rattle.std.specs.List.{All, AllPairs}
use Rattle.std.proofs.lemmas.List.Elements.{All-nil, All-cons, All-head, All-tail}
use Rattle.std.proofs.lemmas.List.Kept.{AllPairs-cons}
use Rattle.snap_tree.specs.Trees.{with_langs}
use Rattle.rule_core.specs.Books.{Book}
use Rattle.judge_core.specs.declared.outcomes.Outcomes.{Outcomes}
use Rattle.judge_core.specs.Outcomes.{outcomes}
use Rattle.named_rows.specs.ByName.{names_cmp, with_row, IsInOrder}
use Rattle.named_rows.proofs.Names.{same_itself, tied_name, turned}
use Rattle.named_rows.proofs.Lookups.{all_with_row}
use Rattle.named_rows.proofs.Order.{IsBelow, in_order_first, in_order_rest, in_order_with_row}
use Rattle.named_rows.proofs.Pairs.{pairs_none, pairs_with_row}
use Rattle.named_rows.proofs.Lengths.{length_with_row}
use Rattle.keep_core.specs.declared.page.PageOutcomes.{PageOutcomes}
use Rattle.keep_core.specs.declared.tables.KeptPage.{KeptPage}
use Rattle.keep_core.specs.declared.tables.KeptSite.{KeptSite}
use Rattle.keep_core.specs.Names.{is_name}
use Rattle.keep_core.specs.Tables.{page_name}
use Rattle.keep_core.specs.Changes.{having, with_outcomes}
use Rattle.keep_core.specs.Fits.{FitsPage, FitsOutcomes, FitsKept}
use Rattle.desk_core.specs.Languages.{relisted}
use Rattle.desk_core.specs.Soundness.{IsWellPage, IsSoundPage}
use Rattle.desk_core.proofs.Views.{state_page, state_pages}
use Rattle.desk_core.proofs.SoundPages.{Differ}

-- ---- what stays

-- what is known of each page, whatever its outcomes are
module _ (P : KeptPage → Type 0) (keeps : (o : Outcomes) (p : KeptPage) → P p → P (having o p)) where
  pub all_stay : (new : List PageOutcomes) (pages : List KeptPage) → All P pages → All P (with_outcomes new pages)
  all_stay [] pages all = all
  all_stay (o ∷ more) pages all =
      all_stay more (with_row page_name o.page (having o.outcomes) pages) (all_with_row page_name P o.page (having o.outcomes) pages (λ p _ h. keeps o.outcomes p h) all)

pub order_stays : (new : List PageOutcomes) (pages : List KeptPage) → IsInOrder page_name pages → IsInOrder page_name (with_outcomes new pages)
order_stays [] pages order = order
order_stays (o ∷ more) pages order =
    order_stays more (with_row page_name o.page (having o.outcomes) pages) (in_order_with_row page_name o.page (having o.outcomes) (λ _ _. refl) pages order)

pub differ_stay : (new : List PageOutcomes) (pages : List KeptPage) → AllPairs Differ pages → AllPairs Differ (with_outcomes new pages)
differ_stay [] pages differ = differ
differ_stay (o ∷ more) pages differ =
    differ_stay more (with_row page_name o.page (having o.outcomes) pages) (pairs_with_row Differ page_name o.page (having o.outcomes) (λ _ _ h. h) (λ _ _ h. h) pages differ)

pub length_stays : (new : List PageOutcomes) (pages : List KeptPage) → length (with_outcomes new pages) ≡ length pages
length_stays [] pages = refl
length_stays (o ∷ more) pages =
    length_stays more (with_row page_name o.page (having o.outcomes) pages) ∙ length_with_row page_name o.page (having o.outcomes) pages

-- ---- those of all pages of a site

module _ (book : Book) (langs old : List (List ℕ)) where
  abbrev pub all_relisted : List KeptPage → List PageOutcomes
  all_relisted pages = map (relisted book langs) (state_pages old pages)

  -- a page with its outcomes under the list
  abbrev pub fresh : KeptPage → KeptPage
  fresh p = having (record { rows = outcomes book (with_langs p.page.tree langs) p.judgements }) p

  abbrev IsPast : KeptPage → PageOutcomes → Type 0
  IsPast p o = names_cmp o.page (page_name p) ≡ Greater

  past_all : (p : KeptPage) (ps : List KeptPage) → All (IsBelow page_name p) ps → All (IsPast p) (all_relisted ps)
  past_all p [] below = All-nil (IsPast p)
  past_all p (q ∷ qs) below =
      All-cons (IsPast p) _ _ (turned (page_name p) (page_name q) Less (All-head (IsBelow page_name p) q qs below)) (past_all p qs (All-tail (IsBelow page_name p) q qs below))

  -- outcomes of later pages leave a first one
  first_stays : (p : KeptPage) (ps : List KeptPage) (new : List PageOutcomes) → All (IsPast p) new → with_outcomes new (p ∷ ps) ≡ p ∷ with_outcomes new ps
  first_stays p ps [] past = refl
  first_stays p ps (o ∷ more) past =
      let others = with_row page_name o.page (having o.outcomes) ps in
      ap (λ c. with_outcomes more (match_ordering c (p ∷ ps) (having o.outcomes p ∷ ps) (p ∷ others))) (All-head (IsPast p) o more past)
      ∙ first_stays p others more (All-tail (IsPast p) o more past)

  -- so each page has its own
  pub each_fresh : (pages : List KeptPage) → IsInOrder page_name pages → with_outcomes (all_relisted pages) pages ≡ map fresh pages
  each_fresh [] order = refl
  each_fresh (p ∷ ps) order =
      let others = with_row page_name (page_name p) (having (fresh p).outcomes) ps in
      ap (λ c. with_outcomes (all_relisted ps) (match_ordering c (p ∷ ps) (fresh p ∷ ps) (p ∷ others))) (same_itself (page_name p))
      ∙ first_stays (fresh p) ps (all_relisted ps) (past_all p ps (in_order_first page_name p ps order))
      ∙ ap (λ rest. fresh p ∷ rest) (each_fresh ps (in_order_rest page_name p ps order))

  all_sound : (pages : List KeptPage) → All IsWellPage pages → All (IsSoundPage book langs) (map fresh pages)
  all_sound [] well = All-nil (IsSoundPage book langs)
  all_sound (p ∷ ps) well =
      All-cons (IsSoundPage book langs) _ _ (record { well = All-head IsWellPage p ps well; told = refl }) (all_sound ps (All-tail IsWellPage p ps well))

  pub relisted_pages_sound : (pages : List KeptPage) → IsInOrder page_name pages → All IsWellPage pages → All (IsSoundPage book langs) (with_outcomes (all_relisted pages) pages)
  relisted_pages_sound pages order well = subst (All (IsSoundPage book langs)) (sym (each_fresh pages order)) (all_sound pages well)

  -- ---- they fit

  abbrev NamesPage : PageOutcomes → Type 0
  NamesPage o = IsTrue (is_name o.page)

  abbrev OutcomesApart : PageOutcomes → PageOutcomes → Type 0
  OutcomesApart o p = o.page ≡ p.page → ⊥

  abbrev FitsPageOf : KeptPage → Type 0
  FitsPageOf p = FitsPage p.page

  all_named : (pages : List KeptPage) → All FitsPageOf pages → All NamesPage (all_relisted pages)
  all_named [] fit = All-nil NamesPage
  all_named (p ∷ ps) fit = All-cons NamesPage _ _ (All-head FitsPageOf p ps fit).head.page (all_named ps (All-tail FitsPageOf p ps fit))

  apart_from : (p : KeptPage) (ps : List KeptPage) → All (IsBelow page_name p) ps → All (OutcomesApart (relisted book langs (state_page old p))) (all_relisted ps)
  apart_from p [] below = All-nil (OutcomesApart (relisted book langs (state_page old p)))
  apart_from p (q ∷ qs) below =
      All-cons (OutcomesApart (relisted book langs (state_page old p))) _ _
      (λ same. let no : Less ≡ Equal = sym (All-head (IsBelow page_name p) q qs below) ∙ tied_name (page_name p) (page_name q) same in cc)
      (apart_from p qs (All-tail (IsBelow page_name p) q qs below))

  all_apart : (pages : List KeptPage) → IsInOrder page_name pages → AllPairs OutcomesApart (all_relisted pages)
  all_apart [] order = pairs_none OutcomesApart
  all_apart (p ∷ ps) order =
      AllPairs-cons OutcomesApart _ _ (apart_from p ps (in_order_first page_name p ps order)) (all_apart ps (in_order_rest page_name p ps order))

  pub all_relisted_fit : (site : List ℕ) (k : KeptSite) → IsTrue (is_name site) → FitsKept k → FitsOutcomes site (all_relisted k.pages)
  all_relisted_fit site k named fits = record { name = named; pages = all_named k.pages fits.pages; distinct = all_apart k.pages fits.in_order }
