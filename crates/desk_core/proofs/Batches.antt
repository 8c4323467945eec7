-- Pages that are audited at once: their outcomes are named by the heads, are those by the book of what is kept, and cost its judgings.
use Rattle.std.proofs.Common.{◌≡◌, ℕ, ◌+◌, ◌≤◌, List, [], ◌∷◌, map, zip, Option, Some, None, option_map, IfSome, refl, sym, ap, ◌∙◌, arith}
use Rattle.std.specs.List.{All}
use Rattle.std.specs.Option.{option_map_or}
use Rattle.std.proofs.lemmas.List.Elements.{All-nil, All-cons}
use Rattle.std.proofs.lemmas.List.Sums.{sum_by-cons}
use Rattle.snap_tree.specs.Trees.{with_langs}
use Rattle.audit.specs.Pages.{pages_outcomes, pages_judgings}
use Rattle.audit.specs.declared.pages.PageWork.{PageWork}
use Rattle.rule_core.specs.Books.{Book}
use Rattle.judge_core.specs.Outcomes.{outcomes, judgings}
use Rattle.keep_core.specs.declared.page.PageHead.{PageHead}
use Rattle.keep_core.specs.declared.page.PageOutcomes.{PageOutcomes}
use Rattle.keep_core.specs.declared.tables.KeptPage.{KeptPage}
use Rattle.keep_core.specs.declared.tables.Tables.{Tables}
use Rattle.keep_core.specs.Listed.{kept_listed}
use Rattle.keep_core.specs.Tables.{page_name, kept_page}
use Rattle.keep_core.specs.Keeping.{Stays}
use Rattle.kept_pages.specs.KeptPages.{head_page, whole_at}
use Rattle.desk_core.specs.Relisting.{outcomes_named}
use Rattle.desk_core.specs.Refreshing.{work_of, AreByBook, CostsAtMost, head_judgings, heads_judgings}
use Rattle.desk_core.proofs.ByHeads.{outcomes_page}
use Rattle.desk_core.proofs.Rounds.{same_told}

module _ (book : Book) where
  -- the outcomes of pages by the names of heads
  abbrev pub batch_of : List PageHead → List KeptPage → List PageOutcomes
  batch_of heads pages = map outcomes_named (zip heads (pages_outcomes book (map work_of pages)))

  pub batch_named : (heads : List PageHead) (pages : List KeptPage) → map page_name pages ≡ map head_page heads → map outcomes_page (batch_of heads pages) ≡ map head_page heads
  batch_named [] [] same = refl
  batch_named [] (p ∷ ps) same = cc
  batch_named (h ∷ hs) [] same = cc
  batch_named (h ∷ hs) (p ∷ ps) same =
      let others : map page_name ps ≡ map head_page hs = cc in
      ap (λ (ns : List (List ℕ)). h.page ∷ ns) (batch_named hs ps others)

  module _ (site : List ℕ) (langs : List (List ℕ)) (t : Tables) where
    -- of one page
    one_by_book : (o : Option KeptPage) (p : KeptPage) → option_map (kept_listed langs) o ≡ Some p
        → IfSome o (λ (k : KeptPage). outcomes book p.page.tree p.judgements ≡ outcomes book (with_langs k.page.tree langs) k.judgements)
    one_by_book None p is = tt
    one_by_book (Some k) p is = let same : kept_listed langs k ≡ p = cc in sym (ap (λ (q : KeptPage). outcomes book q.page.tree q.judgements) same)

    one_cost : (o : Option KeptPage) (p : KeptPage) → option_map (kept_listed langs) o ≡ Some p → judgings book p.page.tree ≡ option_map_or (λ (k : KeptPage). judgings book k.page.tree) o 0
    one_cost None p is = cc
    one_cost (Some k) p is = let same : kept_listed langs k ≡ p = cc in sym (ap (λ (q : KeptPage). judgings book q.page.tree) same)

    pub batch_by_book : (heads : List PageHead) (pages : List KeptPage) → map (whole_at site langs t) heads ≡ map Some pages → All (AreByBook book site langs t) (batch_of heads pages)
    batch_by_book [] [] same = All-nil (AreByBook book site langs t)
    batch_by_book [] (p ∷ ps) same = cc
    batch_by_book (h ∷ hs) [] same = cc
    batch_by_book (h ∷ hs) (p ∷ ps) same =
        let first : whole_at site langs t h ≡ Some p = cc in
        let others : map (whole_at site langs t) hs ≡ map Some ps = cc in
        All-cons (AreByBook book site langs t) _ _ (one_by_book (kept_page site h.page t) p first) (batch_by_book hs ps others)

    pub batch_cost : (heads : List PageHead) (pages : List KeptPage) → map (whole_at site langs t) heads ≡ map Some pages → pages_judgings book (map work_of pages) ≡ heads_judgings book site heads t
    batch_cost [] [] same = refl
    batch_cost [] (p ∷ ps) same = cc
    batch_cost (h ∷ hs) [] same = cc
    batch_cost (h ∷ hs) (p ∷ ps) same =
        let first : whole_at site langs t h ≡ Some p = cc in
        let others : map (whole_at site langs t) hs ≡ map Some ps = cc in
        sum_by-cons (λ (w : PageWork). judgings book w.tree) (work_of p) (map work_of ps)
        ∙ (ap (λ (n : ℕ). n + pages_judgings book (map work_of ps)) (one_cost (kept_page site h.page t) p first)
        ∙ (ap (λ (n : ℕ). head_judgings book site t h + n) (batch_cost hs ps others) ∙ sym (sum_by-cons (head_judgings book site t) h hs)))

  -- so many were judged at the most, where what was read is told
  pub batch_counted : (site : List ℕ) (langs : List (List ℕ)) (heads : List PageHead) (pages : List KeptPage) (works : List PageWork) (old mid : Option Tables) (from to : ℕ) → works ≡ map work_of pages → Stays old mid
      → ((t : Tables) → mid ≡ Some t → map (whole_at site langs t) heads ≡ map Some pages) → to ≤ from + pages_judgings book works → CostsAtMost (heads_judgings book site heads) old mid from to
  batch_counted site langs heads pages works old mid from to are stays found counted s t before now nearly =
      let cost =
      ap (pages_judgings book) are ∙ batch_cost site langs t heads pages (found t now) ∙ ap (heads_judgings book site heads) (same_told old t s (stays t now) before) in
      omega (arith, counted, cost)
