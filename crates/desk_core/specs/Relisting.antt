-- Another list of languages for a site, as it is carried out: some pages after others, each by what is kept of it.
use Rattle.std.specs.Prelude.{◌≡◌, ℕ, ◌+◌, ◌≤◌, List, length, map, sum_by, Option, Some, Result, IfOk, Vec}
use Rattle.std.specs.List.{All}
use Rattle.std.specs.declared.alloc.Global.{Global}
use Rattle.snap_tree.specs.Trees.{with_langs}
use Rattle.rule_core.specs.Books.{Book}
use Rattle.rule_core.specs.Reach.{affected}
use Rattle.judge_core.specs.declared.outcomes.Outcomes.{Outcomes}
use Rattle.judge_core.specs.Outcomes.{judgings}
use Rattle.reaudit.specs.declared.pages.ReWork.{ReWork}
use Rattle.keep_core.specs.declared.page.PageHead.{PageHead}
use Rattle.keep_core.specs.declared.page.PageOutcomes.{PageOutcomes}
use Rattle.keep_core.specs.declared.tables.KeptPage.{KeptPage}
use Rattle.keep_core.specs.declared.tables.Tables.{Tables}
use Rattle.kept_pages.specs.KeptPages.{head_page, whole_at}
use Rattle.desk_core.specs.declared.refusal.Refusal.{Refusal}
use Rattle.desk_core.specs.Languages.{relisted}
use Rattle.desk_core.specs.State.{page_state}
use Rattle.desk_core.specs.Told.{Told}
use Rattle.desk_core.specs.Serving.{OnlyReads, FailsOnly, IsTrueTo}

-- a page with its languages, and with another list
abbrev pub relisting : List (List ℕ) → KeptPage → ReWork
relisting langs p = record { old = p.page.tree; rows = p.outcomes; new = with_langs p.page.tree langs; judgements = p.judgements }

-- outcomes by the name of a head
abbrev pub outcomes_named : PageHead × Outcomes → PageOutcomes
outcomes_named p = record { page = p.0.page; outcomes = p.1 }

-- the outcomes of a page under another list
abbrev pub relisted_kept : Book → List (List ℕ) → KeptPage → PageOutcomes
relisted_kept book langs p = relisted book langs (page_state p)

module _ (book : Book) (site : List ℕ) (langs others : List (List ℕ)) (heads : List PageHead) where
  -- the pages of the heads, as they are kept, each with the site's languages
  abbrev pub ArePages : Tables → List KeptPage → Type 0
  ArePages t pages = map (whole_at site langs t) heads ≡ map Some pages

  -- their outcomes under another list are found, where the kept ones are those of the pages
  pub record Relists (old new : Told) (result : Result (Vec PageOutcomes Global) Refusal) : Type 0 where
    pub reads : OnlyReads old new result
    pub named : IfOk result (λ all. map (λ (o : PageOutcomes). o.page) all.items ≡ map head_page heads)
    pub found :
        IfOk result (λ all.
        (t : Tables) → new.tables ≡ Some t → (pages : List KeptPage) → ArePages t pages → All (IsTrueTo book) pages
        → all.items ≡ map (relisted_kept book others) pages)
    pub refused : FailsOnly result

  -- then that costs the pairs of an atomic rule and a node that the list makes another, and never more than all pages
  pub record RelistCosts (new : Option Tables) (from to : ℕ) : Type 0 where
    pub fewer :
        (t : Tables) → new ≡ Some t → (pages : List KeptPage) → ArePages t pages → All (IsTrueTo book) pages
        → to ≤ from + sum_by (λ p. length (affected book p.page.tree (with_langs p.page.tree others))) pages
    pub most : (t : Tables) → new ≡ Some t → (pages : List KeptPage) → ArePages t pages → to ≤ from + sum_by (λ p. judgings book p.page.tree) pages
