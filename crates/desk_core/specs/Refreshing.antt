-- Editions, and the refresh that a desk begins with: where other rules found the kept outcomes, all pages are audited anew.
use Rattle.std.specs.Prelude.{◌≡◌, ◌≢◌, ℕ, ◌≤◌, ◌+◌, ◌*◌, ◌==◌, ◌⊎◌, List, length, map, sum_by, if◌then◌else◌, Option, Some, IfSome, Result, Ok, Err, IfOk, OnOk, MatchResult, Vec}
use Rattle.std.specs.List.{All}
use Rattle.std.specs.Option.{option_map_or}
use Rattle.std.specs.declared.alloc.Global.{Global}
use Rattle.snap_tree.specs.Trees.{with_langs}
use Rattle.audit.specs.declared.pages.PageWork.{PageWork}
use Rattle.rule_core.specs.Books.{Book}
use Rattle.judge_core.specs.Outcomes.{outcomes, judgings}
use Rattle.keep_core.specs.declared.fault.KeepFault.{KeepFault}
use Rattle.keep_core.specs.declared.page.PageHead.{PageHead}
use Rattle.keep_core.specs.declared.page.PageOutcomes.{PageOutcomes}
use Rattle.keep_core.specs.declared.tables.KeptPage.{KeptPage}
use Rattle.keep_core.specs.declared.tables.KeptSite.{KeptSite}
use Rattle.keep_core.specs.declared.tables.Tables.{Tables}
use Rattle.keep_core.specs.Tables.{kept_site, kept_page, languages_of, sites_of}
use Rattle.keep_core.specs.Keeping.{Stays}
use Rattle.kept_pages.specs.KeptPages.{head_page}
use Rattle.desk_core.specs.State.{state_of}
use Rattle.desk_core.specs.Soundness.{IsNearlySound, IsSoundPage, IsSound}

-- the edition of a book
abbrev pub edition_of_infos : ℕ → ℕ
edition_of_infos infos = 100 * infos + 3

abbrev pub book_edition : Book → ℕ
book_edition book = edition_of_infos (length book.infos)

-- ---- tables

-- tables that a desk may begin with: nearly sound, and sound where their outcomes are by the book
pub record MayBegin (book : Book) (t : Tables) : Type 0 where
  pub nearly : IsNearlySound t
  pub sound : t.edition ≡ book_edition book → IsSound book t

-- tables that differ in outcomes and in the edition alone
abbrev pub DifferInOutcomes : Tables → Tables → Type 0
DifferInOutcomes s t = state_of t ≡ state_of s

-- on the way: of no book's edition, where the edition was another than the book's
pub record IsOnTheWay (book : Book) (s t : Tables) : Type 0 where
  pub other : s.edition ≢ book_edition book
  pub nearly : IsNearlySound t
  pub edition : t.edition ≡ 0
  pub same : DifferInOutcomes s t

-- at the end: of the book's edition
pub record IsFresh (book : Book) (s t : Tables) : Type 0 where
  pub sound : IsSound book t
  pub edition : t.edition ≡ book_edition book
  pub same : DifferInOutcomes s t
  pub unchanged : s.edition ≡ book_edition book → t ≡ s

-- the tables after a refresh: fresh, or else as they were, or on the way
abbrev pub EndsAt : {A : Type 0} → Book → Tables → Tables → Result A KeepFault → Type 0
EndsAt book s t (Ok done) = IsFresh book s t
EndsAt book s t (Err fault) = (t ≡ s) ⊎ IsOnTheWay book s t

-- tables that are told at the end were told at the start
abbrev pub Refreshes : {A : Type 0} → Book → Option Tables → Option Tables → Result A KeepFault → Type 0
Refreshes book old new result =
    (t : Tables) → new ≡ Some t → (s : Tables) × (old ≡ Some s) × (MayBegin book s → EndsAt book s t result)

-- ---- what it costs

-- the judgings of all pages of a site
abbrev pub site_judgings : Book → KeptSite → ℕ
site_judgings book s = sum_by (λ p. judgings book p.page.tree) s.pages

-- the judgings of all pages, and where the outcomes are by the book none
abbrev pub all_judgings : Book → Tables → ℕ
all_judgings book t = sum_by (site_judgings book) t.sites

abbrev pub refresh_judgings : Book → Tables → ℕ
refresh_judgings book t = if t.edition == book_edition book then 0 else all_judgings book t

-- the books judge no more than this of the tables as they were told before, if they were nearly sound, where they are told after it too
abbrev pub CostsAtMost : (Tables → ℕ) → Option Tables → Option Tables → ℕ → ℕ → Type 0
CostsAtMost most old new from to = (s t : Tables) → old ≡ Some s → new ≡ Some t → IsNearlySound s → to ≤ from + most s

-- ---- steps

-- the edition becomes 0, if it wasn't
abbrev pub LeavesEdition : {A : Type 0} → ℕ → Option Tables → Option Tables → Result A KeepFault → Type 0
LeavesEdition kept old new result =
    (t : Tables) → new ≡ Some t
    → (s : Tables) × (old ≡ Some s) × (s.edition ≡ kept → MatchResult result (λ done. t ≡ record s { edition = 0 }) (λ fault. t ≡ s))

-- a page with its judgements, to be audited
abbrev pub work_of : KeptPage → PageWork
work_of p = record { tree = p.page.tree; judgements = p.judgements }

-- new outcomes of a page are those by the book, under these languages, of the page that is kept under its name, if one is
abbrev pub AreByBook : Book → List ℕ → List (List ℕ) → Tables → PageOutcomes → Type 0
AreByBook book site langs t new =
    IfSome (kept_page site new.page t) (λ p. new.outcomes.rows ≡ outcomes book (with_langs p.page.tree langs) p.judgements)

-- the outcomes of the pages of some heads are found, each by its name, as they are by the book
pub record Audits (book : Book) (site : List ℕ) (langs : List (List ℕ)) (heads : List PageHead) (old new : Option Tables) (result : Result (Vec PageOutcomes Global) KeepFault) : Type 0 where
  pub stays : Stays old new
  pub named : IfOk result (λ all. map (λ (o : PageOutcomes). o.page) all.items ≡ map head_page heads)
  pub found : IfOk result (λ all. (t : Tables) → new ≡ Some t → All (AreByBook book site langs t) all.items)

-- a site's languages, where its tables are told
abbrev pub AreLanguagesOf : List ℕ → List (List ℕ) → Option Tables → Type 0
AreLanguagesOf site langs told = (t : Tables) → told ≡ Some t → langs ≡ languages_of site t

-- the tables are of no book's edition, where they are told: so they are before and after each batch of outcomes
abbrev pub AreOfNoBook : Option Tables → Type 0
AreOfNoBook told = (t : Tables) → told ≡ Some t → t.edition ≡ 0

-- what is kept of a page, if it is kept, is by the book
abbrev pub IsFreshPage : Book → List ℕ → List ℕ → Tables → Type 0
IsFreshPage book site page t = IfSome (kept_page site page t) (IsSoundPage book (languages_of site t))

-- of the pages of some heads of a site; of all pages of a site; of all pages of some sites; and of all pages
abbrev pub AreFreshPages : Book → List ℕ → List PageHead → Tables → Type 0
AreFreshPages book site heads t = All (λ (h : PageHead). IsFreshPage book site h.page t) heads

abbrev pub IsFreshSite : Book → List ℕ → Tables → Type 0
IsFreshSite book site t = (page : List ℕ) → IsFreshPage book site page t

abbrev pub AreFreshSites : Book → List (List ℕ) → Tables → Type 0
AreFreshSites book names t = All (λ (name : List ℕ). IsFreshSite book name t) names

abbrev pub AreAllFresh : Book → Tables → Type 0
AreAllFresh book t = AreFreshSites book (sites_of t) t

-- tables with new outcomes of some pages: the edition and all else stay, and what was by the book is so still
pub record GoesOn (book : Book) (m t : Tables) : Type 0 where
  pub nearly : IsNearlySound m → IsNearlySound t
  pub edition : t.edition ≡ m.edition
  pub same : DifferInOutcomes m t
  pub fresh : (site page : List ℕ) → IsNearlySound m → IsFreshPage book site page m → IsFreshPage book site page t

-- a step of a refresh goes on from the tables that were told, and where it is done this holds, if they were nearly sound
pub record Steps {A : Type 0} (book : Book) (IsDone : Tables → Type 0) (old new : Option Tables) (result : Result A KeepFault) : Type 0 where
  pub goes_on : (t : Tables) → new ≡ Some t → (m : Tables) × (old ≡ Some m) × GoesOn book m t
  pub done : OnOk result ((m t : Tables) → old ≡ Some m → new ≡ Some t → IsNearlySound m → IsDone t)

-- the judgings of the pages of some heads of a site, of all its pages, and of all pages of some sites
abbrev pub head_judgings : Book → List ℕ → Tables → PageHead → ℕ
head_judgings book site t head = option_map_or (λ p. judgings book p.page.tree) (kept_page site head.page t) 0

abbrev pub heads_judgings : Book → List ℕ → List PageHead → Tables → ℕ
heads_judgings book site heads t = sum_by (head_judgings book site t) heads

abbrev pub site_judgings_of : Book → List ℕ → Tables → ℕ
site_judgings_of book site t = option_map_or (site_judgings book) (kept_site site t) 0

abbrev pub sites_judgings : Book → List (List ℕ) → Tables → ℕ
sites_judgings book names t = sum_by (λ name. site_judgings_of book name t) names
