-- The pages of a site with their outcomes, as they are kept.
use Rattle.std.specs.Prelude.{◌≡◌, ℕ, List, map, Option, Some, option_map, Result, IfOk}
use Rattle.std.specs.List.{filter_map}
use Rattle.keep_core.specs.declared.fault.KeepFault.{KeepFault}
use Rattle.keep_core.specs.declared.page.PageHead.{PageHead}
use Rattle.keep_core.specs.declared.page.SitePage.{SitePage}
use Rattle.keep_core.specs.declared.tables.KeptPage.{KeptPage}
use Rattle.keep_core.specs.declared.tables.Tables.{Tables}
use Rattle.keep_core.specs.Tables.{page_name, kept_page, heads_of}
use Rattle.keep_core.specs.Keeping.{Stays}
use Rattle.keep_core.specs.Listed.{kept_listed}

-- a page as it is kept, with its outcomes
abbrev pub shown : KeptPage → SitePage
shown kept = record { head = kept.page.head; address = kept.page.tree.address; outcomes = kept.outcomes }

-- the page of a head, where it is kept
abbrev pub page_at : List ℕ → PageHead → Tables → Option SitePage
page_at site head tables = option_map shown (kept_page site head.page tables)

-- the pages of some heads; one without a page is passed over
abbrev pub pages_at : List ℕ → List PageHead → Tables → List SitePage
pages_at site heads tables = filter_map (λ head. page_at site head tables) heads

-- the pages of a site
abbrev pub site_pages : List ℕ → Tables → List SitePage
site_pages site tables = pages_at site (heads_of site tables) tables

-- ---- with all that is kept of them, and with the languages of their site

abbrev pub head_page : PageHead → List ℕ
head_page head = head.page

abbrev pub whole_at : List ℕ → List (List ℕ) → Tables → PageHead → Option KeptPage
whole_at site langs t head = option_map (kept_listed langs) (kept_page site head.page t)

-- the page of a head is read, by its name
pub record ReadsWhole (site : List ℕ) (langs : List (List ℕ)) (head : PageHead) (old new : Option Tables) (result : Result KeptPage KeepFault) : Type 0 where
  pub stays : Stays old new
  pub named : IfOk result (λ p. page_name p ≡ head.page)
  pub found : IfOk result (λ p. (t : Tables) → new ≡ Some t → whole_at site langs t head ≡ Some p)

-- and those of some heads, in their order
pub record ReadsAll (site : List ℕ) (langs : List (List ℕ)) (heads : List PageHead) (old new : Option Tables) (result : Result (List KeptPage) KeepFault) : Type 0 where
  pub stays : Stays old new
  pub named : IfOk result (λ pages. map page_name pages ≡ map head_page heads)
  pub found : IfOk result (λ pages. (t : Tables) → new ≡ Some t → map (whole_at site langs t) heads ≡ map Some pages)
