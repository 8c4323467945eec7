-- What the desk keeps, without the outcomes: those are of each page's tree and judgements. A page's tree is kept without its site's
-- languages, and has them here.
use Rattle.std.specs.Prelude.{ℕ, List, map, Option, option_and_then}
use Rattle.keep_core.specs.declared.site.Site.{Site}
use Rattle.keep_core.specs.declared.tables.Tables.{Tables}
pub use Rattle.keep_core.specs.Listed.{listed, kept_listed}
pub use Rattle.desk_core.specs.declared.page_state.PageState.{PageState}
use Rattle.keep_core.specs.declared.tables.KeptPage.{KeptPage}
use Rattle.keep_core.specs.declared.tables.KeptSite.{KeptSite}
use Rattle.named_rows.specs.ByName.{at}

-- a site with its pages
pub record SiteState : Type 0 where
  pub site : Site
  pub pages : List PageState

abbrev pub State : Type 0
State = List SiteState

-- a page with its judgements, with these languages
abbrev pub state_listed : List (List ℕ) → PageState → PageState
state_listed langs p = record { page = listed langs p.page; judgements = p.judgements }

abbrev pub page_state : KeptPage → PageState
page_state kept = record { page = kept.page; judgements = kept.judgements }

-- a site with its pages, each with its languages
abbrev pub site_state : KeptSite → SiteState
site_state kept = record { site = kept.site; pages = map (λ p. page_state (kept_listed kept.site.languages p)) kept.pages }

-- the state that tables give
abbrev pub state_of : Tables → State
state_of tables = map site_state tables.sites

abbrev pub page_name : PageState → List ℕ
page_name p = p.page.head.page

abbrev pub site_name : SiteState → List ℕ
site_name s = s.site.name

abbrev pub page_at : List ℕ → List PageState → Option PageState
page_at name pages = at page_name name pages

abbrev pub site_at : List ℕ → State → Option SiteState
site_at name state = at site_name name state

abbrev pub page_in_site : List ℕ → List ℕ → State → Option PageState
page_in_site site page state = option_and_then (λ s. page_at page s.pages) (site_at site state)
