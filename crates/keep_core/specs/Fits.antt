-- What fits: rows that may be put, and rows that are answered.
use Rattle.std.specs.Prelude.{◌≡◌, ℕ, ◌≤◌, List, [], IsTrue, IsSome}
use Rattle.std.specs.List.{All, AllPairs}
use Rattle.snap_tree.specs.Langs.{AreLangs}
use Rattle.web_address.specs.Address.{IsWebAddress}
use Rattle.named_rows.specs.ByName.{IsInOrder}
use Rattle.keep_core.specs.declared.member.Member.{Member}
use Rattle.keep_core.specs.declared.site.Site.{Site}
use Rattle.keep_core.specs.declared.page.PageHead.{PageHead}
use Rattle.keep_core.specs.declared.page.Page.{Page}
use Rattle.keep_core.specs.declared.page.PagePut.{PagePut}
use Rattle.keep_core.specs.declared.page.PageOutcomes.{PageOutcomes}
use Rattle.keep_core.specs.declared.change.Change.{Change}
use Rattle.keep_core.specs.declared.change.Change.TheVariants.{PutSite, PutPages, DropPage, AddJudgements, PutLanguages, Refresh, SetEdition}
use Rattle.keep_core.specs.declared.tables.KeptPage.{KeptPage}
use Rattle.keep_core.specs.declared.tables.KeptSite.{KeptSite}
use Rattle.keep_core.specs.declared.limits.TheConstants.{MOST_REVISION}
use Rattle.keep_core.specs.Names.{is_name}
use Rattle.keep_core.specs.declared.tables.Tables.{Tables}
use Rattle.keep_core.specs.Tables.{site_name, page_name, kept_site, kept_page}

-- ---- rows

-- the users are distinct and stand in byte order, and the languages are of the form
pub record FitsSite (site : Site) : Type 0 where
  pub name : IsTrue (is_name site.name)
  pub counter : site.counter ≤ MOST_REVISION
  pub users : All (λ (m : Member). IsTrue (is_name m.user)) site.members
  pub in_order : IsInOrder (λ (m : Member). m.user) site.members
  pub languages : AreLangs site.languages

pub record FitsHead (head : PageHead) : Type 0 where
  pub page : IsTrue (is_name head.page)
  pub rev : head.rev ≤ MOST_REVISION

-- a tree is kept without language subtags
pub record FitsPage (page : Page) : Type 0 where
  pub head : FitsHead page.head
  pub address : IsWebAddress page.tree.address
  pub no_langs : page.tree.langs ≡ []

-- heads in byte order of their pages, which are distinct
pub record FitsHeads (heads : List PageHead) : Type 0 where
  pub each : All FitsHead heads
  pub in_order : IsInOrder (λ (h : PageHead). h.page) heads

-- ---- batches

pub record FitsPages (site : List ℕ) (counter : ℕ) (pages : List PagePut) : Type 0 where
  pub name : IsTrue (is_name site)
  pub within : counter ≤ MOST_REVISION
  pub each : All (λ (p : PagePut). FitsPage p.page) pages
  pub distinct : AllPairs (λ (p q : PagePut). p.page.head.page ≡ q.page.head.page → ⊥) pages

-- new outcomes of pages, which are distinct
pub record FitsOutcomes (site : List ℕ) (new : List PageOutcomes) : Type 0 where
  pub name : IsTrue (is_name site)
  pub pages : All (λ (o : PageOutcomes). IsTrue (is_name o.page)) new
  pub distinct : AllPairs (λ (o p : PageOutcomes). o.page ≡ p.page → ⊥) new

abbrev pub Fits : Change → Type 0
Fits (PutSite site) = FitsSite site
Fits (PutPages site counter pages) = FitsPages site counter pages
Fits (DropPage site page) = IsTrue (is_name site) × IsTrue (is_name page)
Fits (AddJudgements site page js outcomes) = IsTrue (is_name site) × IsTrue (is_name page)
Fits (PutLanguages site languages new) = AreLangs languages × FitsOutcomes site new
Fits (Refresh site new) = FitsOutcomes site new
Fits (SetEdition number) = number ≤ MOST_REVISION

-- what a change is made of is kept: the site of pages that are put and of languages, and the page of judgements
abbrev pub IsThere : Change → Tables → Type 0
IsThere (PutSite site) tables = Unit {0}
IsThere (PutPages site counter pages) tables = IsSome (kept_site site tables)
IsThere (DropPage site page) tables = Unit {0}
IsThere (AddJudgements site page js outcomes) tables = IsSome (kept_page site page tables)
IsThere (PutLanguages site languages new) tables = IsSome (kept_site site tables)
IsThere (Refresh site new) tables = Unit {0}
IsThere (SetEdition number) tables = Unit {0}

-- names of the form
abbrev pub FitNames : List (List ℕ) → Type 0
FitNames names = All (λ (n : List ℕ). IsTrue (is_name n)) names

-- ---- tables

pub record FitsKept (s : KeptSite) : Type 0 where
  pub site : FitsSite s.site
  pub pages : All (λ (p : KeptPage). FitsPage p.page) s.pages
  pub in_order : IsInOrder page_name s.pages

-- tables of rows that fit, in their order
pub record FitSites (sites : List KeptSite) : Type 0 where
  pub each : All FitsKept sites
  pub in_order : IsInOrder site_name sites

abbrev pub FitTables : Tables → Type 0
FitTables tables = FitSites tables.sites
