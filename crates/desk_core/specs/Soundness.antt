-- What is sound: each page's outcomes are those of its tree and its judgements, and all else is as requests make it; and nearly sound,
-- where the outcomes may be others.
use Rattle.std.specs.Prelude.{◌≡◌, ℕ, ◌≤◌, List, length, Bool, true, Option, Some, None}
use Rattle.std.specs.List.{All, AllPairs, list_any}
use Rattle.snap_tree.specs.Trees.{with_langs}
use Rattle.snap_tree.specs.Well.{IsWell}
use Rattle.rule_core.specs.Books.{Book}
use Rattle.judge_core.specs.Outcomes.{outcomes}
use Rattle.keep_core.specs.declared.member.Member.{Member}
use Rattle.keep_core.specs.declared.change.Change.{Change}
use Rattle.keep_core.specs.declared.tables.KeptPage.{KeptPage}
use Rattle.keep_core.specs.declared.tables.KeptSite.{KeptSite}
use Rattle.keep_core.specs.declared.tables.Tables.{Tables}
use Rattle.keep_core.specs.Changes.{changed}
use Rattle.keep_core.specs.Fits.{FitTables}
use Rattle.desk_core.specs.declared.limits.TheConstants.{MOST_PAGES}
use Rattle.desk_core.specs.Rights.{is_owner}

abbrev pub has_owner : List Member → Bool
has_owner members = list_any (λ m. is_owner m.role) members

abbrev pub rev_in : KeptPage → ℕ
rev_in p = p.page.head.rev

-- a revision lies from 1 to the counter
pub record IsGiven (counter : ℕ) (rev : ℕ) : Type 0 where
  pub some : 1 ≤ rev
  pub within : rev ≤ counter

-- a site as requests make it, each page of which is so
pub record IsMadeOf (IsPage : KeptPage → Type 0) (s : KeptSite) : Type 0 where
  pub owned : has_owner s.site.members ≡ true
  pub few : length s.pages ≤ MOST_PAGES
  pub pages : All IsPage s.pages
  pub given : All (λ (p : KeptPage). IsGiven s.site.counter (rev_in p)) s.pages
  pub differ : AllPairs (λ (p q : KeptPage). rev_in p ≡ rev_in q → ⊥) s.pages

-- tables of rows that fit, each site so
pub record AreMadeOf (IsSite : KeptSite → Type 0) (tables : Tables) : Type 0 where
  pub fit : FitTables tables
  pub sites : All IsSite tables.sites

-- ---- nearly sound: the outcomes may be any

abbrev pub IsWellPage : KeptPage → Type 0
IsWellPage p = IsWell p.page.tree.trees

abbrev pub IsNearlySite : KeptSite → Type 0
IsNearlySite s = IsMadeOf IsWellPage s

abbrev pub IsNearlySound : Tables → Type 0
IsNearlySound tables = AreMadeOf IsNearlySite tables

-- ---- sound: the outcomes are those of the page, with its site's languages

pub record IsSoundPage (book : Book) (langs : List (List ℕ)) (p : KeptPage) : Type 0 where
  pub well : IsWell p.page.tree.trees
  pub told : p.outcomes.rows ≡ outcomes book (with_langs p.page.tree langs) p.judgements

abbrev pub IsSoundSite : Book → KeptSite → Type 0
IsSoundSite book s = IsMadeOf (IsSoundPage book s.site.languages) s

abbrev pub IsSound : Book → Tables → Type 0
IsSound book tables = AreMadeOf (IsSoundSite book) tables

-- the tables after a change, where there is one
abbrev pub made : Option Change → Tables → Tables
made None tables = tables
made (Some change) tables = changed change tables
