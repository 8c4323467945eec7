-- The tables that stored rows tell. None where a row doesn't read, or is of a site or a page that isn't kept.
use Rattle.std.specs.Prelude.{ℕ, List, Bool, ◌&&◌, if◌then◌else◌, Option, Some, None, is_some}
use Rattle.std.specs.List.{list_all}
use Rattle.sqlite_value.specs.Order.{Row, column}
use Rattle.named_rows.specs.ByName.{at}
use Rattle.keep_core.specs.declared.tables.KeptPage.{KeptPage}
use Rattle.keep_core.specs.declared.tables.KeptSite.{KeptSite}
use Rattle.keep_core.specs.declared.tables.Tables.{Tables}
use Rattle.sql_rows.specs.Tables.{name_at}
use Rattle.store_statements.specs.Stored.{Stored, sites_in, members_at, pages_of, judgements_at, outcomes_at, languages_at, editions_at}
use Rattle.store_tables.specs.Reading.{◌>>=◌, read_each}
use Rattle.store_tables.specs.Sites.{site_from}
use Rattle.store_tables.specs.Editions.{kept_edition}
use Rattle.store_tables.specs.Pages.{page_from}
use Rattle.store_tables.specs.Judgements.{judgements_shown}
use Rattle.store_tables.specs.Outcomes.{outcomes_shown}

-- ---- the rows of a site

pub record OfSite : Type 0 where
  -- as they are shown
  pub members : List Row
  pub languages : List Row
  pub pages : List Row
  -- of each page, as they are shown
  pub judgements : List ℕ → List Row
  pub outcomes : List ℕ → List Row

abbrev pub of_site : List ℕ → Stored → OfSite
of_site site s = record { members = members_at site s; languages = languages_at site s; pages = pages_of site s; judgements = λ page. judgements_at site page s; outcomes = λ page. outcomes_at site page s }

unfoldable pub read_page : OfSite → Row → Option KeptPage
read_page o r = do
  page ← page_from (name_at 1 r) (column r 2) (column r 3) (column r 4)
  judgements ← judgements_shown (o.judgements (name_at 1 r))
  outcomes ← outcomes_shown (o.outcomes (name_at 1 r))
  Some (record { page = page; judgements = judgements; outcomes = outcomes })

unfoldable pub read_site : OfSite → Row → Option KeptSite
read_site o r = do
  site ← site_from (name_at 0 r) (column r 1) o.members o.languages
  pages ← read_each (read_page o) o.pages
  Some (record { site = site; pages = pages })

-- ---- rows whose site, or page, is kept

abbrev pub is_site : Stored → List ℕ → Bool
is_site s site = is_some (at (name_at 0) site (sites_in s))

abbrev pub is_page : Stored → List ℕ → List ℕ → Bool
is_page s site page = is_some (at (name_at 1) page (pages_of site s))

abbrev pub has_site : Stored → Row → Bool
has_site s r = is_site s (name_at 0 r)

abbrev pub has_page : Stored → Row → Bool
has_page s r = is_page s (name_at 0 r) (name_at 1 r)

abbrev pub are_housed : Stored → Bool
are_housed s =
    ((list_all (has_site s) s.members && list_all (has_site s) s.pages) && (list_all (has_page s) s.judgements && list_all (has_page s) s.outcomes))
    && list_all (has_site s) s.languages

-- ---- the tables

abbrev pub Sites : Type 0
Sites = List KeptSite

abbrev pub sites_told : Stored → Option Sites
sites_told s = if are_housed s then read_each (λ r. read_site (of_site (name_at 0 r) s) r) (sites_in s) else None

unfoldable pub tables_in : Stored → Option Tables
tables_in s = do
  edition ← kept_edition (editions_at s)
  sites ← sites_told s
  Some (record { edition = edition; sites = sites })
