-- The tables: the edition of the rules by which outcomes were found, and sites in byte order of their names, each with its pages in
-- byte order of theirs, and each page with its judgements in order of acceptance and its outcomes. And what is read of them.
use Rattle.std.specs.Prelude.{ℕ, List, [], map, Option, Some, None, option_map}
use Rattle.std.specs.List.{filter_map}
use Rattle.judge_core.specs.declared.judgement.Judgement.{Judgement}
use Rattle.judge_core.specs.declared.outcomes.Outcomes.{Outcomes}
use Rattle.named_rows.specs.ByName.{at}
use Rattle.keep_core.specs.declared.member.Membership.{Membership}
use Rattle.keep_core.specs.declared.site.Site.{Site}
use Rattle.keep_core.specs.declared.page.PageHead.{PageHead}
use Rattle.keep_core.specs.declared.page.Page.{Page}
use Rattle.keep_core.specs.declared.tables.KeptPage.{KeptPage}
use Rattle.keep_core.specs.declared.tables.KeptSite.{KeptSite}
use Rattle.keep_core.specs.declared.tables.Tables.{Tables}
use Rattle.keep_core.specs.Members.{membership}

-- without a site, of edition 0
abbrev pub no_tables : Tables
no_tables = record { edition = 0; sites = [] }

-- the names by which sites and pages are kept
abbrev pub site_name : KeptSite → List ℕ
site_name s = s.site.name

abbrev pub page_name : KeptPage → List ℕ
page_name p = p.page.head.page

-- a site with its pages, and the pages: none of a strange site
abbrev pub kept_site : List ℕ → Tables → Option KeptSite
kept_site site tables = at site_name site tables.sites

abbrev pub pages_in : Option KeptSite → List KeptPage
pages_in None = []
pages_in (Some s) = s.pages

abbrev pub pages_of : List ℕ → Tables → List KeptPage
pages_of site tables = pages_in (kept_site site tables)

-- the language subtags that a site accepts: none of a strange site
abbrev pub languages_in : Option KeptSite → List (List ℕ)
languages_in None = []
languages_in (Some s) = s.site.languages

abbrev pub languages_of : List ℕ → Tables → List (List ℕ)
languages_of site tables = languages_in (kept_site site tables)

-- a page with its judgements and outcomes
abbrev pub kept_page : List ℕ → List ℕ → Tables → Option KeptPage
kept_page site page tables = at page_name page (pages_of site tables)

-- none of a strange page
abbrev pub judgements_in : Option KeptPage → List Judgement
judgements_in None = []
judgements_in (Some p) = p.judgements

abbrev pub outcomes_in : Option KeptPage → Outcomes
outcomes_in None = record { rows = [] }
outcomes_in (Some p) = p.outcomes

-- ---- what the calls of a keeper answer

abbrev pub edition_of : Tables → ℕ
edition_of tables = tables.edition

abbrev pub sites_of : Tables → List (List ℕ)
sites_of tables = map site_name tables.sites

abbrev pub site_of : List ℕ → Tables → Option Site
site_of site tables = option_map (λ s. s.site) (kept_site site tables)

-- the sites of which a user is a member, with the role in each
abbrev pub memberships_of : List ℕ → Tables → List Membership
memberships_of user tables = filter_map (λ s. membership user s.site) tables.sites

abbrev pub page_of : List ℕ → List ℕ → Tables → Option Page
page_of site page tables = option_map (λ p. p.page) (kept_page site page tables)

abbrev pub heads_of : List ℕ → Tables → List PageHead
heads_of site tables = map (λ p. p.page.head) (pages_of site tables)

abbrev pub judgements_of : List ℕ → List ℕ → Tables → List Judgement
judgements_of site page tables = judgements_in (kept_page site page tables)

abbrev pub outcomes_of : List ℕ → List ℕ → Tables → Outcomes
outcomes_of site page tables = outcomes_in (kept_page site page tables)
