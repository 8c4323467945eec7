-- What a change makes of the tables. All that a change doesn't name stays.
use Rattle.std.specs.Prelude.{ℕ, List, [], ◌∷◌, ◌++◌, map, Option, Some, None}
use Rattle.judge_core.specs.declared.judgement.Judgement.{Judgement}
use Rattle.judge_core.specs.declared.outcomes.Outcomes.{Outcomes}
use Rattle.named_rows.specs.ByName.{at, put_row, put_rows, take_row, with_row}
use Rattle.keep_core.specs.declared.site.Site.{Site}
use Rattle.keep_core.specs.declared.page.PagePut.{PagePut}
use Rattle.keep_core.specs.declared.page.PageOutcomes.{PageOutcomes}
use Rattle.keep_core.specs.declared.tables.KeptPage.{KeptPage}
use Rattle.keep_core.specs.declared.tables.KeptSite.{KeptSite}
use Rattle.keep_core.specs.declared.change.Change.{Change}
use Rattle.keep_core.specs.declared.change.Change.TheVariants.{PutSite, PutPages, DropPage, AddJudgements, PutLanguages, Refresh, SetEdition}
use Rattle.keep_core.specs.declared.tables.Tables.{Tables}
use Rattle.keep_core.specs.Tables.{site_name, page_name, pages_in, judgements_in}

-- a site's row, with the pages that are kept of it
abbrev pub put_site : Site → List KeptSite → List KeptSite
put_site site sites = put_row site_name (record { site = site; pages = pages_in (at site_name site.name sites) }) sites

-- a page that is put, with the judgements that are kept of it
abbrev pub put_over : List KeptPage → PagePut → KeptPage
put_over kept put = record { page = put.page; judgements = judgements_in (at page_name put.page.head.page kept); outcomes = put.outcomes }

-- the site with this counter, and with pages that are put
abbrev pub with_pages : ℕ → List PagePut → KeptSite → KeptSite
with_pages counter puts s = record { site = record s.site { counter = counter }; pages = put_rows page_name (map (put_over s.pages) puts) s.pages }

-- the site without a page
abbrev pub without_page : List ℕ → KeptSite → KeptSite
without_page page s = record s { pages = take_row page_name page s.pages }

-- the page with judgements at the end of its list, and with these outcomes
abbrev pub with_judgements : List Judgement → Outcomes → KeptPage → KeptPage
with_judgements js outcomes p = record p { judgements = p.judgements ++ js; outcomes = outcomes }

-- the site with judgements of a page
abbrev pub with_judged : List ℕ → List Judgement → Outcomes → KeptSite → KeptSite
with_judged page js outcomes s = record s { pages = with_row page_name page (with_judgements js outcomes) s.pages }

-- the page with these outcomes
abbrev pub having : Outcomes → KeptPage → KeptPage
having outcomes p = record p { outcomes = outcomes }

-- pages with new outcomes of those that are named
abbrev pub with_outcomes : List PageOutcomes → List KeptPage → List KeptPage
with_outcomes [] pages = pages
with_outcomes (new ∷ more) pages = with_outcomes more (with_row page_name new.page (having new.outcomes) pages)

-- the site with them
abbrev pub refreshed : List PageOutcomes → KeptSite → KeptSite
refreshed new s = record s { pages = with_outcomes new s.pages }

-- and with a list of languages
abbrev pub with_languages : List (List ℕ) → List PageOutcomes → KeptSite → KeptSite
with_languages languages new s = record { site = record s.site { languages = languages }; pages = with_outcomes new s.pages }

abbrev pub changed_sites : Change → List KeptSite → List KeptSite
changed_sites (PutSite site) sites = put_site site sites
changed_sites (PutPages site counter pages) sites = with_row site_name site (with_pages counter pages) sites
changed_sites (DropPage site page) sites = with_row site_name site (without_page page) sites
changed_sites (AddJudgements site page js outcomes) sites = with_row site_name site (with_judged page js outcomes) sites
changed_sites (PutLanguages site languages new) sites = with_row site_name site (with_languages languages new) sites
changed_sites (Refresh site new) sites = with_row site_name site (refreshed new) sites
changed_sites (SetEdition number) sites = sites

abbrev pub changed_edition : Change → ℕ → ℕ
changed_edition (PutSite site) edition = edition
changed_edition (PutPages site counter pages) edition = edition
changed_edition (DropPage site page) edition = edition
changed_edition (AddJudgements site page js outcomes) edition = edition
changed_edition (PutLanguages site languages new) edition = edition
changed_edition (Refresh site new) edition = edition
changed_edition (SetEdition number) edition = number

abbrev pub changed : Change → Tables → Tables
changed change tables = record { edition = changed_edition change tables.edition; sites = changed_sites change tables.sites }

-- the site that a change is of, where it is of one
abbrev pub site_changed : Change → Option (List ℕ)
site_changed (PutSite site) = Some site.name
site_changed (PutPages site counter pages) = Some site
site_changed (DropPage site page) = Some site
site_changed (AddJudgements site page js outcomes) = Some site
site_changed (PutLanguages site languages new) = Some site
site_changed (Refresh site new) = Some site
site_changed (SetEdition number) = None
