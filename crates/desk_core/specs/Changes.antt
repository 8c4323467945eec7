-- How changes change the state: as they change the tables, without the outcomes and the edition.
use Rattle.std.specs.Prelude.{ℕ, List, [], ◌∷◌, ◌++◌, map, Option, Some, None}
use Rattle.std.specs.Option.{option_map_or}
use Rattle.judge_core.specs.declared.judgement.Judgement.{Judgement}
use Rattle.keep_core.specs.declared.site.Site.{Site}
use Rattle.keep_core.specs.declared.change.Change.{Change}
use Rattle.keep_core.specs.declared.change.Change.TheVariants.{PutSite, PutPages, DropPage, AddJudgements, PutLanguages, Refresh, SetEdition}
use Rattle.keep_core.specs.declared.page.PagePut.{PagePut}
use Rattle.named_rows.specs.ByName.{put_row, take_row, with_row}
use Rattle.desk_core.specs.State.{State, PageState, SiteState, page_name, site_name, page_at, site_at, listed, state_listed}
use Rattle.desk_core.specs.Pages.{judged}

-- a site's row in place of the kept one, whose pages stay, with the row's languages
abbrev pub site_over : Site → List PageState → SiteState
site_over site pages = record { site = site; pages = map (state_listed site.languages) pages }

abbrev pub with_site : Site → State → State
with_site site state = put_row site_name (site_over site (option_map_or (λ s. s.pages) (site_at site.name state) [])) state

-- a page, with its site's languages, in place of the kept one, whose judgements stay
abbrev pub with_page : List (List ℕ) → PagePut → List PageState → List PageState
with_page langs put pages =
    put_row page_name (record { page = listed langs put.page; judgements = judged (page_at put.page.head.page pages) }) pages

abbrev pub with_pages : List (List ℕ) → List PagePut → List PageState → List PageState
with_pages langs [] pages = pages
with_pages langs (put ∷ puts) pages = with_pages langs puts (with_page langs put pages)

abbrev pub with_counter : ℕ → Site → Site
with_counter counter site = record site { counter = counter }

abbrev pub with_judgements : List Judgement → PageState → PageState
with_judgements js kept = record { page = kept.page; judgements = kept.judgements ++ js }

-- a site with this list of languages, and its pages too
abbrev pub with_languages : List (List ℕ) → SiteState → SiteState
with_languages langs s = site_over (record s.site { languages = langs }) s.pages

-- the pages of a site changed so
abbrev pub in_pages : (List PageState → List PageState) → SiteState → SiteState
in_pages f s = record { site = s.site; pages = f s.pages }

abbrev pub changed : Change → State → State
changed (PutSite site) state = with_site site state
changed (PutPages site counter puts) state =
    with_row site_name site (λ s. record { site = with_counter counter s.site; pages = with_pages s.site.languages puts s.pages }) state
changed (DropPage site page) state = with_row site_name site (in_pages (take_row page_name page)) state
changed (AddJudgements site page js outcomes) state = with_row site_name site (in_pages (with_row page_name page (with_judgements js))) state
changed (PutLanguages site langs new) state = with_row site_name site (with_languages langs) state
changed (Refresh site new) state = state
changed (SetEdition number) state = state

-- the state after a change, where there is one
abbrev pub after : Option Change → State → State
after None state = state
after (Some change) state = changed change state
