-- What changes of the tables do to the stored rows, and what has to be read of these before.
use Rattle.std.specs.Prelude.{◌≡◌, ◌⊎◌, ℕ, suc, pos, List, [], ◌∷◌, map, length, true, false, IsSome, Ok}
use Rattle.named_rows.specs.ByName.{put_row, put_rows, take_row}
use Rattle.snap_json.specs.Pages.{kept_tree}
use Rattle.judge_core.specs.declared.judgement.Judgement.{Judgement}
use Rattle.judge_core.specs.declared.outcomes.Outcomes.{Outcomes}
use Rattle.keep_core.specs.declared.site.Site.{Site}
use Rattle.keep_core.specs.declared.page.PagePut.{PagePut}
use Rattle.keep_core.specs.declared.page.PageOutcomes.{PageOutcomes}
use Rattle.keep_core.specs.declared.change.Change.{Change}
use Rattle.keep_core.specs.declared.change.Change.TheVariants.{PutSite, PutPages, DropPage, AddJudgements, PutLanguages, Refresh, SetEdition}
use Rattle.sql_rows.specs.Tables.{name_at}
use Rattle.sql_rows.specs.Changes.{Changes}
use Rattle.store_statements.specs.Stored.{Stored, site_at, members_at, page_at, heads_at, judgements_at, outcomes_at, languages_at, editions_at}
use Rattle.store_statements.specs.Changes.{PutsSite}
use Rattle.sqlite_value.specs.declared.value.Value.TheVariants.{Int}
use Rattle.sqlite_value.specs.Order.{Row}
use Rattle.store_tables.specs.Members.{member_cells}
use Rattle.store_tables.specs.Languages.{language_rows}
use Rattle.store_tables.specs.Editions.{edition_shown}
use Rattle.store_tables.specs.Sites.{site_cells, site_shown}
use Rattle.store_tables.specs.Pages.{page_cells, page_shown}
use Rattle.store_tables.specs.Judgements.{judgement_cells, judgements_shown}
use Rattle.store_tables.specs.Outcomes.{outcome_rows, outcomes_shown}
use Rattle.store_tables.specs.Told.{is_site, is_page}

-- a site's row takes the place of the one of its name, and its members and its languages that of all that it had
pub record PutsWhole (site : Site) (old new : Stored) : Type 0 where
  pub same : new ≡ record old { sites = new.sites; members = new.members; languages = new.languages }
  pub sites : Changes [] (put_row (name_at 0) (site_cells site)) old.sites new.sites
  pub members : Changes (site.name ∷ []) (λ _. put_rows (name_at 1) (map (member_cells site.name) site.members) []) old.members new.members
  pub languages : Changes (site.name ∷ []) (λ _. language_rows site.name site.languages) old.languages new.languages

-- a site's row reads, if there is one, and so do its members and its languages; without it there are no rows of its name
pub record ReadsSite (site : List ℕ) (s : Stored) : Type 0 where
  pub reads : IsSome (site_shown site (site_at site s) (members_at site s) (languages_at site s))
  pub languages : is_site s site ≡ false → languages_at site s ≡ []
  pub members : is_site s site ≡ false → members_at site s ≡ []
  pub pages : is_site s site ≡ false → heads_at site s ≡ []

-- a page's row goes, and so do its judgements and outcomes
pub record DropsWhole (site page : List ℕ) (old new : Stored) : Type 0 where
  pub same : new ≡ record old { pages = new.pages; judgements = new.judgements; outcomes = new.outcomes }
  pub pages : Changes (site ∷ []) (take_row (name_at 1) page) old.pages new.pages
  pub judgements : Changes (site ∷ page ∷ []) (λ _. []) old.judgements new.judgements
  pub outcomes : Changes (site ∷ page ∷ []) (λ _. []) old.outcomes new.outcomes

-- a page's row reads, if there is one, and so do its judgements and outcomes; without it there are none
pub record ReadsPage (site page : List ℕ) (s : Stored) : Type 0 where
  pub row : IsSome (page_shown page (page_at site page s))
  pub judgements : IsSome (judgements_shown (judgements_at site page s))
  pub outcomes : IsSome (outcomes_shown (outcomes_at site page s))
  pub unjudged : is_page s site page ≡ false → judgements_at site page s ≡ []
  pub unaudited : is_page s site page ≡ false → outcomes_at site page s ≡ []

-- a page's row takes the place of the one of its name, with the bytes of its snapshot, and its outcomes that of all that
-- it had
pub record PutsOne (site : List ℕ) (put : PagePut) (old new : Stored) : Type 0 where
  pub bytes : List ℕ
  pub written : kept_tree bytes ≡ Ok put.page.tree
  pub same : new ≡ record old { pages = new.pages; outcomes = new.outcomes }
  pub pages : Changes (site ∷ []) (put_row (name_at 1) (page_cells site put.page bytes)) old.pages new.pages
  pub outcomes : Changes (site ∷ put.page.head.page ∷ []) (λ _. outcome_rows site put.page.head.page put.outcomes) old.outcomes new.outcomes

-- pages are put one after another, each over one that read
abbrev pub PutsEach : List ℕ → List PagePut → Stored → Stored → Type 0
PutsEach site [] old new = new ≡ old
PutsEach site (put ∷ puts) old new = (mid : Stored) × ReadsPage site put.page.head.page old × PutsOne site put old mid × PutsEach site puts mid new

-- a site that is kept, and that reads, gets this counter, and then pages are put
pub record PutsPages (site : List ℕ) (counter : ℕ) (puts : List PagePut) (old new : Stored) : Type 0 where
  pub kept : is_site old site ≡ true
  pub reads : IsSome (site_shown site (site_at site old) (members_at site old) (languages_at site old))
  pub mid : Stored
  pub counts : PutsSite site (pos counter) old mid
  pub each : PutsEach site puts mid new

-- judgements, the first at this place
abbrev pub judgements_cells : List ℕ → List ℕ → ℕ → List Judgement → List Row
judgements_cells site page place [] = []
judgements_cells site page place (j ∷ js) = judgement_cells site page place j ∷ judgements_cells site page (suc place) js

-- judgements come behind those of a page, and outcomes take the place of all that it had
pub record AddsWhole (site page : List ℕ) (added : List Judgement) (audited : Outcomes) (old new : Stored) : Type 0 where
  pub same : new ≡ record old { judgements = new.judgements; outcomes = new.outcomes }
  pub judgements : Changes (site ∷ page ∷ []) (put_rows (name_at 2) (judgements_cells site page (suc (length (judgements_at site page old))) added)) old.judgements new.judgements
  pub outcomes : Changes (site ∷ page ∷ []) (λ _. outcome_rows site page audited) old.outcomes new.outcomes

-- a page is kept, and its judgements and outcomes read
pub record ReadsJudged (site page : List ℕ) (s : Stored) : Type 0 where
  pub site_kept : is_site s site ≡ true
  pub page_kept : is_page s site page ≡ true
  pub judgements : IsSome (judgements_shown (judgements_at site page s))
  pub outcomes : IsSome (outcomes_shown (outcomes_at site page s))

-- ---- new outcomes of pages of a site

-- those of a page that is there, and whose outcomes read, take the place of all that it had; a page that isn't there is passed over
abbrev pub RefreshesOne : List ℕ → PageOutcomes → Stored → Stored → Type 0
RefreshesOne site o old new =
    ((is_page old site o.page ≡ true) × IsSome (outcomes_shown (outcomes_at site o.page old)) × (new ≡ record old { outcomes = new.outcomes })
    × Changes (site ∷ o.page ∷ []) (λ _. outcome_rows site o.page o.outcomes) old.outcomes new.outcomes)
    ⊎ ((is_page old site o.page ≡ false) × (new ≡ old))

abbrev pub RefreshesEach : List ℕ → List PageOutcomes → Stored → Stored → Type 0
RefreshesEach site [] old new = new ≡ old
RefreshesEach site (o ∷ os) old new = (mid : Stored) × RefreshesOne site o old mid × RefreshesEach site os mid new

-- a list of languages takes the place of that of a site that is kept, and that reads, and its pages get new outcomes
pub record RelistsWhole (site : List ℕ) (langs : List (List ℕ)) (os : List PageOutcomes) (old new : Stored) : Type 0 where
  pub kept : is_site old site ≡ true
  pub reads : IsSome (site_shown site (site_at site old) (members_at site old) (languages_at site old))
  pub mid : Stored
  pub same : mid ≡ record old { languages = mid.languages }
  pub languages : Changes (site ∷ []) (λ _. language_rows site langs) old.languages mid.languages
  pub each : RefreshesEach site os mid new

-- ---- editions

-- a number takes the place of all editions that are noted, and that read
pub record SetsEdition (number : ℕ) (old new : Stored) : Type 0 where
  pub reads : IsSome (edition_shown (editions_at old))
  pub same : new ≡ record old { editions = new.editions }
  pub editions : Changes [] (λ _. put_row (name_at 0) (Int (pos number) ∷ []) []) old.editions new.editions

-- a change of the tables, made of rows that read; of a site that isn't kept no page is dropped, and none gets new outcomes
abbrev pub Applies : Change → Stored → Stored → Type 0
Applies (PutSite site) old new = ReadsSite site.name old × PutsWhole site old new
Applies (PutPages site counter puts) old new = PutsPages site counter puts old new
Applies (DropPage site page) old new = ((is_site old site ≡ true) × ReadsPage site page old × DropsWhole site page old new) ⊎ ((is_site old site ≡ false) × (new ≡ old))
Applies (AddJudgements site page js outcomes) old new = ReadsJudged site page old × AddsWhole site page js outcomes old new
Applies (PutLanguages site langs os) old new = RelistsWhole site langs os old new
Applies (Refresh site os) old new = ((is_site old site ≡ true) × RefreshesEach site os old new) ⊎ ((is_site old site ≡ false) × (new ≡ old))
Applies (SetEdition number) old new = SetsEdition number old new
