-- The state that tables give after a change is what the change makes of the state that they gave.
use Rattle.std.proofs.Common.{◌≡◌, ℕ, List, [], ◌∷◌, map, Option, Some, None, option_map, refl, sym, ap, ◌∙◌, inl, inr, ◌⊎◌}
use Rattle.std.specs.Option.{option_map_or}
use Rattle.std.specs.declared.cmp.Ordering.{Ordering}
use Rattle.std.specs.declared.cmp.Ordering.TheVariants.{Less, Equal, Greater}
use Rattle.std.specs.Ordering.{match_ordering}
use Rattle.judge_core.specs.declared.judgement.Judgement.{Judgement}
use Rattle.named_rows.specs.ByName.{names_cmp, at, put_row, put_rows, take_row, with_row}
use Rattle.named_rows.proofs.Names.{same_name, tied_name}
use Rattle.named_rows.proofs.Lookups.{at_put, at_put_other}
use Rattle.named_rows.proofs.Views.{at_map, put_map, take_map, with_row_map}
use Rattle.keep_core.specs.declared.site.Site.{Site}
use Rattle.keep_core.specs.declared.page.PagePut.{PagePut}
use Rattle.keep_core.specs.declared.page.PageOutcomes.{PageOutcomes}
use Rattle.keep_core.specs.declared.tables.KeptPage.{KeptPage}
use Rattle.keep_core.specs.declared.tables.KeptSite.{KeptSite}
use Rattle.keep_core.specs.declared.change.Change.{Change}
use Rattle.keep_core.specs.declared.change.Change.TheVariants.{PutSite, PutPages, DropPage, AddJudgements, PutLanguages, Refresh, SetEdition}
use Rattle.keep_core.specs.declared.tables.Tables.{Tables}
use Rattle.keep_core.specs.Tables.{kept_site, pages_in, pages_of, judgements_in, languages_in}
use Rattle.keep_core.specs.Tables as kept
use Rattle.keep_core.specs.Changes.{put_over, having, with_outcomes}
use Rattle.keep_core.specs.Changes as tables
use Rattle.desk_core.specs.State.{PageState, SiteState, listed, kept_listed, state_listed, page_state, site_state, state_of, page_name, site_name, page_at, site_at}
use Rattle.desk_core.specs.Pages.{judged}
use Rattle.desk_core.specs.Changes.{with_page, with_pages, with_site, with_counter, in_pages, with_judgements, with_languages, changed}

by_order : (m n : List ℕ) (o : Ordering) → names_cmp m n ≡ o → (m ≡ n) ⊎ (m ≡ n → ⊥)
by_order m n Less is = inr (λ e. let no : Less ≡ Equal = sym is ∙ tied_name m n e in cc)
by_order m n Equal is = inl (same_name m n is)
by_order m n Greater is = inr (λ e. let no : Greater ≡ Equal = sym is ∙ tied_name m n e in cc)

-- two names are the same or not
pub same_or_other : (m n : List ℕ) → (m ≡ n) ⊎ (m ≡ n → ⊥)
same_or_other m n = by_order m n (names_cmp m n) refl

-- ---- what is looked up

-- a page of a site with these languages, as the state has it
abbrev pub state_page : List (List ℕ) → KeptPage → PageState
state_page langs p = page_state (kept_listed langs p)

abbrev pub state_pages : List (List ℕ) → List KeptPage → List PageState
state_pages langs pages = map (state_page langs) pages

pub page_seen : (langs : List (List ℕ)) (n : List ℕ) (pages : List KeptPage) → page_at n (map (state_page langs) pages) ≡ option_map (state_page langs) (at kept.page_name n pages)
page_seen langs n pages = at_map kept.page_name page_name (state_page langs) (λ _. refl) n pages

pub site_seen : (n : List ℕ) (t : Tables) → site_at n (state_of t) ≡ option_map site_state (kept_site n t)
site_seen n t = at_map kept.site_name site_name site_state (λ _. refl) n t.sites

pub judged_of : (langs : List (List ℕ)) (o : Option KeptPage) → judged (option_map (state_page langs) o) ≡ judgements_in o
judged_of langs None = refl
judged_of langs (Some p) = refl

pub judged_seen : (langs : List (List ℕ)) (n : List ℕ) (pages : List KeptPage) → judged (page_at n (map (state_page langs) pages)) ≡ judgements_in (at kept.page_name n pages)
judged_seen langs n pages = ap judged (page_seen langs n pages) ∙ judged_of langs (at kept.page_name n pages)

-- ---- what isn't seen

-- rows of which one is changed, which isn't seen
module _ {T U : Type 0} (name : T → List ℕ) (seen : T → U) (n : List ℕ) (f : T → T) (same : (r : T) → seen (f r) ≡ seen r) where
  unseen_by : (r : T) (rs : List T) (o : Ordering) → map seen (with_row name n f rs) ≡ map seen rs
      → map seen (match_ordering o (r ∷ rs) (f r ∷ rs) (r ∷ with_row name n f rs)) ≡ map seen (r ∷ rs)
  unseen_by r rs Less below = refl
  unseen_by r rs Equal below = ap (λ u. u ∷ map seen rs) (same r)
  unseen_by r rs Greater below = ap (λ rest. seen r ∷ rest) below

  pub row_unseen : (rows : List T) → map seen (with_row name n f rows) ≡ map seen rows
  row_unseen [] = refl
  row_unseen (r ∷ rs) = unseen_by r rs (names_cmp n (name r)) (row_unseen rs)

-- outcomes are no part of the state
pub outcomes_unseen : (langs : List (List ℕ)) (new : List PageOutcomes) (pages : List KeptPage) → map (state_page langs) (with_outcomes new pages) ≡ map (state_page langs) pages
outcomes_unseen langs [] pages = refl
outcomes_unseen langs (o ∷ more) pages =
    outcomes_unseen langs more (with_row kept.page_name o.page (having o.outcomes) pages)
    ∙ row_unseen kept.page_name (state_page langs) o.page (having o.outcomes) (λ _. refl) pages

-- a page has one list of languages, the last that it was given
pub relisted_seen : (langs old : List (List ℕ)) (pages : List KeptPage) → map (state_listed langs) (map (state_page old) pages) ≡ map (state_page langs) pages
relisted_seen langs old [] = refl
relisted_seen langs old (p ∷ ps) = ap (λ others. state_page langs p ∷ others) (relisted_seen langs old ps)

-- ---- a site

pages_of_site : (o : Option KeptSite) → option_map_or (λ (s : SiteState). s.pages) (option_map site_state o) [] ≡ map (state_page (languages_in o)) (pages_in o)
pages_of_site None = refl
pages_of_site (Some s) = refl

site_with : Site → List PageState → SiteState
site_with site pages = record { site = site; pages = pages }

site_put : (site : Site) (t : Tables) → map site_state (tables.put_site site t.sites) ≡ with_site site (state_of t)
unfolding site_with
site_put site t =
    let kept_pages = pages_of site.name t in
    let row : KeptSite = record { site = site; pages = kept_pages } in
    let there = option_map_or (λ (s : SiteState). s.pages) (site_at site.name (state_of t)) [] in
    let old : there ≡ map (state_page (languages_in (kept_site site.name t))) kept_pages =
    ap (λ o. option_map_or (λ (s : SiteState). s.pages) o []) (site_seen site.name t) ∙ pages_of_site (kept_site site.name t) in
    let same : map (state_page site.languages) kept_pages ≡ map (state_listed site.languages) there =
    sym (ap (map (state_listed site.languages)) old ∙ relisted_seen site.languages (languages_in (kept_site site.name t)) kept_pages) in
    sym (put_map kept.site_name site_name site_state (λ _. refl) row t.sites) ∙ ap (λ pages. put_row site_name (site_with site pages) (state_of t)) same

-- ---- pages that are put

keeps_by : (orig cur : List KeptPage) (put : PagePut) → ((n : List ℕ) → judgements_in (at kept.page_name n orig) ≡ judgements_in (at kept.page_name n cur)) → (m : List ℕ)
    → (m ≡ put.page.head.page) ⊎ (m ≡ put.page.head.page → ⊥)
    → judgements_in (at kept.page_name m orig) ≡ judgements_in (at kept.page_name m (put_row kept.page_name (put_over orig put) cur))
keeps_by orig cur put same m (inl e) =
    ap (λ n. judgements_in (at kept.page_name n orig)) e
    ∙ sym (ap judgements_in (ap (λ n. at kept.page_name n (put_row kept.page_name (put_over orig put) cur)) e ∙ at_put kept.page_name (put_over orig put) cur))
keeps_by orig cur put same m (inr other) = same m ∙ sym (ap judgements_in (at_put_other kept.page_name m (put_over orig put) cur other))

page_with : List (List ℕ) → PagePut → List Judgement → PageState
page_with langs put js = record { page = listed langs put.page; judgements = js }

page_put : (langs : List (List ℕ)) (orig cur : List KeptPage) (put : PagePut) → judgements_in (at kept.page_name put.page.head.page orig) ≡ judgements_in (at kept.page_name put.page.head.page cur)
    → with_page langs put (map (state_page langs) cur) ≡ map (state_page langs) (put_row kept.page_name (put_over orig put) cur)
unfolding page_with
page_put langs orig cur put same =
    ap (λ js. put_row page_name (page_with langs put js) (map (state_page langs) cur)) (judged_seen langs put.page.head.page cur ∙ sym same)
    ∙ put_map kept.page_name page_name (state_page langs) (λ _. refl) (put_over orig put) cur

-- a page that is put twice keeps its judgements both times
pages_put : (langs : List (List ℕ)) (orig cur : List KeptPage) (puts : List PagePut) → ((n : List ℕ) → judgements_in (at kept.page_name n orig) ≡ judgements_in (at kept.page_name n cur))
    → with_pages langs puts (map (state_page langs) cur) ≡ map (state_page langs) (put_rows kept.page_name (map (put_over orig) puts) cur)
pages_put langs orig cur [] same = refl
pages_put langs orig cur (put ∷ puts) same =
    ap (with_pages langs puts) (page_put langs orig cur put (same put.page.head.page))
    ∙ pages_put langs orig (put_row kept.page_name (put_over orig put) cur) puts (λ m. keeps_by orig cur put same m (same_or_other m put.page.head.page))

-- ---- changes

pub changes_seen : (c : Change) (t : Tables) → state_of (tables.changed c t) ≡ changed c (state_of t)
unfolding site_with
changes_seen (PutSite site) t = site_put site t
changes_seen (PutPages site counter puts) t =
    sym (with_row_map kept.site_name site_name site_state (λ _. refl) site (tables.with_pages counter puts)
    (λ s. record { site = with_counter counter s.site; pages = with_pages s.site.languages puts s.pages })
    (λ s _. ap (site_with (with_counter counter s.site)) (pages_put s.site.languages s.pages s.pages puts (λ _. refl))) t.sites)
changes_seen (DropPage site page) t =
    sym (with_row_map kept.site_name site_name site_state (λ _. refl) site (tables.without_page page) (in_pages (take_row page_name page))
    (λ s _. ap (site_with s.site) (take_map kept.page_name page_name (state_page s.site.languages) (λ _. refl) page s.pages)) t.sites)
changes_seen (AddJudgements site page js outcomes) t =
    sym (with_row_map kept.site_name site_name site_state (λ _. refl) site (tables.with_judged page js outcomes) (in_pages (with_row page_name page (with_judgements js)))
    (λ s _. ap (site_with s.site) (with_row_map kept.page_name page_name (state_page s.site.languages) (λ _. refl) page (tables.with_judgements js outcomes) (with_judgements js) (λ _ _. refl) s.pages)) t.sites)
changes_seen (PutLanguages site langs new) t =
    sym (with_row_map kept.site_name site_name site_state (λ _. refl) site (tables.with_languages langs new) (with_languages langs)
    (λ s _. ap (site_with (record s.site { languages = langs })) (relisted_seen langs s.site.languages s.pages ∙ sym (outcomes_unseen langs new s.pages))) t.sites)
changes_seen (Refresh site new) t =
    row_unseen kept.site_name site_state site (tables.refreshed new) (λ s. ap (site_with s.site) (outcomes_unseen s.site.languages new s.pages)) t.sites
changes_seen (SetEdition number) t = refl
