-- What is read of tables after a change.
use Rattle.std.proofs.Common.{◌≡◌, ℕ, List, [], ◌∷◌, map, Option, Some, None, option_map, IfSome, refl, sym, ap, ◌∙◌}
use Rattle.std.specs.declared.cmp.Ordering.{Ordering}
use Rattle.std.specs.declared.cmp.Ordering.TheVariants.{Less, Equal, Greater}
use Rattle.judge_core.specs.declared.judgement.Judgement.{Judgement}
use Rattle.judge_core.specs.declared.outcomes.Outcomes.{Outcomes}
use Rattle.named_rows.specs.ByName.{names_cmp, at, put_row, put_rows}
use Rattle.named_rows.proofs.Names.{same_itself, same_name}
use Rattle.named_rows.proofs.Lookups.{at_put, at_put_other, at_with_row, at_with_row_other}
use Rattle.named_rows.proofs.Order.{at_take}
use Rattle.keep_core.specs.declared.site.Site.{Site}
use Rattle.keep_core.specs.declared.page.PagePut.{PagePut}
use Rattle.keep_core.specs.declared.page.PageOutcomes.{PageOutcomes}
use Rattle.keep_core.specs.declared.tables.KeptPage.{KeptPage}
use Rattle.keep_core.specs.declared.tables.KeptSite.{KeptSite}
use Rattle.keep_core.specs.declared.change.Change.{Change}
use Rattle.keep_core.specs.declared.change.Change.TheVariants.{PutSite, PutPages, DropPage, AddJudgements, PutLanguages, Refresh, SetEdition}
use Rattle.keep_core.specs.declared.tables.Tables.{Tables}
use Rattle.keep_core.specs.Tables.{site_name, page_name, kept_site, pages_in, pages_of, kept_page, judgements_in, judgements_of}
use Rattle.keep_core.specs.Changes.{put_over, with_pages, without_page, with_judgements, with_judged, refreshed, with_languages, changed, site_changed}
use Rattle.keep_core.specs.Fits.{FitsKept, FitTables}
use Rattle.keep_core.proofs.Fitting.{site_kept_fits}

pub others_stay : (change : Change) (tables : Tables) (site : List ℕ) → (Some site ≡ site_changed change → ⊥) → kept_site site (changed change tables) ≡ kept_site site tables
others_stay (PutSite row) tables site other = at_put_other site_name site (record { site = row; pages = pages_of row.name tables }) tables.sites (λ e. other (ap Some e))
others_stay (PutPages name counter pages) tables site other =
    at_with_row_other site_name name (with_pages counter pages) (λ _ _. refl) site tables.sites (λ e. other (ap Some e))
others_stay (DropPage name page) tables site other =
    at_with_row_other site_name name (without_page page) (λ _ _. refl) site tables.sites (λ e. other (ap Some e))
others_stay (AddJudgements name page js outcomes) tables site other =
    at_with_row_other site_name name (with_judged page js outcomes) (λ _ _. refl) site tables.sites (λ e. other (ap Some e))
others_stay (PutLanguages name languages new) tables site other =
    at_with_row_other site_name name (with_languages languages new) (λ _ _. refl) site tables.sites (λ e. other (ap Some e))
others_stay (Refresh name new) tables site other =
    at_with_row_other site_name name (refreshed new) (λ _ _. refl) site tables.sites (λ e. other (ap Some e))
others_stay (SetEdition number) tables site other = refl

pub site_put : (site : Site) (tables : Tables) → kept_site site.name (changed (PutSite site) tables) ≡ Some (record { site = site; pages = pages_of site.name tables })
site_put site tables = at_put site_name (record { site = site; pages = pages_of site.name tables }) tables.sites

-- ---- pages that are put

-- rows have the judgements that others have of each page
abbrev HaveSame : List KeptPage → List KeptPage → Type 0
HaveSame rows kept = (page : List ℕ) → judgements_in (at page_name page rows) ≡ judgements_in (at page_name page kept)

same_with : (put : PagePut) (kept rows : List KeptPage) (page : List ℕ) (o : Ordering) → names_cmp page put.page.head.page ≡ o → HaveSame rows kept
    → judgements_in (at page_name page (put_row page_name (put_over kept put) rows)) ≡ judgements_in (at page_name page kept)
same_with put kept rows page Less is same =
    ap judgements_in (at_put_other page_name page (put_over kept put) rows (λ e. let tied = ap (names_cmp page) (sym e) ∙ same_itself page in cc)) ∙ same page
same_with put kept rows page Equal is same =
    let named : page ≡ put.page.head.page = same_name page put.page.head.page is in
    ap (λ n. judgements_in (at page_name n (put_row page_name (put_over kept put) rows))) named
    ∙ ap judgements_in (at_put page_name (put_over kept put) rows) ∙ ap (λ n. judgements_in (at page_name n kept)) (sym named)
same_with put kept rows page Greater is same =
    ap judgements_in (at_put_other page_name page (put_over kept put) rows (λ e. let tied = ap (names_cmp page) (sym e) ∙ same_itself page in cc)) ∙ same page

same_after : (puts : List PagePut) (kept rows : List KeptPage) → HaveSame rows kept
    → (page : List ℕ) → judgements_in (at page_name page (put_rows page_name (map (put_over kept) puts) rows)) ≡ judgements_in (at page_name page kept)
same_after [] kept rows same page = same page
same_after (put ∷ puts) kept rows same page =
    same_after puts kept (put_row page_name (put_over kept put) rows) (λ n. same_with put kept rows n (names_cmp n put.page.head.page) refl same) page

stay_in : (found : Option KeptSite) (counter : ℕ) (puts : List PagePut) (page : List ℕ)
    → judgements_in (at page_name page (pages_in (option_map (with_pages counter puts) found))) ≡ judgements_in (at page_name page (pages_in found))
stay_in None counter puts page = refl
stay_in (Some s) counter puts page = same_after puts s.pages s.pages (λ _. refl) page

pub judgements_stay : (site : List ℕ) (counter : ℕ) (puts : List PagePut) (tables : Tables) (page : List ℕ)
    → judgements_of site page (changed (PutPages site counter puts) tables) ≡ judgements_of site page tables
judgements_stay site counter puts tables page =
    ap (λ found. judgements_in (at page_name page (pages_in found))) (at_with_row site_name site (with_pages counter puts) (λ _ _. refl) tables.sites)
    ∙ stay_in (kept_site site tables) counter puts page

-- ---- a page that is dropped, and one that is judged

dropped_in : (found : Option KeptSite) (page : List ℕ) → IfSome found FitsKept → at page_name page (pages_in (option_map (without_page page) found)) ≡ None
dropped_in None page fits = refl
dropped_in (Some s) page fits = at_take page_name page s.pages fits.in_order

pub page_dropped : (site page : List ℕ) (tables : Tables) → FitTables tables → kept_page site page (changed (DropPage site page) tables) ≡ None
page_dropped site page tables fit =
    ap (λ found. at page_name page (pages_in found)) (at_with_row site_name site (without_page page) (λ _ _. refl) tables.sites)
    ∙ dropped_in (kept_site site tables) page (site_kept_fits tables site fit)

judged_in : (found : Option KeptSite) (page : List ℕ) (js : List Judgement) (outcomes : Outcomes)
    → at page_name page (pages_in (option_map (with_judged page js outcomes) found)) ≡ option_map (with_judgements js outcomes) (at page_name page (pages_in found))
judged_in None page js outcomes = refl
judged_in (Some s) page js outcomes = at_with_row page_name page (with_judgements js outcomes) (λ _ _. refl) s.pages

pub page_judged : (site page : List ℕ) (js : List Judgement) (outcomes : Outcomes) (tables : Tables)
    → kept_page site page (changed (AddJudgements site page js outcomes) tables) ≡ option_map (with_judgements js outcomes) (kept_page site page tables)
page_judged site page js outcomes tables =
    ap (λ found. at page_name page (pages_in found)) (at_with_row site_name site (with_judged page js outcomes) (λ _ _. refl) tables.sites)
    ∙ judged_in (kept_site site tables) page js outcomes

-- ---- new outcomes, with a list of languages and without

pub site_relisted : (site : List ℕ) (languages : List (List ℕ)) (new : List PageOutcomes) (tables : Tables)
    → kept_site site (changed (PutLanguages site languages new) tables) ≡ option_map (with_languages languages new) (kept_site site tables)
site_relisted site languages new tables = at_with_row site_name site (with_languages languages new) (λ _ _. refl) tables.sites

pub site_refreshed : (site : List ℕ) (new : List PageOutcomes) (tables : Tables)
    → kept_site site (changed (Refresh site new) tables) ≡ option_map (refreshed new) (kept_site site tables)
site_refreshed site new tables = at_with_row site_name site (refreshed new) (λ _ _. refl) tables.sites
