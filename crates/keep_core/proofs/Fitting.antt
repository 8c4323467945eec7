-- Tables that fit stay so by a change that fits, and what is read of them fits.
use Rattle.std.proofs.Common.{◌≡◌, ℕ, List, [], ◌∷◌, map, Option, Some, None, option_map, IfSome, OnOk, OnErr, Result, Ok, Err, IsTrue, refl, sym, subst}
use Rattle.std.specs.List.{All}
use Rattle.std.proofs.lemmas.List.Elements.{All-nil, All-cons, All-head, All-tail}
use Rattle.judge_core.specs.declared.judgement.Judgement.{Judgement}
use Rattle.judge_core.specs.declared.outcomes.Outcomes.{Outcomes}
use Rattle.snap_tree.specs.Langs.{AreLangs}
use Rattle.named_rows.specs.ByName.{with_row, IsInOrder}
use Rattle.named_rows.proofs.Lookups.{all_at, all_put, all_put_rows, all_take, all_with_row}
use Rattle.named_rows.proofs.Order.{IsBelow, in_order_cons, in_order_first, in_order_rest, in_order_none, in_order_put, in_order_put_rows, in_order_take, in_order_with_row}
use Rattle.keep_core.specs.declared.site.Site.{Site}
use Rattle.keep_core.specs.declared.page.PageHead.{PageHead}
use Rattle.keep_core.specs.declared.page.PagePut.{PagePut}
use Rattle.keep_core.specs.declared.page.PageOutcomes.{PageOutcomes}
use Rattle.keep_core.specs.declared.tables.KeptPage.{KeptPage}
use Rattle.keep_core.specs.declared.tables.KeptSite.{KeptSite}
use Rattle.keep_core.specs.declared.change.Change.{Change}
use Rattle.keep_core.specs.declared.change.Change.TheVariants.{PutSite, PutPages, DropPage, AddJudgements, PutLanguages, Refresh, SetEdition}
use Rattle.keep_core.specs.Names.{is_name}
use Rattle.keep_core.specs.declared.tables.Tables.{Tables}
use Rattle.keep_core.specs.Tables.{site_name, page_name, kept_site, pages_in, pages_of, kept_page, sites_of, site_of, page_of, heads_of}
use Rattle.keep_core.specs.Changes.{put_over, with_pages, without_page, with_judgements, with_judged, having, with_outcomes, refreshed, with_languages, changed_sites, changed}
use Rattle.keep_core.specs.Fits.{Fits, FitsSite, FitsHead, FitsPage, FitsHeads, FitNames, FitsPages, FitsKept, FitSites, FitTables}

-- what holds of each item's value holds of each value
all_mapped : {X Y : Type 0} (f : X → Y) (P : Y → Type 0) (xs : List X) → All (λ x. P (f x)) xs → All P (map f xs)
all_mapped f P [] all = All-nil P
all_mapped f P (x ∷ xs) all = All-cons P (f x) (map f xs) (All-head (λ y. P (f y)) x xs all) (all_mapped f P xs (All-tail (λ y. P (f y)) x xs all))

abbrev HasFitPage : KeptPage → Type 0
HasFitPage p = FitsPage p.page

abbrev head_name : PageHead → List ℕ
head_name h = h.page

-- ---- what is read

pub record FitPages (pages : List KeptPage) : Type 0 where
  pub each : All (λ (p : KeptPage). FitsPage p.page) pages
  pub in_order : IsInOrder page_name pages

fit_pages_in : (found : Option KeptSite) → IfSome found FitsKept → FitPages (pages_in found)
fit_pages_in None fits = record { each = All-nil HasFitPage; in_order = in_order_none page_name }
fit_pages_in (Some s) fits = record { each = fits.pages; in_order = fits.in_order }

pub site_kept_fits : (tables : Tables) (site : List ℕ) → FitTables tables → IfSome (kept_site site tables) FitsKept
site_kept_fits tables site fit = all_at site_name FitsKept site tables.sites fit.each

-- a site that is found fits
pub found_fits : (tables : Tables) (site : List ℕ) (s : KeptSite) → FitTables tables → Some s ≡ kept_site site tables → FitsKept s
found_fits tables site s fit found = subst (λ (o : Option KeptSite). IfSome o FitsKept) (sym found) (site_kept_fits tables site fit)

names_fit_in : (sites : List KeptSite) → All FitsKept sites → FitNames (map site_name sites)
names_fit_in [] all = All-nil (λ (n : List ℕ). IsTrue (is_name n))
names_fit_in (s ∷ ss) all =
    All-cons (λ (n : List ℕ). IsTrue (is_name n)) (site_name s) (map site_name ss) (All-head FitsKept s ss all).site.name
    (names_fit_in ss (All-tail FitsKept s ss all))

pub names_fit : (tables : Tables) → FitTables tables → FitNames (sites_of tables)
names_fit tables fit = names_fit_in tables.sites fit.each

pub fit_pages : (tables : Tables) (site : List ℕ) → FitTables tables → FitPages (pages_of site tables)
fit_pages tables site fit = fit_pages_in (kept_site site tables) (site_kept_fits tables site fit)

site_in : (found : Option KeptSite) → IfSome found FitsKept → IfSome (option_map (λ s. s.site) found) FitsSite
site_in None fits = tt
site_in (Some s) fits = fits.site

pub site_fits : (tables : Tables) (site : List ℕ) → FitTables tables → IfSome (site_of site tables) FitsSite
site_fits tables site fit = site_in (kept_site site tables) (site_kept_fits tables site fit)

page_in : (found : Option KeptPage) → IfSome found HasFitPage → IfSome (option_map (λ p. p.page) found) FitsPage
page_in None fits = tt
page_in (Some p) fits = fits

pub page_fits : (tables : Tables) (site page : List ℕ) → FitTables tables → IfSome (page_of site page tables) FitsPage
page_fits tables site page fit = page_in (kept_page site page tables) (all_at page_name HasFitPage page (pages_of site tables) (fit_pages tables site fit).each)

heads_in_order : (pages : List KeptPage) → IsInOrder page_name pages → IsInOrder head_name (map (λ p. p.page.head) pages)
heads_in_order [] order = in_order_none head_name
heads_in_order (p ∷ ps) order =
    let below = all_mapped (λ (q : KeptPage). q.page.head) (λ h. IsBelow head_name p.page.head h) ps (in_order_first page_name p ps order) in
    in_order_cons head_name p.page.head (map (λ q. q.page.head) ps) below (heads_in_order ps (in_order_rest page_name p ps order))

heads_fit_each : (pages : List KeptPage) → All HasFitPage pages → All FitsHead (map (λ p. p.page.head) pages)
heads_fit_each [] all = All-nil FitsHead
heads_fit_each (p ∷ ps) all = All-cons FitsHead p.page.head (map (λ q. q.page.head) ps) (All-head HasFitPage p ps all).head (heads_fit_each ps (All-tail HasFitPage p ps all))

pub heads_fit : (tables : Tables) (site : List ℕ) → FitTables tables → FitsHeads (heads_of site tables)
heads_fit tables site fit =
    let pages = fit_pages tables site fit in
    record { each = heads_fit_each (pages_of site tables) pages.each; in_order = heads_in_order (pages_of site tables) pages.in_order }

-- ---- changes

with_pages_fits : (counter : ℕ) (site : List ℕ) (puts : List PagePut) (s : KeptSite) → FitsPages site counter puts → FitsKept s → FitsKept (with_pages counter puts s)
with_pages_fits counter site puts s fits kept = record {
  site = record { name = kept.site.name; counter = fits.within; users = kept.site.users; in_order = kept.site.in_order; languages = kept.site.languages };
  pages = all_put_rows page_name HasFitPage (map (put_over s.pages) puts) s.pages (all_mapped (put_over s.pages) HasFitPage puts fits.each) kept.pages;
  in_order = in_order_put_rows page_name (map (put_over s.pages) puts) s.pages kept.in_order;
}

without_page_fits : (page : List ℕ) (s : KeptSite) → FitsKept s → FitsKept (without_page page s)
without_page_fits page s kept = record {
  site = kept.site;
  pages = all_take page_name HasFitPage page s.pages kept.pages;
  in_order = in_order_take page_name page s.pages kept.in_order;
}

with_judged_fits : (page : List ℕ) (js : List Judgement) (outcomes : Outcomes) (s : KeptSite) → FitsKept s → FitsKept (with_judged page js outcomes s)
with_judged_fits page js outcomes s kept = record {
  site = kept.site;
  pages = all_with_row page_name HasFitPage page (with_judgements js outcomes) s.pages (λ _ _ fits. fits) kept.pages;
  in_order = in_order_with_row page_name page (with_judgements js outcomes) (λ _ _. refl) s.pages kept.in_order;
}

-- new outcomes leave the pages, and their order
outcomes_fit : (new : List PageOutcomes) (pages : List KeptPage) → FitPages pages → FitPages (with_outcomes new pages)
outcomes_fit [] pages fit = fit
outcomes_fit (o ∷ new) pages fit =
    outcomes_fit new (with_row page_name o.page (having o.outcomes) pages) (record {
      each = all_with_row page_name HasFitPage o.page (having o.outcomes) pages (λ _ _ fits. fits) fit.each;
      in_order = in_order_with_row page_name o.page (having o.outcomes) (λ _ _. refl) pages fit.in_order;
    })

refreshed_fits : (new : List PageOutcomes) (s : KeptSite) → FitsKept s → FitsKept (refreshed new s)
refreshed_fits new s kept =
    let fit = outcomes_fit new s.pages (record { each = kept.pages; in_order = kept.in_order }) in
    record { site = kept.site; pages = fit.each; in_order = fit.in_order }

with_languages_fits : (languages : List (List ℕ)) (new : List PageOutcomes) (s : KeptSite) → AreLangs languages → FitsKept s → FitsKept (with_languages languages new s)
with_languages_fits languages new s form kept =
    let fit = outcomes_fit new s.pages (record { each = kept.pages; in_order = kept.in_order }) in
    record {
      site = record { name = kept.site.name; counter = kept.site.counter; users = kept.site.users; in_order = kept.site.in_order; languages = form };
      pages = fit.each;
      in_order = fit.in_order;
    }

-- a change of the site of a name that keeps its name, and what fits
with_site_fits : (site : List ℕ) (f : KeptSite → KeptSite) (sites : List KeptSite) → ((s : KeptSite) → site_name (f s) ≡ site_name s) → ((s : KeptSite) → FitsKept s → FitsKept (f s))
    → FitSites sites → FitSites (with_row site_name site f sites)
with_site_fits site f sites keeps fits fit = record {
  each = all_with_row site_name FitsKept site f sites (λ s _. fits s) fit.each;
  in_order = in_order_with_row site_name site f (λ s _. keeps s) sites fit.in_order;
}

put_site_fits : (site : Site) (tables : Tables) → FitsSite site → FitTables tables → FitTables (changed (PutSite site) tables)
put_site_fits site tables fits fit =
    let pages = fit_pages tables site.name fit in
    let row : KeptSite = record { site = site; pages = pages_of site.name tables } in
    record {
      each = all_put site_name FitsKept row tables.sites (record { site = fits; pages = pages.each; in_order = pages.in_order }) fit.each;
      in_order = in_order_put site_name row tables.sites fit.in_order;
    }

pub changed_fits : (change : Change) (tables : Tables) → Fits change → FitTables tables → FitTables (changed change tables)
changed_fits (PutSite site) tables fits fit = put_site_fits site tables fits fit
changed_fits (PutPages site counter pages) tables fits fit =
    with_site_fits site (with_pages counter pages) tables.sites (λ _. refl) (λ s kept. with_pages_fits counter site pages s fits kept) fit
changed_fits (DropPage site page) tables fits fit = with_site_fits site (without_page page) tables.sites (λ _. refl) (without_page_fits page) fit
changed_fits (AddJudgements site page js outcomes) tables fits fit =
    with_site_fits site (with_judged page js outcomes) tables.sites (λ _. refl) (with_judged_fits page js outcomes) fit
changed_fits (PutLanguages site languages new) tables fits fit =
    with_site_fits site (with_languages languages new) tables.sites (λ _. refl) (λ s. with_languages_fits languages new s fits.0) fit
changed_fits (Refresh site new) tables fits fit = with_site_fits site (refreshed new) tables.sites (λ _. refl) (refreshed_fits new) fit
changed_fits (SetEdition number) tables fits fit = fit

-- tables fit after a change was made, or was not
pub fit_after : {A E : Type 0} (r : Result A E) (change : Change) (old new : Tables) → Fits change → FitTables old → OnOk r (new ≡ changed change old) → OnErr r (new ≡ old) → FitTables new
fit_after (Ok a) change old new fits fit made kept = subst FitTables (sym made) (changed_fits change old fits fit)
fit_after (Err e) change old new fits fit made kept = subst FitTables (sym kept) fit
