-- What follows from what is read of the tables: of a site's row, and of a page.
use Rattle.std.proofs.Common.{◌≡◌, ℕ, List, true, false, Option, Some, None, option_map, Err, refl, sym, ap, subst, ◌∙◌}
use Rattle.named_rows.specs.ByName.{at}
use Rattle.judge_core.specs.declared.judgement.Judgement.{Judgement}
use Rattle.keep_core.specs.declared.site.Site.{Site}
use Rattle.keep_core.specs.declared.page.Page.{Page}
use Rattle.keep_core.specs.declared.tables.KeptPage.{KeptPage}
use Rattle.keep_core.specs.declared.tables.KeptSite.{KeptSite}
use Rattle.keep_core.specs.declared.tables.Tables.{Tables}
use Rattle.keep_core.specs.Tables.{kept_site, kept_page, pages_in, pages_of, languages_in, site_of, page_of, judgements_of, judgements_in}
use Rattle.keep_core.specs.Tables as kept
use Rattle.keep_core.specs.Fits.{FitsPage}
use Rattle.desk_core.specs.declared.refusal.Needed.{Needed}
use Rattle.desk_core.specs.declared.refusal.Refusal.TheVariants.{NoSite, NotAllowed, NoPage}
use Rattle.desk_core.specs.Refusals.{Decision, unless, on}
use Rattle.desk_core.specs.State.{PageState, SiteState, listed, site_state, state_of, site_at, page_at}
use Rattle.desk_core.specs.Rights.{may, role_of, entering, on_page}
use Rattle.desk_core.specs.Serving.{IsIn, FitsListed, page_in}
use Rattle.desk_core.proofs.Views.{state_page, site_seen, page_seen}

no_site_by : (leave : Needed) (caller : List ℕ) (o : Option KeptSite) (next : SiteState → Decision) → option_map (λ (k : KeptSite). k.site) o ≡ None
    → entering leave caller (option_map site_state o) next ≡ Err NoSite
no_site_by leave caller None next is = refl
no_site_by leave caller (Some k) next is = cc

-- a site that isn't kept isn't entered
pub no_site : (leave : Needed) (caller name : List ℕ) (t : Tables) (next : SiteState → Decision) → site_of name t ≡ None
    → entering leave caller (site_at name (state_of t)) next ≡ Err NoSite
no_site leave caller name t next is = ap (λ o. entering leave caller o next) (site_seen name t) ∙ no_site_by leave caller (kept_site name t) next is

some_inside : {X : Type 0} (x y : X) → Some x ≡ Some y → x ≡ y
some_inside x y e = cc

not_allowed_by : (leave : Needed) (caller : List ℕ) (o : Option KeptSite) (site : Site) (next : SiteState → Decision) → option_map (λ (k : KeptSite). k.site) o ≡ Some site
    → may leave (role_of caller site.members) ≡ false → entering leave caller (option_map site_state o) next ≡ Err (NotAllowed leave)
not_allowed_by leave caller None site next is isnt = cc
not_allowed_by leave caller (Some k) site next is isnt =
    let same : k.site ≡ site = some_inside k.site site is in
    ap (λ (s : Site). unless (may leave (role_of caller s.members)) (NotAllowed leave) (next (site_state k))) same
    ∙ ap (λ b. unless b (NotAllowed leave) (next (site_state k))) isnt

-- nor one in which the caller hasn't the leave
pub not_allowed : (leave : Needed) (caller name : List ℕ) (t : Tables) (site : Site) (next : SiteState → Decision) → site_of name t ≡ Some site
    → may leave (role_of caller site.members) ≡ false → entering leave caller (site_at name (state_of t)) next ≡ Err (NotAllowed leave)
not_allowed leave caller name t site next is isnt =
    ap (λ o. entering leave caller o next) (site_seen name t) ∙ not_allowed_by leave caller (kept_site name t) site next is isnt

entered_by : (leave : Needed) (caller : List ℕ) (o : Option KeptSite) (site : Site) (next : SiteState → Decision) (decision : Decision)
    → option_map (λ (k : KeptSite). k.site) o ≡ Some site → may leave (role_of caller site.members) ≡ true
    → ((k : KeptSite) → o ≡ Some k → k.site ≡ site → next (site_state k) ≡ decision)
    → entering leave caller (option_map site_state o) next ≡ decision
entered_by leave caller None site next decision is holds follows = cc
entered_by leave caller (Some k) site next decision is holds follows =
    let same : k.site ≡ site = some_inside k.site site is in
    ap (λ (s : Site). unless (may leave (role_of caller s.members)) (NotAllowed leave) (next (site_state k))) same
    ∙ (ap (λ b. unless b (NotAllowed leave) (next (site_state k))) holds ∙ follows k refl same)

-- what follows in a site that is entered is what is decided
pub entered : (leave : Needed) (caller name : List ℕ) (t : Tables) (site : Site) (next : SiteState → Decision) (decision : Decision)
    → IsIn leave caller name site t
    → ((k : KeptSite) → kept_site name t ≡ Some k → k.site ≡ site → next (site_state k) ≡ decision)
    → entering leave caller (site_at name (state_of t)) next ≡ decision
entered leave caller name t site next decision is follows =
    ap (λ o. entering leave caller o next) (site_seen name t)
    ∙ entered_by leave caller (kept_site name t) site next decision is.kept is.may_do follows

-- the pages of a site that is kept
pub pages_are : (name : List ℕ) (t : Tables) (k : KeptSite) → kept_site name t ≡ Some k → pages_of name t ≡ k.pages
pages_are name t k is = ap pages_in is

-- the state of a page is what is read of it
pub page_is : (name page : List ℕ) (t : Tables) (k : KeptSite) → kept_site name t ≡ Some k → page_at page (site_state k).pages ≡ page_in name page t
page_is name page t k is =
    page_seen k.site.languages page k.pages
    ∙ sym (ap (λ (o : Option KeptSite). option_map (state_page (languages_in o)) (at kept.page_name page (pages_in o))) is)

-- what follows on a page of a site that is entered is what is decided
pub followed : (leave : Needed) (caller name page : List ℕ) (t : Tables) (site : Site) (found : Option PageState) (next : SiteState → PageState → Decision) (decision : Decision)
    → IsIn leave caller name site t → page_in name page t ≡ found
    → ((k : KeptSite) → kept_site name t ≡ Some k → k.site ≡ site → on found NoPage (next (site_state k)) ≡ decision)
    → entering leave caller (site_at name (state_of t)) (λ s. on_page page s (next s)) ≡ decision
followed leave caller name page t site found next decision is there follows =
    entered leave caller name t site (λ s. on_page page s (next s)) decision is
    (λ k kept same. ap (λ o. on o NoPage (next (site_state k))) (page_is name page t k kept ∙ there) ∙ follows k kept same)

-- a page that is kept is a state's, with these languages and with its judgements
pub held : (langs : List (List ℕ)) (o : Option KeptPage) (p : Page) → option_map (λ (k : KeptPage). k.page) o ≡ Some p
    → (js : List Judgement) × (option_map (state_page langs) o ≡ Some (record { page = listed langs p; judgements = js }))
held langs None p is = cc
held langs (Some k) p is =
    (k.judgements, ap (λ (q : Page). let s : PageState = record { page = listed langs q; judgements = k.judgements } in Some s) (some_inside k.page p is))

pub not_held : (langs : List (List ℕ)) (o : Option KeptPage) → option_map (λ (k : KeptPage). k.page) o ≡ None → option_map (state_page langs) o ≡ None
not_held langs None is = refl
not_held langs (Some k) is = cc

-- the languages of a site whose row was read
pub languages_are : (name : List ℕ) (t : Tables) (site : Site) → site_of name t ≡ Some site → languages_in (kept_site name t) ≡ site.languages
languages_are name t site is = by_row (kept_site name t) is
  where
    by_row : (o : Option KeptSite) → option_map (λ (k : KeptSite). k.site) o ≡ Some site → languages_in o ≡ site.languages
    by_row None is = cc
    by_row (Some k) is = ap (λ (s : Site). s.languages) (some_inside k.site site is)

-- a page that was read, with its judgements and with the languages of its site, is a state's
pub looked : (langs : List (List ℕ)) (o : Option KeptPage) (p q : Page) (js : List Judgement) → option_map (λ (k : KeptPage). k.page) o ≡ Some p → judgements_in o ≡ js → q ≡ listed langs p
    → option_map (state_page langs) o ≡ Some (record { page = q; judgements = js })
looked langs None p q js is has same = cc
looked langs (Some k) p q js is has same =
    ap (λ (r : Page). Some (let s : PageState = record { page = listed langs r; judgements = k.judgements } in s)) (some_inside k.page p is)
    ∙ ap (λ (l : List Judgement). Some (let s : PageState = record { page = listed langs p; judgements = l } in s)) has
    ∙ ap (λ (r : Page). Some (let s : PageState = record { page = r; judgements = js } in s)) (sym same)

-- and it fits as it is kept
pub listed_fits : (langs : List (List ℕ)) (p q : Page) → FitsPage p → q ≡ listed langs p → FitsListed q
listed_fits langs p q fits same = let P : Page → Type 0 = FitsListed in subst P (sym same) (record { head = fits.head; address = fits.address; no_langs = refl })
