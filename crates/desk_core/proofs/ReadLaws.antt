-- What is decided on reading a page: what is shown of it is true where the tables are sound.
use Rattle.std.proofs.Common.{◌≡◌, ℕ, List, Option, Some, None, option_map, Result, Ok, Err, IfSome, inl, refl, sym, ap, subst, ◌∙◌}
use Rattle.rule_core.specs.Books.{Book}
use Rattle.named_rows.specs.ByName.{at}
use Rattle.named_rows.proofs.Lookups.{all_at}
use Rattle.judge_core.specs.declared.outcomes.Outcomes.{Outcomes}
use Rattle.judge_core.specs.declared.outcomes.OutRow.{OutRow}
use Rattle.judge_core.specs.Outcomes.{outcomes}
use Rattle.keep_core.specs.declared.site.Site.{Site}
use Rattle.keep_core.specs.declared.page.SitePage.{SitePage}
use Rattle.keep_core.specs.declared.tables.KeptPage.{KeptPage}
use Rattle.keep_core.specs.declared.tables.KeptSite.{KeptSite}
use Rattle.keep_core.specs.declared.tables.Tables.{Tables}
use Rattle.keep_core.specs.Tables.{site_name, page_name, kept_site, kept_page, pages_in, languages_in, languages_of, outcomes_of, outcomes_in}
use Rattle.keep_core.specs.Fits.{Fits, IsThere}
use Rattle.desk_core.specs.declared.decided.Decided.{Decided}
use Rattle.desk_core.specs.declared.reply.Reply.{Reply}
use Rattle.desk_core.specs.declared.refusal.Needed.TheVariants.{Reader}
use Rattle.desk_core.specs.declared.refusal.Refusal.{Refusal}
use Rattle.desk_core.specs.State.{PageState, kept_listed, page_state, state_of, site_at}
use Rattle.desk_core.specs.declared.reads.PageForm.{PageForm}
use Rattle.desk_core.specs.declared.reads.PageForm.TheVariants as showing
use Rattle.desk_core.specs.Reading.{answered, site_page, asked_as, shown_as}
use Rattle.desk_core.specs.Steps.{Request, read_page, decided}
use Rattle.desk_core.specs.Soundness.{IsSound, IsSoundSite, IsSoundPage}
use Rattle.desk_core.specs.Told.{Told}
use Rattle.desk_core.specs.Serving.{Stands, IsAccepted, KeepsEdition, IsIn, IsTrueTo, ReadsPage, Decides, page_in}
use Rattle.desk_core.proofs.Views.{state_page}
use Rattle.desk_core.proofs.Ways.{followed}
use Rattle.desk_core.proofs.Onward.{only_read, read_as}

if_some : {X : Type 0} (P Q : X → Type 0) (o : Option X) → ((x : X) → P x → Q x) → IfSome o P → IfSome o Q
if_some P Q None follows holds = tt
if_some P Q (Some x) follows holds = follows x holds

true_in : (book : Book) (page : List ℕ) (o : Option KeptSite) → IfSome o (IsSoundSite book) → IfSome (at page_name page (pages_in o)) (λ p. IsTrueTo book (kept_listed (languages_in o) p))
true_in book page None sound = tt
true_in book page (Some s) sound =
    if_some (IsSoundPage book s.site.languages) (λ p. IsTrueTo book (kept_listed s.site.languages p)) (at page_name page s.pages) (λ p is. is.told)
    (all_at page_name (IsSoundPage book s.site.languages) page s.pages sound.pages)

-- what is kept of a page is true in sound tables
pub page_is_true : (book : Book) (t : Tables) → IsSound book t → (site page : List ℕ) → IfSome (kept_page site page t) (λ p. IsTrueTo book (kept_listed (languages_of site t) p))
page_is_true book t sound site page = true_in book page (kept_site site t) (all_at site_name (IsSoundSite book) site t.sites sound.sites)

true_by : (book : Book) (langs : List (List ℕ)) (o : Option KeptPage) (kept : KeptPage) → IfSome o (λ p. IsTrueTo book (kept_listed langs p)) → option_map (state_page langs) o ≡ Some (page_state kept) → outcomes_in o ≡ kept.outcomes → IsTrueTo book kept
true_by book langs None kept holds is has = cc
true_by book langs (Some k) kept holds is has =
    let same : state_page langs k ≡ page_state kept = cc in
    sym (ap (λ (o : Outcomes). o.rows) has) ∙ (holds ∙ ap (λ (s : PageState). outcomes book s.page.tree s.judgements) same)

-- and so is what was read of one
pub found_is_true : (book : Book) (t : Tables) → IsSound book t → (site page : List ℕ) (kept : KeptPage) → page_in site page t ≡ Some (page_state kept) → outcomes_of site page t ≡ kept.outcomes → IsTrueTo book kept
found_is_true book t sound site page kept is has = true_by book (languages_of site t) (kept_page site page t) kept (page_is_true book t sound site page) is has

-- what is shown of a page that is true to its outcomes
pub shown_is : (book : Book) (kept : KeptPage) (shown : SitePage) → shown ≡ record { head = kept.page.head; address = kept.page.tree.address; outcomes = kept.outcomes } → IsTrueTo book kept
    → site_page book (page_state kept) ≡ shown
shown_is book kept shown is holds =
    ap (λ (rows : List OutRow). let p : SitePage = record { head = kept.page.head; address = kept.page.tree.address; outcomes = record { rows = rows } } in p) (sym holds) ∙ sym is

pub read_shows : (book : Book) (caller site page : List ℕ) (t : Tables) (s : Site) (kept : KeptPage) (shown : SitePage) → IsSound book t → IsIn Reader caller site s t
    → page_in site page t ≡ Some (page_state kept) → outcomes_of site page t ≡ kept.outcomes
    → shown ≡ record { head = kept.page.head; address = kept.page.tree.address; outcomes = kept.outcomes }
    → (reply : SitePage → Reply) → read_page caller page (site_at site (state_of t)) (λ p. reply (site_page book p)) ≡ answered (reply shown)
read_shows book caller site page t s kept shown sound is there has same reply =
    followed Reader caller site page t s (Some (page_state kept)) (λ _ p. answered (reply (site_page book p))) (answered (reply shown)) is there
    (λ k at_site same_site. ap (λ (p : SitePage). answered (reply p)) (shown_is book kept shown same (found_is_true book t sound site page kept there has)))

-- what is asked is decided by what is shown, which is no refusal
asked : (book : Book) (caller site page : List ℕ) (way : PageForm) (t : Tables)
    → decided book (record { caller = caller; command = asked_as way site page }) (state_of t) ≡ read_page caller page (site_at site (state_of t)) (λ p. shown_as way (site_page book p))
asked book caller site page showing.Outcomes t = refl
asked book caller site page showing.Report t = refl
asked book caller site page showing.Earl t = refl

shown_accepted : (way : PageForm) (shown : SitePage) → IsAccepted (shown_as way shown)
shown_accepted showing.Outcomes shown = tt
shown_accepted showing.Report shown = tt
shown_accepted showing.Earl shown = tt

module _ (book : Book) (caller site page : List ℕ) (way : PageForm) where
  abbrev request : Request
  request = record { caller = caller; command = asked_as way site page }

  pub decides_read : (old new : Told) (shown : SitePage) (d : Decided) → d ≡ record { change = None; reply = shown_as way shown }
      → ReadsPage book caller site page old new (Ok shown) → Decides book request old new (Ok d)
  decides_read old new shown d same reads = record {
    reads = only_read old new (let r : Result SitePage Refusal = Ok shown in r) (let r : Result Decided Refusal = Ok d in r) (λ e. cc) reads.reads;
    agrees = λ t told sound. asked book caller site page way t ∙ (reads.shows t told sound (shown_as way) ∙ ap Ok (sym same));
    fits = let P : Decided → Type 0 = λ e. IfSome e.change Fits in subst P (sym same) tt;
    there = let P : Decided → Type 0 = λ e. IfSome e.change (λ change. IfSome new.tables (IsThere change)) in subst P (sym same) tt;
    accepted = let P : Decided → Type 0 = λ e. IsAccepted e.reply in subst P (sym same) (shown_accepted way shown);
    edition = let P : Decided → Type 0 = λ e. IfSome e.change KeepsEdition in subst P (sym same) tt;
    firm = inl (ap (λ (e : Decided). e.change) same);
  }

  pub decides_not_read : (old new : Told) (r : Refusal) → ReadsPage book caller site page old new (Err r)
      → Decides book request old new (Err r)
  decides_not_read old new r reads = record {
    reads = read_as old new r reads.reads;
    agrees = λ t told sound. subst (Stands (Unit {0}) r) (sym (asked book caller site page way t)) (reads.shows t told sound (shown_as way));
    fits = tt;
    there = tt;
    accepted = tt;
    edition = tt;
    firm = tt;
  }
