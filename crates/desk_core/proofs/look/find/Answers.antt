use Rattle.std.proofs.Common.{◌≡◌, ℕ, List, ap, Option, Some, Result, Ok, Err, IfSome, sym, subst, ◌∙◌, refl}
use Rattle.keep_core.specs.declared.site.Site.{Site}
use Rattle.desk_core.specs.declared.refusal.Refusal.{Refusal}
use Rattle.desk_core.specs.declared.refusal.Refusal.TheVariants.{NoPage}
use Rattle.desk_core.specs.State.{PageState}
use Rattle.keep_core.specs.declared.tables.Tables.{Tables}
use Rattle.keep_core.specs.Tables.{site_of}
use Rattle.desk_core.specs.Serving.{FitsListed, page_with, page_in}
use Rattle.desk_core.proofs.Ways.{followed, languages_are}
use Rattle.desk_core.proofs.Onward.{thence, only_read}
use Rattle.desk_core.proofs.look.find.Goals as goal

fitting : (found : Option PageState) (p : PageState) → found ≡ Some p → IfSome found (λ q. FitsListed q.page) → FitsListed p.page
fitting found p is fits = let P : Option PageState → Type 0 = λ o. IfSome o (λ q. FitsListed q.page) in subst P is fits

-- the page of a site whose row was read has the languages of that row
page_by : (site page : List ℕ) (t : Tables) (s : Site) → site_of site t ≡ Some s → page_in site page t ≡ page_with s.languages site page t
page_by site page t s is = ap (λ langs. page_with langs site page t) (languages_are site t s is)

pub returns-in-Some : goal.returns-in-Some
returns-in-Some g c =
    let there : Result (Option PageState) Refusal = Ok c.in_ok-found.field-0 in
    let both : Result (Site × PageState) Refusal = Ok (c.in_ok-kept.kept, c.in-Some.found) in
    record {
      reads = only_read _ _ there both (λ e. cc) (thence _ _ _ _ _ c.in_ok-kept.ensures.reads c.in_ok-found.ensures.reads);
      fits = (c.in_ok-kept.ensures.fits, fitting c.in_ok-found.field-0 c.in-Some.found c.in-Some.is c.in_ok-found.ensures.fits);
      found = λ t told.
          let is = c.in_ok-kept.ensures.found t (c.in_ok-found.ensures.reads.stays t told) in
          (is, page_by c.args.site.now c.args.page.now t c.in_ok-kept.kept is.kept ∙ sym (c.in_ok-found.ensures.found t told) ∙ c.in-Some.is);
      refused = tt;
    }

pub returns-in-None : goal.returns-in-None
returns-in-None g c =
    let there : Result (Option PageState) Refusal = Ok c.in_ok-found.field-0 in
    let missing : Result (Site × PageState) Refusal = Err NoPage in
    record {
      reads = only_read _ _ there missing (λ e. cc) (thence _ _ _ _ _ c.in_ok-kept.ensures.reads c.in_ok-found.ensures.reads);
      fits = tt;
      found = tt;
      refused =
          λ t told next.
          let is = c.in_ok-kept.ensures.found t (c.in_ok-found.ensures.reads.stays t told) in
          followed _ _ _ _ t _ _ next _ is (page_by c.args.site.now c.args.page.now t c.in_ok-kept.kept is.kept ∙ sym (c.in_ok-found.ensures.found t told) ∙ c.in-None.is) (λ k kept same. refl);
    }
