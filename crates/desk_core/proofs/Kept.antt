-- What is decided in the state that tables give: the site and the page are those that the tables keep.
use Rattle.std.proofs.Common.{◌≡◌, ℕ, List, length, true, Option, Some, None, option_map, IfSome, IsSome, refl, sym, ap, ◌∙◌, subst}
use Rattle.rule_core.specs.Books.{Book}
use Rattle.named_rows.specs.ByName.{at}
use Rattle.keep_core.specs.declared.change.Change.{Change}
use Rattle.keep_core.specs.declared.tables.KeptPage.{KeptPage}
use Rattle.keep_core.specs.declared.tables.KeptSite.{KeptSite}
use Rattle.keep_core.specs.declared.tables.Tables.{Tables}
use Rattle.keep_core.specs.Tables.{kept_site, kept_page, pages_in}
use Rattle.keep_core.specs.Tables as kept
use Rattle.keep_core.specs.Fits.{IsThere}
use Rattle.desk_core.specs.declared.command.Command.{Command}
use Rattle.desk_core.specs.declared.command.Command.TheVariants as command
use Rattle.desk_core.specs.declared.refusal.Needed.{Needed}
use Rattle.desk_core.specs.declared.refusal.Needed.TheVariants as needed
use Rattle.desk_core.specs.declared.refusal.Refusal.TheVariants as refusal
use Rattle.desk_core.specs.declared.reply.Reply.{Reply}
use Rattle.desk_core.specs.Refusals.{Decision, on}
use Rattle.desk_core.specs.State.{PageState, SiteState, site_state, state_of, page_at, site_at}
use Rattle.desk_core.specs.Rights.{may, role_of, entering, on_page}
use Rattle.desk_core.specs.Members.{put_site}
use Rattle.desk_core.specs.Pages.{revision_in, judged, edit_page, drop_page}
use Rattle.desk_core.specs.Judging.{judge}
use Rattle.desk_core.specs.Claiming.{take_earl}
use Rattle.desk_core.specs.Reading.{answered}
use Rattle.desk_core.specs.Steps.{Request, site_of, read_page, read_site, decision, decided}
use Rattle.desk_core.specs.Memberships.{memberships}
use Rattle.desk_core.proofs.Views.{state_page, state_pages, page_seen, site_seen}
use Rattle.desk_core.proofs.Deciding.{Brings, unless_brings, put_member_brings, put_languages_brings, put_page_brings, edit_page_brings, drop_page_brings, import_brings, judge_brings, take_earl_brings}

module _ (P : Option Change → Type 0) (t : Tables) where
  entering_by : (leave : Needed) (caller : List ℕ) (o : Option KeptSite) (next : SiteState → Decision)
      → ((k : KeptSite) → o ≡ Some k → may leave (role_of caller k.site.members) ≡ true → Brings P (next (site_state k)))
      → Brings P (entering leave caller (option_map site_state o) next)
  entering_by leave caller None next brings = tt
  entering_by leave caller (Some k) next brings =
      unless_brings P (may leave (role_of caller k.site.members)) (refusal.NotAllowed leave) (next (site_state k)) (brings k refl)

  pub entering_kept : (leave : Needed) (caller site : List ℕ) (next : SiteState → Decision)
      → ((k : KeptSite) → kept_site site t ≡ Some k → may leave (role_of caller k.site.members) ≡ true → Brings P (next (site_state k)))
      → Brings P (entering leave caller (site_at site (state_of t)) next)
  entering_kept leave caller site next brings =
      subst (λ o. Brings P (entering leave caller o next)) (sym (site_seen site t)) (entering_by leave caller (kept_site site t) next brings)

  on_page_by : (langs : List (List ℕ)) (o : Option KeptPage) (next : PageState → Decision) → ((p : KeptPage) → o ≡ Some p → Brings P (next (state_page langs p)))
      → Brings P (on (option_map (state_page langs) o) refusal.NoPage next)
  on_page_by langs None next brings = tt
  on_page_by langs (Some p) next brings = brings p refl

  pub on_page_kept : (page : List ℕ) (k : KeptSite) (next : PageState → Decision) → ((p : KeptPage) → at kept.page_name page k.pages ≡ Some p → Brings P (next (state_page k.site.languages p)))
      → Brings P (on_page page (site_state k) next)
  on_page_kept page k next brings =
      subst (λ o. Brings P (on o refusal.NoPage next)) (sym (page_seen k.site.languages page k.pages)) (on_page_by k.site.languages (at kept.page_name page k.pages) next brings)

  pub new_site_kept : (site caller : List ℕ) → (kept_site site t ≡ None → Brings P (put_site site caller None)) → Brings P (put_site site caller (site_at site (state_of t)))
  new_site_kept site caller brings = subst (λ o. Brings P (put_site site caller o)) (sym (site_seen site t)) (by_site (kept_site site t) brings)
    where
      by_site : (o : Option KeptSite) → (o ≡ None → Brings P (put_site site caller None)) → Brings P (put_site site caller (option_map site_state o))
      by_site None h = h refl
      by_site (Some k) h = tt

  pub page_read : (caller site page : List ℕ) (reply : PageState → Reply) → P None → Brings P (read_page caller page (site_at site (state_of t)) reply)
  page_read caller site page reply none =
      entering_kept needed.Reader caller site (λ s. on_page page s (λ p. answered (reply p))) (λ k _ _. on_page_kept page k (λ p. answered (reply p)) (λ _ _. none))

  pub site_read : (caller site : List ℕ) (reply : SiteState → Reply) → P None → Brings P (read_site caller (site_at site (state_of t)) reply)
  site_read caller site reply none = entering_kept needed.Reader caller site (λ s. answered (reply s)) (λ _ _ _. none)

-- ---- what a decided change is made of is kept

abbrev pub IfAnyIsThere : Tables → Option Change → Type 0
IfAnyIsThere t change = IfSome change (λ c. IsThere c t)

module _ (t : Tables) where
  site_there : (site : List ℕ) (k : KeptSite) → kept_site site t ≡ Some k → IsSome (kept_site site t)
  site_there site k is = subst (λ (o : Option KeptSite). IsSome o) (sym is) refl

  page_there : (site page : List ℕ) (k : KeptSite) (p : KeptPage) → kept_site site t ≡ Some k → at kept.page_name page k.pages ≡ Some p → IsSome (kept_page site page t)
  page_there site page k p is found = subst (λ (o : Option KeptPage). IsSome o) (sym (ap (λ s. at kept.page_name page (pages_in s)) is ∙ found)) refl

  there_by : (book : Book) (caller : List ℕ) (c : Command) → Brings (IfAnyIsThere t) (decision book caller c (site_at (site_of c) (state_of t)) (memberships caller (state_of t)))
  there_by book caller (command.PutSite site) = new_site_kept (IfAnyIsThere t) t site caller (λ _. tt)
  there_by book caller (command.PutMember site user held) =
      entering_kept (IfAnyIsThere t) t needed.Owner caller site _ (λ k is may. put_member_brings (IfAnyIsThere t) site caller user held k.site (λ _. tt))
  there_by book caller (command.PutLanguages site langs) =
      entering_kept (IfAnyIsThere t) t needed.Owner caller site _ (λ k is may. put_languages_brings (IfAnyIsThere t) book site langs (site_state k) (site_there site k is))
  there_by book caller (command.PutPage site page rev raw) =
      entering_kept (IfAnyIsThere t) t needed.Editor caller site _ (λ k is may.
      put_page_brings (IfAnyIsThere t) book site caller page rev raw k.site (revision_in (page_at page (state_pages k.site.languages k.pages))) (judged (page_at page (state_pages k.site.languages k.pages))) (length (state_pages k.site.languages k.pages)) (λ _ _ _ _. site_there site k is))
  there_by book caller (command.DropPage site page rev) =
      entering_kept (IfAnyIsThere t) t needed.Editor caller site _ (λ k is may.
      on_page_kept (IfAnyIsThere t) t page k (λ (q : PageState). drop_page site page rev q.page) (λ p found. drop_page_brings (IfAnyIsThere t) site page rev p.page (λ _. tt)))
  there_by book caller (command.Import site entries) =
      entering_kept (IfAnyIsThere t) t needed.Editor caller site _ (λ k is may.
      import_brings (IfAnyIsThere t) book site caller entries (site_state k) (λ _ _ _ _. site_there site k is))
  there_by book caller (command.EditPage site page rev edits) =
      entering_kept (IfAnyIsThere t) t needed.Editor caller site _ (λ k is may.
      on_page_kept (IfAnyIsThere t) t page k (edit_page book site caller page rev edits k.site) (λ p found.
      edit_page_brings (IfAnyIsThere t) book site caller page rev edits k.site (state_page k.site.languages p) (λ _ _ _ _. site_there site k is)))
  there_by book caller (command.Judge site page rule node verdict seen note) =
      entering_kept (IfAnyIsThere t) t needed.Judge caller site _ (λ k is may.
      on_page_kept (IfAnyIsThere t) t page k (judge book site caller page rule node verdict seen note) (λ p found.
      judge_brings (IfAnyIsThere t) book site caller page rule node verdict seen note (state_page k.site.languages p) (λ row at_row. (λ _. tt, λ _. page_there site page k p is found))))
  there_by book caller (command.TakeEarl site page claims) =
      entering_kept (IfAnyIsThere t) t needed.Judge caller site _ (λ k is may.
      on_page_kept (IfAnyIsThere t) t page k (take_earl book site caller page claims) (λ p found.
      take_earl_brings (IfAnyIsThere t) book site caller page claims (state_page k.site.languages p) (λ _. tt) (λ more _ _. page_there site page k p is found)))
  there_by book caller (command.GetPage site page) = page_read (IfAnyIsThere t) t caller site page _ tt
  there_by book caller (command.GetOutcomes site page) = page_read (IfAnyIsThere t) t caller site page _ tt
  there_by book caller (command.GetReport site page) = page_read (IfAnyIsThere t) t caller site page _ tt
  there_by book caller (command.GetEarl site page) = page_read (IfAnyIsThere t) t caller site page _ tt
  there_by book caller (command.GetNames site page) = page_read (IfAnyIsThere t) t caller site page _ tt
  there_by book caller (command.SiteReport site) = site_read (IfAnyIsThere t) t caller site _ tt
  there_by book caller (command.SiteEarl site) = site_read (IfAnyIsThere t) t caller site _ tt
  there_by book caller (command.SiteCsv site) = site_read (IfAnyIsThere t) t caller site _ tt
  there_by book caller (command.GetVerdicts site page) = page_read (IfAnyIsThere t) t caller site page _ tt
  there_by book caller (command.GetMembers site) = site_read (IfAnyIsThere t) t caller site _ tt
  there_by book caller command.GetMemberships = tt

  pub decided_is_there : (book : Book) (q : Request) → Brings (IfAnyIsThere t) (decided book q (state_of t))
  decided_is_there book q = there_by book q.caller q.command
