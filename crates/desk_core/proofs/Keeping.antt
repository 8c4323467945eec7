-- Every request that fits keeps tables sound, and what is decided on it fits.
use Rattle.std.proofs.Common.{◌≡◌, ℕ, ◌+◌, List, [], ◌∷◌, length, true, Option, Some, option_map, IfSome, IsTrue, Ok, Err, refl, ap, ◌∙◌, subst}
use Rattle.std.specs.List.{All}
use Rattle.std.proofs.lemmas.List.{length-map}
use Rattle.std.proofs.lemmas.List.Elements.{All-nil, All-cons, All-head, All-tail}
use Rattle.snap_tree.specs.Trees.{Document, with_trees, with_langs}
use Rattle.snap_tree.specs.Grown.{page_of}
use Rattle.snap_tree.specs.Well.{IsWell}
use Rattle.snap_tree.proofs.Wellness.{well_from_sound}
use Rattle.rule_core.specs.Books.{Book}
use Rattle.judge_core.specs.declared.judgement.Judgement.{Judgement}
use Rattle.named_rows.specs.ByName.{at}
use Rattle.named_rows.proofs.Lookups.{all_at}
use Rattle.named_rows.proofs.Order.{in_order_none}
use Rattle.keep_core.specs.declared.page.PagePut.{PagePut}
use Rattle.keep_core.specs.declared.change.Change.{Change}
use Rattle.keep_core.specs.declared.change.Change.TheVariants.{PutPages}
use Rattle.keep_core.specs.declared.tables.KeptPage.{KeptPage}
use Rattle.keep_core.specs.declared.tables.KeptSite.{KeptSite}
use Rattle.keep_core.specs.Names.{is_name}
use Rattle.keep_core.specs.declared.tables.Tables.{Tables}
use Rattle.keep_core.specs.Tables.{kept_site, site_name, page_name}
use Rattle.keep_core.specs.Changes.{put_over, changed}
use Rattle.keep_core.specs.Fits.{FitsPage, FitsPages, FitsKept, FitTables, Fits, IsThere}
use Rattle.desk_core.specs.declared.command.Command.{Command}
use Rattle.desk_core.specs.declared.command.Command.TheVariants as command
use Rattle.desk_core.specs.declared.decided.Decided.{Decided}
use Rattle.desk_core.specs.declared.refusal.Needed.TheVariants as needed
use Rattle.desk_core.specs.Refusals.{Decision}
use Rattle.desk_core.specs.State.{PageState, site_state, state_of, page_at, site_at}
use Rattle.desk_core.specs.Pages.{revision_in, judged, has_room, page_put, edit_page, drop_page}
use Rattle.desk_core.specs.Imports.{puts}
use Rattle.desk_core.specs.Judging.{judge}
use Rattle.desk_core.specs.Claiming.{take_earl}
use Rattle.desk_core.specs.Steps.{Request, site_of, decision, decided}
use Rattle.desk_core.specs.Memberships.{memberships}
use Rattle.desk_core.specs.Fitting.{FitsParts, NamesSite, FitsRequest}
use Rattle.desk_core.specs.Soundness.{IsNearlySite, IsNearlySound, IsSoundPage, IsSoundSite, IsSound, made}
use Rattle.desk_core.proofs.Views.{state_page, state_pages, page_seen}
use Rattle.desk_core.proofs.Deciding.{Brings, brought, put_member_brings, put_languages_brings, put_page_brings, edit_page_brings, drop_page_brings, import_brings, judge_brings, take_earl_brings}
use Rattle.desk_core.proofs.Fitted.{IfAnyFits, put_site_fits, put_member_fits, put_page_fits, edit_page_fits, drop_page_fits, judge_fits, take_earl_fits, import_fits}
use Rattle.desk_core.proofs.Kept.{IfAnyIsThere, decided_is_there, entering_kept, on_page_kept, new_site_kept, page_read, site_read}
use Rattle.desk_core.proofs.Edited.{edits_well}
use Rattle.desk_core.proofs.SoundPages.{one_put, put_page_sound, puts_sound, room_there, one_few, import_few}
use Rattle.desk_core.proofs.Sound.{some_has, pages_sound, pages_well, kept_sound, new_site_sound, member_sound, pages_put_sound, drop_sound, judged_sound, relisted_sound}
use Rattle.desk_core.proofs.NewOutcomes.{all_relisted_fit}

-- ---- what is decided fits

module _ (book : Book) (t : Tables) (fit : FitTables t) where
  fits_in : (site : List ℕ) (k : KeptSite) → kept_site site t ≡ Some k → FitsKept k
  fits_in site k is = some_has FitsKept (kept_site site t) k is (all_at site_name FitsKept site t.sites fit.each)

  fits_by : (caller : List ℕ) (c : Command) → IsTrue (is_name caller) → NamesSite c → FitsParts book c
      → Brings IfAnyFits (decision book caller c (site_at (site_of c) (state_of t)) (memberships caller (state_of t)))
  fits_by caller (command.PutSite site) user named parts = put_site_fits site caller (site_at site (state_of t)) named user
  fits_by caller (command.PutMember site user held) caller_named named parts =
      entering_kept IfAnyFits t needed.Owner caller site _ (λ k is may. put_member_fits site caller user held k.site named parts (fits_in site k is).site)
  fits_by caller (command.PutLanguages site langs) caller_named named parts =
      entering_kept IfAnyFits t needed.Owner caller site _ (λ k is may.
      put_languages_brings IfAnyFits book site langs (site_state k) (parts, all_relisted_fit book langs k.site.languages site k named (fits_in site k is)))
  fits_by caller (command.PutPage site page rev raw) user named parts =
      entering_kept IfAnyFits t needed.Editor caller site _ (λ k is may.
      put_page_fits book site caller page rev raw k.site (revision_in (page_at page (state_pages k.site.languages k.pages))) (judged (page_at page (state_pages k.site.languages k.pages))) (length (state_pages k.site.languages k.pages)) named parts.seen.named parts.web)
  fits_by caller (command.DropPage site page rev) user named parts =
      entering_kept IfAnyFits t needed.Editor caller site _ (λ k is may.
      on_page_kept IfAnyFits t page k (λ (q : PageState). drop_page site page rev q.page) (λ p found. drop_page_fits site page rev p.page named parts.named))
  fits_by caller (command.Import site entries) user named parts =
      entering_kept IfAnyFits t needed.Editor caller site _ (λ k is may. import_fits book site caller entries (site_state k) named parts)
  fits_by caller (command.EditPage site page rev edits) user named parts =
      entering_kept IfAnyFits t needed.Editor caller site _ (λ k is may.
      on_page_kept IfAnyFits t page k (edit_page book site caller page rev edits k.site) (λ p found.
      let fits = some_has (λ (p : KeptPage). FitsPage p.page) (at page_name page k.pages) p found (all_at page_name (λ (p : KeptPage). FitsPage p.page) page k.pages (fits_in site k is).pages) in
      edit_page_fits book site caller page rev edits k.site (state_page k.site.languages p) named parts.named
      (record { head = fits.head; address = fits.address; no_langs = refl })))
  fits_by caller (command.Judge site page rule node verdict seen note) user named parts =
      entering_kept IfAnyFits t needed.Judge caller site _ (λ k is may.
      on_page_kept IfAnyFits t page k (judge book site caller page rule node verdict seen note) (λ p found.
      judge_fits book site caller page rule node verdict seen note (state_page k.site.languages p) named parts.named))
  fits_by caller (command.TakeEarl site page claims) user named parts =
      entering_kept IfAnyFits t needed.Judge caller site _ (λ k is may.
      on_page_kept IfAnyFits t page k (take_earl book site caller page claims) (λ p found.
      take_earl_fits book site caller page claims (state_page k.site.languages p) named parts.named))
  fits_by caller (command.GetPage site page) user named parts = page_read IfAnyFits t caller site page _ tt
  fits_by caller (command.GetOutcomes site page) user named parts = page_read IfAnyFits t caller site page _ tt
  fits_by caller (command.GetReport site page) user named parts = page_read IfAnyFits t caller site page _ tt
  fits_by caller (command.GetEarl site page) user named parts = page_read IfAnyFits t caller site page _ tt
  fits_by caller (command.GetNames site page) user named parts = page_read IfAnyFits t caller site page _ tt
  fits_by caller (command.SiteReport site) user named parts = site_read IfAnyFits t caller site _ tt
  fits_by caller (command.SiteEarl site) user named parts = site_read IfAnyFits t caller site _ tt
  fits_by caller (command.SiteCsv site) user named parts = site_read IfAnyFits t caller site _ tt
  fits_by caller (command.GetVerdicts site page) user named parts = page_read IfAnyFits t caller site page _ tt
  fits_by caller (command.GetMembers site) user named parts = site_read IfAnyFits t caller site _ tt
  fits_by caller command.GetMemberships user named parts = tt

pub decided_fits : (book : Book) (q : Request) (t : Tables) → FitsRequest book q → FitTables t → Brings IfAnyFits (decided book q (state_of t))
decided_fits book q t fits fit = fits_by book t fit q.caller q.command fits.caller fits.site fits.parts

-- ---- what is decided keeps tables sound

module _ (book : Book) (t : Tables) (sound : IsSound book t) where
  -- the tables are sound after the change that is decided
  abbrev Keeps : Option Change → Type 0
  Keeps change = IsSound book (made change t)

  abbrev Owes : Option Change → Type 0
  Owes change = IfAnyFits change → Keeps change

  owed : (decision : Decision) → Brings IfAnyFits decision → Brings Owes decision → Brings Keeps decision
  owed (Ok d) fits owes = owes fits
  owed (Err r) fits owes = tt

  page_sound : (site page : List ℕ) (k : KeptSite) (p : KeptPage) → kept_site site t ≡ Some k → at page_name page k.pages ≡ Some p → IsSoundPage book k.site.languages p
  page_sound site page k p is found =
      some_has (IsSoundPage book k.site.languages) (at page_name page k.pages) p found (all_at page_name (IsSoundPage book k.site.languages) page k.pages (kept_sound book t sound site k is).pages)

  abbrev kept_page : List ℕ → KeptSite → Option PageState
  kept_page page k = page_at page (state_pages k.site.languages k.pages)

  -- a page that is put into a site by the next revision, with its languages
  abbrev next_put : List ℕ → List ℕ → Document → KeptSite → List Judgement → PagePut
  next_put caller page tree k js = page_put book page (k.site.counter + 1) caller (with_langs tree k.site.languages) js

  abbrev PutKeeps : List ℕ → KeptSite → PagePut → Type 0
  PutKeeps site k put = FitsPages site (k.site.counter + 1) (put ∷ []) → IsSound book (changed (PutPages site (k.site.counter + 1) (put ∷ [])) t)

  put_keeps : (site caller page : List ℕ) (tree : Document) (k : KeptSite) → kept_site site t ≡ Some k → IsWell tree.trees
      → has_room (revision_in (kept_page page k)) (length (state_pages k.site.languages k.pages)) ≡ true → PutKeeps site k (next_put caller page tree k (judged (kept_page page k)))
  put_keeps site caller page tree k is well room = λ fit.
      let rev = k.site.counter + 1 in
      let put = next_put caller page tree k (judged (kept_page page k)) in
      let kept = kept_sound book t sound site k is in
      pages_put_sound book t sound site rev (put ∷ []) k is fit
      (one_put book k.site.languages k.site.counter (put_over k.pages put) k.pages (pages_sound book k kept) (put_page_sound book k.site.languages k.site.counter page rev caller tree k.pages well) refl)
      (one_few k.site.languages (put_over k.pages put) k.pages (length (state_pages k.site.languages k.pages)) (length-map k.pages (state_page k.site.languages)) room kept.few)

  -- and so where the page is there
  edit_keeps : (site caller page : List ℕ) (tree : Document) (k : KeptSite) (p : KeptPage) → kept_site site t ≡ Some k → at page_name page k.pages ≡ Some p → IsWell tree.trees
      → PutKeeps site k (next_put caller page tree k p.judgements)
  edit_keeps site caller page tree k p is found well =
      let there : kept_page page k ≡ Some (state_page k.site.languages p) = page_seen k.site.languages page k.pages ∙ ap (option_map (state_page k.site.languages)) found in
      subst (λ js. PutKeeps site k (next_put caller page tree k js)) (ap judged there)
      (put_keeps site caller page tree k is well
      (ap (λ o. has_room (revision_in o) (length (state_pages k.site.languages k.pages))) there ∙ room_there (length (state_pages k.site.languages k.pages)) k.pages (length-map k.pages (state_page k.site.languages)) (kept_sound book t sound site k is).few))

  keeps_by : (caller : List ℕ) (c : Command) → IsTrue (is_name caller) → NamesSite c → FitsParts book c
      → Brings Owes (decision book caller c (site_at (site_of c) (state_of t)) (memberships caller (state_of t)))
  keeps_by caller (command.PutSite site) user named parts =
      new_site_kept Owes t site caller (λ none _. new_site_sound book t sound site caller named user none)
  keeps_by caller (command.PutMember site user held) caller_named named parts =
      entering_kept Owes t needed.Owner caller site _ (λ k is may.
      put_member_brings Owes site caller user held k.site (λ other _. member_sound book t sound site caller user held k named parts is may other))
  keeps_by caller (command.PutLanguages site langs) caller_named named parts =
      entering_kept Owes t needed.Owner caller site _ (λ k is may.
      put_languages_brings Owes book site langs (site_state k) (λ _. relisted_sound book t sound site langs k is parts))
  keeps_by caller (command.PutPage site page rev raw) user named parts =
      entering_kept Owes t needed.Editor caller site _ (λ k is may.
      put_page_brings Owes book site caller page rev raw k.site (revision_in (kept_page page k)) (judged (kept_page page k)) (length (state_pages k.site.languages k.pages)) (λ room more same none.
      put_keeps site caller page (page_of raw) k is (well_from_sound raw.rows none) room))
  keeps_by caller (command.DropPage site page rev) user named parts =
      entering_kept Owes t needed.Editor caller site _ (λ k is may.
      on_page_kept Owes t page k (λ (q : PageState). drop_page site page rev q.page) (λ p found. drop_page_brings Owes site page rev p.page (λ _ _. drop_sound book t sound site page k is)))
  keeps_by caller (command.Import site entries) user named parts =
      entering_kept Owes t needed.Editor caller site _ (λ k is may.
      import_brings Owes book site caller entries (site_state k) (λ room more fresh none fit.
      let kept = kept_sound book t sound site k is in
      pages_put_sound book t sound site (k.site.counter + length entries) (puts book k.site.languages caller (state_pages k.site.languages k.pages) k.site.counter entries) k is fit
      (puts_sound book k.site.languages caller k.pages k.pages k.site.counter entries (pages_sound book k kept) none)
      (import_few book k.site.languages caller k.pages (length (state_pages k.site.languages k.pages)) k.site.counter entries (length-map k.pages (state_page k.site.languages)) room)))
  keeps_by caller (command.EditPage site page rev edits) user named parts =
      entering_kept Owes t needed.Editor caller site _ (λ k is may.
      on_page_kept Owes t page k (edit_page book site caller page rev edits k.site) (λ p found.
      edit_page_brings Owes book site caller page rev edits k.site (state_page k.site.languages p) (λ more same new is_edited.
      edit_keeps site caller page (with_trees p.page.tree new) k p is found
      (edits_well p.page.tree.trees new edits (page_sound site page k p is found).well is_edited))))
  keeps_by caller (command.Judge site page rule node verdict seen note) user named parts =
      entering_kept Owes t needed.Judge caller site _ (λ k is may.
      on_page_kept Owes t page k (judge book site caller page rule node verdict seen note) (λ p found.
      judge_brings Owes book site caller page rule node verdict seen note (state_page k.site.languages p) (λ row at_row.
      (λ _ _. sound, λ _ _. judged_sound book t sound site page _ _ k p is found refl))))
  keeps_by caller (command.TakeEarl site page claims) user named parts =
      entering_kept Owes t needed.Judge caller site _ (λ k is may.
      on_page_kept Owes t page k (take_earl book site caller page claims) (λ p found.
      take_earl_brings Owes book site caller page claims (state_page k.site.languages p) (λ _ _. sound)
      (λ more _ _ _. judged_sound book t sound site page _ _ k p is found refl)))
  keeps_by caller (command.GetPage site page) user named parts = page_read Owes t caller site page _ (λ _. sound)
  keeps_by caller (command.GetOutcomes site page) user named parts = page_read Owes t caller site page _ (λ _. sound)
  keeps_by caller (command.GetReport site page) user named parts = page_read Owes t caller site page _ (λ _. sound)
  keeps_by caller (command.GetEarl site page) user named parts = page_read Owes t caller site page _ (λ _. sound)
  keeps_by caller (command.GetNames site page) user named parts = page_read Owes t caller site page _ (λ _. sound)
  keeps_by caller (command.SiteReport site) user named parts = site_read Owes t caller site _ (λ _. sound)
  keeps_by caller (command.SiteEarl site) user named parts = site_read Owes t caller site _ (λ _. sound)
  keeps_by caller (command.SiteCsv site) user named parts = site_read Owes t caller site _ (λ _. sound)
  keeps_by caller (command.GetVerdicts site page) user named parts = page_read Owes t caller site page _ (λ _. sound)
  keeps_by caller (command.GetMembers site) user named parts = site_read Owes t caller site _ (λ _. sound)
  keeps_by caller command.GetMemberships user named parts = λ _. sound

pub decided_keeps : (book : Book) (q : Request) (t : Tables) → FitsRequest book q → IsSound book t → Brings (λ change. IsSound book (made change t)) (decided book q (state_of t))
decided_keeps book q t fits sound =
    owed book t sound (decided book q (state_of t)) (decided_fits book q t fits sound.fit) (keeps_by book t sound q.caller q.command fits.caller fits.site fits.parts)

-- soundness is kept by the change that is decided
pub keeps_sound : (book : Book) (q : Request) (t : Tables) (d : Decided) → FitsRequest book q → IsSound book t → decided book q (state_of t) ≡ Ok d → IsSound book (made d.change t)
keeps_sound book q t d fits sound is = brought (λ change. IsSound book (made change t)) (decided book q (state_of t)) d is (decided_keeps book q t fits sound)

pub change_fits : (book : Book) (q : Request) (t : Tables) (d : Decided) → FitsRequest book q → IsSound book t → decided book q (state_of t) ≡ Ok d → IfSome d.change Fits
change_fits book q t d fits sound is = brought IfAnyFits (decided book q (state_of t)) d is (decided_fits book q t fits sound.fit)

pub change_there : (book : Book) (q : Request) (t : Tables) (d : Decided) → decided book q (state_of t) ≡ Ok d → IfSome d.change (λ change. IsThere change t)
change_there book q t d is = brought (IfAnyIsThere t) (decided book q (state_of t)) d is (decided_is_there t book q)

pub none_sound : (book : Book) (edition : ℕ) → IsSound book (record { edition = edition; sites = [] })
none_sound book edition = record { fit = record { each = All-nil FitsKept; in_order = in_order_none site_name }; sites = All-nil (IsSoundSite book) }

-- ---- sound tables are nearly sound

nearly_site : (book : Book) (k : KeptSite) → IsSoundSite book k → IsNearlySite k
nearly_site book k sound = record {
  owned = sound.owned;
  few = sound.few;
  pages = pages_well book k.site.languages k.pages sound.pages;
  given = sound.given;
  differ = sound.differ;
}

nearly_sites : (book : Book) (sites : List KeptSite) → All (IsSoundSite book) sites → All IsNearlySite sites
nearly_sites book [] sound = All-nil IsNearlySite
nearly_sites book (k ∷ ks) sound =
    All-cons IsNearlySite _ _ (nearly_site book k (All-head (IsSoundSite book) k ks sound)) (nearly_sites book ks (All-tail (IsSoundSite book) k ks sound))

pub nearly_sound : (book : Book) (t : Tables) → IsSound book t → IsNearlySound t
nearly_sound book t sound = record { fit = sound.fit; sites = nearly_sites book t.sites sound.sites }
