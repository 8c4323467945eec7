-- What a request is refused with that is sent again.
use Rattle.std.proofs.Common.{◌≡◌, ℕ, ◌+◌, ◌<◌, ◌≤◌, ◌==◌, List, [], ◌∷◌, length, nat_le, Bool, true, false, cond, Option, Some, None, is_none, option_map, Ok, refl, sym, ap, ◌∙◌, subst, arith, inl, inr}
use Rattle.std.proofs.lemmas.Bool.Decides.{nat_tests}
use Rattle.std.proofs.lemmas.List.{length-map}
use Rattle.std.proofs.lemmas.List.Sums.{sum_by-cons}
use Rattle.snap_tree.specs.declared.row.Raw.{Raw}
use Rattle.snap_tree.specs.Trees.{with_trees, with_langs}
use Rattle.snap_tree.specs.Grown.{page_of}
use Rattle.snap_edit.specs.declared.edit.Edit.{Edit}
use Rattle.rule_core.specs.Books.{Book}
use Rattle.named_rows.specs.ByName.{at, put_row, take_row, with_row}
use Rattle.named_rows.proofs.Lookups.{at_put, at_with_row}
use Rattle.named_rows.proofs.Order.{at_take}
use Rattle.keep_core.specs.declared.page.PagePut.{PagePut}
use Rattle.keep_core.specs.declared.change.Change.{Change}
use Rattle.keep_core.specs.declared.change.Change.TheVariants.{PutSite, PutPages, DropPage}
use Rattle.keep_core.specs.declared.tables.KeptSite.{KeptSite}
use Rattle.keep_core.specs.declared.tables.Tables.{Tables}
use Rattle.keep_core.specs.Tables.{kept_site, site_name, page_name}
use Rattle.keep_core.specs.Changes.{put_over, with_pages, without_page, changed}
use Rattle.desk_core.specs.declared.limits.TheConstants.{MOST_PAGES}
use Rattle.desk_core.specs.declared.command.Command.{Command}
use Rattle.desk_core.specs.declared.command.Command.TheVariants as command
use Rattle.desk_core.specs.declared.command.Entry.{Entry}
use Rattle.desk_core.specs.declared.decided.Decided.{Decided}
use Rattle.desk_core.specs.declared.refusal.Needed.{Needed}
use Rattle.desk_core.specs.declared.refusal.Needed.TheVariants as needed
use Rattle.desk_core.specs.declared.refusal.Limit.TheVariants as limit
use Rattle.desk_core.specs.declared.refusal.Refusal.{Refusal}
use Rattle.desk_core.specs.declared.refusal.Refusal.TheVariants as refusal
use Rattle.desk_core.specs.Refusals.{Decision, unless, on, unless_refused}
use Rattle.desk_core.specs.State.{PageState, SiteState, site_state, state_of, page_at, site_at}
use Rattle.desk_core.specs.Rights.{may, role_of, entering}
use Rattle.desk_core.specs.Members.{new_site, put_site}
use Rattle.desk_core.specs.Pages.{revision_in, rev_of, judged, has_room, has_room_for, has_revisions, page_put, edit_page, drop_page}
use Rattle.desk_core.specs.Imports.{new_pages, first_stale, puts}
use Rattle.desk_core.specs.Changes.{after}
use Rattle.desk_core.specs.Steps.{Request, site_of, decision, decided}
use Rattle.desk_core.specs.Memberships.{memberships}
use Rattle.desk_core.specs.Fitting.{FitsParts, FitsRequest, FitsEntries}
use Rattle.desk_core.specs.Soundness.{IsSound, made}
use Rattle.desk_core.specs.Once.{IsOnce, Refuses, IsBehind, IsFor}
use Rattle.desk_core.specs.Revisions.{HasEntry}
use Rattle.desk_core.proofs.Views.{state_page, state_pages, page_seen, site_seen}
use Rattle.desk_core.proofs.Deciding.{Brings, brought, put_page_brings, edit_page_brings, drop_page_brings, import_brings}
use Rattle.desk_core.proofs.Kept.{entering_kept, on_page_kept, new_site_kept}
use Rattle.desk_core.proofs.Sound.{kept_fits, kept_sound}
use Rattle.desk_core.proofs.SoundPages.{room_there}
use Rattle.desk_core.proofs.Keeping.{keeps_sound}
use Rattle.desk_core.proofs.Again.{rev_at, rev_found, stale_then, import_stale, after_made}
use Rattle.desk_core.proofs.Revisions.{puts_newer_at}

module _ (With : Refusal → Type 0) where
  unless_refuses : (holds : Bool) (r : Refusal) (next : Decision) → (holds ≡ false → With r) → (holds ≡ true → Refuses With next) → Refuses With (unless holds r next)
  unless_refuses true r next refuses later = later refl
  unless_refuses false r next refuses later = refuses refl

  on_there : {X : Type 0} (o : Option X) (r : Refusal) (next : X → Decision) (x : X) → o ≡ Some x → Refuses With (next x) → Refuses With (on o r next)
  on_there o r next x is refuses = subst (λ o. Refuses With (on o r next)) (sym is) refuses

  on_none : {X : Type 0} (o : Option X) (r : Refusal) (next : X → Decision) → o ≡ None → With r → Refuses With (on o r next)
  on_none o r next is refuses = subst (λ o. Refuses With (on o r next)) (sym is) refuses

  unless_refused_refuses : (o : Option Refusal) (next : Decision) → ((r : Refusal) → o ≡ Some r → With r) → (o ≡ None → ⊥) → Refuses With (unless_refused o next)
  unless_refused_refuses None next refuses some = absurd (some refl)
  unless_refused_refuses (Some r) next refuses some = refuses r refl

  enters : (leave : Needed) (caller : List ℕ) (kept : Option SiteState) (next : SiteState → Decision) (s : SiteState) → kept ≡ Some s → may leave (role_of caller s.site.members) ≡ true
      → Refuses With (next s) → Refuses With (entering leave caller kept next)
  enters leave caller kept next s is allows refuses =
      on_there kept refusal.NoSite _ s is (subst (λ b. Refuses With (unless b (refusal.NotAllowed leave) (next s))) (sym allows) refuses)

stale_first : (pages : List PageState) (e : Entry) (entries : List Entry) (r : Refusal) (b : Bool) → (e.rev == rev_of (page_at e.page pages)) ≡ b → first_stale pages (e ∷ entries) ≡ Some r
    → (first_stale pages entries ≡ Some r → IsBehind r) → IsBehind r
stale_first pages e entries r true same is later = later (rw same at is)
stale_first pages e entries r false same is later =
    let one : Some (refusal.StaleRevision (rev_of (page_at e.page pages)) (Some e.page)) ≡ Some r = rw same at is in
    let both : refusal.StaleRevision (rev_of (page_at e.page pages)) (Some e.page) ≡ r = cc in
    subst IsBehind both tt

-- an import is refused for the first entry that is behind
stale_by : (pages : List PageState) (entries : List Entry) (r : Refusal) → first_stale pages entries ≡ Some r → IsBehind r
stale_by pages [] r is = let none : None ≡ Some r = is in cc
stale_by pages (e ∷ entries) r is = stale_first pages e entries r (e.rev == rev_of (page_at e.page pages)) refl is (stale_by pages entries r)

-- ---- a page that is there takes no room

is_there : (o : Option PageState) → 0 < rev_of o → is_none o ≡ false
is_there None some = absurd (omega (arith, some))
is_there (Some p) some = refl

none_new : (pages : List PageState) (entries : List Entry) → ((page : List ℕ) (rev : ℕ) → HasEntry page rev entries → 0 < rev_of (page_at page pages)) → new_pages pages entries ≡ 0
none_new pages [] there = refl
none_new pages (e ∷ entries) there =
    let rest : new_pages pages entries ≡ 0 = none_new pages entries (λ page rev has. there page rev (inr has)) in
    sum_by-cons (λ (d : Entry). cond (is_none (page_at d.page pages)) 1 0) e entries
    ∙ ap (λ b. cond b 1 0 + new_pages pages entries) (is_there (page_at e.page pages) (there e.page e.rev (inl (refl, refl))))
    ∙ omega (arith, rest)

not_full : (pages new most : ℕ) → pages ≤ most → new ≡ 0 → nat_le (pages + new) most ≡ false → ⊥
not_full pages new most few none full = grind (arith, nat_tests)

module _ (book : Book) (t : Tables) (sound : IsSound book t) (caller : List ℕ) where
  -- what a command is refused with after a change that keeps the tables sound
  abbrev After : Command → Option Change → Type 0
  After c change = IsSound book (made change t) → Refuses (IsFor c) (decision book caller c (site_at (site_of c) (state_of (made change t))) (memberships caller (state_of (made change t))))

  -- the tables with a site changed so
  abbrev with_site : List ℕ → (KeptSite → KeptSite) → Tables
  with_site site f = record { edition = t.edition; sites = with_row site_name site f t.sites }

  kept_then : (site : List ℕ) (k : KeptSite) (f : KeptSite → KeptSite) → ((s : KeptSite) → (f s).site.name ≡ s.site.name) → kept_site site t ≡ Some k
      → kept_site site (with_site site f) ≡ Some (f k)
  kept_then site k f keeps is = at_with_row site_name site f (λ s _. keeps s) t.sites ∙ ap (option_map f) is

  there_then : (site : List ℕ) (k : KeptSite) (f : KeptSite → KeptSite) → ((s : KeptSite) → (f s).site.name ≡ s.site.name) → kept_site site t ≡ Some k
      → site_at site (state_of (with_site site f)) ≡ Some (site_state (f k))
  there_then site k f keeps is = site_seen site (with_site site f) ∙ ap (option_map site_state) (kept_then site k f keeps is)

  site_refused : (site : List ℕ) → After (command.PutSite site) (Some (PutSite (new_site site caller)))
  site_refused site _ =
      let t' = changed (PutSite (new_site site caller)) t in
      let there : site_at site (state_of t') ≡ Some _ = site_seen site t' ∙ ap (option_map site_state) (at_put site_name _ t.sites) in
      subst (λ o. Refuses (IsFor (command.PutSite site)) (put_site site caller o)) (sym there) refl

  module _ (site page : List ℕ) (k : KeptSite) (is : kept_site site t ≡ Some k) where
    module _ (put : PagePut) (named : put.page.head.page ≡ page) (rev : put.page.head.rev ≡ k.site.counter + 1) (sent : ℕ) (was : (sent == rev_at k.site.languages page k.pages) ≡ true)
        (allows : may needed.Editor (role_of caller k.site.members) ≡ true) where
      put_refused : (raw : Raw) → After (command.PutPage site page sent raw) (Some (PutPages site (k.site.counter + 1) (put ∷ [])))
      put_refused raw sound' =
          let f = with_pages (k.site.counter + 1) (put ∷ []) in
          let row = put_over k.pages put in
          let found : at page_name page (f k).pages ≡ Some row = subst (λ n. at page_name n (put_row page_name row k.pages) ≡ Some row) named (at_put page_name row k.pages) in
          let there : page_at page (state_pages k.site.languages (f k).pages) ≡ Some (state_page k.site.languages row) = page_seen k.site.languages page (f k).pages ∙ ap (option_map (state_page k.site.languages)) found in
          let room : has_room (revision_in (page_at page (state_pages k.site.languages (f k).pages))) (length (state_pages k.site.languages (f k).pages)) ≡ true =
          ap (λ o. has_room (revision_in o) (length (state_pages k.site.languages (f k).pages))) there
          ∙ room_there (length (state_pages k.site.languages (f k).pages)) (f k).pages (length-map (f k).pages (state_page k.site.languages))
          (kept_sound book (changed (PutPages site (k.site.counter + 1) (put ∷ [])) t) sound' site (f k) (kept_then site k f (λ _. refl) is)).few in
          enters IsBehind needed.Editor caller _ _ (site_state (f k)) (there_then site k f (λ _. refl) is) allows
          (unless_refuses IsBehind (has_room (revision_in (page_at page (state_pages k.site.languages (f k).pages))) (length (state_pages k.site.languages (f k).pages))) (refusal.PageLimit limit.Pages) _ (λ full. let no : true ≡ false = sym room ∙ full in cc) (λ _.
          unless_refuses IsBehind (has_revisions (f k).site.counter 1) (refusal.PageLimit limit.Revisions) _ (λ _. tt) (λ _.
          unless_refuses IsBehind (sent == rev_at k.site.languages page (f k).pages) (refusal.StaleRevision (rev_at k.site.languages page (f k).pages) None) _ (λ _. tt) (λ now.
          absurd (stale_then book t sound caller site page k is put named rev sent was (f k) (kept_then site k f (λ _. refl) is) now)))))

      edit_refused : (edits : List Edit) → After (command.EditPage site page sent edits) (Some (PutPages site (k.site.counter + 1) (put ∷ [])))
      edit_refused edits _ =
          let f = with_pages (k.site.counter + 1) (put ∷ []) in
          let row = put_over k.pages put in
          let found : at page_name page (f k).pages ≡ Some row = subst (λ n. at page_name n (put_row page_name row k.pages) ≡ Some row) named (at_put page_name row k.pages) in
          enters IsBehind needed.Editor caller _ _ (site_state (f k)) (there_then site k f (λ _. refl) is) allows
          (on_there IsBehind _ refusal.NoPage _ (state_page k.site.languages row) (page_seen k.site.languages page (f k).pages ∙ ap (option_map (state_page k.site.languages)) found)
          (unless_refuses IsBehind (has_revisions (f k).site.counter 1) (refusal.PageLimit limit.Revisions) _ (λ _. tt) (λ _.
          unless_refuses IsBehind (sent == rev_of (Some (state_page k.site.languages row))) (refusal.StaleRevision (rev_of (Some (state_page k.site.languages row))) None) _ (λ _. tt) (λ now.
          absurd (stale_then book t sound caller site page k is put named rev sent was (f k) (kept_then site k f (λ _. refl) is)
          (ap (λ r. sent == r) (rev_found k.site.languages page (f k).pages row found) ∙ now))))))

    drop_refused : (sent : ℕ) → may needed.Editor (role_of caller k.site.members) ≡ true → After (command.DropPage site page sent) (Some (DropPage site page))
    drop_refused sent allows _ =
        let f = without_page page in
        let gone : at page_name page (take_row page_name page k.pages) ≡ None = at_take page_name page k.pages (kept_fits book t sound site k is).in_order in
        enters (λ r. r ≡ refusal.NoPage) needed.Editor caller _ _ (site_state (f k)) (there_then site k f (λ _. refl) is) allows
        (on_none (λ r. r ≡ refusal.NoPage) _ refusal.NoPage _ (page_seen k.site.languages page (f k).pages ∙ ap (option_map (state_page k.site.languages)) gone) refl)

    -- ---- imports

    import_refused : (entries : List Entry) → FitsEntries entries → first_stale (state_pages k.site.languages k.pages) entries ≡ None → may needed.Editor (role_of caller k.site.members) ≡ true
        → After (command.Import site entries) (Some (PutPages site (k.site.counter + length entries) (puts book k.site.languages caller (state_pages k.site.languages k.pages) k.site.counter entries)))
    import_refused [] fits fresh allows sound' = absurd (omega (arith, fits.some))
    import_refused (e ∷ entries) fits fresh allows sound' =
        let given = puts book k.site.languages caller (state_pages k.site.languages k.pages) k.site.counter (e ∷ entries) in
        let f = with_pages (k.site.counter + length (e ∷ entries)) given in
        let pages = state_pages k.site.languages (f k).pages in
        let kept : kept_site site (changed (PutPages site (k.site.counter + length (e ∷ entries)) given) t) ≡ Some (f k) = kept_then site k f (λ _. refl) is in
        let few : length (f k).pages ≤ MOST_PAGES = (kept_sound book (changed (PutPages site (k.site.counter + length (e ∷ entries)) given) t) sound' site (f k) kept).few in
        let same : length pages ≡ length (f k).pages = length-map (f k).pages (state_page k.site.languages) in
        let newer : (p : List ℕ) (rev : ℕ) → HasEntry p rev (e ∷ entries) → 0 < rev_of (page_at p pages) =
        λ p rev has. puts_newer_at book k.site.languages caller p rev k.pages k.pages 0 k.site.counter (e ∷ entries) (omega arith) has in
        let none : new_pages pages (e ∷ entries) ≡ 0 = none_new pages (e ∷ entries) newer in
        enters IsBehind needed.Editor caller _ _ (site_state (f k)) (there_then site k f (λ _. refl) is) allows
        (unless_refuses IsBehind (has_room_for (new_pages pages (e ∷ entries)) (length pages)) (refusal.PageLimit limit.Pages) _
        (not_full (length pages) (new_pages pages (e ∷ entries)) MOST_PAGES (omega (arith, few, same)) none) (λ _.
        unless_refuses IsBehind (has_revisions (f k).site.counter (length (e ∷ entries))) (refusal.PageLimit limit.Revisions) _ (λ _. tt) (λ _.
        unless_refused_refuses IsBehind (first_stale pages (e ∷ entries)) _ (stale_by pages (e ∷ entries))
        (import_stale book t sound caller site [] k is e entries fresh (f k) kept))))

  -- ---- commands

  refused_by : (c : Command) → IsOnce c → FitsParts book c → Brings (After c) (decision book caller c (site_at (site_of c) (state_of t)) (memberships caller (state_of t)))
  refused_by (command.PutSite site) once parts = new_site_kept (After (command.PutSite site)) t site caller (λ _. site_refused site)
  refused_by (command.PutMember site user held) once parts = absurd once
  refused_by (command.PutLanguages site langs) once parts = absurd once
  refused_by (command.PutPage site page rev raw) once parts =
      let P = After (command.PutPage site page rev raw) in
      entering_kept P t needed.Editor caller site _ (λ k is allows.
      put_page_brings P book site caller page rev raw k.site (revision_in (page_at page (state_pages k.site.languages k.pages))) (judged (page_at page (state_pages k.site.languages k.pages))) (length (state_pages k.site.languages k.pages)) (λ _ _ was _.
      put_refused site page k is (page_put book page (k.site.counter + 1) caller (with_langs (page_of raw) k.site.languages) (judged (page_at page (state_pages k.site.languages k.pages)))) refl refl rev was allows raw))
  refused_by (command.DropPage site page rev) once parts =
      let P = After (command.DropPage site page rev) in
      entering_kept P t needed.Editor caller site _ (λ k is allows.
      on_page_kept P t page k (λ (q : PageState). drop_page site page rev q.page) (λ p found. drop_page_brings P site page rev p.page (λ _. drop_refused site page k is rev allows)))
  refused_by (command.Import site entries) once parts =
      let P = After (command.Import site entries) in
      entering_kept P t needed.Editor caller site _ (λ k is allows.
      import_brings P book site caller entries (site_state k) (λ _ _ fresh _. import_refused site [] k is entries parts fresh allows))
  refused_by (command.EditPage site page rev edits) once parts =
      let P = After (command.EditPage site page rev edits) in
      entering_kept P t needed.Editor caller site _ (λ k is allows.
      on_page_kept P t page k (edit_page book site caller page rev edits k.site) (λ p found.
      edit_page_brings P book site caller page rev edits k.site (state_page k.site.languages p) (λ _ was new _.
      edit_refused site page k is (page_put book page (k.site.counter + 1) caller (with_langs (with_trees p.page.tree new) k.site.languages) p.judgements) refl refl rev
      (ap (λ r. rev == r) (rev_found k.site.languages page k.pages p found) ∙ was) allows edits)))
  refused_by (command.Judge site page rule node verdict seen note) once parts = absurd once
  refused_by (command.TakeEarl site page claims) once parts = absurd once
  refused_by (command.GetPage site page) once parts = absurd once
  refused_by (command.GetOutcomes site page) once parts = absurd once
  refused_by (command.GetReport site page) once parts = absurd once
  refused_by (command.GetEarl site page) once parts = absurd once
  refused_by (command.GetNames site page) once parts = absurd once
  refused_by (command.SiteReport site) once parts = absurd once
  refused_by (command.SiteEarl site) once parts = absurd once
  refused_by (command.SiteCsv site) once parts = absurd once
  refused_by (command.GetVerdicts site page) once parts = absurd once
  refused_by (command.GetMembers site) once parts = absurd once
  refused_by command.GetMemberships once parts = absurd once

-- a request that made a site, or put, edited or dropped pages, is refused where it is sent again at once
pub refused_then : (book : Book) (q : Request) (t : Tables) (d : Decided) → FitsRequest book q → IsSound book t → IsOnce q.command → decided book q (state_of t) ≡ Ok d
    → Refuses (IsFor q.command) (decided book q (after d.change (state_of t)))
refused_then book q t d fits sound once is =
    subst (λ state. Refuses (IsFor q.command) (decided book q state)) (sym (after_made d.change t))
    (brought (λ change. IsSound book (made change t) → Refuses (IsFor q.command) (decided book q (state_of (made change t)))) (decided book q (state_of t)) d is
    (refused_by book t sound q.caller q.command once fits.parts) (keeps_sound book q t d fits sound is))
