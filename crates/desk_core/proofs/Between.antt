-- Claims that are sent again, after requests that leave the page as its judges saw it, add nothing.
use Rattle.std.proofs.Common.{◌≡◌, ℕ, ◌+◌, List, [], ◌∷◌, ◌++◌, length, map, Bool, true, false, not, Option, Some, None, option_map, Ok, Err, IfSome, refl, sym, ap, ◌∙◌, subst, append_assoc, append-nil, inl, inr, ◌⊎◌}
use Rattle.std.specs.List.{All}
use Rattle.std.specs.Str.{bytes_eq}
use Rattle.std.proofs.lemmas.List.Elements.{All-head, All-tail}
use Rattle.snap_tree.specs.Trees.{Document, with_trees, with_langs}
use Rattle.snap_tree.specs.Grown.{page_of}
use Rattle.rule_core.specs.Books.{Book}
use Rattle.judge_core.specs.declared.judgement.Judgement.{Judgement}
use Rattle.judge_core.specs.declared.outcomes.Outcomes.{Outcomes}
use Rattle.judge_core.specs.Outcomes.{outcomes}
use Rattle.earl_in.specs.declared.claim.Claim.{Claim}
use Rattle.named_rows.specs.ByName.{at, put_row, put_rows, take_row, with_row}
use Rattle.named_rows.proofs.Lookups.{at_put, at_put_other, at_with_row, at_with_row_other}
use Rattle.named_rows.proofs.Order.{at_take_other}
use Rattle.keep_core.specs.declared.page.PagePut.{PagePut}
use Rattle.keep_core.specs.declared.change.Change.{Change}
use Rattle.keep_core.specs.declared.member.Membership.{Membership}
use Rattle.keep_core.specs.declared.change.Change.TheVariants.{PutSite, PutPages, DropPage, AddJudgements}
use Rattle.keep_core.specs.declared.tables.KeptPage.{KeptPage}
use Rattle.keep_core.specs.declared.tables.KeptSite.{KeptSite}
use Rattle.keep_core.specs.declared.tables.Tables.{Tables}
use Rattle.keep_core.specs.Tables.{kept_site, pages_in, pages_of, site_name, page_name}
use Rattle.keep_core.specs.Changes.{put_over, with_pages, without_page, with_judgements, with_judged}
use Rattle.desk_core.specs.declared.command.Command.{Command}
use Rattle.desk_core.specs.declared.command.Command.TheVariants as command
use Rattle.desk_core.specs.declared.command.Entry.{Entry}
use Rattle.desk_core.specs.declared.decided.Decided.{Decided}
use Rattle.desk_core.specs.declared.refusal.Needed.{Needed}
use Rattle.desk_core.specs.declared.refusal.Needed.TheVariants as needed
use Rattle.desk_core.specs.declared.refusal.Limit.TheVariants as limit
use Rattle.desk_core.specs.declared.refusal.Refusal.{Refusal}
use Rattle.desk_core.specs.declared.refusal.Refusal.TheVariants as refusal
use Rattle.desk_core.specs.declared.reply.Reply.{Reply}
use Rattle.desk_core.specs.Refusals.{Decision, unless, on}
use Rattle.desk_core.specs.State.{PageState, SiteState, State, site_state, state_of, page_at, site_at}
use Rattle.desk_core.specs.Rights.{may, role_of, entering, on_page}
use Rattle.desk_core.specs.Members.{new_site, site_with, members_with}
use Rattle.desk_core.specs.Pages.{revision_in, judged, has_room_for, has_revisions, page_put, edit_page, drop_page}
use Rattle.desk_core.specs.Imports.{new_pages, first_stale, first_fault, puts, import}
use Rattle.desk_core.specs.Judging.{judge}
use Rattle.desk_core.specs.Claiming.{additions, added_all, taken_on, take_earl}
use Rattle.desk_core.specs.Memberships.{memberships}
use Rattle.desk_core.specs.Changes.{after}
use Rattle.desk_core.specs.Steps.{Request, asked_by, site_of, decision, decided, stepped, step}
use Rattle.desk_core.specs.Runs.{Answers, Runs}
use Rattle.desk_core.specs.Fitting.{FitsRequest}
use Rattle.desk_core.specs.Soundness.{IsSound, made}
use Rattle.desk_core.specs.Serving.{IsAccepted, Accepts}
use Rattle.desk_core.specs.Between.{HasPage, Renews, NoneRenews, AddsNothing}
use Rattle.desk_core.proofs.Views.{state_page, state_pages, page_seen, site_seen, same_or_other}
use Rattle.desk_core.proofs.Deciding.{Brings, brought, put_member_brings, put_page_brings, edit_page_brings, drop_page_brings, import_brings, judge_brings, take_earl_brings}
use Rattle.desk_core.proofs.Kept.{entering_kept, on_page_kept, new_site_kept, page_read, site_read}
use Rattle.desk_core.proofs.Accepting.{unless_accepts, unless_refused_accepts, put_page_accepts, edit_page_accepts, drop_page_accepts}
use Rattle.desk_core.proofs.Sites.{other_sites_stay}
use Rattle.desk_core.proofs.Sound.{kept_fits}
use Rattle.desk_core.proofs.Keeping.{keeps_sound}
use Rattle.desk_core.proofs.ClaimsTwice.{HasStayed, taken_with, none_then}
use Rattle.desk_core.proofs.Again.{after_made}

-- ---- a page as its judges saw it

module _ (n : List ℕ) (tree : Document) (js : List Judgement) where
  -- the page of this name, where it is there
  abbrev Held : Option SiteState → Type 0
  Held o = IfSome o (λ s. IfSome (page_at n s.pages) (HasStayed tree js))

  abbrev IsHeld : List (List ℕ) → List KeptPage → Type 0
  IsHeld langs pages = IfSome (page_at n (state_pages langs pages)) (HasStayed tree js)

  same_held : (langs : List (List ℕ)) (old new : List KeptPage) → at page_name n new ≡ at page_name n old → IsHeld langs old → IsHeld langs new
  same_held langs old new same held =
      subst (λ o. IfSome o (HasStayed tree js)) (page_seen langs n old ∙ ap (option_map (state_page langs)) (sym same) ∙ sym (page_seen langs n new)) held

  put_held : (langs : List (List ℕ)) (row : KeptPage) (pages : List KeptPage) → (page_name row ≡ n → ⊥) → IsHeld langs pages → IsHeld langs (put_row page_name row pages)
  put_held langs row pages other held = same_held langs pages (put_row page_name row pages) (at_put_other page_name n row pages (λ same. other (sym same))) held

  puts_held : (book : Book) (langs : List (List ℕ)) (caller : List ℕ) (orig cur : List KeptPage) (counter : ℕ) (entries : List Entry) → (HasPage n entries → ⊥) → IsHeld langs cur
      → IsHeld langs (put_rows page_name (map (put_over orig) (puts book langs caller (state_pages langs orig) counter entries)) cur)
  puts_held book langs caller orig cur counter [] others held = held
  puts_held book langs caller orig cur counter (e ∷ entries) others held =
      let row : KeptPage = put_over orig (page_put book e.page (counter + 1) caller (with_langs (page_of e.raw) langs) (judged (page_at e.page (state_pages langs orig)))) in
      puts_held book langs caller orig (put_row page_name row cur) (counter + 1) entries (λ has. others (inr has)) (put_held langs row cur (λ same. others (inl same)) held)

  more_by : (langs : List (List ℕ)) (more : List Judgement) (rows : Outcomes) (o : Option KeptPage) → IfSome (option_map (state_page langs) o) (HasStayed tree js)
      → IfSome (option_map (state_page langs) (option_map (with_judgements more rows) o)) (HasStayed tree js)
  more_by langs more rows None held = tt
  more_by langs more rows (Some p) held = record {
    tree = held.tree;
    more = held.more ++ more;
    judgements = ap (λ l. l ++ more) held.judgements ∙ append_assoc js held.more more;
  }

  more_held : (langs : List (List ℕ)) (page : List ℕ) (more : List Judgement) (rows : Outcomes) (pages : List KeptPage) → (n ≡ page) ⊎ (n ≡ page → ⊥) → IsHeld langs pages
      → IsHeld langs (with_row page_name page (with_judgements more rows) pages)
  more_held langs page more rows pages (inl same) held =
      let new = with_row page_name page (with_judgements more rows) pages in
      let found : at page_name n new ≡ option_map (with_judgements more rows) (at page_name n pages) =
      subst (λ m. at page_name m new ≡ option_map (with_judgements more rows) (at page_name m pages)) (sym same) (at_with_row page_name page (with_judgements more rows) (λ _ _. refl) pages) in
      subst (λ o. IfSome o (HasStayed tree js)) (sym (page_seen langs n new ∙ ap (option_map (state_page langs)) found))
      (more_by langs more rows (at page_name n pages) (subst (λ o. IfSome o (HasStayed tree js)) (page_seen langs n pages) held))
  more_held langs page more rows pages (inr other) held =
      same_held langs pages (with_row page_name page (with_judgements more rows) pages) (at_with_row_other page_name page (with_judgements more rows) (λ _ _. refl) n pages other) held

  -- ---- a request to its site

  module _ (book : Book) (t : Tables) (sound : IsSound book t) (caller : List ℕ) where
    abbrev HoldsBy : List ℕ → Option Change → Type 0
    HoldsBy site change = Held (site_at site (state_of t)) → Held (site_at site (state_of (made change t)))

    by_rows : (site : List ℕ) (change : Option Change) (old new : Option KeptSite) → kept_site site t ≡ old → kept_site site (made change t) ≡ new
        → (Held (option_map site_state old) → Held (option_map site_state new)) → HoldsBy site change
    by_rows site change old new is is_new holds =
        λ held.
        subst Held (sym (site_seen site (made change t) ∙ ap (option_map site_state) is_new))
        (holds (subst Held (site_seen site t ∙ ap (option_map site_state) is) held))

    found : (site : List ℕ) (k : KeptSite) (f : KeptSite → KeptSite) → ((s : KeptSite) → (f s).site.name ≡ s.site.name) → kept_site site t ≡ Some k
        → kept_site site (record { edition = t.edition; sites = with_row site_name site f t.sites }) ≡ Some (f k)
    found site k f keeps is = at_with_row site_name site f (λ s _. keeps s) t.sites ∙ ap (option_map f) is

    put_holds : (site : List ℕ) (k : KeptSite) (counter : ℕ) (put : PagePut) → kept_site site t ≡ Some k → (put.page.head.page ≡ n → ⊥) → HoldsBy site (Some (PutPages site counter (put ∷ [])))
    put_holds site k counter put is other =
        by_rows site (Some (PutPages site counter (put ∷ []))) (Some k) (Some (with_pages counter (put ∷ []) k)) is (found site k (with_pages counter (put ∷ [])) (λ _. refl) is)
        (put_held k.site.languages (put_over k.pages put) k.pages other)

    add_holds : (site page : List ℕ) (k : KeptSite) (more : List Judgement) (rows : Outcomes) → kept_site site t ≡ Some k → HoldsBy site (Some (AddJudgements site page more rows))
    add_holds site page k more rows is =
        by_rows site (Some (AddJudgements site page more rows)) (Some k) (Some (with_judged page more rows k)) is (found site k (with_judged page more rows) (λ _. refl) is)
        (more_held k.site.languages page more rows k.pages (same_or_other n page))

    holds_by : (c : Command) → (Renews (site_of c) n c → ⊥) → Brings (HoldsBy (site_of c)) (decision book caller c (site_at (site_of c) (state_of t)) (memberships caller (state_of t)))
    holds_by (command.PutSite site) leaves =
        new_site_kept (HoldsBy site) t site caller (λ none.
        let row : KeptSite = record { site = new_site site caller; pages = pages_of site t } in
        by_rows site (Some (PutSite (new_site site caller))) None (Some row) none (at_put site_name row t.sites)
        (λ _. subst (λ o. IsHeld [] (pages_in o)) (sym none) tt))
    holds_by (command.PutMember site user held) leaves =
        entering_kept (HoldsBy site) t needed.Owner caller site _ (λ k is _.
        put_member_brings (HoldsBy site) site caller user held k.site (λ _.
        let new = site_with site k.site (members_with user held k.site.members) in
        let row : KeptSite = record { site = new; pages = pages_of site t } in
        by_rows site (Some (PutSite new)) (Some k) (Some row) is (at_put site_name row t.sites)
        (λ old. subst (λ o. IsHeld k.site.languages (pages_in o)) (sym is) old)))
    holds_by (command.PutLanguages site langs) leaves = absurd (leaves refl)
    holds_by (command.PutPage site page rev raw) leaves =
        entering_kept (HoldsBy site) t needed.Editor caller site _ (λ k is _.
        put_page_brings (HoldsBy site) book site caller page rev raw k.site (revision_in (page_at page (state_pages k.site.languages k.pages))) (judged (page_at page (state_pages k.site.languages k.pages))) (length (state_pages k.site.languages k.pages)) (λ _ _ _ _.
        put_holds site k (k.site.counter + 1) (page_put book page (k.site.counter + 1) caller (with_langs (page_of raw) k.site.languages) (judged (page_at page (state_pages k.site.languages k.pages)))) is
        (λ same. leaves (refl, same))))
    holds_by (command.DropPage site page rev) leaves =
        entering_kept (HoldsBy site) t needed.Editor caller site _ (λ k is _.
        on_page_kept (HoldsBy site) t page k (λ (q : PageState). drop_page site page rev q.page) (λ p _.
        drop_page_brings (HoldsBy site) site page rev p.page (λ _.
        by_rows site (Some (DropPage site page)) (Some k) (Some (without_page page k)) is (found site k (without_page page) (λ _. refl) is)
        (same_held k.site.languages k.pages (take_row page_name page k.pages)
        (at_take_other page_name page n k.pages (λ same. leaves (refl, sym same)) (kept_fits book t sound site k is).in_order)))))
    holds_by (command.Import site entries) leaves =
        entering_kept (HoldsBy site) t needed.Editor caller site _ (λ k is _.
        import_brings (HoldsBy site) book site caller entries (site_state k) (λ _ _ _ _.
        let given = puts book k.site.languages caller (state_pages k.site.languages k.pages) k.site.counter entries in
        let f = with_pages (k.site.counter + length entries) given in
        by_rows site (Some (PutPages site (k.site.counter + length entries) given)) (Some k) (Some (f k)) is (found site k f (λ _. refl) is)
        (puts_held book k.site.languages caller k.pages k.pages k.site.counter entries (λ has. leaves (refl, has)))))
    holds_by (command.EditPage site page rev edits) leaves =
        entering_kept (HoldsBy site) t needed.Editor caller site _ (λ k is _.
        on_page_kept (HoldsBy site) t page k (edit_page book site caller page rev edits k.site) (λ p _.
        edit_page_brings (HoldsBy site) book site caller page rev edits k.site (state_page k.site.languages p) (λ _ _ new _.
        put_holds site k (k.site.counter + 1) (page_put book page (k.site.counter + 1) caller (with_langs (with_trees p.page.tree new) k.site.languages) p.judgements) is
        (λ same. leaves (refl, same)))))
    holds_by (command.Judge site page rule node verdict seen note) leaves =
        entering_kept (HoldsBy site) t needed.Judge caller site _ (λ k is _.
        on_page_kept (HoldsBy site) t page k (judge book site caller page rule node verdict seen note) (λ p _.
        judge_brings (HoldsBy site) book site caller page rule node verdict seen note (state_page k.site.languages p) (λ row _. (λ _ held. held, λ _. add_holds site page k _ _ is))))
    holds_by (command.TakeEarl site page claims) leaves =
        entering_kept (HoldsBy site) t needed.Judge caller site _ (λ k is _.
        on_page_kept (HoldsBy site) t page k (take_earl book site caller page claims) (λ p _.
        take_earl_brings (HoldsBy site) book site caller page claims (state_page k.site.languages p) (λ _ held. held) (λ more _ _. add_holds site page k more _ is)))
    holds_by (command.GetPage site page) leaves = page_read (HoldsBy site) t caller site page _ (λ held. held)
    holds_by (command.GetOutcomes site page) leaves = page_read (HoldsBy site) t caller site page _ (λ held. held)
    holds_by (command.GetReport site page) leaves = page_read (HoldsBy site) t caller site page _ (λ held. held)
    holds_by (command.GetEarl site page) leaves = page_read (HoldsBy site) t caller site page _ (λ held. held)
    holds_by (command.GetNames site page) leaves = page_read (HoldsBy site) t caller site page _ (λ held. held)
    holds_by (command.SiteReport site) leaves = site_read (HoldsBy site) t caller site _ (λ held. held)
    holds_by (command.SiteEarl site) leaves = site_read (HoldsBy site) t caller site _ (λ held. held)
    holds_by (command.SiteCsv site) leaves = site_read (HoldsBy site) t caller site _ (λ held. held)
    holds_by (command.GetVerdicts site page) leaves = page_read (HoldsBy site) t caller site page _ (λ held. held)
    holds_by (command.GetMembers site) leaves = site_read (HoldsBy site) t caller site _ (λ held. held)
    holds_by command.GetMemberships leaves = λ held. held

-- ---- a request that renews a page, and isn't refused, is accepted

on_accepts : {X : Type 0} (o : Option X) (r : Refusal) (next : X → Decision) → ((x : X) → Accepts (next x)) → Accepts (on o r next)
on_accepts None r next accepts = tt
on_accepts (Some x) r next accepts = accepts x

entering_accepts : (leave : Needed) (caller : List ℕ) (kept : Option SiteState) (next : SiteState → Decision) → ((s : SiteState) → Accepts (next s)) → Accepts (entering leave caller kept next)
entering_accepts leave caller kept next accepts =
    on_accepts kept refusal.NoSite _ (λ s. unless_accepts (may leave (role_of caller s.site.members)) (refusal.NotAllowed leave) (next s) (accepts s))

import_accepts : (book : Book) (site caller : List ℕ) (entries : List Entry) (s : SiteState) → Accepts (import book site caller entries s)
import_accepts book site caller entries s =
    unless_accepts (has_room_for (new_pages s.pages entries) (length s.pages)) (refusal.PageLimit limit.Pages) _ (
    unless_accepts (has_revisions s.site.counter (length entries)) (refusal.PageLimit limit.Revisions) _ (
    unless_refused_accepts (first_stale s.pages entries) _ (
    unless_refused_accepts (first_fault entries) _ tt)))

renewing_accepts : (book : Book) (site page caller : List ℕ) (c : Command) (kept : Option SiteState) (own : List Membership) → Renews site page c → Accepts (decision book caller c kept own)
renewing_accepts book site page caller (command.PutLanguages s langs) kept own renews = entering_accepts needed.Owner caller kept _ (λ _. tt)
renewing_accepts book site page caller (command.PutPage s p rev raw) kept own renews =
    entering_accepts needed.Editor caller kept _ (λ k. put_page_accepts book s caller p rev raw k.site (revision_in (page_at p k.pages)) (judged (page_at p k.pages)) (length k.pages))
renewing_accepts book site page caller (command.DropPage s p rev) kept own renews =
    entering_accepts needed.Editor caller kept _ (λ k. on_accepts (page_at p k.pages) refusal.NoPage _ (λ q. drop_page_accepts s p rev q.page))
renewing_accepts book site page caller (command.Import s entries) kept own renews = entering_accepts needed.Editor caller kept _ (import_accepts book s caller entries)
renewing_accepts book site page caller (command.EditPage s p rev edits) kept own renews =
    entering_accepts needed.Editor caller kept _ (λ k. on_accepts (page_at p k.pages) refusal.NoPage _ (edit_page_accepts book s caller p rev edits k.site))
renewing_accepts book site page caller other kept own renews = absurd renews

-- ---- steps, and runs

-- a site of sound tables, of which this holds
record Reached (book : Book) (site : List ℕ) (P : Option SiteState → Type 0) (state : State) : Type 0 where
  pub tables : Tables
  pub is : state ≡ state_of tables
  pub sound : IsSound book tables
  pub holds : P (site_at site (state_of tables))

module _ (book : Book) (site page : List ℕ) (tree : Document) (js : List Judgement) where
  abbrev P : Option SiteState → Type 0
  P = Held page tree js

  step_held : (t : Tables) (q : Request) (d : Decided) → IsSound book t → decided book q (state_of t) ≡ Ok d → (Renews site page q.command → ⊥)
      → (site ≡ site_of q.command) ⊎ (site ≡ site_of q.command → ⊥) → P (site_at site (state_of t)) → P (site_at site (state_of (made d.change t)))
  step_held t q d sound is leaves (inl same) held =
      let Q : List ℕ → Option Change → Type 0 = λ s change. P (site_at s (state_of t)) → P (site_at s (state_of (made change t))) in
      let here : Brings (Q (site_of q.command)) (decided book q (state_of t)) =
      holds_by page tree js book t sound q.caller q.command (subst (λ s. Renews s page q.command → ⊥) same leaves) in
      subst (λ s. Q s d.change) (sym same) (brought (Q (site_of q.command)) (decided book q (state_of t)) d is here) held
  step_held t q d sound is leaves (inr other) held =
      let stays : site_at site (stepped (state_of t) (decided book q (state_of t))).0 ≡ site_at site (state_of t) = other_sites_stay book q (state_of t) site other in
      let after_is : site_at site (after d.change (state_of t)) ≡ site_at site (state_of t) = ap (λ decision. site_at site (stepped (state_of t) decision).0) (sym is) ∙ stays in
      subst P (sym (ap (site_at site) (sym (after_made d.change t)) ∙ after_is)) held

  reached_by : (t : Tables) (q : Request) (reply : Reply) (new : State) (decision : Decision) → decided book q (state_of t) ≡ decision → stepped (state_of t) decision ≡ (new, reply)
      → IsSound book t → FitsRequest book q → (IsAccepted reply → Renews site page q.command → ⊥) → P (site_at site (state_of t)) → Reached book site P new
  reached_by t q reply new (Ok d) is becomes sound fits leaves held =
      let there : after d.change (state_of t) ≡ new = ap (λ (p : State × Reply). p.0) becomes in
      let said : d.reply ≡ reply = ap (λ (p : State × Reply). p.1) becomes in
      let accepts : Renews site page q.command → IsAccepted reply =
      λ renews. subst IsAccepted said (subst Accepts is (renewing_accepts book site page q.caller q.command (site_at (site_of q.command) (state_of t)) (memberships q.caller (state_of t)) renews)) in
      record {
        tables = made d.change t;
        is = sym there ∙ after_made d.change t;
        sound = keeps_sound book q t d fits sound is;
        holds = step_held t q d sound is (λ renews. leaves (accepts renews) renews) (same_or_other site (site_of q.command)) held;
      }
  reached_by t q reply new (Err r) is becomes sound fits leaves held = record {
    tables = t;
    is = sym (ap (λ (p : State × Reply). p.0) becomes);
    sound = sound;
    holds = held;
  }

  reached_answer : (q : Request) (old new : State) (reply : Reply) (before now : ℕ) → FitsRequest book q → (IsAccepted reply → Renews site page q.command → ⊥)
      → Answers book old q reply new before now → Reached book site P old → Reached book site P new
  reached_answer q old new reply before now fits leaves (inl is) r =
      let t = r.tables in
      reached_by t q reply new (decided book q (state_of t)) refl (subst (λ state. step book state q ≡ (new, reply)) r.is is) r.sound fits leaves r.holds
  reached_answer q old new reply before now fits leaves (inr failed) r = subst (Reached book site P) (sym failed.0) r

  reached_run : (qs : List Request) (replies : List Reply) (old new : State) (from to : ℕ) → All (FitsRequest book) qs → NoneRenews site page qs replies → Runs book old qs replies new from to
      → Reached book site P old → Reached book site P new
  reached_run [] [] old new from to fits leave run r = subst (Reached book site P) (sym run.0) r
  reached_run [] (reply ∷ replies) old new from to fits leave run r = absurd run
  reached_run (q ∷ qs) [] old new from to fits leave run r = absurd run
  reached_run (q ∷ qs) (reply ∷ replies) old new from to fits leave run r =
      reached_run qs replies run.0 new run.2 to (All-tail (FitsRequest book) q qs fits) leave.1 run.6
      (reached_answer q old run.0 reply run.1 run.2 (All-head (FitsRequest book) q qs fits) leave.0 run.5 r)

-- ---- claims, sent again

unless_nothing : (holds : Bool) (r : Refusal) (next : Decision) → AddsNothing next → AddsNothing (unless holds r next)
unless_nothing true r next nothing = nothing
unless_nothing false r next nothing = tt

module _ (book : Book) (site caller page : List ℕ) (claims : List (Option Claim)) where
  nothing_by : (p : PageState) (more : List Judgement) → more ≡ [] → (additions book site page more p ≡ None) × (length more ≡ 0)
  nothing_by p [] none = (refl, refl)
  nothing_by p (j ∷ js) none = absurd (cc)

  nothing_on : (tree : Document) (js : List Judgement) (o : Option PageState) → IfSome o (HasStayed tree (js ++ (taken_with book caller claims tree js).added))
      → AddsNothing (on o refusal.NoPage (take_earl book site caller page claims))
  nothing_on tree js None stayed = tt
  nothing_on tree js (Some p) stayed =
      unless_nothing (not (bytes_eq caller p.page.head.hand)) refusal.SameHand (added_all book site page (taken_on book caller claims p) p)
      (nothing_by p (taken_on book caller claims p).added (none_then book caller claims tree js p stayed))

  nothing_then : (tree : Document) (js : List Judgement) (kept : Option SiteState) (own : List Membership) → Held page tree (js ++ (taken_with book caller claims tree js).added) kept
      → AddsNothing (decision book caller (command.TakeEarl site page claims) kept own)
  nothing_then tree js None own held = tt
  nothing_then tree js (Some s) own held =
      unless_nothing (may needed.Judge (role_of caller s.site.members)) (refusal.NotAllowed needed.Judge) (on_page page s (take_earl book site caller page claims))
      (nothing_on tree js (page_at page s.pages) held)

  -- after the claims were taken: which page it was, and what it has then
  record Took (t : Tables) (change : Option Change) : Type 0 where
    pub tree : Document
    pub js : List Judgement
    pub holds : Held page tree (js ++ (taken_with book caller claims tree js).added) (site_at site (state_of (made change t)))

  module _ (t : Tables) where
    took_by : (k : KeptSite) (p : KeptPage) (change : Option Change) (more : List Judgement) (k' : KeptSite) (p' : KeptPage)
        → more ≡ (taken_on book caller claims (state_page k.site.languages p)).added → kept_site site (made change t) ≡ Some k' → at page_name page k'.pages ≡ Some p'
        → k'.site.languages ≡ k.site.languages → p'.page.tree ≡ p.page.tree → p'.judgements ≡ p.judgements ++ more → Took t change
    took_by k p change more k' p' added is there langs tree judgements =
        let seen = state_page k.site.languages p in
        let all = p.judgements ++ (taken_with book caller claims seen.page.tree p.judgements).added in
        let stayed : HasStayed seen.page.tree all (state_page k'.site.languages p') = record {
          tree = ap (with_langs p'.page.tree) langs ∙ ap (λ (d : Document). with_langs d k.site.languages) tree;
          more = [];
          judgements = judgements ∙ ap (λ l. p.judgements ++ l) added ∙ sym (append-nil all);
        } in
        let at_page : IfSome (page_at page (state_pages k'.site.languages k'.pages)) (HasStayed seen.page.tree all) =
        subst (λ o. IfSome o (HasStayed seen.page.tree all)) (sym (page_seen k'.site.languages page k'.pages ∙ ap (option_map (state_page k'.site.languages)) there)) stayed in
        record {
          tree = seen.page.tree;
          js = p.judgements;
          holds = subst (Held page seen.page.tree all) (sym (site_seen site (made change t) ∙ ap (option_map site_state) is)) at_page;
        }

    took : Brings (Took t) (decision book caller (command.TakeEarl site page claims) (site_at site (state_of t)) (memberships caller (state_of t)))
    took =
        entering_kept (Took t) t needed.Judge caller site _ (λ k is _.
        on_page_kept (Took t) t page k (take_earl book site caller page claims) (λ p there.
        take_earl_brings (Took t) book site caller page claims (state_page k.site.languages p)
        (λ none. took_by k p None [] k p (sym none) is there refl refl (sym (append-nil p.judgements)))
        (λ more added _.
        let rows : Outcomes = record { rows = outcomes book (with_langs p.page.tree k.site.languages) (p.judgements ++ more) } in
        took_by k p (Some (AddJudgements site page more rows)) more (with_judged page more rows k) (with_judgements more rows p) added
        (at_with_row site_name site (with_judged page more rows) (λ _ _. refl) t.sites ∙ ap (option_map (with_judged page more rows)) is)
        (at_with_row page_name page (with_judgements more rows) (λ _ _. refl) k.pages ∙ ap (option_map (with_judgements more rows)) there) refl refl refl)))

  -- sent again, they add nothing
  pub adds_nothing_again : (t : Tables) (d : Decided) (qs : List Request) (replies : List Reply) (new : State) (from to : ℕ) → IsSound book t
      → FitsRequest book (asked_by caller (command.TakeEarl site page claims)) → decided book (asked_by caller (command.TakeEarl site page claims)) (state_of t) ≡ Ok d
      → All (FitsRequest book) qs → Runs book (after d.change (state_of t)) qs replies new from to → NoneRenews site page qs replies
      → AddsNothing (decided book (asked_by caller (command.TakeEarl site page claims)) new)
  adds_nothing_again t d qs replies new from to sound fits is all run leave =
      let q : Request = asked_by caller (command.TakeEarl site page claims) in
      let first = brought (Took t) (decided book q (state_of t)) d is (took t) in
      let js = first.js ++ (taken_with book caller claims first.tree first.js).added in
      let reached : Reached book site (Held page first.tree js) (after d.change (state_of t)) = record {
        tables = made d.change t;
        is = after_made d.change t;
        sound = keeps_sound book q t d fits sound is;
        holds = first.holds;
      } in
      let last = reached_run book site page first.tree js qs replies (after d.change (state_of t)) new from to all leave run reached in
      subst (λ state. AddsNothing (decided book q state)) (sym last.is) (nothing_then first.tree first.js (site_at site (state_of last.tables)) (memberships caller (state_of last.tables)) last.holds)
