-- A revision never comes twice in a site.
use Rattle.std.proofs.Common.{◌≡◌, ℕ, ◌+◌, ◌<◌, ◌≤◌, ◌==◌, List, [], ◌∷◌, ◌++◌, length, map, Bool, true, false, Option, Some, None, option_map, Ok, Err, refl, sym, ap, ◌∙◌, subst, arith, inl, inr, ◌⊎◌}
use Rattle.std.specs.List.{All}
use Rattle.std.proofs.lemmas.Bool.Decides.{nat_tests}
use Rattle.std.proofs.lemmas.List.Elements.{All-head, All-tail}
use Rattle.snap_tree.specs.Trees.{with_trees, with_langs}
use Rattle.snap_tree.specs.Grown.{page_of}
use Rattle.rule_core.specs.Books.{Book}
use Rattle.judge_core.specs.declared.judgement.Judgement.{Judgement}
use Rattle.judge_core.specs.declared.outcomes.Outcomes.{Outcomes}
use Rattle.judge_core.specs.Outcomes.{outcomes}
use Rattle.named_rows.specs.ByName.{at, put_row, put_rows, take_row, with_row, IsInOrder}
use Rattle.named_rows.proofs.Lookups.{at_put, at_put_other, at_with_row, at_with_row_other}
use Rattle.named_rows.proofs.Order.{at_take, at_take_other}
use Rattle.keep_core.specs.declared.page.PagePut.{PagePut}
use Rattle.keep_core.specs.declared.page.PageOutcomes.{PageOutcomes}
use Rattle.keep_core.specs.declared.change.Change.{Change}
use Rattle.keep_core.specs.declared.change.Change.TheVariants.{PutSite, PutPages, DropPage, AddJudgements, PutLanguages}
use Rattle.keep_core.specs.declared.tables.KeptPage.{KeptPage}
use Rattle.keep_core.specs.declared.tables.KeptSite.{KeptSite}
use Rattle.keep_core.specs.declared.tables.Tables.{Tables}
use Rattle.keep_core.specs.Tables.{kept_site, pages_in, pages_of, site_name, page_name}
use Rattle.keep_core.specs.Changes.{put_over, with_pages, without_page, with_judgements, with_judged, with_languages, with_outcomes, changed}
use Rattle.desk_core.specs.declared.command.Command.{Command}
use Rattle.desk_core.specs.declared.command.Command.TheVariants as command
use Rattle.desk_core.specs.declared.command.Entry.{Entry}
use Rattle.keep_core.specs.declared.member.Membership.{Membership}
use Rattle.desk_core.specs.declared.decided.Decided.{Decided}
use Rattle.desk_core.specs.declared.refusal.Needed.TheVariants as needed
use Rattle.desk_core.specs.declared.refusal.Refusal.TheVariants as refusal
use Rattle.desk_core.specs.declared.reply.Reply.{Reply}
use Rattle.desk_core.specs.Refusals.{Decision}
use Rattle.desk_core.specs.State.{PageState, SiteState, State, site_state, state_of, page_at, site_at}
use Rattle.desk_core.specs.Members.{new_site, site_with, members_with}
use Rattle.desk_core.specs.Pages.{revision_in, rev_of, judged, page_put, edit_page, drop_page}
use Rattle.desk_core.specs.Imports.{puts, first_stale}
use Rattle.desk_core.specs.Judging.{judge}
use Rattle.desk_core.specs.Claiming.{take_earl}
use Rattle.desk_core.specs.Changes.{after}
use Rattle.desk_core.specs.Steps.{Request, site_of, decision, decided, stepped, step}
use Rattle.desk_core.specs.Memberships.{memberships}
use Rattle.desk_core.specs.Runs.{Answers, Runs}
use Rattle.desk_core.specs.Fitting.{FitsRequest}
use Rattle.desk_core.specs.Soundness.{rev_in, IsSound, made}
use Rattle.desk_core.specs.Once.{IsRefused}
use Rattle.desk_core.specs.Revisions.{counter_of, revision_of, Moves, Rises, HasEntry, Carries, Puts}
use Rattle.desk_core.proofs.Views.{state_page, state_pages, page_seen, outcomes_unseen, site_seen, same_or_other}
use Rattle.desk_core.proofs.Deciding.{Brings, brought, entering_brings, on_page_brings, put_member_brings, put_languages_brings, put_page_brings, edit_page_brings, drop_page_brings, import_brings, judge_brings, take_earl_brings}
use Rattle.desk_core.proofs.Kept.{entering_kept, on_page_kept, new_site_kept, page_read, site_read}
use Rattle.desk_core.proofs.Sites.{other_sites_stay}
use Rattle.desk_core.proofs.Sound.{kept_fits, kept_sound}
use Rattle.desk_core.proofs.NewOutcomes.{all_relisted}
use Rattle.desk_core.proofs.Keeping.{keeps_sound}
use Rattle.desk_core.proofs.Again.{rev_at, old_rev, put_newer, puts_newer, weakened, after_made, Nothing, first_fresh, refused_by}

-- ---- a page's revision, where pages change

rev_seen : (langs : List (List ℕ)) (page : List ℕ) (pages cur : List KeptPage) → at page_name page pages ≡ at page_name page cur → rev_at langs page pages ≡ rev_at langs page cur
rev_seen langs page pages cur same = ap rev_of (page_seen langs page pages ∙ ap (option_map (state_page langs)) same ∙ sym (page_seen langs page cur))

moves_still : (counter old mid new : ℕ) → new ≡ mid → Moves counter old mid → Moves counter old new
moves_still counter old mid new same moves = subst (Moves counter old) (sym same) moves

put_moves_by : (langs : List (List ℕ)) (least old : ℕ) (page : List ℕ) (row : KeptPage) (cur : List KeptPage) → (page ≡ page_name row) ⊎ (page ≡ page_name row → ⊥) → least < rev_in row
    → Moves least old (rev_at langs page cur) → Moves least old (rev_at langs page (put_row page_name row cur))
put_moves_by langs least old page row cur (inl same) newer moves =
    inr (inr (subst (λ n. least < rev_at langs n (put_row page_name row cur)) (sym same) (put_newer langs least row cur newer)))
put_moves_by langs least old page row cur (inr other) newer moves =
    moves_still least old (rev_at langs page cur) (rev_at langs page (put_row page_name row cur)) (rev_seen langs page (put_row page_name row cur) cur (at_put_other page_name page row cur other)) moves

put_moves : (langs : List (List ℕ)) (least old : ℕ) (page : List ℕ) (row : KeptPage) (cur : List KeptPage) → least < rev_in row → Moves least old (rev_at langs page cur) → Moves least old (rev_at langs page (put_row page_name row cur))
put_moves langs least old page row cur newer moves = put_moves_by langs least old page row cur (same_or_other page (page_name row)) newer moves

puts_move : (book : Book) (langs : List (List ℕ)) (caller page : List ℕ) (orig cur : List KeptPage) (least old counter : ℕ) (entries : List Entry) → least ≤ counter → Moves least old (rev_at langs page cur)
    → Moves least old (rev_at langs page (put_rows page_name (map (put_over orig) (puts book langs caller (state_pages langs orig) counter entries)) cur))
puts_move book langs caller page orig cur least old counter [] within moves = moves
puts_move book langs caller page orig cur least old counter (e ∷ entries) within moves =
    let row : KeptPage = put_over orig (page_put book e.page (counter + 1) caller (with_langs (page_of e.raw) langs) (judged (page_at e.page (state_pages langs orig)))) in
    puts_move book langs caller page orig (put_row page_name row cur) least old (counter + 1) entries (omega arith) (put_moves langs least old page row cur (omega arith) moves)

gone_rev : (langs : List (List ℕ)) (page : List ℕ) (pages : List KeptPage) → at page_name page pages ≡ None → rev_at langs page pages ≡ 0
gone_rev langs page pages none = ap rev_of (page_seen langs page pages ∙ ap (option_map (state_page langs)) none)

take_moves : (langs : List (List ℕ)) (counter : ℕ) (n page : List ℕ) (pages : List KeptPage) → IsInOrder page_name pages → (n ≡ page) ⊎ (n ≡ page → ⊥) → Moves counter (rev_at langs n pages) (rev_at langs n (take_row page_name page pages))
take_moves langs counter n page pages order (inl same) =
    inr (inl (subst (λ n. rev_at langs n (take_row page_name page pages) ≡ 0) (sym same) (gone_rev langs page (take_row page_name page pages) (at_take page_name page pages order))))
take_moves langs counter n page pages order (inr other) = inl (rev_seen langs n (take_row page_name page pages) pages (at_take_other page_name page n pages other order))

judged_rev : (langs : List (List ℕ)) (js : List Judgement) (o : Outcomes) (found : Option KeptPage) → rev_of (option_map (state_page langs) (option_map (with_judgements js o) found)) ≡ rev_of (option_map (state_page langs) found)
judged_rev langs js o None = refl
judged_rev langs js o (Some p) = refl

judge_moves : (langs : List (List ℕ)) (n page : List ℕ) (js : List Judgement) (o : Outcomes) (pages : List KeptPage) → (n ≡ page) ⊎ (n ≡ page → ⊥) → rev_at langs n (with_row page_name page (with_judgements js o) pages) ≡ rev_at langs n pages
judge_moves langs n page js o pages (inl same) =
    subst (λ n. rev_at langs n (with_row page_name page (with_judgements js o) pages) ≡ rev_at langs n pages) (sym same)
    (ap rev_of (page_seen langs page (with_row page_name page (with_judgements js o) pages) ∙ ap (option_map (state_page langs)) (at_with_row page_name page (with_judgements js o) (λ _ _. refl) pages))
    ∙ judged_rev langs js o (at page_name page pages) ∙ sym (ap rev_of (page_seen langs page pages)))
judge_moves langs n page js o pages (inr other) = rev_seen langs n (with_row page_name page (with_judgements js o) pages) pages (at_with_row_other page_name page (with_judgements js o) (λ _ _. refl) n pages other)

-- whatever the languages of its site are, and whatever its outcomes
any_rev : (langs old : List (List ℕ)) (o : Option KeptPage) → rev_of (option_map (state_page langs) o) ≡ rev_of (option_map (state_page old) o)
any_rev langs old None = refl
any_rev langs old (Some p) = refl

relisted_rev : (langs old : List (List ℕ)) (n : List ℕ) (new : List PageOutcomes) (pages : List KeptPage) → rev_at langs n (with_outcomes new pages) ≡ rev_at old n pages
relisted_rev langs old n new pages =
    ap (λ (seen : List PageState). rev_of (page_at n seen)) (outcomes_unseen langs new pages)
    ∙ ap rev_of (page_seen langs n pages) ∙ any_rev langs old (at page_name n pages) ∙ sym (ap rev_of (page_seen old n pages))

-- ---- a site, where it changes

still : (n : List ℕ) (o : Option SiteState) → Rises n o o
still n o = record { counter = omega arith; revision = inl refl }

module _ (book : Book) (t : Tables) (sound : IsSound book t) (caller n : List ℕ) where
  abbrev RisesBy : List ℕ → Option Change → Type 0
  RisesBy site change = Rises n (site_at site (state_of t)) (site_at site (state_of (made change t)))

  by_rows : (site : List ℕ) (change : Option Change) (old new : Option KeptSite) → kept_site site t ≡ old → kept_site site (made change t) ≡ new
      → Rises n (option_map site_state old) (option_map site_state new) → RisesBy site change
  by_rows site change old new is is_new rises =
      subst (λ o. Rises n o (site_at site (state_of (made change t)))) (sym (site_seen site t ∙ ap (option_map site_state) is))
      (subst (Rises n (option_map site_state old)) (sym (site_seen site (made change t) ∙ ap (option_map site_state) is_new)) rises)

  found : (site : List ℕ) (k : KeptSite) (f : KeptSite → KeptSite) → ((s : KeptSite) → (f s).site.name ≡ s.site.name) → kept_site site t ≡ Some k → kept_site site (record { edition = t.edition; sites = with_row site_name site f t.sites }) ≡ Some (f k)
  found site k f keeps is = at_with_row site_name site f (λ s _. keeps s) t.sites ∙ ap (option_map f) is

  pages_rise : (site : List ℕ) (k : KeptSite) (counter : ℕ) (puts : List PagePut) → kept_site site t ≡ Some k → k.site.counter ≤ counter
      → Moves k.site.counter (rev_at k.site.languages n k.pages) (rev_at k.site.languages n (put_rows page_name (map (put_over k.pages) puts) k.pages)) → RisesBy site (Some (PutPages site counter puts))
  pages_rise site k counter puts is within moves =
      by_rows site (Some (PutPages site counter puts)) (Some k) (Some (with_pages counter puts k)) is (found site k (with_pages counter puts) (λ _. refl) is)
      (record { counter = within; revision = moves })

  put_rises : (site : List ℕ) (k : KeptSite) (put : PagePut) → kept_site site t ≡ Some k → put.page.head.rev ≡ k.site.counter + 1 → RisesBy site (Some (PutPages site (k.site.counter + 1) (put ∷ [])))
  put_rises site k put is next =
      pages_rise site k (k.site.counter + 1) (put ∷ []) is (omega arith) (put_moves k.site.languages k.site.counter (rev_at k.site.languages n k.pages) n (put_over k.pages put) k.pages (omega arith) (inl refl))

  rises_by : (c : Command) → Brings (RisesBy (site_of c)) (decision book caller c (site_at (site_of c) (state_of t)) (memberships caller (state_of t)))
  rises_by (command.PutSite site) =
      new_site_kept (RisesBy site) t site caller (λ none.
      let row : KeptSite = record { site = new_site site caller; pages = pages_of site t } in
      by_rows site (Some (PutSite (new_site site caller))) None (Some row) none (at_put site_name row t.sites)
      (record { counter = omega arith; revision = inl (ap (λ o. rev_at [] n (pages_in o)) none) }))
  rises_by (command.PutMember site user held) =
      entering_kept (RisesBy site) t needed.Owner caller site _ (λ k is _.
      put_member_brings (RisesBy site) site caller user held k.site (λ _.
      let new = site_with site k.site (members_with user held k.site.members) in
      let row : KeptSite = record { site = new; pages = pages_of site t } in
      by_rows site (Some (PutSite new)) (Some k) (Some row) is (at_put site_name row t.sites) (record { counter = omega arith; revision = inl (ap (λ o. rev_at k.site.languages n (pages_in o)) is) })))
  rises_by (command.PutLanguages site langs) =
      entering_kept (RisesBy site) t needed.Owner caller site _ (λ k is _.
      put_languages_brings (RisesBy site) book site langs (site_state k)
      (let new = all_relisted book langs k.site.languages k.pages in
      by_rows site (Some (PutLanguages site langs new)) (Some k) (Some (with_languages langs new k)) is (found site k (with_languages langs new) (λ _. refl) is)
      (record { counter = omega arith; revision = inl (relisted_rev langs k.site.languages n new k.pages) })))
  rises_by (command.PutPage site page rev raw) =
      entering_kept (RisesBy site) t needed.Editor caller site _ (λ k is _.
      put_page_brings (RisesBy site) book site caller page rev raw k.site (revision_in (page_at page (state_pages k.site.languages k.pages))) (judged (page_at page (state_pages k.site.languages k.pages))) (length (state_pages k.site.languages k.pages)) (λ _ _ _ _.
      put_rises site k (page_put book page (k.site.counter + 1) caller (with_langs (page_of raw) k.site.languages) (judged (page_at page (state_pages k.site.languages k.pages)))) is refl))
  rises_by (command.DropPage site page rev) =
      entering_kept (RisesBy site) t needed.Editor caller site _ (λ k is _.
      on_page_kept (RisesBy site) t page k (λ (q : PageState). drop_page site page rev q.page) (λ p _.
      drop_page_brings (RisesBy site) site page rev p.page (λ _.
      by_rows site (Some (DropPage site page)) (Some k) (Some (without_page page k)) is (found site k (without_page page) (λ _. refl) is)
      (record { counter = omega arith; revision = take_moves k.site.languages k.site.counter n page k.pages (kept_fits book t sound site k is).in_order (same_or_other n page) }))))
  rises_by (command.Import site entries) =
      entering_kept (RisesBy site) t needed.Editor caller site _ (λ k is _.
      import_brings (RisesBy site) book site caller entries (site_state k) (λ _ _ _ _.
      pages_rise site k (k.site.counter + length entries) (puts book k.site.languages caller (state_pages k.site.languages k.pages) k.site.counter entries) is (omega arith)
      (puts_move book k.site.languages caller n k.pages k.pages k.site.counter (rev_at k.site.languages n k.pages) k.site.counter entries (omega arith) (inl refl))))
  rises_by (command.EditPage site page rev edits) =
      entering_kept (RisesBy site) t needed.Editor caller site _ (λ k is _.
      on_page_kept (RisesBy site) t page k (edit_page book site caller page rev edits k.site) (λ p _.
      edit_page_brings (RisesBy site) book site caller page rev edits k.site (state_page k.site.languages p) (λ _ _ new _.
      put_rises site k (page_put book page (k.site.counter + 1) caller (with_langs (with_trees p.page.tree new) k.site.languages) p.judgements) is refl)))
  rises_by (command.Judge site page rule node verdict seen note) =
      entering_kept (RisesBy site) t needed.Judge caller site _ (λ k is _.
      on_page_kept (RisesBy site) t page k (judge book site caller page rule node verdict seen note) (λ p _.
      judge_brings (RisesBy site) book site caller page rule node verdict seen note (state_page k.site.languages p) (λ row _.
      let j : Judgement = record { rule = rule; node = node; verdict = verdict; hand = caller; note = note; evidence = row.evidence } in
      let o : Outcomes = record { rows = outcomes book (with_langs p.page.tree k.site.languages) (p.judgements ++ j ∷ []) } in (
        λ _. still n (site_at site (state_of t)),
        λ _. by_rows site (Some (AddJudgements site page (j ∷ []) o)) (Some k) (Some (with_judged page (j ∷ []) o k)) is (found site k (with_judged page (j ∷ []) o) (λ _. refl) is)
            (record { counter = omega arith; revision = inl (judge_moves k.site.languages n page (j ∷ []) o k.pages (same_or_other n page)) }),
      ))))
  rises_by (command.TakeEarl site page claims) =
      entering_kept (RisesBy site) t needed.Judge caller site _ (λ k is _.
      on_page_kept (RisesBy site) t page k (take_earl book site caller page claims) (λ p _.
      take_earl_brings (RisesBy site) book site caller page claims (state_page k.site.languages p) (λ _. still n (site_at site (state_of t))) (λ more _ _.
      let o : Outcomes = record { rows = outcomes book (with_langs p.page.tree k.site.languages) (p.judgements ++ more) } in
      by_rows site (Some (AddJudgements site page more o)) (Some k) (Some (with_judged page more o k)) is (found site k (with_judged page more o) (λ _. refl) is)
      (record { counter = omega arith; revision = inl (judge_moves k.site.languages n page more o k.pages (same_or_other n page)) }))))
  rises_by (command.GetPage site page) = page_read (RisesBy site) t caller site page _ (still n (site_at site (state_of t)))
  rises_by (command.GetOutcomes site page) = page_read (RisesBy site) t caller site page _ (still n (site_at site (state_of t)))
  rises_by (command.GetReport site page) = page_read (RisesBy site) t caller site page _ (still n (site_at site (state_of t)))
  rises_by (command.GetEarl site page) = page_read (RisesBy site) t caller site page _ (still n (site_at site (state_of t)))
  rises_by (command.GetNames site page) = page_read (RisesBy site) t caller site page _ (still n (site_at site (state_of t)))
  rises_by (command.SiteReport site) = site_read (RisesBy site) t caller site _ (still n (site_at site (state_of t)))
  rises_by (command.SiteEarl site) = site_read (RisesBy site) t caller site _ (still n (site_at site (state_of t)))
  rises_by (command.SiteCsv site) = site_read (RisesBy site) t caller site _ (still n (site_at site (state_of t)))
  rises_by (command.GetVerdicts site page) = page_read (RisesBy site) t caller site page _ (still n (site_at site (state_of t)))
  rises_by (command.GetMembers site) = site_read (RisesBy site) t caller site _ (still n (site_at site (state_of t)))
  rises_by command.GetMemberships = still n (site_at [] (state_of t))

-- ---- steps

rises_after : (book : Book) (q : Request) (t : Tables) (n : List ℕ) (decision : Decision)
    → Brings (λ change. Rises n (site_at (site_of q.command) (state_of t)) (site_at (site_of q.command) (state_of (made change t)))) decision
    → Rises n (site_at (site_of q.command) (state_of t)) (site_at (site_of q.command) (stepped (state_of t) decision).0)
rises_after book q t n (Ok d) rises =
    subst (λ state. Rises n (site_at (site_of q.command) (state_of t)) (site_at (site_of q.command) state)) (sym (after_made d.change t)) rises
rises_after book q t n (Err r) rises = still n (site_at (site_of q.command) (state_of t))

rises_at : (book : Book) (q : Request) (t : Tables) (site page : List ℕ) → IsSound book t → (site ≡ site_of q.command) ⊎ (site ≡ site_of q.command → ⊥)
    → Rises page (site_at site (state_of t)) (site_at site (step book (state_of t) q).0)
rises_at book q t site page sound (inl same) =
    subst (λ site. Rises page (site_at site (state_of t)) (site_at site (step book (state_of t) q).0)) (sym same)
    (rises_after book q t page (decided book q (state_of t)) (rises_by book t sound q.caller page q.command))
rises_at book q t site page sound (inr other) =
    subst (Rises page (site_at site (state_of t))) (sym (other_sites_stay book q (state_of t) site other)) (still page (site_at site (state_of t)))

-- the counter of a site never falls, and a page gets no revision but a new one
pub revisions_rise : (book : Book) (q : Request) (t : Tables) (site page : List ℕ) → IsSound book t → Rises page (site_at site (state_of t)) (site_at site (step book (state_of t) q).0)
revisions_rise book q t site page sound = rises_at book q t site page sound (same_or_other site (site_of q.command))

within_by : (book : Book) (page : List ℕ) (o : Option KeptSite) → ((k : KeptSite) → o ≡ Some k → rev_at k.site.languages page k.pages ≤ k.site.counter)
    → revision_of page (option_map site_state o) ≤ counter_of (option_map site_state o)
within_by book page None within = omega arith
within_by book page (Some k) within = within k refl

-- no revision is above its site's counter
pub revisions_within : (book : Book) (t : Tables) (site page : List ℕ) → IsSound book t → revision_of page (site_at site (state_of t)) ≤ counter_of (site_at site (state_of t))
revisions_within book t site page sound =
    subst (λ o. revision_of page o ≤ counter_of o) (sym (site_seen site t))
    (within_by book page (kept_site site t) (λ k is. old_rev book k page (kept_sound book t sound site k is)))

-- ---- a revision that is past

-- it was given, and isn't the page's
record Past (page : List ℕ) (rev : ℕ) (o : Option SiteState) : Type 0 where
  pub given : rev ≤ counter_of o
  pub gone : rev ≡ revision_of page o → ⊥

past_by : (page : List ℕ) (rev : ℕ) (old new : Option SiteState) → 1 ≤ rev → Past page rev old → counter_of old ≤ counter_of new
    → Moves (counter_of old) (revision_of page old) (revision_of page new) → Past page rev new
past_by page rev old new some past within (inl same) = record { given = omega (arith, past.given); gone = λ is. past.gone (is ∙ same) }
past_by page rev old new some past within (inr (inl none)) = record { given = omega (arith, past.given); gone = λ is. omega arith }
past_by page rev old new some past within (inr (inr newer)) = record { given = omega (arith, past.given); gone = λ is. omega (arith, past.given) }

past_stays : (page : List ℕ) (rev : ℕ) (old new : Option SiteState) → 1 ≤ rev → Past page rev old → Rises page old new → Past page rev new
past_stays page rev old new some past rises = past_by page rev old new some past rises.counter rises.revision

-- ---- what is refused

each_fresh_by : (pages : List PageState) (e : Entry) (entries : List Entry) (page : List ℕ) (rev : ℕ) (b : Bool) → (e.rev == rev_of (page_at e.page pages)) ≡ b → first_stale pages (e ∷ entries) ≡ None
    → first_stale pages entries ≡ None
each_fresh_by pages e entries page rev true is fresh = rw is at fresh
each_fresh_by pages e entries page rev false is fresh = let no : Some (refusal.StaleRevision (rev_of (page_at e.page pages)) (Some e.page)) ≡ None = rw is at fresh in cc

equal_by : (a b : ℕ) → (a == b) ≡ true → a ≡ b
equal_by a b is = grind (arith, nat_tests)

-- each entry of an import that isn't stale carries its page's revision
each_fresh : (pages : List PageState) (entries : List Entry) (page : List ℕ) (rev : ℕ) → first_stale pages entries ≡ None → HasEntry page rev entries → rev ≡ rev_of (page_at page pages)
each_fresh pages [] page rev fresh has = absurd has
each_fresh pages (e ∷ entries) page rev fresh (inl is) =
    sym is.1 ∙ equal_by e.rev (rev_of (page_at e.page pages)) (first_fresh pages e entries fresh) ∙ ap (λ n. rev_of (page_at n pages)) is.0
each_fresh pages (e ∷ entries) page rev fresh (inr has) =
    each_fresh pages entries page rev (each_fresh_by pages e entries page rev (e.rev == rev_of (page_at e.page pages)) refl fresh) has

module _ (book : Book) (caller page : List ℕ) (rev : ℕ) (own : List Membership) where
  -- what a request that carries a revision is accepted by
  abbrev Current : Option SiteState → Option Change → Type 0
  Current kept change = rev ≡ revision_of page kept

  carried : (sent : ℕ) (p : List ℕ) (s : SiteState) (kept : Option SiteState) → kept ≡ Some s → (p ≡ page) × (sent ≡ rev) → sent ≡ rev_of (page_at p s.pages) → rev ≡ revision_of page kept
  carried sent p s kept is same current =
      sym same.1 ∙ current ∙ ap (λ n. rev_of (page_at n s.pages)) same.0 ∙ sym (ap (revision_of page) is)

  current_by : (c : Command) (kept : Option SiteState) → Carries page rev c → Brings (Current kept) (decision book caller c kept own)
  current_by (command.PutSite site) kept carries = absurd carries
  current_by (command.PutMember site user held) kept carries = absurd carries
  current_by (command.PutLanguages site langs) kept carries = absurd carries
  current_by (command.PutPage site p sent raw) kept carries =
      entering_brings (Current kept) needed.Editor caller kept _ (λ s is _.
      put_page_brings (Current kept) book site caller p sent raw s.site (revision_in (page_at p s.pages)) (judged (page_at p s.pages)) (length s.pages) (λ _ _ same _.
      carried sent p s kept is carries (equal_by sent (rev_of (page_at p s.pages)) same)))
  current_by (command.DropPage site p sent) kept carries =
      entering_brings (Current kept) needed.Editor caller kept _ (λ s is _.
      on_page_brings (Current kept) p s (λ (q : PageState). drop_page site p sent q.page) (λ q found.
      drop_page_brings (Current kept) site p sent q.page (λ same. carried sent p s kept is carries (equal_by sent q.page.head.rev same ∙ sym (ap rev_of found)))))
  current_by (command.Import site entries) kept carries =
      entering_brings (Current kept) needed.Editor caller kept _ (λ s is _.
      import_brings (Current kept) book site caller entries s (λ _ _ fresh _. each_fresh s.pages entries page rev fresh carries ∙ sym (ap (revision_of page) is)))
  current_by (command.EditPage site p sent edits) kept carries =
      entering_brings (Current kept) needed.Editor caller kept _ (λ s is _.
      on_page_brings (Current kept) p s (edit_page book site caller p sent edits s.site) (λ q found.
      edit_page_brings (Current kept) book site caller p sent edits s.site q (λ _ same _ _. carried sent p s kept is carries (equal_by sent q.page.head.rev same ∙ sym (ap rev_of found)))))
  current_by (command.Judge site p rule node verdict seen note) kept carries = absurd carries
  current_by (command.TakeEarl site p claims) kept carries = absurd carries
  current_by (command.GetPage site p) kept carries = absurd carries
  current_by (command.GetOutcomes site p) kept carries = absurd carries
  current_by (command.GetReport site p) kept carries = absurd carries
  current_by (command.GetEarl site p) kept carries = absurd carries
  current_by (command.GetNames site p) kept carries = absurd carries
  current_by (command.SiteReport site) kept carries = absurd carries
  current_by (command.SiteEarl site) kept carries = absurd carries
  current_by (command.SiteCsv site) kept carries = absurd carries
  current_by (command.GetVerdicts site p) kept carries = absurd carries
  current_by (command.GetMembers site) kept carries = absurd carries
  current_by command.GetMemberships kept carries = absurd carries

-- ---- what is put has a newer revision

pub puts_newer_at : (book : Book) (langs : List (List ℕ)) (caller page : List ℕ) (rev : ℕ) (orig cur : List KeptPage) (least counter : ℕ) (entries : List Entry) → least ≤ counter → HasEntry page rev entries
    → least < rev_at langs page (put_rows page_name (map (put_over orig) (puts book langs caller (state_pages langs orig) counter entries)) cur)
puts_newer_at book langs caller page rev orig cur least counter [] within has = absurd has
puts_newer_at book langs caller page rev orig cur least counter (e ∷ entries) within (inl is) =
    let row : KeptPage = put_over orig (page_put book e.page (counter + 1) caller (with_langs (page_of e.raw) langs) (judged (page_at e.page (state_pages langs orig)))) in
    puts_newer book langs caller page orig (put_row page_name row cur) least (counter + 1) entries (omega arith)
    (subst (λ n. least < rev_at langs n (put_row page_name row cur)) is.0 (put_newer langs least row cur (omega arith)))
puts_newer_at book langs caller page rev orig cur least counter (e ∷ entries) within (inr has) =
    let row : KeptPage = put_over orig (page_put book e.page (counter + 1) caller (with_langs (page_of e.raw) langs) (judged (page_at e.page (state_pages langs orig)))) in
    puts_newer_at book langs caller page rev orig (put_row page_name row cur) least (counter + 1) entries (omega arith) has

module _ (book : Book) (t : Tables) (sound : IsSound book t) (caller page : List ℕ) (rev : ℕ) where
  abbrev Newer : List ℕ → Option Change → Type 0
  Newer site change = counter_of (site_at site (state_of t)) < revision_of page (site_at site (state_of (made change t)))

  newer_pages : (site : List ℕ) (k : KeptSite) (counter : ℕ) (puts : List PagePut) → kept_site site t ≡ Some k
      → k.site.counter < rev_at k.site.languages page (put_rows page_name (map (put_over k.pages) puts) k.pages) → Newer site (Some (PutPages site counter puts))
  newer_pages site k counter puts is newer =
      let old : site_at site (state_of t) ≡ Some (site_state k) = site_seen site t ∙ ap (option_map site_state) is in
      let new : site_at site (state_of (changed (PutPages site counter puts) t)) ≡ Some (site_state (with_pages counter puts k)) =
      site_seen site (changed (PutPages site counter puts) t) ∙ ap (option_map site_state) (at_with_row site_name site (with_pages counter puts) (λ _ _. refl) t.sites ∙ ap (option_map (with_pages counter puts)) is) in
      subst (λ o. counter_of o < revision_of page (site_at site (state_of (changed (PutPages site counter puts) t)))) (sym old)
      (subst (λ o. k.site.counter < revision_of page o) (sym new) newer)

  newer_put : (site : List ℕ) (k : KeptSite) (put : PagePut) → kept_site site t ≡ Some k → put.page.head.page ≡ page → put.page.head.rev ≡ k.site.counter + 1
      → Newer site (Some (PutPages site (k.site.counter + 1) (put ∷ [])))
  newer_put site k put is named next =
      newer_pages site k (k.site.counter + 1) (put ∷ []) is
      (subst (λ n. k.site.counter < rev_at k.site.languages n (put_row page_name (put_over k.pages put) k.pages)) named (put_newer k.site.languages k.site.counter (put_over k.pages put) k.pages (omega arith)))

  newer_by_put : (c : Command) → Puts page rev c → Brings (Newer (site_of c)) (decision book caller c (site_at (site_of c) (state_of t)) (memberships caller (state_of t)))
  newer_by_put (command.PutSite site) puts = absurd puts
  newer_by_put (command.PutMember site user held) puts = absurd puts
  newer_by_put (command.PutLanguages site langs) puts = absurd puts
  newer_by_put (command.PutPage site p sent raw) puts =
      entering_kept (Newer site) t needed.Editor caller site _ (λ k is _.
      put_page_brings (Newer site) book site caller p sent raw k.site (revision_in (page_at p (state_pages k.site.languages k.pages))) (judged (page_at p (state_pages k.site.languages k.pages))) (length (state_pages k.site.languages k.pages)) (λ _ _ _ _.
      newer_put site k (page_put book p (k.site.counter + 1) caller (with_langs (page_of raw) k.site.languages) (judged (page_at p (state_pages k.site.languages k.pages)))) is puts.0 refl))
  newer_by_put (command.DropPage site p sent) puts = absurd puts
  newer_by_put (command.Import site entries) has =
      entering_kept (Newer site) t needed.Editor caller site _ (λ k is _.
      import_brings (Newer site) book site caller entries (site_state k) (λ _ _ _ _.
      newer_pages site k (k.site.counter + length entries) (puts book k.site.languages caller (state_pages k.site.languages k.pages) k.site.counter entries) is
      (puts_newer_at book k.site.languages caller page rev k.pages k.pages k.site.counter k.site.counter entries (omega arith) has)))
  newer_by_put (command.EditPage site p sent edits) puts =
      entering_kept (Newer site) t needed.Editor caller site _ (λ k is _.
      on_page_kept (Newer site) t p k (edit_page book site caller p sent edits k.site) (λ q _.
      edit_page_brings (Newer site) book site caller p sent edits k.site (state_page k.site.languages q) (λ _ _ new _.
      newer_put site k (page_put book p (k.site.counter + 1) caller (with_langs (with_trees q.page.tree new) k.site.languages) q.judgements) is puts.0 refl)))
  newer_by_put (command.Judge site p rule node verdict seen note) puts = absurd puts
  newer_by_put (command.TakeEarl site p claims) puts = absurd puts
  newer_by_put (command.GetPage site p) puts = absurd puts
  newer_by_put (command.GetOutcomes site p) puts = absurd puts
  newer_by_put (command.GetReport site p) puts = absurd puts
  newer_by_put (command.GetEarl site p) puts = absurd puts
  newer_by_put (command.GetNames site p) puts = absurd puts
  newer_by_put (command.SiteReport site) puts = absurd puts
  newer_by_put (command.SiteEarl site) puts = absurd puts
  newer_by_put (command.SiteCsv site) puts = absurd puts
  newer_by_put (command.GetVerdicts site p) puts = absurd puts
  newer_by_put (command.GetMembers site) puts = absurd puts
  newer_by_put command.GetMemberships puts = absurd puts

  -- a page's revision is a new one, or the page is gone
  abbrev Renewed : List ℕ → Option Change → Type 0
  Renewed site change = (revision_of page (site_at site (state_of (made change t))) ≡ 0) ⊎ Newer site change

  put_renewed : (c : Command) → Puts page rev c → Brings (Renewed (site_of c)) (decision book caller c (site_at (site_of c) (state_of t)) (memberships caller (state_of t)))
  put_renewed c puts = weakened (Newer (site_of c)) (Renewed (site_of c)) (λ change newer. inr newer) (decision book caller c (site_at (site_of c) (state_of t)) (memberships caller (state_of t))) (newer_by_put c puts)

  drop_renewed : (site p : List ℕ) (sent : ℕ) → p ≡ page → Brings (Renewed site) (decision book caller (command.DropPage site p sent) (site_at site (state_of t)) (memberships caller (state_of t)))
  drop_renewed site p sent same =
      entering_kept (Renewed site) t needed.Editor caller site _ (λ k is _.
      on_page_kept (Renewed site) t p k (λ (q : PageState). drop_page site p sent q.page) (λ q _.
      drop_page_brings (Renewed site) site p sent q.page (λ _.
      let t' = changed (DropPage site p) t in
      let new : site_at site (state_of t') ≡ Some (site_state (without_page p k)) =
      site_seen site t' ∙ ap (option_map site_state) (at_with_row site_name site (without_page p) (λ _ _. refl) t.sites ∙ ap (option_map (without_page p)) is) in
      let gone : rev_at k.site.languages p (take_row page_name p k.pages) ≡ 0 = gone_rev k.site.languages p (take_row page_name p k.pages) (at_take page_name p k.pages (kept_fits book t sound site k is).in_order) in
      inl (ap (revision_of page) new ∙ ap (λ n. rev_at k.site.languages n (take_row page_name p k.pages)) (sym same) ∙ gone))))

  renewed_by : (c : Command) → Carries page rev c → Brings (Renewed (site_of c)) (decision book caller c (site_at (site_of c) (state_of t)) (memberships caller (state_of t)))
  renewed_by (command.PutSite site) carries = absurd carries
  renewed_by (command.PutMember site user held) carries = absurd carries
  renewed_by (command.PutLanguages site langs) carries = absurd carries
  renewed_by (command.PutPage site p sent raw) carries = put_renewed (command.PutPage site p sent raw) carries
  renewed_by (command.DropPage site p sent) carries = drop_renewed site p sent carries.0
  renewed_by (command.Import site entries) carries = put_renewed (command.Import site entries) carries
  renewed_by (command.EditPage site p sent edits) carries = put_renewed (command.EditPage site p sent edits) carries
  renewed_by (command.Judge site p rule node verdict seen note) carries = absurd carries
  renewed_by (command.TakeEarl site p claims) carries = absurd carries
  renewed_by (command.GetPage site p) carries = absurd carries
  renewed_by (command.GetOutcomes site p) carries = absurd carries
  renewed_by (command.GetReport site p) carries = absurd carries
  renewed_by (command.GetEarl site p) carries = absurd carries
  renewed_by (command.GetNames site p) carries = absurd carries
  renewed_by (command.SiteReport site) carries = absurd carries
  renewed_by (command.SiteEarl site) carries = absurd carries
  renewed_by (command.SiteCsv site) carries = absurd carries
  renewed_by (command.GetVerdicts site p) carries = absurd carries
  renewed_by (command.GetMembers site) carries = absurd carries
  renewed_by command.GetMemberships carries = absurd carries

-- what an accepted put, edit or import puts has a revision above every one that the site had
pub put_is_newer : (book : Book) (q : Request) (t : Tables) (d : Decided) (page : List ℕ) (rev : ℕ) → IsSound book t → Puts page rev q.command → decided book q (state_of t) ≡ Ok d
    → counter_of (site_at (site_of q.command) (state_of t)) < revision_of page (site_at (site_of q.command) (after d.change (state_of t)))
put_is_newer book q t d page rev sound puts is =
    subst (λ state. counter_of (site_at (site_of q.command) (state_of t)) < revision_of page (site_at (site_of q.command) state)) (sym (after_made d.change t))
    (brought (λ change. counter_of (site_at (site_of q.command) (state_of t)) < revision_of page (site_at (site_of q.command) (state_of (made change t))))
    (decided book q (state_of t)) d is (newer_by_put book t sound q.caller page rev q.command puts))

-- ---- runs

renewed_past : (page : List ℕ) (rev : ℕ) (old new : Option SiteState) → 1 ≤ rev → rev ≡ revision_of page old → revision_of page old ≤ counter_of old → counter_of old ≤ counter_of new
    → (revision_of page new ≡ 0) ⊎ (counter_of old < revision_of page new) → Past page rev new
renewed_past page rev old new some is within later (inl none) = record { given = omega arith; gone = λ same. omega arith }
renewed_past page rev old new some is within later (inr newer) = record { given = omega arith; gone = λ same. omega arith }

-- a site of sound tables, of which this holds
record Reached (book : Book) (site : List ℕ) (P : Option SiteState → Type 0) (state : State) : Type 0 where
  pub tables : Tables
  pub is : state ≡ state_of tables
  pub sound : IsSound book tables
  pub holds : P (site_at site (state_of tables))

-- what holds of a site, and stays however its counter and the revision of a page rise, holds after a run
module _ (book : Book) (site page : List ℕ) (P : Option SiteState → Type 0) (stays : (old new : Option SiteState) → P old → Rises page old new → P new) where
  reached_by : (t : Tables) (q : Request) (decision : Decision) → decided book q (state_of t) ≡ decision → IsSound book t → FitsRequest book q
      → P (site_at site (stepped (state_of t) decision).0) → Reached book site P (stepped (state_of t) decision).0
  reached_by t q (Ok d) is sound fits holds = record {
    tables = made d.change t;
    is = after_made d.change t;
    sound = keeps_sound book q t d fits sound is;
    holds = subst (λ state. P (site_at site state)) (after_made d.change t) holds;
  }
  reached_by t q (Err r) is sound fits holds = record { tables = t; is = refl; sound = sound; holds = holds }

  reached_step : (q : Request) (state : State) → FitsRequest book q → Reached book site P state → Reached book site P (step book state q).0
  reached_step q state fits r =
      let t = r.tables in
      subst (λ state. Reached book site P (step book state q).0) (sym r.is)
      (reached_by t q (decided book q (state_of t)) refl r.sound fits
      (stays (site_at site (state_of t)) (site_at site (step book (state_of t) q).0) r.holds (revisions_rise book q t site page r.sound)))

  reached_answer : (q : Request) (old new : State) (reply : Reply) (before now : ℕ) → FitsRequest book q → Answers book old q reply new before now → Reached book site P old → Reached book site P new
  reached_answer q old new reply before now fits (inl is) r = subst (Reached book site P) (ap (λ (p : State × Reply). p.0) is) (reached_step q old fits r)
  reached_answer q old new reply before now fits (inr failed) r = subst (Reached book site P) (sym failed.0) r

  reached_run : (qs : List Request) (replies : List Reply) (old new : State) (from to : ℕ) → All (FitsRequest book) qs → Runs book old qs replies new from to → Reached book site P old
      → Reached book site P new
  reached_run [] [] old new from to fits run r = subst (Reached book site P) (sym run.0) r
  reached_run [] (reply ∷ replies) old new from to fits run r = absurd run
  reached_run (q ∷ qs) [] old new from to fits run r = absurd run
  reached_run (q ∷ qs) (reply ∷ replies) old new from to fits run r =
      reached_run qs replies run.0 new run.2 to (All-tail (FitsRequest book) q qs fits) run.6
      (reached_answer q old run.0 reply run.1 run.2 (All-head (FitsRequest book) q qs fits) run.5 r)

-- a request that carries a past revision is refused
past_refused : (book : Book) (caller page : List ℕ) (rev : ℕ) (c : Command) (kept : Option SiteState) (own : List Membership) → Carries page rev c → Past page rev kept → IsRefused (decision book caller c kept own)
past_refused book caller page rev c kept own carries past =
    refused_by (decision book caller c kept own)
    (weakened (Current book caller page rev own kept) Nothing (λ _ is. past.gone is) (decision book caller c kept own) (current_by book caller page rev own c kept carries))

-- of all requests in a run that carry one revision of a page, at most one is accepted
pub accepted_once : (book : Book) (t : Tables) (q later : Request) (d : Decided) (qs : List Request) (replies : List Reply) (new : State) (from to : ℕ) (page : List ℕ) (rev : ℕ) → 1 ≤ rev
    → IsSound book t → FitsRequest book q → decided book q (state_of t) ≡ Ok d → All (FitsRequest book) qs → Runs book (after d.change (state_of t)) qs replies new from to
    → site_of later.command ≡ site_of q.command → Carries page rev q.command → Carries page rev later.command → IsRefused (decided book later new)
accepted_once book t q later d qs replies new from to page rev some sound fits is all run same carries later_carries =
    let site = site_of q.command in
    let old = site_at site (state_of t) in
    let own = memberships q.caller (state_of t) in
    let stays : (old new : Option SiteState) → Past page rev old → Rises page old new → Past page rev new = λ old new past rises. past_stays page rev old new some past rises in
    let current : rev ≡ revision_of page old = brought (Current book q.caller page rev own old) (decided book q (state_of t)) d is (current_by book q.caller page rev own q.command old carries) in
    let rises = subst (λ decision. Rises page old (site_at site (stepped (state_of t) decision).0)) is (revisions_rise book q t site page sound) in
    let renewed = brought (λ change. (revision_of page (site_at site (state_of (made change t))) ≡ 0) ⊎ (counter_of old < revision_of page (site_at site (state_of (made change t)))))
    (decided book q (state_of t)) d is (renewed_by book t sound q.caller page rev q.command carries) in
    let here = subst (λ state. (revision_of page (site_at site state) ≡ 0) ⊎ (counter_of old < revision_of page (site_at site state))) (sym (after_made d.change t)) renewed in
    let past = renewed_past page rev old (site_at site (after d.change (state_of t))) some current (revisions_within book t site page sound) rises.counter here in
    let first = reached_by book site page (Past page rev) stays t q (Ok d) is sound fits past in
    let last = reached_run book site page (Past page rev) stays qs replies (after d.change (state_of t)) new from to all run first in
    past_refused book later.caller page rev later.command (site_at (site_of later.command) new) (memberships later.caller new) later_carries
    (subst (λ n. Past page rev (site_at n new)) (sym same) (subst (λ state. Past page rev (site_at site state)) (sym last.is) last.holds))

-- what an accepted put, edit or import puts has a revision above every one that the site had before a run
pub put_is_newest : (book : Book) (t : Tables) (qs : List Request) (replies : List Reply) (new : State) (from to : ℕ) (q : Request) (d : Decided) (page other : List ℕ) (rev : ℕ) → IsSound book t
    → All (FitsRequest book) qs → Runs book (state_of t) qs replies new from to → Puts page rev q.command → decided book q new ≡ Ok d
    → revision_of other (site_at (site_of q.command) (state_of t)) < revision_of page (site_at (site_of q.command) (after d.change new))
put_is_newest book t qs replies new from to q d page other rev sound all run puts is =
    let site = site_of q.command in
    let most = revision_of other (site_at site (state_of t)) in
    let stays : (old new : Option SiteState) → most ≤ counter_of old → Rises page old new → most ≤ counter_of new = λ old new within rises. omega (arith, within, rises.counter) in
    let first : Reached book site (λ o. most ≤ counter_of o) (state_of t) = record { tables = t; is = refl; sound = sound; holds = revisions_within book t site other sound } in
    let last = reached_run book site page (λ o. most ≤ counter_of o) stays qs replies (state_of t) new from to all run first in
    let newer = put_is_newer book q last.tables d page rev last.sound puts (subst (λ state. decided book q state ≡ Ok d) last.is is) in
    subst (λ state. most < revision_of page (site_at site (after d.change state))) (sym last.is) (omega (arith, newer, last.holds))
