-- A request that was accepted changes nothing where it is sent again at once: most are refused then.
use Rattle.std.proofs.Common.{◌≡◌, ℕ, ◌+◌, ◌<◌, ◌≤◌, ◌==◌, List, [], ◌∷◌, ◌++◌, length, map, reverse, Bool, true, false, if◌then◌else◌, Option, Some, None, option_map, IfSome, Ok, Err, refl, sym, ap, ◌∙◌, subst, append-nil, arith, inl, inr, ◌⊎◌}
use Rattle.std.specs.Option.{option_map_or}
use Rattle.std.specs.List.{find}
use Rattle.std.specs.declared.cmp.Ordering.{Ordering}
use Rattle.std.specs.declared.cmp.Ordering.TheVariants.{Less, Equal, Greater}
use Rattle.std.specs.Ordering.{match_ordering}
use Rattle.std.proofs.lemmas.Bool.Decides.{nat_tests}
use Rattle.std.proofs.lemmas.List.{reverse-append}
use Rattle.snap_tree.specs.declared.row.NodeId.{NodeId}
use Rattle.rule_core.specs.declared.info.RuleNo.{RuleNo}
use Rattle.rule_core.specs.Books.{Book}
use Rattle.judge_core.specs.declared.judgement.Judgement.{Judgement}
use Rattle.judge_core.specs.declared.outcomes.OutRow.{OutRow}
use Rattle.judge_core.specs.declared.outcomes.Outcomes.{Outcomes}
use Rattle.judge_core.specs.Equality.{same_judgement}
use Rattle.judge_core.specs.Judgements.{is_on}
use Rattle.judge_core.specs.Outcomes.{outcomes}
use Rattle.judge_core.specs.RowLookups.{row_at}
use Rattle.judge_core.proofs.Equal.{judgements_decide}
use Rattle.named_rows.specs.ByName.{names_cmp, at, put_row, put_rows, with_row, IsInOrder}
use Rattle.named_rows.proofs.Lookups.{at_put, at_put_other, at_with_row, all_at}
use Rattle.named_rows.proofs.Order.{at_take}
use Rattle.named_rows.proofs.Twice.{put_same, take_twice}
use Rattle.keep_core.specs.declared.member.Member.{Member}
use Rattle.keep_core.specs.declared.member.MemberRole.{MemberRole}
use Rattle.keep_core.specs.declared.site.Site.{Site}
use Rattle.keep_core.specs.declared.page.PagePut.{PagePut}
use Rattle.keep_core.specs.declared.change.Change.{Change}
use Rattle.keep_core.specs.declared.change.Change.TheVariants.{PutSite, PutPages, DropPage, AddJudgements, PutLanguages}
use Rattle.keep_core.specs.declared.tables.KeptPage.{KeptPage}
use Rattle.keep_core.specs.declared.tables.KeptSite.{KeptSite}
use Rattle.keep_core.specs.declared.tables.Tables.{Tables}
use Rattle.keep_core.specs.Tables.{kept_site, pages_in, pages_of, site_name, page_name}
use Rattle.keep_core.specs.Changes.{put_over, with_pages, without_page, with_judgements, with_judged, with_languages, with_outcomes, changed}
use Rattle.desk_core.specs.Members.{user_of, new_site, members_with, site_with}
use Rattle.earl_in.specs.declared.claim.Claim.{Claim}
use Rattle.desk_core.specs.Judging.{is_latest, judge}
use Rattle.desk_core.specs.Claiming.{take_earl}
use Rattle.snap_tree.specs.declared.row.Raw.{Raw}
use Rattle.snap_tree.specs.Trees.{Document, with_trees, with_langs}
use Rattle.snap_tree.specs.Grown.{page_of}
use Rattle.snap_edit.specs.declared.edit.Edit.{Edit}
use Rattle.rule_core.specs.declared.verdict.Auto.{Auto}
use Rattle.desk_core.specs.declared.command.Command.{Command}
use Rattle.desk_core.specs.declared.command.Command.TheVariants as command
use Rattle.desk_core.specs.declared.command.Entry.{Entry}
use Rattle.desk_core.specs.declared.refusal.Needed.TheVariants as needed
use Rattle.desk_core.specs.declared.refusal.Refusal.{Refusal}
use Rattle.desk_core.specs.declared.refusal.Refusal.TheVariants as refusal
use Rattle.desk_core.specs.Refusals.{Decision}
use Rattle.desk_core.specs.State.{PageState, site_state, state_of, page_at, site_at}
use Rattle.desk_core.specs.Pages.{revision_in, rev_of, judged, page_put, edit_page, drop_page}
use Rattle.desk_core.specs.Imports.{puts, first_stale}
use Rattle.desk_core.specs.Steps.{Request, site_of, decision, decided, stepped, step}
use Rattle.desk_core.specs.Memberships.{memberships}
use Rattle.desk_core.specs.Changes.{after}
use Rattle.desk_core.specs.Fitting.{FitsParts, FitsRequest, FitsEntries}
use Rattle.desk_core.specs.Soundness.{rev_in, IsSoundSite, IsSound, made}
use Rattle.desk_core.specs.Once.{IsOnce, IsRefused}
use Rattle.desk_core.proofs.Views.{state_page, state_pages, page_seen, changes_seen, same_or_other}
use Rattle.desk_core.proofs.Deciding.{Brings, put_member_brings, put_languages_brings, put_page_brings, edit_page_brings, drop_page_brings, import_brings, judge_brings, take_earl_brings}
use Rattle.desk_core.proofs.Kept.{entering_kept, on_page_kept, new_site_kept, page_read, site_read}
use Rattle.desk_core.proofs.SoundPages.{Given}
use Rattle.desk_core.proofs.Sound.{kept_fits, kept_sound}
use Rattle.desk_core.proofs.NewOutcomes.{order_stays, all_relisted, fresh, each_fresh}
use Rattle.desk_core.proofs.Evidence.{same_evidence}
use Rattle.desk_core.proofs.ClaimsTwice.{HasStayed, taken_with, none_then}

-- ---- members, twice

members_twice : (user : List ℕ) (held : Option MemberRole) (members : List Member) → IsInOrder user_of members → members_with user held (members_with user held members) ≡ members_with user held members
members_twice user None members order = take_twice user_of user members order
members_twice user (Some held) members order = put_same user_of _ (put_row user_of _ members) (at_put user_of _ members)

-- ---- judgements, twice

same_itself : (j : Judgement) → same_judgement j j ≡ true
same_itself j = (judgements_decide j j).1 refl

is_on_itself : (j : Judgement) → is_on j.rule j.node j ≡ true
is_on_itself j = grind (arith, nat_tests)

-- a judgement that was added is the latest
pub latest_itself : (j : Judgement) (js : List Judgement) → is_latest j (js ++ j ∷ []) ≡ true
latest_itself j js =
    let first : find (is_on j.rule j.node) (reverse (js ++ j ∷ [])) ≡ Some j =
    ap (find (is_on j.rule j.node)) (reverse-append js (j ∷ [])) ∙ ap (λ b. if b then Some j else find (is_on j.rule j.node) (reverse js)) (is_on_itself j) in
    ap (λ o. option_map_or (λ latest. same_judgement latest j) o false) first ∙ same_itself j

-- ---- revisions

-- a page's revision: 0 for one that isn't there
abbrev pub rev_at : List (List ℕ) → List ℕ → List KeptPage → ℕ
rev_at langs page pages = rev_of (page_at page (state_pages langs pages))

pub rev_found : (langs : List (List ℕ)) (page : List ℕ) (pages : List KeptPage) (p : KeptPage) → at page_name page pages ≡ Some p → rev_at langs page pages ≡ rev_in p
rev_found langs page pages p found = ap rev_of (page_seen langs page pages ∙ ap (option_map (state_page langs)) found)

given_by : (langs : List (List ℕ)) (counter : ℕ) (o : Option KeptPage) → IfSome o (Given counter) → rev_of (option_map (state_page langs) o) ≤ counter
given_by langs counter None given = omega arith
given_by langs counter (Some p) given = given.within

-- no page of a sound site has a revision above its counter
pub old_rev : (book : Book) (k : KeptSite) (page : List ℕ) → IsSoundSite book k → rev_at k.site.languages page k.pages ≤ k.site.counter
old_rev book k page sound =
    subst (λ o. rev_of o ≤ k.site.counter) (sym (page_seen k.site.languages page k.pages))
    (given_by k.site.languages k.site.counter (at page_name page k.pages) (all_at page_name (Given k.site.counter) page k.pages sound.given))

-- a revision that is sent isn't both the one before and a newer one
stale : (sent old new counter : ℕ) → (sent == old) ≡ true → old ≤ counter → counter < new → (sent == new) ≡ true → ⊥
stale sent old new counter before within newer now =
    let one : sent ≡ old = grind (arith, nat_tests) in
    let two : sent ≡ new = grind (arith, nat_tests) in
    omega arith

-- a page that is put has a newer revision
pub put_newer : (langs : List (List ℕ)) (counter : ℕ) (row : KeptPage) (pages : List KeptPage) → counter < rev_in row → counter < rev_at langs (page_name row) (put_row page_name row pages)
put_newer langs counter row pages newer =
    let same : rev_at langs (page_name row) (put_row page_name row pages) ≡ rev_in row = rev_found langs (page_name row) (put_row page_name row pages) row (at_put page_name row pages) in
    omega arith

newer_by : (langs : List (List ℕ)) (counter : ℕ) (n : List ℕ) (row : KeptPage) (pages : List KeptPage) → (n ≡ page_name row) ⊎ (n ≡ page_name row → ⊥) → counter < rev_in row → counter < rev_at langs n pages
    → counter < rev_at langs n (put_row page_name row pages)
newer_by langs counter n row pages (inl same) newer old = subst (λ n. counter < rev_at langs n (put_row page_name row pages)) (sym same) (put_newer langs counter row pages newer)
newer_by langs counter n row pages (inr other) newer old =
    subst (λ o. counter < rev_of o) (sym (page_seen langs n (put_row page_name row pages) ∙ ap (option_map (state_page langs)) (at_put_other page_name n row pages other) ∙ sym (page_seen langs n pages))) old

-- and has it still when more are put
pub puts_newer : (book : Book) (langs : List (List ℕ)) (caller n : List ℕ) (orig cur : List KeptPage) (least counter : ℕ) (entries : List Entry) → least ≤ counter → least < rev_at langs n cur
    → least < rev_at langs n (put_rows page_name (map (put_over orig) (puts book langs caller (state_pages langs orig) counter entries)) cur)
puts_newer book langs caller n orig cur least counter [] within newer = newer
puts_newer book langs caller n orig cur least counter (e ∷ entries) within newer =
    let row : KeptPage = put_over orig (page_put book e.page (counter + 1) caller (with_langs (page_of e.raw) langs) (judged (page_at e.page (state_pages langs orig)))) in
    puts_newer book langs caller n orig (put_row page_name row cur) least (counter + 1) entries (omega arith) (newer_by langs least n row cur (same_or_other n (page_name row)) (omega arith) newer)

fresh_by : (e : Entry) (current : ℕ) (rest : Option Refusal) (b : Bool) → (e.rev == current) ≡ b → (if e.rev == current then rest else Some (refusal.StaleRevision current (Some e.page))) ≡ None
    → (e.rev == current) ≡ true
fresh_by e current rest true is none = is
fresh_by e current rest false is none = let no : Some (refusal.StaleRevision current (Some e.page)) ≡ None = rw is at none in cc

-- the first entry of an import that isn't stale carries its page's revision
pub first_fresh : (pages : List PageState) (e : Entry) (entries : List Entry) → first_stale pages (e ∷ entries) ≡ None → (e.rev == rev_of (page_at e.page pages)) ≡ true
first_fresh pages e entries none = let current = rev_of (page_at e.page pages) in fresh_by e current (first_stale pages entries) (e.rev == current) refl none

-- ---- rows that stay

-- a row that a change leaves as it is
module _ {T : Type 0} (name : T → List ℕ) (n : List ℕ) (f : T → T) (r : T) (keeps : f r ≡ r) where
  row_kept_by : (s : T) (rs : List T) (o : Ordering) → match_ordering o None (Some s) (at name n rs) ≡ Some r → (at name n rs ≡ Some r → with_row name n f rs ≡ rs)
      → match_ordering o (s ∷ rs) (f s ∷ rs) (s ∷ with_row name n f rs) ≡ s ∷ rs
  row_kept_by s rs Less is below = refl
  row_kept_by s rs Equal is below = let same : s ≡ r = cc in ap (λ u. u ∷ rs) (ap f same ∙ keeps ∙ sym same)
  row_kept_by s rs Greater is below = ap (λ rest. s ∷ rest) (below is)

  row_kept : (rows : List T) → at name n rows ≡ Some r → with_row name n f rows ≡ rows
  row_kept [] is = refl
  row_kept (s ∷ rs) is = row_kept_by s rs (names_cmp n (name s)) is (row_kept rs)

fresh_twice : (book : Book) (langs : List (List ℕ)) (pages : List KeptPage) → map (fresh book langs langs) (map (fresh book langs langs) pages) ≡ map (fresh book langs langs) pages
fresh_twice book langs [] = refl
fresh_twice book langs (p ∷ ps) = ap (λ rest. fresh book langs langs p ∷ rest) (fresh_twice book langs ps)

-- ---- once more

pub same_of : {X : Type 0} (o : Option X) (x y : X) → o ≡ Some x → o ≡ Some y → x ≡ y
same_of o x y is also = let both : Some x ≡ Some y = sym is ∙ also in cc

pub weakened : (P Q : Option Change → Type 0) → ((change : Option Change) → P change → Q change) → (decision : Decision) → Brings P decision → Brings Q decision
weakened P Q weaken (Ok d) brings = weaken d.change brings
weakened P Q weaken (Err r) brings = tt

-- no change is decided: the request is refused
abbrev pub Nothing : Option Change → Type 0
Nothing change = ⊥

module _ (book : Book) (t : Tables) (sound : IsSound book t) (caller : List ℕ) where
  -- what holds of the change that is decided after a change
  abbrev Second : (Option Change → Type 0) → Command → Option Change → Type 0
  Second P c change = Brings P (decision book caller c (site_at (site_of c) (state_of (made change t))) (memberships caller (state_of (made change t))))

  -- the second change leaves what the first one made
  abbrev Stays : Command → Option Change → Type 0
  Stays c change = Second (λ second. made second (made change t) ≡ made change t) c change

  -- the site of a name after it was changed
  found_changed : (site : List ℕ) (k : KeptSite) (f : KeptSite → KeptSite) → ((s : KeptSite) → (f s).site.name ≡ s.site.name) → kept_site site t ≡ Some k
      → (k' : KeptSite) → kept_site site (record { edition = t.edition; sites = with_row site_name site f t.sites }) ≡ Some k' → f k ≡ k'
  found_changed site k f keeps is k' is' =
      same_of (kept_site site (record { edition = t.edition; sites = with_row site_name site f t.sites })) (f k) k' (at_with_row site_name site f (λ s _. keeps s) t.sites ∙ ap (option_map f) is) is'

  site_once : (site : List ℕ) → kept_site site t ≡ None → Second Nothing (command.PutSite site) (Some (PutSite (new_site site caller)))
  site_once site none =
      let t' = changed (PutSite (new_site site caller)) t in
      new_site_kept Nothing t' site caller (λ none'. let no : Some _ ≡ None = sym (at_put site_name _ t.sites) ∙ none' in cc)

  kept_row : Site → List KeptPage → KeptSite
  kept_row site pages = record { site = site; pages = pages }

  member_again : (site user : List ℕ) (held : Option MemberRole) (k : KeptSite) → kept_site site t ≡ Some k
      → Stays (command.PutMember site user held) (Some (PutSite (site_with site k.site (members_with user held k.site.members))))
  unfolding kept_row
  member_again site user held k is =
      let members = members_with user held k.site.members in
      let row = kept_row (site_with site k.site members) (pages_of site t) in
      let t' : Tables = record { edition = t.edition; sites = put_row site_name row t.sites } in
      let there : kept_site site t' ≡ Some row = at_put site_name row t.sites in
      let P : Option Change → Type 0 = λ second. made second t' ≡ t' in
      let Made : KeptSite → Type 0 = λ k'. changed (PutSite (site_with site k'.site (members_with user held k'.site.members))) t' ≡ t' in
      let twice : members_with user held members ≡ members = members_twice user held k.site.members (kept_fits book t sound site k is).site.in_order in
      let again : Made row =
      ap (λ sites. record { edition = t.edition; sites = sites })
      (ap (λ r. put_row site_name r t'.sites) (ap (λ ms. kept_row (site_with site k.site ms) (pages_of site t')) twice ∙ ap (λ o. kept_row (site_with site k.site members) (pages_in o)) there)
      ∙ put_same site_name row t'.sites there) in
      entering_kept P t' needed.Owner caller site _ (λ k' is' _.
      put_member_brings P site caller user held k'.site (λ _. subst Made (same_of (kept_site site t') row k' there is') again))

  module _ (site page : List ℕ) (k : KeptSite) (is : kept_site site t ≡ Some k) where
    -- a page was put by the next revision
    module _ (put : PagePut) (named : put.page.head.page ≡ page) (rev : put.page.head.rev ≡ k.site.counter + 1) (sent : ℕ) (was : (sent == rev_at k.site.languages page k.pages) ≡ true) where
      pub stale_then : (k' : KeptSite) → kept_site site (changed (PutPages site (k.site.counter + 1) (put ∷ [])) t) ≡ Some k' → (sent == rev_at k'.site.languages page k'.pages) ≡ true → ⊥
      stale_then k' is' now =
          let same = found_changed site k (with_pages (k.site.counter + 1) (put ∷ [])) (λ _. refl) is k' is' in
          let row = put_over k.pages put in
          let newer : k.site.counter < rev_at k.site.languages page (put_row page_name row k.pages) =
          subst (λ n. k.site.counter < rev_at k.site.languages n (put_row page_name row k.pages)) named (put_newer k.site.languages k.site.counter row k.pages (omega arith)) in
          stale sent (rev_at k.site.languages page k.pages) (rev_at k'.site.languages page k'.pages) k.site.counter was (old_rev book k page (kept_sound book t sound site k is))
          (subst (λ (k' : KeptSite). k.site.counter < rev_at k'.site.languages page k'.pages) same newer) now

      put_once : (raw : Raw) → Second Nothing (command.PutPage site page sent raw) (Some (PutPages site (k.site.counter + 1) (put ∷ [])))
      put_once raw =
          let t' = changed (PutPages site (k.site.counter + 1) (put ∷ [])) t in
          entering_kept Nothing t' needed.Editor caller site _ (λ k' is' _.
          put_page_brings Nothing book site caller page sent raw k'.site (revision_in (page_at page (state_pages k'.site.languages k'.pages))) (judged (page_at page (state_pages k'.site.languages k'.pages))) (length (state_pages k'.site.languages k'.pages)) (λ _ _ now _. stale_then k' is' now))

      edit_once : (edits : List Edit) → Second Nothing (command.EditPage site page sent edits) (Some (PutPages site (k.site.counter + 1) (put ∷ [])))
      edit_once edits =
          let t' = changed (PutPages site (k.site.counter + 1) (put ∷ [])) t in
          entering_kept Nothing t' needed.Editor caller site _ (λ k' is' _.
          on_page_kept Nothing t' page k' (edit_page book site caller page sent edits k'.site) (λ p' found.
          edit_page_brings Nothing book site caller page sent edits k'.site (state_page k'.site.languages p') (λ _ now _ _.
          stale_then k' is' (ap (λ r. sent == r) (rev_found k'.site.languages page k'.pages p' found) ∙ now))))

    drop_once : (sent : ℕ) → Second Nothing (command.DropPage site page sent) (Some (DropPage site page))
    drop_once sent =
        let t' = changed (DropPage site page) t in
        let gone = at_take page_name page k.pages (kept_fits book t sound site k is).in_order in
        entering_kept Nothing t' needed.Editor caller site _ (λ k' is' _.
        on_page_kept Nothing t' page k' (λ (q : PageState). drop_page site page sent q.page) (λ p' found.
        let same = found_changed site k (without_page page) (λ _. refl) is k' is' in
        let no : None ≡ Some p' = sym gone ∙ ap (λ (k' : KeptSite). at page_name page k'.pages) same ∙ found in
        cc))

    -- a judgement that was added, and one that was there already
    module _ (p : KeptPage) (found : at page_name page k.pages ≡ Some p) (rule : RuleNo) (node : NodeId) (verdict : Auto) (seen note : List ℕ) (row : OutRow)
        (at_row : row_at rule node (outcomes book (with_langs p.page.tree k.site.languages) p.judgements) ≡ Some row) where
      abbrev judgement : List ℕ → Judgement
      judgement evidence = record { rule = rule; node = node; verdict = verdict; hand = caller; note = note; evidence = evidence }

      -- the same judgement is the latest of these
      module _ (t' : Tables) (k' : KeptSite) (p' : KeptPage) (js : List Judgement) (is' : kept_site site t' ≡ Some k') (found' : at page_name page k'.pages ≡ Some p')
          (langs : k'.site.languages ≡ k.site.languages) (tree : p'.page.tree ≡ p.page.tree) (judgements : p'.judgements ≡ js) (latest : is_latest (judgement row.evidence) js ≡ true) where
        judged_then : Brings (λ second. made second t' ≡ t') (decision book caller (command.Judge site page rule node verdict seen note) (site_at site (state_of t')) (memberships caller (state_of t')))
        judged_then =
            let P : Option Change → Type 0 = λ second. made second t' ≡ t' in
            entering_kept P t' needed.Judge caller site _ (λ k2 is2 _.
            on_page_kept P t' page k2 (judge book site caller page rule node verdict seen note) (λ p2 found2.
            let same_site : k' ≡ k2 = same_of (kept_site site t') k' k2 is' is2 in
            let same_page : p' ≡ p2 = same_of (at page_name page k2.pages) p' p2 (ap (λ (k' : KeptSite). at page_name page k'.pages) (sym same_site) ∙ found') found2 in
            judge_brings P book site caller page rule node verdict seen note (state_page k2.site.languages p2) (λ row2 at_row2.
            let listed_by = λ (l : List (List ℕ)) (q : KeptPage). row_at rule node (outcomes book (with_langs q.page.tree l) q.judgements) in
            let at_row' : row_at rule node (outcomes book (with_langs p.page.tree k.site.languages) js) ≡ Some row2 =
            sym (ap (λ (s : KeptSite). listed_by s.site.languages p2) (sym same_site) ∙ ap (λ l. listed_by l p2) langs
            ∙ ap (listed_by k.site.languages) (sym same_page)
            ∙ ap (λ tree. row_at rule node (outcomes book (with_langs tree k.site.languages) p'.judgements)) tree
            ∙ ap (λ js. row_at rule node (outcomes book (with_langs p.page.tree k.site.languages) js)) judgements) ∙ at_row2 in
            let evidence : row.evidence ≡ row2.evidence = same_evidence book (with_langs p.page.tree k.site.languages) p.judgements js rule node row row2 at_row at_row' in
            let there : is_latest (judgement row2.evidence) p2.judgements ≡ true =
            sym (ap (λ (q : KeptPage). is_latest (judgement row2.evidence) q.judgements) same_page) ∙ ap (is_latest (judgement row2.evidence)) judgements
            ∙ ap (λ evidence. is_latest (judgement evidence) js) (sym evidence) ∙ latest in
            (λ _. refl, λ new. let no : true ≡ false = sym there ∙ new in cc))))

    -- ---- imports

    pub import_stale : (e : Entry) (entries : List Entry) → first_stale (state_pages k.site.languages k.pages) (e ∷ entries) ≡ None → (k' : KeptSite)
        → kept_site site (changed (PutPages site (k.site.counter + length (e ∷ entries)) (puts book k.site.languages caller (state_pages k.site.languages k.pages) k.site.counter (e ∷ entries))) t) ≡ Some k'
        → first_stale (state_pages k'.site.languages k'.pages) (e ∷ entries) ≡ None → ⊥
    import_stale e entries fresh k' is' now =
        let counter = k.site.counter in
        let all = puts book k.site.languages caller (state_pages k.site.languages k.pages) counter (e ∷ entries) in
        let row : KeptPage = put_over k.pages (page_put book e.page (counter + 1) caller (with_langs (page_of e.raw) k.site.languages) (judged (page_at e.page (state_pages k.site.languages k.pages)))) in
        let newer : counter < rev_at k.site.languages e.page (put_rows page_name (map (put_over k.pages) all) k.pages) =
        puts_newer book k.site.languages caller e.page k.pages (put_row page_name row k.pages) counter (counter + 1) entries (omega arith) (put_newer k.site.languages counter row k.pages (omega arith)) in
        let same = found_changed site k (with_pages (counter + length (e ∷ entries)) all) (λ _. refl) is k' is' in
        stale e.rev (rev_at k.site.languages e.page k.pages) (rev_at k'.site.languages e.page k'.pages) counter (first_fresh (state_pages k.site.languages k.pages) e entries fresh)
        (old_rev book k e.page (kept_sound book t sound site k is)) (subst (λ (k' : KeptSite). counter < rev_at k'.site.languages e.page k'.pages) same newer)
        (first_fresh (state_pages k'.site.languages k'.pages) e entries now)

    import_once : (entries : List Entry) → FitsEntries entries → first_stale (state_pages k.site.languages k.pages) entries ≡ None
        → Second Nothing (command.Import site entries) (Some (PutPages site (k.site.counter + length entries) (puts book k.site.languages caller (state_pages k.site.languages k.pages) k.site.counter entries)))
    import_once [] fits fresh = absurd (omega (arith, fits.some))
    import_once (e ∷ entries) fits fresh =
        let t' = changed (PutPages site (k.site.counter + length (e ∷ entries)) (puts book k.site.languages caller (state_pages k.site.languages k.pages) k.site.counter (e ∷ entries))) t in
        entering_kept Nothing t' needed.Editor caller site _ (λ k' is' _.
        import_brings Nothing book site caller (e ∷ entries) (site_state k') (λ _ _ now _. import_stale e entries fresh k' is' now))

  -- ---- languages

  -- the same list, once more: each page has its outcomes under it already
  relisted_again : (site : List ℕ) (langs : List (List ℕ)) (k : KeptSite) → kept_site site t ≡ Some k
      → Stays (command.PutLanguages site langs) (Some (PutLanguages site langs (all_relisted book langs k.site.languages k.pages)))
  relisted_again site langs k is =
      let new = all_relisted book langs k.site.languages k.pages in
      let f = with_languages langs new in
      let k1 = f k in
      let t' = changed (PutLanguages site langs new) t in
      let order = (kept_fits book t sound site k is).in_order in
      let there : kept_site site t' ≡ Some k1 = at_with_row site_name site f (λ _ _. refl) t.sites ∙ ap (option_map f) is in
      let once : k1.pages ≡ map (fresh book langs langs) k.pages = each_fresh book langs k.site.languages k.pages order in
      let again : with_outcomes (all_relisted book langs langs k1.pages) k1.pages ≡ k1.pages =
      each_fresh book langs langs k1.pages (order_stays new k.pages order) ∙ ap (map (fresh book langs langs)) once ∙ fresh_twice book langs k.pages ∙ sym once in
      let P : Option Change → Type 0 = λ second. made second t' ≡ t' in
      let Made : KeptSite → Type 0 = λ k'. changed (PutLanguages site langs (all_relisted book langs k'.site.languages k'.pages)) t' ≡ t' in
      let done : Made k1 =
      ap (λ sites. record { edition = t.edition; sites = sites })
      (row_kept site_name site (with_languages langs (all_relisted book langs langs k1.pages)) k1 (ap (λ (pages : List KeptPage). record { site = k1.site; pages = pages }) again) t'.sites there) in
      entering_kept P t' needed.Owner caller site _ (λ k' is' _.
      put_languages_brings P book site langs (site_state k') (subst Made (same_of (kept_site site t') k1 k' there is') done))

  -- ---- commands

  once_by : (c : Command) → IsOnce c → FitsParts book c → Brings (Second Nothing c) (decision book caller c (site_at (site_of c) (state_of t)) (memberships caller (state_of t)))
  once_by (command.PutSite site) once parts = new_site_kept (Second Nothing (command.PutSite site)) t site caller (λ none. site_once site none)
  once_by (command.PutMember site user held) once parts = absurd once
  once_by (command.PutLanguages site langs) once parts = absurd once
  once_by (command.PutPage site page rev raw) once parts =
      let P = Second Nothing (command.PutPage site page rev raw) in
      entering_kept P t needed.Editor caller site _ (λ k is _.
      put_page_brings P book site caller page rev raw k.site (revision_in (page_at page (state_pages k.site.languages k.pages))) (judged (page_at page (state_pages k.site.languages k.pages))) (length (state_pages k.site.languages k.pages)) (λ _ _ was _.
      put_once site page k is (page_put book page (k.site.counter + 1) caller (with_langs (page_of raw) k.site.languages) (judged (page_at page (state_pages k.site.languages k.pages)))) refl refl rev was raw))
  once_by (command.DropPage site page rev) once parts =
      let P = Second Nothing (command.DropPage site page rev) in
      entering_kept P t needed.Editor caller site _ (λ k is _.
      on_page_kept P t page k (λ (q : PageState). drop_page site page rev q.page) (λ p found. drop_page_brings P site page rev p.page (λ _. drop_once site page k is rev)))
  once_by (command.Import site entries) once parts =
      let P = Second Nothing (command.Import site entries) in
      entering_kept P t needed.Editor caller site _ (λ k is _.
      import_brings P book site caller entries (site_state k) (λ _ _ fresh _. import_once site [] k is entries parts fresh))
  once_by (command.EditPage site page rev edits) once parts =
      let P = Second Nothing (command.EditPage site page rev edits) in
      entering_kept P t needed.Editor caller site _ (λ k is _.
      on_page_kept P t page k (edit_page book site caller page rev edits k.site) (λ p found.
      edit_page_brings P book site caller page rev edits k.site (state_page k.site.languages p) (λ _ was new _.
      edit_once site page k is (page_put book page (k.site.counter + 1) caller (with_langs (with_trees p.page.tree new) k.site.languages) p.judgements) refl refl rev
      (ap (λ r. rev == r) (rev_found k.site.languages page k.pages p found) ∙ was) edits)))
  once_by (command.Judge site page rule node verdict seen note) once parts = absurd once
  once_by (command.TakeEarl site page claims) once parts = absurd once
  once_by (command.GetPage site page) once parts = absurd once
  once_by (command.GetOutcomes site page) once parts = absurd once
  once_by (command.GetReport site page) once parts = absurd once
  once_by (command.GetEarl site page) once parts = absurd once
  once_by (command.GetNames site page) once parts = absurd once
  once_by (command.SiteReport site) once parts = absurd once
  once_by (command.SiteEarl site) once parts = absurd once
  once_by (command.SiteCsv site) once parts = absurd once
  once_by (command.GetVerdicts site page) once parts = absurd once
  once_by (command.GetMembers site) once parts = absurd once
  once_by command.GetMemberships once parts = absurd once

  -- what is refused leaves what is kept
  once_stays : (c : Command) → IsOnce c → FitsParts book c → Brings (Stays c) (decision book caller c (site_at (site_of c) (state_of t)) (memberships caller (state_of t)))
  once_stays c once parts =
      weakened (Second Nothing c) (Stays c)
      (λ change refused. weakened Nothing (λ second. made second (made change t) ≡ made change t) (λ _ no. absurd no)
      (decision book caller c (site_at (site_of c) (state_of (made change t))) (memberships caller (state_of (made change t)))) refused)
      (decision book caller c (site_at (site_of c) (state_of t)) (memberships caller (state_of t))) (once_by c once parts)

  judge_again : (site page : List ℕ) (rule : RuleNo) (node : NodeId) (verdict : Auto) (seen note : List ℕ)
      → Brings (Stays (command.Judge site page rule node verdict seen note)) (decision book caller (command.Judge site page rule node verdict seen note) (site_at site (state_of t)) (memberships caller (state_of t)))
  judge_again site page rule node verdict seen note =
      let P = Stays (command.Judge site page rule node verdict seen note) in
      entering_kept P t needed.Judge caller site _ (λ k is _.
      on_page_kept P t page k (judge book site caller page rule node verdict seen note) (λ p found.
      judge_brings P book site caller page rule node verdict seen note (state_page k.site.languages p) (λ row at_row.
      let j : Judgement = record { rule = rule; node = node; verdict = verdict; hand = caller; note = note; evidence = row.evidence } in
      let o : Outcomes = record { rows = outcomes book (with_langs p.page.tree k.site.languages) (p.judgements ++ j ∷ []) } in
      let k1 = with_judged page (j ∷ []) o k in
      let p1 = with_judgements (j ∷ []) o p in
      let t1 = changed (AddJudgements site page (j ∷ []) o) t in
      let is1 : kept_site site t1 ≡ Some k1 = at_with_row site_name site (with_judged page (j ∷ []) o) (λ _ _. refl) t.sites ∙ ap (option_map (with_judged page (j ∷ []) o)) is in
      let found1 : at page_name page k1.pages ≡ Some p1 = at_with_row page_name page (with_judgements (j ∷ []) o) (λ _ _. refl) k.pages ∙ ap (option_map (with_judgements (j ∷ []) o)) found in (
        λ latest. judged_then site page k is p found rule node verdict seen note row at_row t k p p.judgements is found refl refl refl latest,
        λ _. judged_then site page k is p found rule node verdict seen note row at_row t1 k1 p1 (p.judgements ++ j ∷ []) is1 found1 refl refl refl (latest_itself j p.judgements),
      ))))

  -- claims on a page whose list begins with all that it had after they were taken
  taken_then : (site page : List ℕ) (claims : List (Option Claim)) (tree : Document) (js : List Judgement) (t' : Tables) (k' : KeptSite) (p' : KeptPage)
      → kept_site site t' ≡ Some k' → at page_name page k'.pages ≡ Some p'
      → HasStayed tree (js ++ (taken_with book caller claims tree js).added) (state_page k'.site.languages p')
      → Brings (λ second. made second t' ≡ t') (decision book caller (command.TakeEarl site page claims) (site_at site (state_of t')) (memberships caller (state_of t')))
  taken_then site page claims tree js t' k' p' is' found' stayed =
      let P : Option Change → Type 0 = λ second. made second t' ≡ t' in
      let Stayed : KeptSite → KeptPage → Type 0 = λ (k : KeptSite) (p : KeptPage). HasStayed tree (js ++ (taken_with book caller claims tree js).added) (state_page k.site.languages p) in
      entering_kept P t' needed.Judge caller site _ (λ k2 is2 _.
      on_page_kept P t' page k2 (take_earl book site caller page claims) (λ p2 found2.
      let same_site : k' ≡ k2 = same_of (kept_site site t') k' k2 is' is2 in
      let same_page : p' ≡ p2 = same_of (at page_name page k2.pages) p' p2 (ap (λ (k' : KeptSite). at page_name page k'.pages) (sym same_site) ∙ found') found2 in
      let seen : PageState = state_page k2.site.languages p2 in
      let here : HasStayed tree (js ++ (taken_with book caller claims tree js).added) seen =
      subst (λ (p : KeptPage). Stayed k2 p) same_page (subst (λ (k : KeptSite). Stayed k p') same_site stayed) in
      take_earl_brings P book site caller page claims seen (λ _. refl) (λ more added some. absurd (some (added ∙ none_then book caller claims tree js seen here)))))

  take_again : (site page : List ℕ) (claims : List (Option Claim))
      → Brings (Stays (command.TakeEarl site page claims)) (decision book caller (command.TakeEarl site page claims) (site_at site (state_of t)) (memberships caller (state_of t)))
  take_again site page claims =
      let P = Stays (command.TakeEarl site page claims) in
      entering_kept P t needed.Judge caller site _ (λ k is _.
      on_page_kept P t page k (take_earl book site caller page claims) (λ p found.
      let tree = with_langs p.page.tree k.site.languages in
      take_earl_brings P book site caller page claims (state_page k.site.languages p)
      (λ none. taken_then site page claims tree p.judgements t k p is found
      (record { tree = refl; more = []; judgements = sym (append-nil p.judgements) ∙ ap (λ l. p.judgements ++ l) (sym none) ∙ sym (append-nil _) }))
      (λ more added _.
      let o : Outcomes = record { rows = outcomes book tree (p.judgements ++ more) } in
      taken_then site page claims tree p.judgements (changed (AddJudgements site page more o) t) (with_judged page more o k) (with_judgements more o p)
      (at_with_row site_name site (with_judged page more o) (λ _ _. refl) t.sites ∙ ap (option_map (with_judged page more o)) is)
      (at_with_row page_name page (with_judgements more o) (λ _ _. refl) k.pages ∙ ap (option_map (with_judgements more o)) found)
      (record { tree = refl; more = []; judgements = ap (λ l. p.judgements ++ l) added ∙ sym (append-nil _) }))))

  again_by : (c : Command) → FitsParts book c → Brings (Stays c) (decision book caller c (site_at (site_of c) (state_of t)) (memberships caller (state_of t)))
  again_by (command.PutSite site) parts = once_stays (command.PutSite site) tt parts
  again_by (command.PutMember site user held) parts =
      let P = Stays (command.PutMember site user held) in
      entering_kept P t needed.Owner caller site _ (λ k is _. put_member_brings P site caller user held k.site (λ _. member_again site user held k is))
  again_by (command.PutLanguages site langs) parts =
      let P = Stays (command.PutLanguages site langs) in
      entering_kept P t needed.Owner caller site _ (λ k is _. put_languages_brings P book site langs (site_state k) (relisted_again site langs k is))
  again_by (command.PutPage site page rev raw) parts = once_stays (command.PutPage site page rev raw) tt parts
  again_by (command.DropPage site page rev) parts = once_stays (command.DropPage site page rev) tt parts
  again_by (command.Import site entries) parts = once_stays (command.Import site entries) tt parts
  again_by (command.EditPage site page rev edits) parts = once_stays (command.EditPage site page rev edits) tt parts
  again_by (command.Judge site page rule node verdict seen note) parts = judge_again site page rule node verdict seen note
  again_by (command.TakeEarl site page claims) parts = take_again site page claims
  again_by (command.GetPage site page) parts = page_read _ t caller site page _ (page_read _ t caller site page _ refl)
  again_by (command.GetOutcomes site page) parts = page_read _ t caller site page _ (page_read _ t caller site page _ refl)
  again_by (command.GetReport site page) parts = page_read _ t caller site page _ (page_read _ t caller site page _ refl)
  again_by (command.GetEarl site page) parts = page_read _ t caller site page _ (page_read _ t caller site page _ refl)
  again_by (command.GetNames site page) parts = page_read _ t caller site page _ (page_read _ t caller site page _ refl)
  again_by (command.SiteReport site) parts = site_read _ t caller site _ (site_read _ t caller site _ refl)
  again_by (command.SiteEarl site) parts = site_read _ t caller site _ (site_read _ t caller site _ refl)
  again_by (command.SiteCsv site) parts = site_read _ t caller site _ (site_read _ t caller site _ refl)
  again_by (command.GetVerdicts site page) parts = page_read _ t caller site page _ (page_read _ t caller site page _ refl)
  again_by (command.GetMembers site) parts = site_read _ t caller site _ (site_read _ t caller site _ refl)
  again_by command.GetMemberships parts = refl

-- ---- steps

pub after_made : (change : Option Change) (t : Tables) → after change (state_of t) ≡ state_of (made change t)
after_made None t = refl
after_made (Some c) t = sym (changes_seen c t)

stays_stepped : (t : Tables) (decision : Decision) → Brings (λ change. made change t ≡ t) decision → (stepped (state_of t) decision).0 ≡ state_of t
stays_stepped t (Ok d) same = after_made d.change t ∙ ap state_of same
stays_stepped t (Err r) same = refl

twice_by : (book : Book) (q : Request) (t : Tables) (first : Decision) → decided book q (state_of t) ≡ first
    → Brings (λ change. Brings (λ second. made second (made change t) ≡ made change t) (decided book q (state_of (made change t)))) first
    → (step book (stepped (state_of t) first).0 q).0 ≡ (stepped (state_of t) first).0
twice_by book q t (Ok d) is same =
    subst (λ state. (step book state q).0 ≡ state) (sym (after_made d.change t)) (stays_stepped (made d.change t) (decided book q (state_of (made d.change t))) same)
twice_by book q t (Err r) is same = ap (λ d. (stepped (state_of t) d).0) is

-- a request that is sent again at once changes nothing
pub again_changes_nothing : (book : Book) (q : Request) (t : Tables) → FitsRequest book q → IsSound book t → (step book (step book (state_of t) q).0 q).0 ≡ (step book (state_of t) q).0
again_changes_nothing book q t fits sound = twice_by book q t (decided book q (state_of t)) refl (again_by book t sound q.caller q.command fits.parts)

pub refused_by : (decision : Decision) → Brings Nothing decision → IsRefused decision
refused_by (Ok d) nothing = nothing
refused_by (Err r) nothing = tt
