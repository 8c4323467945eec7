-- What holds of the change that is decided, where a request isn't refused: one lemma for each way in which decisions are put
-- together, and one for each command.
use Rattle.std.proofs.Common.{◌≡◌, ℕ, ◌+◌, ◌==◌, List, [], ◌∷◌, ◌++◌, length, map, Bool, true, false, not, if◌then◌else◌, Option, Some, None, Result, Ok, Err, refl, sym, subst, arith}
use Rattle.std.specs.Option.{option_map_or}
use Rattle.std.proofs.lemmas.Bool.Decides.{nat_tests}
use Rattle.std.specs.Str.{bytes_eq}
use Rattle.snap_tree.specs.declared.row.NodeId.{NodeId}
use Rattle.snap_tree.specs.declared.row.Raw.{Raw}
use Rattle.snap_tree.specs.declared.fault.TreeFault.{TreeFault}
use Rattle.snap_tree.specs.Trees.{Trees, Document, with_trees, with_langs}
use Rattle.snap_tree.specs.Grown.{page_of}
use Rattle.snap_tree.specs.Faults.{tree_fault}
use Rattle.snap_edit.specs.declared.edit.Edit.{Edit}
use Rattle.snap_edit.specs.declared.fault.EditFault.{EditFault}
use Rattle.snap_edit.specs.declared.fault.EditFault.TheVariants as fault
use Rattle.snap_edit.specs.Edits.{edited_all}
use Rattle.rule_core.specs.declared.info.RuleNo.{RuleNo}
use Rattle.rule_core.specs.declared.verdict.Auto.{Auto}
use Rattle.rule_core.specs.Brief.{digest}
use Rattle.rule_core.specs.Books.{Book}
use Rattle.judge_core.specs.declared.judgement.Judgement.{Judgement}
use Rattle.judge_core.specs.declared.outcomes.OutRow.{OutRow}
use Rattle.judge_core.specs.Composites.{is_open}
use Rattle.judge_core.specs.Outcomes.{outcomes}
use Rattle.judge_core.specs.RowLookups.{row_at}
use Rattle.keep_core.specs.declared.page.Page.{Page}
use Rattle.keep_core.specs.declared.member.MemberRole.{MemberRole}
use Rattle.keep_core.specs.declared.site.Site.{Site}
use Rattle.keep_core.specs.declared.change.Change.{Change}
use Rattle.keep_core.specs.declared.change.Change.TheVariants.{PutSite, PutPages, DropPage, AddJudgements, PutLanguages}
use Rattle.desk_core.specs.declared.command.Entry.{Entry}
use Rattle.desk_core.specs.declared.decided.Decided.{Decided}
use Rattle.desk_core.specs.declared.refusal.Needed.{Needed}
use Rattle.desk_core.specs.declared.refusal.Needed.TheVariants as needed
use Rattle.desk_core.specs.declared.refusal.Limit.TheVariants as limit
use Rattle.desk_core.specs.declared.refusal.Refusal.{Refusal}
use Rattle.desk_core.specs.declared.refusal.Refusal.TheVariants as refusal
use Rattle.desk_core.specs.Refusals.{Decision, unless, on, unless_refused}
use Rattle.desk_core.specs.State.{PageState, SiteState, page_at}
use Rattle.desk_core.specs.Rights.{may, role_of, allowed, entering, on_page}
use Rattle.desk_core.specs.Members.{new_site, site_with, members_with, put_site, put_member}
use Rattle.desk_core.specs.Languages.{relisted, put_languages}
use Rattle.desk_core.specs.Pages.{due, has_room, has_room_for, has_revisions, page_put, renewed, built, put_page, edited, edit_page, drop_page}
use Rattle.desk_core.specs.Imports.{new_pages, first_stale, first_fault, puts, import}
use Rattle.desk_core.specs.Judging.{is_latest, addition, added, judge}
use Rattle.desk_core.specs.Claiming.{additions, taken_on, take_earl}
use Rattle.earl_in.specs.declared.claim.Claim.{Claim}

-- a fact about the change that is decided
abbrev pub Brings : (Option Change → Type 0) → Decision → Type 0
Brings P (Ok d) = P d.change
Brings P (Err r) = Unit {0}

pub brought : (P : Option Change → Type 0) (decision : Decision) (d : Decided) → decision ≡ Ok d → Brings P decision → P d.change
brought P decision d is brings = subst (Brings P) is brings

module _ (P : Option Change → Type 0) where
  pub unless_brings : (holds : Bool) (r : Refusal) (next : Decision) → (holds ≡ true → Brings P next) → Brings P (unless holds r next)
  unless_brings true r next brings = brings refl
  unless_brings false r next brings = tt

  pub on_brings : {X : Type 0} (o : Option X) (r : Refusal) (next : X → Decision) → ((x : X) → o ≡ Some x → Brings P (next x)) → Brings P (on o r next)
  on_brings None r next brings = tt
  on_brings (Some x) r next brings = brings x refl

  pub unless_refused_brings : (o : Option Refusal) (next : Decision) → (o ≡ None → Brings P next) → Brings P (unless_refused o next)
  unless_refused_brings None next brings = brings refl
  unless_refused_brings (Some r) next brings = tt

  built_by : (page : Option (List ℕ)) (o : Option TreeFault) (next : Decision) → (o ≡ None → Brings P next)
      → Brings P (unless_refused (option_map_or (λ fault. Some (refusal.TreeFault fault page)) o None) next)
  built_by page None next brings = brings refl
  built_by page (Some fault) next brings = tt

  pub built_brings : (page : Option (List ℕ)) (raw : Raw) (next : Document → Decision) → (tree_fault raw.rows ≡ None → Brings P (next (page_of raw))) → Brings P (built page raw next)
  built_brings page raw next brings = built_by page (tree_fault raw.rows) (next (page_of raw)) brings

  pub edited_brings : (tree : Document) (r : Result Trees EditFault) (next : Document → Decision) → ((t : Trees) → r ≡ Ok t → Brings P (next (with_trees tree t))) → Brings P (edited tree r next)
  edited_brings tree (Ok t) next brings = brings t refl
  edited_brings tree (Err (fault.At index kind)) next brings = tt
  edited_brings tree (Err fault.OutOfMemory) next brings = tt

  pub entering_brings : (leave : Needed) (caller : List ℕ) (kept : Option SiteState) (next : SiteState → Decision)
      → ((s : SiteState) → kept ≡ Some s → may leave (role_of caller s.site.members) ≡ true → Brings P (next s)) → Brings P (entering leave caller kept next)
  entering_brings leave caller kept next brings =
      on_brings kept refusal.NoSite (λ s. allowed leave caller s.site (next s))
      (λ s is. unless_brings (may leave (role_of caller s.site.members)) (refusal.NotAllowed leave) (next s) (brings s is))

  pub on_page_brings : (page : List ℕ) (s : SiteState) (next : PageState → Decision) → ((p : PageState) → page_at page s.pages ≡ Some p → Brings P (next p)) → Brings P (on_page page s next)
  on_page_brings page s next brings = on_brings (page_at page s.pages) refusal.NoPage next brings

  -- ---- commands

  pub put_site_brings : (name caller : List ℕ) (kept : Option SiteState) → (kept ≡ None → P (Some (PutSite (new_site name caller)))) → Brings P (put_site name caller kept)
  put_site_brings name caller None brings = brings refl
  put_site_brings name caller (Some s) brings = tt

  pub put_member_brings : (name caller user : List ℕ) (held : Option MemberRole) (site : Site)
      → (not (bytes_eq user caller) ≡ true → P (Some (PutSite (site_with name site (members_with user held site.members))))) → Brings P (put_member name caller user held site)
  put_member_brings name caller user held site brings = unless_brings (not (bytes_eq user caller)) (refusal.NotAllowed needed.AnotherOwner) _ brings

  pub put_languages_brings : (book : Book) (site : List ℕ) (langs : List (List ℕ)) (s : SiteState)
      → P (Some (PutLanguages site langs (map (relisted book langs) s.pages))) → Brings P (put_languages book site langs s)
  put_languages_brings book site langs s brings = brings

  pub put_page_brings : (book : Book) (site caller page : List ℕ) (rev : ℕ) (raw : Raw) (s : Site) (there : Option ℕ) (js : List Judgement) (pages : ℕ)
      → (has_room there pages ≡ true → has_revisions s.counter 1 ≡ true → (rev == due there) ≡ true → tree_fault raw.rows ≡ None
      → P (Some (PutPages site (s.counter + 1) (page_put book page (s.counter + 1) caller (with_langs (page_of raw) s.languages) js ∷ []))))
      → Brings P (put_page book site caller page rev raw s there js pages)
  put_page_brings book site caller page rev raw s there js pages brings =
      let next : Document → Decision = λ tree. renewed book site caller page s.counter js (with_langs tree s.languages) in
      unless_brings (has_room there pages) (refusal.PageLimit limit.Pages) _ (λ room.
      unless_brings (has_revisions s.counter 1) (refusal.PageLimit limit.Revisions) _ (λ more.
      unless_brings (rev == due there) (refusal.StaleRevision (due there) None) _ (λ same.
      built_brings None raw next (λ well. brings room more same well))))

  pub edit_page_brings : (book : Book) (site caller page : List ℕ) (rev : ℕ) (edits : List Edit) (s : Site) (kept : PageState)
      → (has_revisions s.counter 1 ≡ true → (rev == kept.page.head.rev) ≡ true → (t : Trees) → edited_all kept.page.tree.trees edits ≡ Ok t
      → P (Some (PutPages site (s.counter + 1) (page_put book page (s.counter + 1) caller (with_trees kept.page.tree t) kept.judgements ∷ []))))
      → Brings P (edit_page book site caller page rev edits s kept)
  edit_page_brings book site caller page rev edits s kept brings =
      let next = renewed book site caller page s.counter kept.judgements in
      unless_brings (has_revisions s.counter 1) (refusal.PageLimit limit.Revisions) _ (λ more.
      unless_brings (rev == kept.page.head.rev) (refusal.StaleRevision kept.page.head.rev None) _ (λ same.
      edited_brings kept.page.tree (edited_all kept.page.tree.trees edits) next (brings more same)))

  pub drop_page_brings : (site page : List ℕ) (rev : ℕ) (kept : Page) → ((rev == kept.head.rev) ≡ true → P (Some (DropPage site page))) → Brings P (drop_page site page rev kept)
  drop_page_brings site page rev kept brings = unless_brings (rev == kept.head.rev) (refusal.StaleRevision kept.head.rev None) _ brings

  pub import_brings : (book : Book) (site caller : List ℕ) (entries : List Entry) (s : SiteState)
      → (has_room_for (new_pages s.pages entries) (length s.pages) ≡ true → has_revisions s.site.counter (length entries) ≡ true
      → first_stale s.pages entries ≡ None → first_fault entries ≡ None
      → P (Some (PutPages site (s.site.counter + length entries) (puts book s.site.languages caller s.pages s.site.counter entries))))
      → Brings P (import book site caller entries s)
  import_brings book site caller entries s brings =
      unless_brings (has_room_for (new_pages s.pages entries) (length s.pages)) (refusal.PageLimit limit.Pages) _ (λ room.
      unless_brings (has_revisions s.site.counter (length entries)) (refusal.PageLimit limit.Revisions) _ (λ more.
      unless_refused_brings (first_stale s.pages entries) _ (λ fresh.
      unless_refused_brings (first_fault entries) _ (λ well. brings room more fresh well))))

  added_by : (book : Book) (site page : List ℕ) (j : Judgement) (kept : PageState) (there : Bool) → is_latest j kept.judgements ≡ there
      → (is_latest j kept.judgements ≡ true → P None)
      → (is_latest j kept.judgements ≡ false → P (Some (AddJudgements site page (j ∷ []) (record { rows = outcomes book kept.page.tree (kept.judgements ++ j ∷ []) }))))
      → Brings P (added book site page j kept)
  added_by book site page j kept true is stays adds = rw is (stays is)
  added_by book site page j kept false is stays adds = rw is (adds is)

  pub judge_brings : (book : Book) (site caller page : List ℕ) (rule : RuleNo) (node : NodeId) (verdict : Auto) (seen note : List ℕ) (kept : PageState)
      → ((row : OutRow) → row_at rule node (outcomes book kept.page.tree kept.judgements) ≡ Some row
      → let j : Judgement = record { rule = rule; node = node; verdict = verdict; hand = caller; note = note; evidence = row.evidence } in
      (is_latest j kept.judgements ≡ true → P None)
      × (is_latest j kept.judgements ≡ false → P (Some (AddJudgements site page (j ∷ []) (record { rows = outcomes book kept.page.tree (kept.judgements ++ j ∷ []) })))))
      → Brings P (judge book site caller page rule node verdict seen note kept)
  judge_brings book site caller page rule node verdict seen note kept brings =
      on_brings (row_at rule node (outcomes book kept.page.tree kept.judgements)) refusal.NoTarget _ (λ row found.
      unless_brings (is_open row.auto) (refusal.NotOpen row.auto) _ (λ undecided.
      unless_brings (not (bytes_eq caller kept.page.head.hand)) refusal.SameHand _ (λ other.
      unless_brings (bytes_eq seen (digest row.evidence)) (refusal.EvidenceMoved (digest row.evidence)) _ (λ same.
      let j : Judgement = record { rule = rule; node = node; verdict = verdict; hand = caller; note = note; evidence = row.evidence } in
      added_by book site page j kept (is_latest j kept.judgements) refl (brings row found).0 (brings row found).1))))

  additions_by : (book : Book) (site page : List ℕ) (kept : PageState) (more : List Judgement) → (more ≡ [] → P None)
      → ((j : Judgement) (js : List Judgement) → more ≡ j ∷ js → P (Some (addition book site page (j ∷ js) kept))) → P (additions book site page more kept)
  additions_by book site page kept [] none some = none refl
  additions_by book site page kept (j ∷ js) none some =
      let not_none : (length (j ∷ js) == 0) ≡ false = grind (arith, nat_tests) in
      subst (λ b. P (if b then None else Some (addition book site page (j ∷ js) kept))) (sym not_none) (some j js refl)

  pub take_earl_brings : (book : Book) (site caller page : List ℕ) (claims : List (Option Claim)) (kept : PageState) → ((taken_on book caller claims kept).added ≡ [] → P None)
      → ((more : List Judgement) → more ≡ (taken_on book caller claims kept).added → (more ≡ [] → ⊥) → P (Some (addition book site page more kept)))
      → Brings P (take_earl book site caller page claims kept)
  take_earl_brings book site caller page claims kept none some =
      unless_brings (not (bytes_eq caller kept.page.head.hand)) refusal.SameHand _ (λ other.
      additions_by book site page kept (taken_on book caller claims kept).added none (λ j js is. some (j ∷ js) (sym is) (λ no. cc)))
