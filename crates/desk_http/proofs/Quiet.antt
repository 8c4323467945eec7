-- A request that changes what is kept is answered by the reply to a change. So a reply that isn't one tells of no change.
use Rattle.std.proofs.Common.{◌≡◌, ℕ, suc, ◌+◌, ◌≤◌, ◌==◌, ◌⊎◌, inl, inr, List, [], ◌∷◌, ◌++◌, length, map, Bool, true, false, not, ◌&&◌, nat_le, IsTrue, if◌then◌else◌, Option, Some, None, Result, Ok, Err, refl, sym, subst, ap, ◌∙◌, arith, bytes_eq}
use Rattle.std.specs.List.{AllByRecursion, list_all}
use Rattle.std.specs.Option.{option_map_or}
use Rattle.std.proofs.lemmas.Bool.{and_parts, true≢false}
use Rattle.std.proofs.lemmas.Bool.Decides.{nat_tests}
use Rattle.std.proofs.lemmas.List.Elements.{recursion_from_All}
use Rattle.snap_tree.specs.declared.row.NodeId.{NodeId}
use Rattle.snap_tree.specs.declared.row.Raw.{Raw}
use Rattle.snap_tree.specs.declared.fault.TreeFault.{TreeFault}
use Rattle.snap_tree.specs.Trees.{Trees, Document, with_trees, with_langs}
use Rattle.snap_tree.specs.Grown.{page_of}
use Rattle.snap_tree.specs.Faults.{tree_fault}
use Rattle.snap_edit.specs.declared.edit.Edit.{Edit}
use Rattle.snap_edit.specs.declared.fault.EditFault.{EditFault}
use Rattle.snap_edit.specs.declared.fault.EditFault.TheVariants as fault
use Rattle.snap_edit.specs.Edits.{edited_all}
use Rattle.rule_core.specs.declared.info.RuleNo.{RuleNo}
use Rattle.rule_core.specs.Brief.{digest}
use Rattle.rule_core.specs.Books.{Book}
use Rattle.judge_core.specs.declared.judgement.Judgement.{Judgement}
use Rattle.judge_core.specs.declared.outcomes.OutRow.{OutRow}
use Rattle.judge_core.specs.Composites.{is_open}
use Rattle.judge_core.specs.Outcomes.{outcomes}
use Rattle.judge_core.specs.RowLookups.{row_at}
use Rattle.keep_core.specs.declared.member.MemberRole.{MemberRole}
use Rattle.keep_core.specs.declared.page.Page.{Page}
use Rattle.keep_core.specs.declared.site.Site.{Site}
use Rattle.keep_core.specs.declared.change.Change.TheVariants.{AddJudgements}
use Rattle.keep_core.specs.Names.{is_name}
use Rattle.keep_core.specs.declared.tables.Tables.{Tables}
use Rattle.desk_core.specs.declared.limits.TheConstants.{MOST_PAGES, MOST_ENTRIES}
use Rattle.desk_core.specs.declared.command.Entry.{Entry}
use Rattle.desk_core.specs.declared.command.Command.{Command}
use Rattle.desk_core.specs.declared.command.Command.TheVariants as command
use Rattle.desk_core.specs.declared.refusal.Needed.{Needed}
use Rattle.desk_core.specs.declared.refusal.Needed.TheVariants as needed
use Rattle.desk_core.specs.declared.refusal.Limit.TheVariants as limit
use Rattle.desk_core.specs.declared.refusal.Refusal.{Refusal}
use Rattle.desk_core.specs.declared.refusal.Refusal.TheVariants as refusal
use Rattle.desk_core.specs.declared.reply.Stored.{Stored}
use Rattle.keep_core.specs.declared.member.Membership.{Membership}
use Rattle.desk_core.specs.declared.reply.Reply.{Reply}
use Rattle.desk_core.specs.declared.reply.Reply.TheVariants as reply
use Rattle.desk_core.specs.declared.page_state.PageState.{PageState}
use Rattle.desk_core.specs.Refusals.{Decision, unless, on, unless_refused}
use Rattle.desk_core.specs.State.{State, SiteState, state_of, page_at, site_at}
use Rattle.desk_core.specs.Rights.{may, role_of, entering, on_page}
use Rattle.desk_core.specs.Members.{put_member}
use Rattle.desk_core.specs.Languages.{put_languages}
use Rattle.desk_core.specs.Pages.{revision_in, due, judged, has_room, has_revisions, renewed, built, put_page, edited, edit_page, drop_page, stored}
use Rattle.desk_core.specs.Imports.{puts, new_pages, first_stale, first_fault, import}
use Rattle.earl_in.specs.declared.claim.Claim.{Claim}
use Rattle.desk_core.specs.Claiming.{take_earl}
use Rattle.desk_core.specs.Judging.{is_latest, added, judged_row, judge}
use Rattle.desk_core.specs.Reading.{answered, site_page, sheet}
use Rattle.desk_core.specs.Steps.{Request, site_of, read_page, read_site, decision, decided, stepped, step}
use Rattle.desk_core.specs.Verdicts.{page_verdicts}
use Rattle.desk_core.specs.Memberships.{memberships}
use Rattle.desk_core.specs.Fitting.{FitsEntry, FitsEntries, FitsParts, NamesSite, FitsRequest}
use Rattle.desk_core.specs.Changes.{after}
use Rattle.desk_core.specs.Soundness as soundness
use Rattle.desk_core.specs.Serving.{IsJudged, IsEdited, IsRelisted, RestsOnKept, IsDone}
use Rattle.desk_core.specs.declared.decided.Decided.{Decided}
use Rattle.http_replies.specs.Made.{is_short, are_few, is_made}

-- nothing is changed, or the reply is that to a change
abbrev Quiet : Decision → Type 0
Quiet (Ok d) = (d.change ≡ None) ⊎ (is_made d.reply ≡ true)
Quiet (Err r) = Unit {0}

unless_quiet : (holds : Bool) (r : Refusal) (next : Decision) → Quiet next → Quiet (unless holds r next)
unless_quiet true r next quiet = quiet
unless_quiet false r next quiet = tt

on_quiet : {X : Type 0} (o : Option X) (r : Refusal) (next : X → Decision) → ((x : X) → Quiet (next x)) → Quiet (on o r next)
on_quiet None r next quiet = tt
on_quiet (Some x) r next quiet = quiet x

refused_quiet : (o : Option Refusal) (next : Decision) → Quiet next → Quiet (unless_refused o next)
refused_quiet None next quiet = quiet
refused_quiet (Some r) next quiet = tt

edited_quiet : (tree : Document) (r : Result Trees EditFault) (next : Document → Decision) → ((t : Document) → Quiet (next t)) → Quiet (edited tree r next)
edited_quiet tree (Ok t) next quiet = quiet (with_trees tree t)
edited_quiet tree (Err (fault.At index kind)) next quiet = tt
edited_quiet tree (Err fault.OutOfMemory) next quiet = tt

entering_quiet : (leave : Needed) (caller : List ℕ) (kept : Option SiteState) (next : SiteState → Decision) → ((s : SiteState) → Quiet (next s)) → Quiet (entering leave caller kept next)
entering_quiet leave caller None next quiet = tt
entering_quiet leave caller (Some s) next quiet = unless_quiet (may leave (role_of caller s.site.members)) (refusal.NotAllowed leave) (next s) (quiet s)

on_page_quiet : (page : List ℕ) (s : SiteState) (next : PageState → Decision) → ((p : PageState) → Quiet (next p)) → Quiet (on_page page s next)
on_page_quiet page s next quiet = on_quiet (page_at page s.pages) refusal.NoPage next quiet

both : (a b : Bool) → a ≡ true → b ≡ true → (a && b) ≡ true
both true b x y = y
both false b x y = absurd (true≢false (sym x))

at_most : (n m : ℕ) → n ≤ m → nat_le n m ≡ true
at_most n m within = grind (arith, nat_tests)

short_name : (s : List ℕ) → IsTrue (is_name s) → is_short s ≡ true
short_name s named = (and_parts _ _ (and_parts _ _ named).0).1

-- the pages of an import have the names that were sent
put_count : (book : Book) (langs : List (List ℕ)) (caller : List ℕ) (pages : List PageState) (counter : ℕ) (entries : List Entry) →
    length (map (stored book) (puts book langs caller pages counter entries)) ≡ length entries
put_count book langs caller pages counter [] = refl
put_count book langs caller pages counter (e ∷ entries) = ap suc (put_count book langs caller pages (counter + 1) entries)

put_short : (book : Book) (langs : List (List ℕ)) (caller : List ℕ) (pages : List PageState) (counter : ℕ) (entries : List Entry) → AllByRecursion FitsEntry entries →
    list_all (λ s. is_short s.page) (map (stored book) (puts book langs caller pages counter entries)) ≡ true
put_short book langs caller pages counter [] all = refl
put_short book langs caller pages counter (e ∷ entries) all =
    both (is_short e.page) (list_all (λ s. is_short s.page) (map (stored book) (puts book langs caller pages (counter + 1) entries)))
    (short_name e.page all.0.rev.named) (put_short book langs caller pages (counter + 1) entries all.1)

few_pages : (book : Book) (langs : List (List ℕ)) (caller : List ℕ) (pages : List PageState) (counter : ℕ) (entries : List Entry) → FitsEntries entries →
    are_few (map (stored book) (puts book langs caller pages counter entries)) ≡ true
few_pages book langs caller pages counter entries fits =
    let all : List Stored = map (stored book) (puts book langs caller pages counter entries) in
    both (nat_le (length all) MOST_ENTRIES) (list_all (λ s. is_short s.page) all)
    (ap (λ n. nat_le n MOST_ENTRIES) (put_count book langs caller pages counter entries) ∙ at_most _ _ fits.few)
    (put_short book langs caller pages counter entries (recursion_from_All _ entries fits.each))

-- ---- the commands

put_member_quiet : (name caller user : List ℕ) (held : Option MemberRole) (site : Site) → is_short user ≡ true → Quiet (put_member name caller user held site)
put_member_quiet name caller user held site short = unless_quiet (not (bytes_eq user caller)) (refusal.NotAllowed needed.AnotherOwner) _ (inr short)

put_page_quiet : (book : Book) (site caller page : List ℕ) (rev : ℕ) (raw : Raw) (s : Site) (there : Option ℕ) (js : List Judgement) (pages : ℕ) → is_short page ≡ true →
    Quiet (put_page book site caller page rev raw s there js pages)
put_page_quiet book site caller page rev raw s there js pages short =
    let next : Document → Decision = λ tree. renewed book site caller page s.counter js (with_langs tree s.languages) in
    let refused = option_map_or (λ (f : TreeFault). Some (refusal.TreeFault f None)) (tree_fault raw.rows) None in
    unless_quiet (has_room there pages) (refusal.PageLimit limit.Pages) _ (
    unless_quiet (has_revisions s.counter 1) (refusal.PageLimit limit.Revisions) _ (
    unless_quiet (rev == due there) (refusal.StaleRevision (due there) None) (built None raw next) (
    refused_quiet refused (next (page_of raw)) (inr short))))

edit_page_quiet : (book : Book) (site caller page : List ℕ) (rev : ℕ) (edits : List Edit) (s : Site) (kept : PageState) → is_short page ≡ true →
    Quiet (edit_page book site caller page rev edits s kept)
edit_page_quiet book site caller page rev edits s kept short =
    let next = renewed book site caller page s.counter kept.judgements in
    unless_quiet (has_revisions s.counter 1) (refusal.PageLimit limit.Revisions) _ (
    unless_quiet (rev == kept.page.head.rev) (refusal.StaleRevision kept.page.head.rev None) _ (
    edited_quiet kept.page.tree (edited_all kept.page.tree.trees edits) next (λ _. inr short)))

drop_page_quiet : (site page : List ℕ) (rev : ℕ) (kept : Page) → is_short page ≡ true → Quiet (drop_page site page rev kept)
drop_page_quiet site page rev kept short = unless_quiet (rev == kept.head.rev) (refusal.StaleRevision kept.head.rev None) _ (inr short)

import_quiet : (book : Book) (site caller : List ℕ) (entries : List Entry) (s : SiteState) → FitsEntries entries → Quiet (import book site caller entries s)
import_quiet book site caller entries s fits =
    unless_quiet (nat_le (length s.pages + new_pages s.pages entries) MOST_PAGES) (refusal.PageLimit limit.Pages) _ (
    unless_quiet (has_revisions s.site.counter (length entries)) (refusal.PageLimit limit.Revisions) _ (
    refused_quiet (first_stale s.pages entries) _ (
    refused_quiet (first_fault entries) _ (inr (few_pages book s.site.languages caller s.pages s.site.counter entries fits)))))

pick_quiet : (holds : Bool) (x y : Decision) → Quiet x → Quiet y → Quiet (if holds then x else y)
pick_quiet true x y first second = first
pick_quiet false x y first second = second

added_quiet : (book : Book) (site page : List ℕ) (j : Judgement) (kept : PageState) → Quiet (added book site page j kept)
added_quiet book site page j kept =
    let answer : Reply = reply.Judged j.rule j.node j.verdict in
    pick_quiet (is_latest j kept.judgements) (Ok (record { change = None; reply = answer }))
    (Ok (record { change = Some (AddJudgements site page (j ∷ []) (record { rows = outcomes book kept.page.tree (kept.judgements ++ j ∷ []) })); reply = answer })) (inl refl) (inr refl)

judged_row_quiet : (rows : List OutRow) (hand caller : List ℕ) (rule : RuleNo) (node : NodeId) (seen : List ℕ) (next : OutRow → Decision) → ((row : OutRow) → Quiet (next row)) →
    Quiet (judged_row rows hand caller rule node seen next)
judged_row_quiet rows hand caller rule node seen next quiet = of (row_at rule node rows)
  where
    of : (found : Option OutRow) → Quiet (on found refusal.NoTarget (λ row.
        unless (is_open row.auto) (refusal.NotOpen row.auto) (
        unless (not (bytes_eq caller hand)) refusal.SameHand (
        unless (bytes_eq seen (digest row.evidence)) (refusal.EvidenceMoved (digest row.evidence)) (next row)))))
    of None = tt
    of (Some row) =
        unless_quiet (is_open row.auto) (refusal.NotOpen row.auto) _ (
        unless_quiet (not (bytes_eq caller hand)) refusal.SameHand _ (
        unless_quiet (bytes_eq seen (digest row.evidence)) (refusal.EvidenceMoved (digest row.evidence)) (next row) (quiet row)))

take_earl_quiet : (book : Book) (site caller page : List ℕ) (claims : List (Option Claim)) (kept : PageState) → Quiet (take_earl book site caller page claims kept)
take_earl_quiet book site caller page claims kept = unless_quiet (not (bytes_eq caller kept.page.head.hand)) refusal.SameHand _ (inr refl)

read_page_quiet : (caller page : List ℕ) (kept : Option SiteState) (reply : PageState → Reply) → Quiet (read_page caller page kept reply)
read_page_quiet caller page kept reply =
    entering_quiet needed.Reader caller kept (λ s. on_page page s (λ p. answered (reply p))) (λ s. on_page_quiet page s (λ p. answered (reply p)) (λ p. inl refl))

read_site_quiet : (caller : List ℕ) (kept : Option SiteState) (reply : SiteState → Reply) → Quiet (read_site caller kept reply)
read_site_quiet caller kept reply = entering_quiet needed.Reader caller kept (λ s. answered (reply s)) (λ s. inl refl)

decision_quiet : (book : Book) (caller : List ℕ) (c : Command) (kept : Option SiteState) (own : List Membership) → NamesSite c → FitsParts book c → Quiet (decision book caller c kept own)
decision_quiet book caller (command.PutSite site) None own named fits = inr (short_name site named)
decision_quiet book caller (command.PutSite site) (Some s) own named fits = tt
decision_quiet book caller (command.PutMember site user held) kept own named fits =
    entering_quiet needed.Owner caller kept (λ s. put_member site caller user held s.site) (λ s. put_member_quiet site caller user held s.site (short_name user fits))
decision_quiet book caller (command.PutLanguages site langs) kept own named fits =
    entering_quiet needed.Owner caller kept (put_languages book site langs) (λ s. inr refl)
decision_quiet book caller (command.PutPage site page rev raw) kept own named fits =
    entering_quiet needed.Editor caller kept (λ s. put_page book site caller page rev raw s.site (revision_in (page_at page s.pages)) (judged (page_at page s.pages)) (length s.pages))
    (λ s. put_page_quiet book site caller page rev raw s.site (revision_in (page_at page s.pages)) (judged (page_at page s.pages)) (length s.pages) (short_name page fits.seen.named))
decision_quiet book caller (command.DropPage site page rev) kept own named fits =
    entering_quiet needed.Editor caller kept (λ s. on_page page s (λ p. drop_page site page rev p.page))
    (λ s. on_page_quiet page s (λ p. drop_page site page rev p.page) (λ p. drop_page_quiet site page rev p.page (short_name page fits.named)))
decision_quiet book caller (command.Import site entries) kept own named fits =
    entering_quiet needed.Editor caller kept (import book site caller entries) (λ s. import_quiet book site caller entries s fits)
decision_quiet book caller (command.EditPage site page rev edits) kept own named fits =
    entering_quiet needed.Editor caller kept (λ s. on_page page s (edit_page book site caller page rev edits s.site))
    (λ s. on_page_quiet page s (edit_page book site caller page rev edits s.site) (λ p. edit_page_quiet book site caller page rev edits s.site p (short_name page fits.named)))
decision_quiet book caller (command.Judge site page rule node verdict seen note) kept own named fits =
    let said : OutRow → Judgement = λ row. record { rule = rule; node = node; verdict = verdict; hand = caller; note = note; evidence = row.evidence } in
    entering_quiet needed.Judge caller kept (λ s. on_page page s (judge book site caller page rule node verdict seen note))
    (λ s. on_page_quiet page s (judge book site caller page rule node verdict seen note)
    (λ p. judged_row_quiet (outcomes book p.page.tree p.judgements) p.page.head.hand caller rule node seen (λ row. added book site page (said row) p) (λ row. added_quiet book site page (said row) p)))
decision_quiet book caller (command.TakeEarl site page claims) kept own named fits =
    entering_quiet needed.Judge caller kept (λ s. on_page page s (take_earl book site caller page claims))
    (λ s. on_page_quiet page s (take_earl book site caller page claims) (λ p. take_earl_quiet book site caller page claims p))
decision_quiet book caller (command.GetPage site page) kept own named fits = read_page_quiet caller page kept (λ p. reply.Page p.page)
decision_quiet book caller (command.GetOutcomes site page) kept own named fits = read_page_quiet caller page kept (λ p. reply.Outcomes (site_page book p))
decision_quiet book caller (command.GetReport site page) kept own named fits = read_page_quiet caller page kept (λ p. reply.Report (site_page book p))
decision_quiet book caller (command.GetEarl site page) kept own named fits = read_page_quiet caller page kept (λ p. reply.Earl (site_page book p))
decision_quiet book caller (command.GetNames site page) kept own named fits = read_page_quiet caller page kept (λ p. reply.Names p.page.tree)
decision_quiet book caller (command.SiteReport site) kept own named fits = read_site_quiet caller kept (λ s. reply.SiteReport (sheet book site s))
decision_quiet book caller (command.SiteEarl site) kept own named fits = read_site_quiet caller kept (λ s. reply.SiteEarl (sheet book site s))
decision_quiet book caller (command.SiteCsv site) kept own named fits = read_site_quiet caller kept (λ s. reply.SiteCsv (sheet book site s))
decision_quiet book caller (command.GetVerdicts site page) kept own named fits = read_page_quiet caller page kept (λ p. reply.Verdicts (page_verdicts book p))
decision_quiet book caller (command.GetMembers site) kept own named fits = read_site_quiet caller kept (λ s. reply.Members s.site.members)
decision_quiet book caller command.GetMemberships kept own named fits = inl refl

stepped_calm : (s t : State) (r : Reply) (d : Decision) → Quiet d → is_made r ≡ false → stepped s d ≡ (t, r) → t ≡ s
stepped_calm s t r (Err refusal) quiet unmade is = sym (ap (λ x. x.0) is)
stepped_calm s t r (Ok d) (inl none) unmade is = sym (ap (λ x. x.0) is) ∙ ap (λ change. after change s) none
stepped_calm s t r (Ok d) (inr made) unmade is = absurd (true≢false (sym made ∙ ap (λ x. is_made x.1) is ∙ unmade))

-- a reply that isn't that to a change comes with the state kept
pub unmade_keeps : (book : Book) (s t : State) (q : Request) (r : Reply) → FitsRequest book q → is_made r ≡ false → step book s q ≡ (t, r) → t ≡ s
unmade_keeps book s t q r fits unmade is =
    stepped_calm s t r (decided book q s) (decision_quiet book q.caller q.command (site_at (site_of q.command) s) (memberships q.caller s) fits.site fits.parts) unmade is

-- the reply to judgements is one to a change
judged_made : (r : Reply) → IsJudged r → is_made r ≡ false → ⊥
judged_made (reply.Judged rule node outcome) judged unmade = true≢false unmade
judged_made (reply.Taken added known skipped) judged unmade = true≢false unmade
judged_made other judged unmade = absurd judged

-- and so is that to an edit
edited_made : (book : Book) (c : Command) (r : Reply) → FitsParts book c → IsEdited c r → is_made r ≡ false → ⊥
edited_made book (command.EditPage site page rev edits) (reply.Stored s) fits same unmade =
    true≢false (sym (short_name page fits.named) ∙ (ap is_short (sym same) ∙ unmade))
edited_made book (command.EditPage site page rev edits) other fits same unmade = absurd same
edited_made book other r fits same unmade = absurd same

-- and to a list of languages
relisted_made : (r : Reply) → IsRelisted r → is_made r ≡ false → ⊥
relisted_made (reply.Languages languages pages) relisted unmade = true≢false unmade
relisted_made other relisted unmade = absurd relisted

done_calm : (book : Book) (q : Request) (s t : Tables) (r : Reply) (d : Decided) → Quiet (Ok d) → is_made r ≡ false → r ≡ d.reply → t ≡ soundness.made d.change s → t ≡ s
done_calm book q s t r d (inl none) unmade is became = became ∙ ap (λ change. soundness.made change s) none
done_calm book q s t r d (inr made) unmade is became = absurd (true≢false (sym made ∙ (sym (ap is_made is) ∙ unmade)))

-- it comes with the tables kept, whether they are sound or not
pub unmade_stays : (book : Book) (q : Request) (s t : Tables) (r : Reply) → FitsRequest book q → is_made r ≡ false → (t ≡ s) ⊎ (RestsOnKept q r ⊎ IsDone book q r s t) → t ≡ s
unmade_stays book q s t r fits unmade (inl same) = same
unmade_stays book q s t r fits unmade (inr (inl (inl judged))) = absurd (judged_made r judged unmade)
unmade_stays book q s t r fits unmade (inr (inl (inr (inl edited)))) = absurd (edited_made book q.command r fits.parts edited unmade)
unmade_stays book q s t r fits unmade (inr (inl (inr (inr relisted)))) = absurd (relisted_made r relisted unmade)
unmade_stays book q s t r fits unmade (inr (inr done)) =
    let quiet : Quiet (decided book q (state_of s)) = decision_quiet book q.caller q.command (site_at (site_of q.command) (state_of s)) (memberships q.caller (state_of s)) fits.site fits.parts in
    done_calm book q s t r done.d (subst Quiet done.is_decided quiet) unmade done.answered done.became
