-- What is decided on a request that isn't refused has a reply that is no refusal.
use Rattle.std.proofs.Common.{ℕ, ◌==◌, List, length, Bool, true, false, not, Option, Some, None, Result, Ok, Err, subst}
use Rattle.std.specs.Option.{option_map_or}
use Rattle.std.specs.Str.{bytes_eq}
use Rattle.snap_tree.specs.declared.row.Raw.{Raw}
use Rattle.snap_tree.specs.declared.fault.TreeFault.{TreeFault}
use Rattle.snap_tree.specs.Trees.{Trees, Document, with_trees, with_langs}
use Rattle.snap_tree.specs.Grown.{page_of}
use Rattle.snap_tree.specs.Faults.{tree_fault}
use Rattle.snap_edit.specs.declared.edit.Edit.{Edit}
use Rattle.snap_edit.specs.declared.fault.EditFault.{EditFault}
use Rattle.snap_edit.specs.declared.fault.EditFault.TheVariants as fault
use Rattle.snap_edit.specs.Edits.{edited_all}
use Rattle.rule_core.specs.Books.{Book}
use Rattle.keep_core.specs.declared.page.Page.{Page}
use Rattle.keep_core.specs.declared.member.MemberRole.{MemberRole}
use Rattle.judge_core.specs.declared.judgement.Judgement.{Judgement}
use Rattle.keep_core.specs.declared.site.Site.{Site}
use Rattle.desk_core.specs.declared.decided.Decided.{Decided}
use Rattle.desk_core.specs.declared.refusal.Needed.TheVariants as needed
use Rattle.desk_core.specs.declared.refusal.Limit.TheVariants as limit
use Rattle.desk_core.specs.declared.refusal.Refusal.{Refusal}
use Rattle.desk_core.specs.declared.refusal.Refusal.TheVariants as refusal
use Rattle.desk_core.specs.Refusals.{Decision, unless, unless_refused}
use Rattle.desk_core.specs.State.{PageState, SiteState}
use Rattle.desk_core.specs.Members.{put_site, put_member}
use Rattle.desk_core.specs.Pages.{due, has_room, has_room_for, has_revisions, renewed, built, put_page, edited, edit_page, drop_page}
use Rattle.desk_core.specs.Imports.{first_fault}
use Rattle.desk_core.specs.declared.placed.Placed.{Placed}
use Rattle.desk_core.specs.Placing.{entries_of, new_among, stale_among, import_placed}
use Rattle.desk_core.specs.Serving.{Accepts, Agrees}

-- an answer that agrees with what is decided is as accepting as that
pub accepted_by : (result : Result Decided Refusal) (decision : Decision) → Agrees ⊥ result decision → Accepts decision → Accepts result
accepted_by (Ok d) decision agrees accepts = subst Accepts agrees accepts
accepted_by (Err r) decision agrees accepts = tt

pub unless_accepts : (holds : Bool) (r : Refusal) (next : Decision) → Accepts next → Accepts (unless holds r next)
unless_accepts true r next accepts = accepts
unless_accepts false r next accepts = tt

pub unless_refused_accepts : (o : Option Refusal) (next : Decision) → Accepts next → Accepts (unless_refused o next)
unless_refused_accepts None next accepts = accepts
unless_refused_accepts (Some r) next accepts = tt

edited_accepts : (tree : Document) (r : Result Trees EditFault) (next : Document → Decision) → ((t : Document) → Accepts (next t)) → Accepts (edited tree r next)
edited_accepts tree (Ok t) next accepts = accepts (with_trees tree t)
edited_accepts tree (Err (fault.At index kind)) next accepts = tt
edited_accepts tree (Err fault.OutOfMemory) next accepts = tt

pub put_site_accepts : (name caller : List ℕ) (kept : Option SiteState) → Accepts (put_site name caller kept)
put_site_accepts name caller None = tt
put_site_accepts name caller (Some s) = tt

pub put_member_accepts : (name caller user : List ℕ) (held : Option MemberRole) (site : Site) → Accepts (put_member name caller user held site)
put_member_accepts name caller user held site = unless_accepts (not (bytes_eq user caller)) (refusal.NotAllowed needed.AnotherOwner) _ tt

pub put_page_accepts : (book : Book) (site caller page : List ℕ) (rev : ℕ) (raw : Raw) (s : Site) (there : Option ℕ) (js : List Judgement) (pages : ℕ)
    → Accepts (put_page book site caller page rev raw s there js pages)
put_page_accepts book site caller page rev raw s there js pages =
    let next : Document → Decision = λ tree. renewed book site caller page s.counter js (with_langs tree s.languages) in
    let refused = option_map_or (λ (f : TreeFault). Some (refusal.TreeFault f None)) (tree_fault raw.rows) None in
    unless_accepts (has_room there pages) (refusal.PageLimit limit.Pages) _ (
    unless_accepts (has_revisions s.counter 1) (refusal.PageLimit limit.Revisions) _ (
    unless_accepts (rev == due there) (refusal.StaleRevision (due there) None) (built None raw next) (
    unless_refused_accepts refused (next (page_of raw)) tt)))

pub edit_page_accepts : (book : Book) (site caller page : List ℕ) (rev : ℕ) (edits : List Edit) (s : Site) (kept : PageState)
    → Accepts (edit_page book site caller page rev edits s kept)
edit_page_accepts book site caller page rev edits s kept =
    let next = renewed book site caller page s.counter kept.judgements in
    unless_accepts (has_revisions s.counter 1) (refusal.PageLimit limit.Revisions) _ (
    unless_accepts (rev == kept.page.head.rev) (refusal.StaleRevision kept.page.head.rev None) _ (
    edited_accepts kept.page.tree (edited_all kept.page.tree.trees edits) next (λ _. tt)))

pub drop_page_accepts : (site page : List ℕ) (rev : ℕ) (kept : Page) → Accepts (drop_page site page rev kept)
drop_page_accepts site page rev kept = unless_accepts (rev == kept.head.rev) (refusal.StaleRevision kept.head.rev None) _ tt

pub import_placed_accepts : (book : Book) (site : List ℕ) (langs : List (List ℕ)) (caller : List ℕ) (counter pages : ℕ) (all : List Placed) → Accepts (import_placed book site langs caller counter pages all)
import_placed_accepts book site langs caller counter pages all =
    unless_accepts (has_room_for (new_among all) pages) (refusal.PageLimit limit.Pages) _ (
    unless_accepts (has_revisions counter (length all)) (refusal.PageLimit limit.Revisions) _ (
    unless_refused_accepts (stale_among all) _ (
    unless_refused_accepts (first_fault (entries_of all)) _ tt)))
