-- What is written has no float.
use Rattle.std.proofs.Common.{◌≡◌, List, [], ◌∷◌, map, filter, false, Option, Some, None, refl}
use Rattle.serde_json.specs.Data.{string, array, object}
use Rattle.serde_json.specs.View.{items_of}
use Rattle.serde_json.specs.Written.{has_float, items_have_float}
use Rattle.snap_tree.specs.declared.row.Row.{Row}
use Rattle.snap_tree.specs.Trees.{Trees, rows_of}
use Rattle.rule_core.specs.declared.info.RuleInfo.{RuleInfo}
use Rattle.judge_core.specs.declared.outcomes.OutRow.{OutRow}
use Rattle.keep_core.specs.declared.member.Member.{Member}
use Rattle.keep_core.specs.declared.page.SitePage.{SitePage}
use Rattle.kept_verdicts.specs.declared.verdicts.KeptVerdict.{KeptVerdict}
use Rattle.reports.specs.TextReport.{is_inapplicable, is_known}
use Rattle.snap_edit.specs.declared.fault.EditKind.{EditKind}
use Rattle.snap_edit.specs.declared.fault.EditKind.TheVariants as kind
use Rattle.keep_core.specs.declared.member.Membership.{Membership}
use Rattle.desk_core.specs.declared.reply.PageVerdicts.{PageVerdicts}
use Rattle.desk_core.specs.declared.refusal.Refusal.{Refusal}
use Rattle.desk_core.specs.declared.refusal.Refusal.TheVariants as refusal
use Rattle.http_messages.specs.declared.fault.HeadFault.{HeadFault}
use Rattle.http_routes.specs.declared.fault.RequestFault.{RequestFault}
use Rattle.http_routes.specs.declared.fault.RequestFault.TheVariants as request
use Rattle.http_replies.specs.Refusals.{members, edit_members, plain, refusal_data, head_data, request_members, request_data}
use Rattle.http_replies.specs.NameList.{is_listed, name_data, names_data}
use Rattle.http_replies.specs.Shown.{row_data, outcomes_data}
use Rattle.http_replies.specs.VerdictList.{verdict_data, verdicts_data}
use Rattle.http_replies.specs.MemberList.{member_data, members_data, membership_data, memberships_data}

of_members : (r : Refusal) → has_float (object (members r)) ≡ false
of_members refusal.NoSite = refl
of_members refusal.SiteExists = refl
of_members (refusal.NotAllowed needed) = refl
of_members refusal.NoPage = refl
of_members (refusal.PageLimit limit) = refl
of_members (refusal.StaleRevision current None) = refl
of_members (refusal.StaleRevision current (Some page)) = refl
of_members (refusal.TreeFault fault None) = refl
of_members (refusal.TreeFault fault (Some page)) = refl
of_members (refusal.EditFault index kind.NoNode) = refl
of_members (refusal.EditFault index kind.NotElement) = refl
of_members (refusal.EditFault index kind.NotText) = refl
of_members (refusal.EditFault index kind.NumberTaken) = refl
of_members (refusal.EditFault index kind.IntoItself) = refl
of_members (refusal.EditFault index kind.RootMoved) = refl
of_members (refusal.EditFault index kind.PlaceOut) = refl
of_members (refusal.EditFault index (kind.Tree fault)) = refl
of_members (refusal.EditFault index kind.TooManyEdits) = refl
of_members refusal.NoTarget = refl
of_members (refusal.NotOpen automatic) = refl
of_members refusal.SameHand = refl
of_members (refusal.EvidenceMoved current) = refl
of_members refusal.KeeperFault = refl
of_members refusal.OutOfMemory = refl

pub refusal_has_no_float : (r : Refusal) → has_float (refusal_data r) ≡ false
unfolding refusal_data
refusal_has_no_float r = of_members r

pub head_has_no_float : (f : HeadFault) → has_float (head_data f) ≡ false
unfolding head_data
head_has_no_float f = refl

of_request : (f : RequestFault) → has_float (object (request_members f)) ≡ false
of_request request.NoRoute = refl
of_request request.WrongMethod = refl
of_request request.NoCaller = refl
of_request request.BadJson = refl
of_request (request.BadShape part place) = refl

pub request_has_no_float : (f : RequestFault) → has_float (request_data f) ≡ false
unfolding request_data
request_has_no_float f = of_request f

ids : (infos : List RuleInfo) → items_have_float (items_of (map (λ info. string info.id) infos)) ≡ false
ids [] = refl
ids (info ∷ infos) = ids infos

names : (trees : Trees) (listed : List Row) → items_have_float (items_of (map (λ row. name_data trees row.id) listed)) ≡ false
unfolding name_data
names trees [] = refl
names trees (row ∷ listed) = names trees listed

pub names_have_no_float : (trees : Trees) → has_float (names_data trees) ≡ false
unfolding names_data
names_have_no_float trees = rw (names trees (filter (λ row. is_listed trees row.id) (rows_of trees))) refl

rows : (infos : List RuleInfo) (outcomes : List OutRow) → items_have_float (items_of (map (row_data infos) outcomes)) ≡ false
unfolding row_data
rows infos [] = refl
rows infos (row ∷ outcomes) = rows infos outcomes

pub outcomes_have_no_float : (infos : List RuleInfo) (p : SitePage) → has_float (outcomes_data infos p) ≡ false
unfolding outcomes_data
outcomes_have_no_float infos p =
    rw (ids (filter (is_inapplicable p.outcomes.rows) infos), rows infos (filter (is_known infos) p.outcomes.rows)) refl

verdicts : (infos : List RuleInfo) (told : List KeptVerdict) → items_have_float (items_of (map (verdict_data infos) told)) ≡ false
unfolding verdict_data
verdicts infos [] = refl
verdicts infos (v ∷ told) = verdicts infos told

pub verdicts_have_no_float : (infos : List RuleInfo) (p : PageVerdicts) → has_float (verdicts_data infos p) ≡ false
unfolding verdicts_data
verdicts_have_no_float infos p = rw (verdicts infos p.verdicts) refl

members_of_site : (ms : List Member) → items_have_float (items_of (map member_data ms)) ≡ false
unfolding member_data
members_of_site [] = refl
members_of_site (m ∷ ms) = members_of_site ms

pub members_have_no_float : (ms : List Member) → has_float (members_data ms) ≡ false
unfolding members_data
members_have_no_float ms = rw (members_of_site ms) refl

sites_of_member : (ms : List Membership) → items_have_float (items_of (map membership_data ms)) ≡ false
unfolding membership_data
sites_of_member [] = refl
sites_of_member (m ∷ ms) = sites_of_member ms

pub memberships_have_no_float : (ms : List Membership) → has_float (memberships_data ms) ≡ false
unfolding memberships_data
memberships_have_no_float ms = rw (sites_of_member ms) refl
