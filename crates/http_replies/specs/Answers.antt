-- What is sent back for one thing that came over a connection.
use Rattle.std.specs.Prelude.{ℕ, ◌≤◌, List, [], ◌∷◌, length, Bool, false}
use Rattle.serde_json.specs.Written.{compact_text}
use Rattle.rule_core.specs.declared.info.RuleInfo.{RuleInfo}
use Rattle.reports.specs.Earl.{earl}
use Rattle.reports.specs.SiteReport.{site_report}
use Rattle.reports.specs.Table.{csv_rows}
use Rattle.reports.specs.TextReport.{text_report}
use Rattle.desk_core.specs.declared.refusal.Refusal.TheVariants as refusal
use Rattle.desk_core.specs.declared.reply.Reply.{Reply}
use Rattle.desk_core.specs.declared.reply.Reply.TheVariants as reply
use Rattle.http_messages.specs.Faults as head
use Rattle.http_routes.specs.Faults as request
use Rattle.reply_frames.specs.declared.kind.Kind.{Kind}
use Rattle.reply_frames.specs.declared.kind.Kind.TheVariants as kind
use Rattle.reply_frames.specs.Frames.{framed}
use Rattle.http_replies.specs.declared.answer.Answer.{Answer}
use Rattle.http_replies.specs.declared.answer.Answer.TheVariants.{Misread, Misasked, Replied}
use Rattle.http_replies.specs.Refusals as refused
use Rattle.http_replies.specs.Refusals.{refusal_data, head_data, request_data}
use Rattle.http_replies.specs.Made.{site_text, member_text, languages_text, stored_text, dropped_text, imported_text, judged_text, taken_text, is_made}
use Rattle.http_replies.specs.declared.made.TheConstants.{MOST_BODY}
use Rattle.http_replies.specs.NameList.{names_data}
use Rattle.http_replies.specs.Shown.{page_text, outcomes_data}
use Rattle.http_replies.specs.VerdictList.{verdicts_data}
use Rattle.http_replies.specs.MemberList.{members_data, memberships_data}

-- the status code of a reply: 201 where a site was made
abbrev pub reply_status : Reply → ℕ
reply_status (reply.Site site) = 201
reply_status (reply.Member user held) = 200
reply_status (reply.Languages languages pages) = 200
reply_status (reply.Stored s) = 200
reply_status (reply.Page p) = 200
reply_status (reply.Dropped page) = 200
reply_status (reply.Imported pages) = 200
reply_status (reply.Judged rule node outcome) = 200
reply_status (reply.Taken added known skipped) = 200
reply_status (reply.Outcomes p) = 200
reply_status (reply.Report p) = 200
reply_status (reply.Earl p) = 200
reply_status (reply.Names t) = 200
reply_status (reply.SiteReport s) = 200
reply_status (reply.SiteEarl s) = 200
reply_status (reply.SiteCsv s) = 200
reply_status (reply.Verdicts v) = 200
reply_status (reply.Members members) = 200
reply_status (reply.Memberships memberships) = 200
reply_status (reply.Refused r) = refused.status r

abbrev pub status : Answer → ℕ
status (Misread fault) = head.status fault
status (Misasked fault) = request.status fault
status (Replied r) = reply_status r

-- what the body of a reply is: reports have their own forms
abbrev pub reply_kind : Reply → Kind
reply_kind (reply.Report p) = kind.Text
reply_kind (reply.SiteReport s) = kind.Text
reply_kind (reply.Earl p) = kind.JsonLd
reply_kind (reply.SiteEarl s) = kind.JsonLd
reply_kind (reply.SiteCsv s) = kind.Csv
reply_kind (reply.Site site) = kind.Json
reply_kind (reply.Member user held) = kind.Json
reply_kind (reply.Languages languages pages) = kind.Json
reply_kind (reply.Stored s) = kind.Json
reply_kind (reply.Page p) = kind.Json
reply_kind (reply.Dropped page) = kind.Json
reply_kind (reply.Imported pages) = kind.Json
reply_kind (reply.Judged rule node outcome) = kind.Json
reply_kind (reply.Taken added known skipped) = kind.Json
reply_kind (reply.Outcomes p) = kind.Json
reply_kind (reply.Names t) = kind.Json
reply_kind (reply.Verdicts v) = kind.Json
reply_kind (reply.Members members) = kind.Json
reply_kind (reply.Memberships memberships) = kind.Json
reply_kind (reply.Refused r) = kind.Json

abbrev pub kind_of : Answer → Kind
kind_of (Misread fault) = kind.Json
kind_of (Misasked fault) = kind.Json
kind_of (Replied r) = reply_kind r

abbrev pub reply_body : List RuleInfo → Reply → List ℕ
reply_body infos (reply.Site site) = site_text site
reply_body infos (reply.Member user held) = member_text user held
reply_body infos (reply.Languages languages pages) = languages_text languages pages
reply_body infos (reply.Stored s) = stored_text s
reply_body infos (reply.Page p) = page_text p
reply_body infos (reply.Dropped page) = dropped_text page
reply_body infos (reply.Imported pages) = imported_text pages
reply_body infos (reply.Judged rule node outcome) = judged_text infos rule node outcome
reply_body infos (reply.Taken added known skipped) = taken_text added known skipped
reply_body infos (reply.Outcomes p) = compact_text (outcomes_data infos p)
reply_body infos (reply.Report p) = text_report p.address infos p.outcomes.rows
reply_body infos (reply.Earl p) = earl infos (p ∷ [])
reply_body infos (reply.Names t) = compact_text (names_data t.trees)
reply_body infos (reply.SiteReport s) = site_report s.site infos s.pages
reply_body infos (reply.SiteEarl s) = earl infos s.pages
reply_body infos (reply.SiteCsv s) = csv_rows s.site infos s.pages
reply_body infos (reply.Verdicts v) = compact_text (verdicts_data infos v)
reply_body infos (reply.Members members) = compact_text (members_data members)
reply_body infos (reply.Memberships memberships) = compact_text (memberships_data memberships)
reply_body infos (reply.Refused r) = compact_text (refusal_data r)

abbrev pub body : List RuleInfo → Answer → List ℕ
body infos (Misread fault) = compact_text (head_data fault)
body infos (Misasked fault) = compact_text (request_data fault)
body infos (Replied r) = reply_body infos r

-- the bytes of an answer, after which the connection is closed or not
unfoldable pub answer_bytes : List RuleInfo → Answer → Bool → List ℕ
answer_bytes infos answer closes = framed (status answer) (kind_of answer) closes (body infos answer)

-- the answer for want of memory
abbrev pub no_memory : Answer
no_memory = Replied (reply.Refused refusal.OutOfMemory)

-- the answer is the reply to a change
abbrev pub is_made_answer : Answer → Bool
is_made_answer (Misread fault) = false
is_made_answer (Misasked fault) = false
is_made_answer (Replied r) = is_made r

-- a body was printed in this room, of which none was lost
pub record HasRoom (room : ℕ) (body : List ℕ) (now_room : ℕ) : Type 0 where
  pub kept : room ≤ now_room
  pub short : length body ≤ MOST_BODY
