-- The bodies of the replies to changes: compact JSON, the keys of each object in byte order. Names are of characters
-- that JSON has as they are.
use Rattle.std.specs.Prelude.{ℕ, List, [], ◌∷◌, ◌++◌, ◌&&◌, length, codes, decimal, Bool, true, false, nat_le, Option}
use Rattle.std.specs.List.{flat_map, list_all}
use Rattle.snap_tree.specs.declared.row.NodeId.{NodeId}
use Rattle.rule_core.specs.declared.info.RuleNo.{RuleNo}
use Rattle.rule_core.specs.declared.info.RuleInfo.{RuleInfo}
use Rattle.rule_core.specs.declared.verdict.Auto.{Auto}
use Rattle.reports.specs.TextReport.{outcome_word}
use Rattle.keep_core.specs.declared.member.MemberRole.{MemberRole}
use Rattle.desk_core.specs.declared.limits.TheConstants.{MOST_ENTRIES}
use Rattle.desk_core.specs.declared.reply.Summary.{Summary}
use Rattle.desk_core.specs.declared.reply.Stored.{Stored}
use Rattle.desk_core.specs.declared.reply.Reply.{Reply}
use Rattle.desk_core.specs.declared.reply.Reply.TheVariants as reply
use Rattle.keep_core.specs.declared.limits.TheConstants.{MOST_NAME}
use Rattle.http_replies.specs.Words.{role_word, id_of}

abbrev pub site_text : List ℕ → List ℕ
site_text site = codes "{\"site\":\"" ++ site ++ codes "\"}"

abbrev pub member_text : List ℕ → Option MemberRole → List ℕ
member_text user held = codes "{\"member\":\"" ++ user ++ codes "\",\"role\":\"" ++ role_word held ++ codes "\"}"

-- a key, with what stands before it, and a number
unfoldable pub count_text : List ℕ → ℕ → List ℕ
count_text key n = key ++ decimal n

unfoldable pub languages_text : ℕ → ℕ → List ℕ
languages_text languages pages = count_text (codes "{\"languages\":") languages ++ count_text (codes ",\"pages\":") pages ++ codes "}"

unfoldable pub summary_text : Summary → List ℕ
summary_text s =
    count_text (codes "{\"cantTell\":") s.cant_tell ++ count_text (codes ",\"failed\":") s.failed
    ++ count_text (codes ",\"inapplicable\":") s.inapplicable ++ count_text (codes ",\"passed\":") s.passed ++ codes "}"

unfoldable pub stored_text : Stored → List ℕ
stored_text s =
    codes "{\"page\":\"" ++ s.page ++ count_text (codes "\",\"rev\":") s.rev ++ codes ",\"summary\":" ++ summary_text s.summary ++ codes "}"

abbrev pub dropped_text : List ℕ → List ℕ
dropped_text page = codes "{\"page\":\"" ++ page ++ codes "\"}"

-- the pages of an import, with a comma before each but the first
abbrev pub after_comma : Stored → List ℕ
after_comma s = codes "," ++ stored_text s

abbrev pub pages_text : List Stored → List ℕ
pages_text [] = []
pages_text (s ∷ pages) = stored_text s ++ flat_map after_comma pages

abbrev pub imported_text : List Stored → List ℕ
imported_text pages = codes "{\"pages\":[" ++ pages_text pages ++ codes "]}"

unfoldable pub judged_text : List RuleInfo → RuleNo → NodeId → Auto → List ℕ
judged_text infos rule node outcome =
    count_text (codes "{\"node\":") node.0 ++ codes ",\"outcome\":\"" ++ outcome_word outcome ++ codes "\",\"rule\":\"" ++ id_of infos rule ++ codes "\"}"

unfoldable pub taken_text : ℕ → ℕ → ℕ → List ℕ
taken_text added known skipped =
    count_text (codes "{\"added\":") added ++ count_text (codes ",\"known\":") known ++ count_text (codes ",\"skipped\":") skipped ++ codes "}"

-- what is printed for a reply to a change, and nothing for any other
abbrev pub made_text : List RuleInfo → Reply → List ℕ
made_text infos (reply.Site site) = site_text site
made_text infos (reply.Member user held) = member_text user held
made_text infos (reply.Languages languages pages) = languages_text languages pages
made_text infos (reply.Stored s) = stored_text s
made_text infos (reply.Dropped page) = dropped_text page
made_text infos (reply.Imported pages) = imported_text pages
made_text infos (reply.Judged rule node outcome) = judged_text infos rule node outcome
made_text infos (reply.Taken added known skipped) = taken_text added known skipped
made_text infos (reply.Page p) = []
made_text infos (reply.Outcomes p) = []
made_text infos (reply.Report p) = []
made_text infos (reply.Earl p) = []
made_text infos (reply.Names t) = []
made_text infos (reply.SiteReport s) = []
made_text infos (reply.SiteEarl s) = []
made_text infos (reply.SiteCsv s) = []
made_text infos (reply.Verdicts v) = []
made_text infos (reply.Members members) = []
made_text infos (reply.Memberships memberships) = []
made_text infos (reply.Refused r) = []

-- ---- the replies for which room is taken before the change is made

abbrev pub is_short : List ℕ → Bool
is_short name = nat_le (length name) MOST_NAME

abbrev pub are_few : List Stored → Bool
are_few pages = nat_le (length pages) MOST_ENTRIES && list_all (λ s. is_short s.page) pages

-- the reply is that of a change, and its names are short and its pages few
abbrev pub is_made : Reply → Bool
is_made (reply.Site site) = is_short site
is_made (reply.Member user held) = is_short user
is_made (reply.Languages languages pages) = true
is_made (reply.Stored s) = is_short s.page
is_made (reply.Dropped page) = is_short page
is_made (reply.Imported pages) = are_few pages
is_made (reply.Judged rule node outcome) = true
is_made (reply.Taken added known skipped) = true
is_made (reply.Page p) = false
is_made (reply.Outcomes p) = false
is_made (reply.Report p) = false
is_made (reply.Earl p) = false
is_made (reply.Names t) = false
is_made (reply.SiteReport s) = false
is_made (reply.SiteEarl s) = false
is_made (reply.SiteCsv s) = false
is_made (reply.Verdicts v) = false
is_made (reply.Members members) = false
is_made (reply.Memberships memberships) = false
is_made (reply.Refused r) = false
