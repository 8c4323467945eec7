-- The status codes of answers have three digits, and phrases of at most 31 bytes.
use Rattle.std.proofs.Common.{◌≡◌, ℕ, ◌≤◌, length, Bool, true, nat_le, nat_lt, ◌&&◌, refl, ap, ◌∙◌}
use Rattle.std.proofs.lemmas.Bool.{and_parts, leb-true, ltb-true}
use Rattle.http.specs.StatusCode.{IsStatusCode}
use Rattle.reply_frames.specs.Frames.{phrase}
use Rattle.reply_frames.specs.declared.framing.TheConstants.{MOST_PHRASE}
use Rattle.desk_core.specs.declared.refusal.Refusal.{Refusal}
use Rattle.desk_core.specs.declared.refusal.Refusal.TheVariants as refusal
use Rattle.desk_core.specs.declared.reply.Reply.{Reply}
use Rattle.desk_core.specs.declared.reply.Reply.TheVariants as reply
use Rattle.http_messages.specs.declared.fault.HeadFault.{HeadFault}
use Rattle.http_messages.specs.declared.fault.HeadFault.TheVariants as head
use Rattle.http_messages.specs.Faults as head_fault
use Rattle.http_routes.specs.declared.fault.RequestFault.{RequestFault}
use Rattle.http_routes.specs.declared.fault.RequestFault.TheVariants as request
use Rattle.http_routes.specs.Faults as request_fault
use Rattle.http_replies.specs.declared.answer.Answer.{Answer}
use Rattle.http_replies.specs.declared.answer.Answer.TheVariants.{Misread, Misasked, Replied}
use Rattle.http_replies.specs.Refusals as refused
use Rattle.http_replies.specs.Answers.{reply_status, status}

-- a status that is used
abbrev is_used : ℕ → Bool
is_used n = (nat_le 100 n && nat_lt n 1000) && nat_le (length (phrase n)) MOST_PHRASE

of_head : (f : HeadFault) → is_used (head_fault.status f) ≡ true
of_head head.BadHead = refl
of_head head.HeadTooLarge = refl
of_head head.TransferEncoding = refl
of_head head.LengthRequired = refl
of_head head.BodyTooLarge = refl

of_request : (f : RequestFault) → is_used (request_fault.status f) ≡ true
of_request request.NoRoute = refl
of_request request.WrongMethod = refl
of_request request.NoCaller = refl
of_request request.BadJson = refl
of_request (request.BadShape part place) = refl

of_refusal : (r : Refusal) → is_used (refused.status r) ≡ true
of_refusal refusal.NoSite = refl
of_refusal refusal.SiteExists = refl
of_refusal (refusal.NotAllowed needed) = refl
of_refusal refusal.NoPage = refl
of_refusal (refusal.PageLimit limit) = refl
of_refusal (refusal.StaleRevision current page) = refl
of_refusal (refusal.TreeFault fault page) = refl
of_refusal (refusal.EditFault index kind) = refl
of_refusal refusal.NoTarget = refl
of_refusal (refusal.NotOpen automatic) = refl
of_refusal refusal.SameHand = refl
of_refusal (refusal.EvidenceMoved current) = refl
of_refusal refusal.KeeperFault = refl
of_refusal refusal.OutOfMemory = refl

of_reply : (r : Reply) → is_used (reply_status r) ≡ true
of_reply (reply.Site site) = refl
of_reply (reply.Member user held) = refl
of_reply (reply.Languages languages pages) = refl
of_reply (reply.Stored s) = refl
of_reply (reply.Page p) = refl
of_reply (reply.Dropped page) = refl
of_reply (reply.Imported pages) = refl
of_reply (reply.Judged rule node outcome) = refl
of_reply (reply.Taken added known skipped) = refl
of_reply (reply.Outcomes p) = refl
of_reply (reply.Report p) = refl
of_reply (reply.Earl p) = refl
of_reply (reply.Names t) = refl
of_reply (reply.SiteReport s) = refl
of_reply (reply.SiteEarl s) = refl
of_reply (reply.SiteCsv s) = refl
of_reply (reply.Verdicts v) = refl
of_reply (reply.Members members) = refl
of_reply (reply.Memberships memberships) = refl
of_reply (reply.Refused r) = of_refusal r

of_answer : (a : Answer) → is_used (status a) ≡ true
of_answer (Misread f) = of_head f
of_answer (Misasked f) = of_request f
of_answer (Replied r) = of_reply r

code : (n : ℕ) → is_used n ≡ true → IsStatusCode n
code n is =
    let both = (and_parts (nat_le 100 n && nat_lt n 1000) (nat_le (length (phrase n)) MOST_PHRASE) is).0 in
    let parts = and_parts (nat_le 100 n) (nat_lt n 1000) both in
    (leb-true 100 n parts.0, ltb-true n 1000 parts.1)

short : (n : ℕ) → is_used n ≡ true → length (phrase n) ≤ MOST_PHRASE
short n is = leb-true (length (phrase n)) MOST_PHRASE (and_parts (nat_le 100 n && nat_lt n 1000) (nat_le (length (phrase n)) MOST_PHRASE) is).1

pub is_code : (a : Answer) (n : ℕ) → n ≡ status a → IsStatusCode n
is_code a n is = code n (ap is_used is ∙ of_answer a)

pub has_short_phrase : (a : Answer) (n : ℕ) → n ≡ status a → length (phrase n) ≤ MOST_PHRASE
has_short_phrase a n is = short n (ap is_used is ∙ of_answer a)
