-- The reply for want of memory is its constant.
use Rattle.std.specs.Prelude.{◌≡◌, List, ℕ, ◌++◌, codes, true, false}
use Rattle.std.proofs.Common.{refl}
use Rattle.std.specs.Fmt.{digits}
use Rattle.rule_core.specs.declared.info.RuleInfo.{RuleInfo}
use Rattle.json.specs.Print.{escape_byte}
use Rattle.reply_frames.specs.Frames.{status_line, type_line, length_line, head, framed}
use Rattle.http_replies.specs.Refusals.{refusal_data}
use Rattle.http_replies.specs.Answers.{answer_bytes, no_memory}

pub closing : (infos : List RuleInfo) →
    codes "HTTP/1.1 507 Insufficient Storage\r\ncontent-type: application/json\r\ncontent-length: 37\r\nconnection: close\r\n\r\n{\"number\":24,\"refused\":\"OutOfMemory\"}"
    ≡ answer_bytes infos no_memory true
unfolding answer_bytes framed head status_line type_line length_line refusal_data escape_byte digits
closing infos = refl

pub going_on : (infos : List RuleInfo) →
    codes "HTTP/1.1 507 Insufficient Storage\r\ncontent-type: application/json\r\ncontent-length: 37\r\n\r\n{\"number\":24,\"refused\":\"OutOfMemory\"}"
    ≡ answer_bytes infos no_memory false
unfolding answer_bytes framed head status_line type_line length_line refusal_data escape_byte digits
going_on infos = refl
