-- The bytes of an answer that was printed.
use Rattle.std.specs.Prelude.{◌≡◌, ℕ, ◌⊎◌, List, Bool, false}
use Rattle.rule_core.specs.declared.info.RuleInfo.{RuleInfo}
use Rattle.desk_core.specs.declared.reply.Reply.{Reply}
use Rattle.http_replies.specs.declared.answer.Answer.{Answer}
use Rattle.http_replies.specs.declared.answer.Answer.TheVariants.{Replied}
use Rattle.http_replies.specs.Answers.{answer_bytes, no_memory, is_made_answer}
use Rattle.desk_http.specs.declared.printed.Printed.{Printed}
use Rattle.desk_http.specs.declared.printed.Printed.TheVariants.{Own, Constant}

abbrev pub bytes_of : Printed → List ℕ
bytes_of (Own bytes) = bytes.items
bytes_of (Constant bytes) = bytes.now

-- the bytes of an answer, or those for want of memory, unless it is the reply to a change
abbrev pub PrintsAnswer : List RuleInfo → Answer → Bool → List ℕ → Type 0
PrintsAnswer infos answer closes bytes =
    (bytes ≡ answer_bytes infos answer closes) ⊎ ((is_made_answer answer ≡ false) × (bytes ≡ answer_bytes infos no_memory closes))

abbrev pub PrintsReply : List RuleInfo → Reply → Bool → List ℕ → Type 0
PrintsReply infos reply closes bytes = PrintsAnswer infos (Replied reply) closes bytes
