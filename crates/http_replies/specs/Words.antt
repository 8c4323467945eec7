-- The words of replies.
use Rattle.std.specs.Prelude.{ℕ, List, [], codes, Option, Some, None}
use Rattle.std.specs.Option.{option_map_or}
use Rattle.serde_json.specs.Data.{Data, number, unsigned}
use Rattle.rule_core.specs.declared.info.RuleNo.{RuleNo}
use Rattle.rule_core.specs.declared.info.RuleInfo.{RuleInfo}
use Rattle.rule_core.specs.Infos.{info_of}
use Rattle.keep_core.specs.declared.member.MemberRole.{MemberRole}
use Rattle.keep_core.specs.declared.member.MemberRole.TheVariants as role
use Rattle.desk_core.specs.declared.refusal.Needed.{Needed}
use Rattle.desk_core.specs.declared.refusal.Needed.TheVariants as needed
use Rattle.desk_core.specs.declared.refusal.Limit.{Limit}
use Rattle.desk_core.specs.declared.refusal.Limit.TheVariants as limit
use Rattle.http_messages.specs.declared.fault.HeadFault.{HeadFault}
use Rattle.http_messages.specs.declared.fault.HeadFault.TheVariants as head

abbrev pub whole : ℕ → Data
whole n = number (unsigned n)

-- a user's role, `none` for a user who is no member
abbrev pub role_word : Option MemberRole → List ℕ
role_word None = codes "none"
role_word (Some role.Owner) = codes "owner"
role_word (Some role.Editor) = codes "editor"
role_word (Some role.Judge) = codes "judge"
role_word (Some role.Reader) = codes "reader"

abbrev pub needed_word : Needed → List ℕ
needed_word needed.Owner = codes "owner"
needed_word needed.AnotherOwner = codes "another owner"
needed_word needed.Editor = codes "editor"
needed_word needed.Judge = codes "judge"
needed_word needed.Reader = codes "reader"

abbrev pub limit_word : Limit → List ℕ
limit_word limit.Pages = codes "pages"
limit_word limit.Revisions = codes "revisions"

abbrev pub head_word : HeadFault → List ℕ
head_word head.BadHead = codes "BadHead"
head_word head.HeadTooLarge = codes "HeadTooLarge"
head_word head.TransferEncoding = codes "TransferEncoding"
head_word head.LengthRequired = codes "LengthRequired"
head_word head.BodyTooLarge = codes "BodyTooLarge"

-- the id of a rule; none for a rule that the book hasn't
abbrev pub id_of : List RuleInfo → RuleNo → List ℕ
id_of infos rule = option_map_or (λ info. info.id) (info_of infos rule.0) []
