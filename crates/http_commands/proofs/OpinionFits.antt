-- A judgement that is read is on an atomic rule of the book, and its note isn't too long.
use Rattle.std.proofs.Common.{◌≡◌, ℕ, ◌≤◌, leb, true, List, length, Option, Some, None, arith}
use Rattle.std.specs.Prelude.{codes, IfSome, IfOk}
use Rattle.std.proofs.lemmas.Bool.{leb-true}
use Rattle.serde_json.specs.Data.{Data}
use Rattle.serde_json.specs.Find.{get, as_object}
use Rattle.snap_json.specs.Fields.{number_of, text_of}
use Rattle.rule_core.specs.declared.info.RuleNo.{RuleNo}
use Rattle.rule_core.specs.declared.info.RuleInfo.{RuleInfo}
use Rattle.rule_core.specs.Infos.{has_atomic, is_orderly}
use Rattle.http_routes.specs.declared.part.Part.TheVariants as part
use Rattle.desk_core.specs.declared.limits.TheConstants.{MOST_NOTE}
use Rattle.http_routes.proofs.Chosen.{when}
use Rattle.http_commands.specs.declared.judging.Opinion.{Opinion}
use Rattle.http_commands.specs.Shapes.{in_shape}
use Rattle.http_commands.specs.Judging.{rule_named, rule_of, verdict_of, digest_of, short, note_of, opinion_in}
use Rattle.http_commands.proofs.Steps.{after, past, shaped, past_some}
use Rattle.http_commands.proofs.Rules.{named_is_atomic}

pub record FitsBook (infos : List RuleInfo) (o : Opinion) : Type 0 where
  pub atomic : has_atomic infos o.rule.0 ≡ true
  pub short : length o.note ≤ MOST_NOTE

abbrev IsAtomic : List RuleInfo → RuleNo → Type 0
IsAtomic infos rule = has_atomic infos rule.0 ≡ true

abbrev IsShort : List ℕ → Type 0
IsShort note = length note ≤ MOST_NOTE

rule_fits : (infos : List RuleInfo) (member : Option Data) → is_orderly infos ≡ true → IfSome (rule_of infos member) (IsAtomic infos)
rule_fits infos member orderly = past_some (IsAtomic infos) (text_of member) (rule_named infos) (λ id. named_is_atomic infos id orderly)

short_fits : (note : List ℕ) → IfSome (short note) IsShort
short_fits note = when (leb (length note) MOST_NOTE) (Some note) IsShort (λ is. leb-true (length note) MOST_NOTE is)

note_fits : (member : Option Data) → IfSome (note_of member) IsShort
note_fits None = omega arith
note_fits (Some d) = past_some IsShort (text_of (Some d)) short short_fits

pub opinion_fits : (infos : List RuleInfo) (body : Data) → is_orderly infos ≡ true → IfOk (opinion_in infos body) (FitsBook infos)
opinion_fits infos body orderly =
    let P = FitsBook infos in
    let rule = rule_of infos (get (codes "rule") body) in
    let note = note_of (get (codes "note") body) in
    past P (in_shape part.Body 0 (as_object body)) _ (λ members.
    after (IsAtomic infos) P (in_shape part.Rule 0 rule) _ (shaped (IsAtomic infos) part.Rule 0 rule (rule_fits infos (get (codes "rule") body) orderly)) (λ no atomic.
    past P (in_shape part.Node 0 (number_of (get (codes "node") body))) _ (λ node.
    past P (in_shape part.Verdict 0 (verdict_of (get (codes "verdict") body))) _ (λ verdict.
    past P (in_shape part.Digest 0 (digest_of (get (codes "digest") body))) _ (λ digest.
    after IsShort P (in_shape part.Note 0 note) _ (shaped IsShort part.Note 0 note (note_fits (get (codes "note") body))) (λ text few.
    record { atomic = atomic; short = few }))))))
