-- The body of a request that judges: a rule, a node, a verdict, the digest of the evidence, and a note.
use Rattle.std.specs.Prelude.{ℕ, List, [], length, codes, bytes_eq, nat_le, Bool, if◌then◌else◌, Option, Some, None, option_and_then, Result, Ok}
use Rattle.std.specs.List.{find}
use Rattle.std.specs.Result.{result_ok}
use Rattle.serde_json.specs.Data.{Data}
use Rattle.serde_json.specs.Find.{get, as_object}
use Rattle.hex.specs.Hex.{decode_sized}
use Rattle.snap_json.specs.Fields.{number_of, text_of}
use Rattle.rule_core.specs.declared.info.RuleNo.{RuleNo}
use Rattle.rule_core.specs.declared.info.RuleInfo.{RuleInfo}
use Rattle.rule_core.specs.declared.verdict.Auto.{Auto}
use Rattle.rule_core.specs.declared.verdict.Auto.TheVariants.{Passed, Failed, CantTell}
use Rattle.rule_core.specs.Infos.{is_atomic}
use Rattle.http_routes.specs.declared.part.Part.TheVariants as part
use Rattle.http_routes.specs.declared.fault.RequestFault.{RequestFault}
use Rattle.desk_core.specs.declared.limits.TheConstants.{MOST_NOTE}
use Rattle.http_commands.specs.declared.judging.Opinion.{Opinion}
use Rattle.http_commands.specs.Shapes.{◌>>=◌, in_shape}

abbrev pub has_id : List ℕ → RuleInfo → Bool
has_id id i = bytes_eq i.id id

abbrev pub atomic_no : RuleInfo → Option RuleNo
atomic_no i = if is_atomic i then Some i.no else None

-- the number of the rule of this id, where there is one and it is atomic
abbrev pub rule_named : List RuleInfo → List ℕ → Option RuleNo
rule_named infos id = option_and_then atomic_no (find (has_id id) infos)

abbrev pub rule_of : List RuleInfo → Option Data → Option RuleNo
rule_of infos member = option_and_then (rule_named infos) (text_of member)

abbrev pub verdict_named : List ℕ → Option Auto
verdict_named word =
    if bytes_eq word (codes "passed") then Some Passed
    else if bytes_eq word (codes "failed") then Some Failed
    else if bytes_eq word (codes "cantTell") then Some CantTell
    else None

abbrev pub verdict_of : Option Data → Option Auto
verdict_of member = option_and_then verdict_named (text_of member)

-- the 32 bytes of 64 hexadecimal digits, of either case
abbrev pub digest_named : List ℕ → Option (List ℕ)
digest_named digits = result_ok (decode_sized digits 32)

abbrev pub digest_of : Option Data → Option (List ℕ)
digest_of member = option_and_then digest_named (text_of member)

-- at most 2,000 bytes
abbrev pub short : List ℕ → Option (List ℕ)
short note = if nat_le (length note) MOST_NOTE then Some note else None

-- a text of at most 2,000 bytes; absent means empty
abbrev pub note_of : Option Data → Option (List ℕ)
note_of None = Some []
note_of (Some d) = option_and_then short (text_of (Some d))

-- an object with these members, of the book of these rules
abbrev pub opinion_in : List RuleInfo → Data → Result Opinion RequestFault
opinion_in infos body = do
  members ← in_shape part.Body 0 (as_object body)
  rule ← in_shape part.Rule 0 (rule_of infos (get (codes "rule") body))
  node ← in_shape part.Node 0 (number_of (get (codes "node") body))
  verdict ← in_shape part.Verdict 0 (verdict_of (get (codes "verdict") body))
  digest ← in_shape part.Digest 0 (digest_of (get (codes "digest") body))
  note ← in_shape part.Note 0 (note_of (get (codes "note") body))
  Ok (record { rule = rule; node = node; verdict = verdict; digest = digest; note = note })
