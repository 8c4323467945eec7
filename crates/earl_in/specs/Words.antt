-- The texts of an entry, each a function to what it means, or to nothing.
use Rattle.std.specs.Prelude.{ℕ, ◌^◌, List, [], ◌∷◌, ◌++◌, length, slice_index, codes, bytes_eq, nat_lt, nat_le, ◌==◌, Bool, false, not, ◌&&◌, ◌||◌, if◌then◌else◌, Option, Some, None, option_map, option_and_then}
use Rattle.std.specs.List.{find, list_all, before_first, after_first}
use Rattle.std.specs.Option.{option_map_or, option_or}
use Rattle.std.specs.Result.{result_ok}
use Rattle.std.specs.Char.{is_ascii_digit}
use Rattle.std.specs.Str.{byte}
use Rattle.std.specs.Str.Parse.{digits_value}
use Rattle.serde_json.specs.Data.{Data}
use Rattle.serde_json.specs.Find.{get}
use Rattle.hex.specs.Hex.{decode_sized}
use Rattle.snap_json.specs.Fields.{text, text_of}
use Rattle.snap_tree.specs.declared.row.NodeId.{NodeId}
use Rattle.rule_core.specs.declared.info.RuleNo.{RuleNo}
use Rattle.rule_core.specs.declared.info.RuleInfo.{RuleInfo}
use Rattle.rule_core.specs.declared.verdict.Auto.{Auto}
use Rattle.rule_core.specs.declared.verdict.Auto.TheVariants.{Passed, Failed, CantTell}
use Rattle.rule_core.specs.Infos.{is_atomic}
use Rattle.earl_in.specs.declared.limits.TheConstants.{MOST_NOTE}

-- ---- references

-- what follows these bytes at the front of a text
abbrev pub after : List ℕ → List ℕ → Option (List ℕ)
after [] text = Some text
after (c ∷ front) [] = None
after (c ∷ front) (d ∷ text) = if c == d then after front text else None

-- the name of a term of EARL with its namespace in short; any other name is itself
abbrev pub in_short : List ℕ → List ℕ
in_short name = option_map_or (λ term. codes "earl:" ++ term) (after (codes "http://www.w3.org/ns/earl#") name) name

-- a text, or an object whose `@id` is a text
abbrev pub named : Data → Option (List ℕ)
named value = option_or (text value) (text_of (get (codes "@id") value))

-- what a reference names
abbrev pub reference_of : Option Data → Option (List ℕ)
reference_of member = option_map in_short (option_and_then named member)

-- ---- what a reference may be to

abbrev pub has_id : List ℕ → RuleInfo → Bool
has_id id info = bytes_eq info.id id

abbrev pub atomic_no : RuleInfo → Option RuleNo
atomic_no info = if is_atomic info then Some info.no else None

-- the number of the rule of this id, where there is one and it is atomic
abbrev pub rule_with_id : List RuleInfo → List ℕ → Option RuleNo
rule_with_id infos id = option_and_then atomic_no (find (has_id id) infos)

-- the rule that a test is
abbrev pub rule_named : List RuleInfo → List ℕ → Option RuleNo
rule_named infos test = option_and_then (rule_with_id infos) (after (codes "urn:act-rule:") test)

abbrev pub rule_of : List RuleInfo → Option Data → Option RuleNo
rule_of infos member = option_and_then (rule_named infos) (reference_of member)

-- a person judged, alone or by what a tool found
abbrev pub is_person_mode : List ℕ → Bool
is_person_mode mode = bytes_eq mode (codes "earl:manual") || bytes_eq mode (codes "earl:semiAuto")

abbrev pub is_by_person : Option Data → Bool
is_by_person member = option_map_or is_person_mode (reference_of member) false

abbrev pub verdict_named : List ℕ → Option Auto
verdict_named outcome =
    if bytes_eq outcome (codes "earl:passed") then Some Passed
    else if bytes_eq outcome (codes "earl:failed") then Some Failed
    else if bytes_eq outcome (codes "earl:cantTell") then Some CantTell
    else None

abbrev pub verdict_of : Option Data → Option Auto
verdict_of member = option_and_then verdict_named (reference_of member)

-- ---- the pointer

-- digits, of which the first isn't 0
abbrev pub is_number : List ℕ → Bool
is_number digits = not (length digits == 0) && not (slice_index digits 0 == byte "0") && list_all is_ascii_digit digits

-- a number from 1 to 4,294,967,295 without a leading zero
abbrev pub node_numbered : List ℕ → Option NodeId
node_numbered digits =
    if is_number digits && nat_lt (digits_value 10 digits) (2 ^ 32) then Some (record { 0 = digits_value 10 digits }) else None

abbrev pub node_named : List ℕ → Option NodeId
node_named pointer = option_and_then node_numbered (after (codes "node ") pointer)

abbrev pub node_of : Option Data → Option NodeId
node_of member = option_and_then node_named (text_of member)

-- ---- the digest, and the note after a space

abbrev pub is_space : ℕ → Bool
is_space c = c == byte " "

-- `0` to `9` and `a` to `f`
abbrev pub is_lower_digit : ℕ → Bool
is_lower_digit c = is_ascii_digit c || (nat_le (byte "a") c && nat_le c (byte "f"))

-- the 32 bytes of 64 lower-case hexadecimal digits
abbrev pub digest_named : List ℕ → Option (List ℕ)
digest_named digits = if list_all is_lower_digit digits then result_ok (decode_sized digits 32) else None

abbrev pub digest_in : List ℕ → Option (List ℕ)
digest_in info = digest_named (before_first is_space info)

abbrev pub digest_of : Option Data → Option (List ℕ)
digest_of member = option_and_then digest_in (text_of member)

-- at most 2,000 bytes
abbrev pub short : List ℕ → Option (List ℕ)
short note = if nat_le (length note) MOST_NOTE then Some note else None

-- empty where no space comes
abbrev pub note_in : List ℕ → Option (List ℕ)
note_in info = short (after_first is_space info)

abbrev pub note_of : Option Data → Option (List ℕ)
note_of member = option_and_then note_in (text_of member)
