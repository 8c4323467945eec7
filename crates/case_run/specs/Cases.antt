-- Which bytes are a list of cases; where they are none, the first fault.
use Rattle.std.specs.Prelude.{ℕ, zero, suc, List, [], ◌∷◌, ◌++◌, length, codes, bytes_eq, nat_le, Bool, not, ◌&&◌, if◌then◌else◌, Option, Some, None, option_map, option_and_then, Result, Ok, Err}
use Rattle.std.specs.List.{list_any, find}
use Rattle.serde_json.specs.Data.{Data, Items, no_items, item}
use Rattle.serde_json.specs.Find.{get, as_array, as_object}
use Rattle.snap_json.specs.Fields.{text_of}
use Rattle.snap_json.specs.Pages.{json_of, next_place}
use Rattle.rule_core.specs.declared.info.RuleNo.{RuleNo}
use Rattle.rule_core.specs.declared.info.RuleInfo.{RuleInfo}
use Rattle.keep_core.specs.Names.{is_name}
use Rattle.case_run.specs.declared.case.Case.{Case}
use Rattle.case_run.specs.declared.case.Expected.{Expected}
use Rattle.case_run.specs.declared.fault.CaseField.TheVariants as field
use Rattle.case_run.specs.declared.fault.CasesFault.{CasesFault}
use Rattle.case_run.specs.declared.fault.CasesFault.TheVariants.{NotJson, TooLong}
use Rattle.case_run.specs.declared.limits.TheConstants.{MOST_CASES, MOST_CASES_BYTES}
use Rattle.case_run.specs.Words.{expected_named}
use Rattle.case_run.specs.Faults.{◌>>=◌, in_shape}
use Rattle.case_run.specs.Snapshots.{tree_of}

-- ---- the members of a case

-- the case has this id
abbrev pub is_case : List ℕ → Case → Bool
is_case id c = bytes_eq c.id id

-- no earlier case has it
abbrev pub is_new : List Case → List ℕ → Bool
is_new earlier id = not (list_any (is_case id) earlier)

abbrev pub new_id : List Case → List ℕ → Option (List ℕ)
new_id earlier id = if is_name id && is_new earlier id then Some id else None

-- an id: a name that no earlier case has
abbrev pub id_of : List Case → Option Data → Option (List ℕ)
id_of earlier member = option_and_then (new_id earlier) (text_of member)

abbrev pub has_id : List ℕ → RuleInfo → Bool
has_id id info = bytes_eq info.id id

-- the number of the rule of an id, atomic or composite
abbrev pub rule_named : List RuleInfo → List ℕ → Option RuleNo
rule_named infos id = option_map (λ info. info.no) (find (has_id id) infos)

abbrev pub rule_of : List RuleInfo → Option Data → Option RuleNo
rule_of infos member = option_and_then (rule_named infos) (text_of member)

abbrev pub expected_of : Option Data → Option Expected
expected_of member = option_and_then expected_named (text_of member)

-- the case that is the value at a place of the list, after earlier ones
unfoldable pub case_at : List RuleInfo → List Case → ℕ → Data → Result Case CasesFault
case_at infos earlier place value = do
  members ← in_shape place field.Case (as_object value)
  id ← in_shape place field.Id (id_of earlier (get (codes "id") value))
  rule ← in_shape place field.Rule (rule_of infos (get (codes "rule") value))
  expected ← in_shape place field.Expected (expected_of (get (codes "expected") value))
  snapshot ← in_shape place field.Snapshot (get (codes "snapshot") value)
  tree ← tree_of place snapshot
  Ok (record { id = id; rule = rule; expected = expected; tree = tree })

-- ---- the list

-- the cases of a list after earlier ones, the first of them at a place; or the first fault
abbrev pub cases_from : List RuleInfo → List Case → ℕ → Items → Result (List Case) CasesFault
cases_from infos earlier place no_items = Ok []
cases_from infos earlier place (item value others) = do
  first ← case_at infos earlier place value
  rest ← cases_from infos (earlier ++ first ∷ []) (next_place place) others
  Ok (first ∷ rest)

-- how many values
abbrev pub many : Items → ℕ
many no_items = zero
many (item value others) = suc (many others)

abbrev pub is_count : ℕ → Bool
is_count n = nat_le 1 n && nat_le n MOST_CASES

abbrev pub few : Items → Option Items
few values = if is_count (many values) then Some values else None

-- a list of 1 to 64 values
abbrev pub some_few : Option Data → Option Items
some_few member = option_and_then few (option_and_then as_array member)

-- the cases of an object whose `cases` are a list of 1 to 64
unfoldable pub cases_of : List RuleInfo → Data → Result (List Case) CasesFault
cases_of infos value = do
  members ← in_shape 0 field.Top (as_object value)
  cases ← in_shape 0 field.Cases (some_few (get (codes "cases") value))
  cases_from infos [] 1 cases

-- a JSON value, or the fault that there is none
abbrev pub in_json : Option Data → Result Data CasesFault
in_json (Some value) = Ok value
in_json None = Err NotJson

-- the cases that bytes are, for the rules of these infos
unfoldable pub cases_in : List RuleInfo → List ℕ → Result (List Case) CasesFault
cases_in infos bytes = if nat_le (length bytes) MOST_CASES_BYTES then in_json (json_of bytes) >>= cases_of infos else Err TooLong
