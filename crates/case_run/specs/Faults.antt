-- How faults are printed, and what it is that a call gives what a definition does.
use Rattle.std.specs.Prelude.{◌≡◌, ◌⊎◌, ℕ, List, [], ◌++◌, codes, decimal, Option, Some, None, Result, Ok, Err}
use Rattle.std.specs.Option.{option_map_or}
use Rattle.snap_json.specs.Faults as snapshot
use Rattle.case_run.specs.declared.fault.CaseField.{CaseField}
use Rattle.case_run.specs.declared.fault.CaseField.TheVariants as field
use Rattle.case_run.specs.declared.fault.CasesFault.{CasesFault}
use Rattle.case_run.specs.declared.fault.CasesFault.TheVariants.{NotJson, Shape, Snapshot, TooLong, OutOfMemory}

abbrev pub field_name : CaseField → List ℕ
field_name field.Top = codes "top"
field_name field.Cases = codes "cases"
field_name field.Case = codes "case"
field_name field.Id = codes "id"
field_name field.Rule = codes "rule"
field_name field.Expected = codes "expected"
field_name field.Snapshot = codes "snapshot"

abbrev pub fault_number : CasesFault → Option ℕ
fault_number NotJson = Some 1
fault_number (Shape place f) = Some 2
fault_number (Snapshot place f) = Some 3
fault_number TooLong = Some 4
fault_number OutOfMemory = None

abbrev pub fault_name : CasesFault → List ℕ
fault_name NotJson = codes "NotJson"
fault_name (Shape place f) = codes "Shape"
fault_name (Snapshot place f) = codes "Snapshot"
fault_name TooLong = codes "TooLong"
fault_name OutOfMemory = codes "OutOfMemory"

-- what follows the number and the name: the place with the field, or with the fault of its snapshot
abbrev pub details : CasesFault → List ℕ
details (Shape place f) = codes " place " ++ decimal place ++ codes " field " ++ field_name f
details (Snapshot place f) = codes " place " ++ decimal place ++ codes " " ++ snapshot.fault_text f
details fault = []

-- how a fault is printed; want of memory is none
abbrev pub fault_text : CasesFault → List ℕ
fault_text fault = option_map_or (λ number. decimal number ++ codes " " ++ fault_name fault ++ details fault) (fault_number fault) (codes "no memory")

-- the line that names what is wrong with a list
abbrev pub cases_line : CasesFault → List ℕ
cases_line fault = codes "cases fault " ++ fault_text fault ++ codes "\n"

-- the next step, unless this one found a fault
infixl 10 ◌>>=◌
abbrev pub ◌>>=◌ : {A B : Type 0} → Result A CasesFault → (A → Result B CasesFault) → Result B CasesFault
(Ok x) >>= next = next x
(Err e) >>= next = Err e

-- what a field means, or the fault that it is out of shape
abbrev pub in_shape : {A : Type 0} → ℕ → CaseField → Option A → Result A CasesFault
in_shape place f (Some x) = Ok x
in_shape place f None = Err (Shape place f)

-- what the call answered is what the definition gives, unless memory ran out
abbrev pub Gives : {A : Type 0} → Result A CasesFault → Result A CasesFault → Type 0
Gives (Err OutOfMemory) given = Unit {0}
Gives answer given = given ≡ answer

-- the same, as one choice
abbrev pub Answers : {A : Type 0} → Result A CasesFault → Result A CasesFault → Type 0
Answers answer given = (answer ≡ given) ⊎ (answer ≡ Err OutOfMemory)
