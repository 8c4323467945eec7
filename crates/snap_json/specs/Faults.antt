-- How faults are printed, and what it is that a call gives what a definition does.
use Rattle.std.specs.Prelude.{◌≡◌, ◌⊎◌, ℕ, List, [], ◌++◌, codes, decimal, Option, Some, None, Result, Ok, Err}
use Rattle.std.specs.Option.{option_map_or}
use Rattle.snap_tree.specs.FaultText as tree
use Rattle.snap_json.specs.declared.fault.Field.{Field}
use Rattle.snap_json.specs.declared.fault.Field.TheVariants as field
use Rattle.snap_json.specs.declared.fault.SnapFault.{SnapFault}
use Rattle.snap_json.specs.declared.fault.SnapFault.TheVariants.{NotJson, Shape, BadUrl, Tree, TooLong, OutOfMemory}

abbrev pub field_name : Field → List ℕ
field_name field.Top = codes "top"
field_name field.Url = codes "url"
field_name field.Nodes = codes "nodes"
field_name field.Row = codes "row"
field_name field.N = codes "n"
field_name field.P = codes "p"
field_name field.Ns = codes "ns"
field_name field.Tag = codes "tag"
field_name field.Attrs = codes "attrs"
field_name field.Text = codes "text"
field_name field.F = codes "f"

abbrev pub fault_number : SnapFault → Option ℕ
fault_number NotJson = Some 1
fault_number (Shape place f) = Some 2
fault_number BadUrl = Some 3
fault_number (Tree f) = Some 4
fault_number TooLong = Some 5
fault_number OutOfMemory = None

abbrev pub fault_name : SnapFault → List ℕ
fault_name NotJson = codes "NotJson"
fault_name (Shape place f) = codes "Shape"
fault_name BadUrl = codes "BadUrl"
fault_name (Tree f) = codes "Tree"
fault_name TooLong = codes "TooLong"
fault_name OutOfMemory = codes "OutOfMemory"

-- what follows the number and the name
abbrev pub details : SnapFault → List ℕ
details (Shape place f) = codes " place " ++ decimal place ++ codes " field " ++ field_name f
details (Tree f) = codes " " ++ tree.fault_text f
details fault = []

-- how a fault is printed; want of memory is none
abbrev pub fault_text : SnapFault → List ℕ
fault_text fault = option_map_or (λ number. decimal number ++ codes " " ++ fault_name fault ++ details fault) (fault_number fault) (codes "no memory")

-- the next step, unless this one found a fault
infixl 10 ◌>>=◌
abbrev pub ◌>>=◌ : {A B : Type 0} → Result A SnapFault → (A → Result B SnapFault) → Result B SnapFault
(Ok x) >>= next = next x
(Err e) >>= next = Err e

-- what a field means, or the fault that it is out of shape
abbrev pub in_shape : {A : Type 0} → ℕ → Field → Option A → Result A SnapFault
in_shape place f (Some x) = Ok x
in_shape place f None = Err (Shape place f)

-- what the call answered is what the definition gives, unless memory ran out
abbrev pub Gives : {A : Type 0} → Result A SnapFault → Result A SnapFault → Type 0
Gives (Err OutOfMemory) given = Unit {0}
Gives answer given = given ≡ answer

-- the same, as one choice
abbrev pub Answers : {A : Type 0} → Result A SnapFault → Result A SnapFault → Type 0
Answers answer given = (answer ≡ given) ⊎ (answer ≡ Err OutOfMemory)
