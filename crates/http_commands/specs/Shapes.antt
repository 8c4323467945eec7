-- Parts that are in shape: what they mean, or the refusal that they are not.
use Rattle.std.specs.Prelude.{◌≡◌, ℕ, List, Option, Some, None, Result, Ok, Err}
use Rattle.serde_json.specs.Data.{Data}
use Rattle.serde_json.specs.Find.{as_object}
use Rattle.snap_tree.specs.declared.row.Raw.{Raw}
use Rattle.snap_json.specs.declared.fault.Field.TheVariants as field
use Rattle.snap_json.specs.declared.fault.SnapFault.{SnapFault}
use Rattle.snap_json.specs.declared.fault.SnapFault.TheVariants.{Shape}
use Rattle.snap_json.specs.Pages.{json_of, sent_page_of}
use Rattle.http_routes.specs.declared.part.Part.{Part}
use Rattle.http_routes.specs.declared.part.Part.TheVariants.{Body, Snapshot}
use Rattle.http_routes.specs.declared.fault.RequestFault.{RequestFault}
use Rattle.http_routes.specs.declared.fault.RequestFault.TheVariants.{BadJson, BadShape}
use Rattle.http_commands.specs.declared.unasked.Unasked.{Unasked}
use Rattle.http_commands.specs.declared.unasked.Unasked.TheVariants.{Refused, OutOfMemory}

-- the next step, unless this one is refused
infixl 10 ◌>>=◌
abbrev pub ◌>>=◌ : {A B : Type 0} → Result A RequestFault → (A → Result B RequestFault) → Result B RequestFault
(Ok x) >>= next = next x
(Err fault) >>= next = Err fault

-- what a part means, or the refusal that it is out of shape
abbrev pub in_shape : {A : Type 0} → Part → ℕ → Option A → Result A RequestFault
in_shape part place (Some x) = Ok x
in_shape part place None = Err (BadShape part place)

-- what was read, as it is seen, is what the definition gives, unless memory ran out
abbrev pub Reads : {A B : Type 0} → (A → B) → Result A Unasked → Result B RequestFault → Type 0
Reads seen (Ok x) given = given ≡ Ok (seen x)
Reads seen (Err (Refused fault)) given = given ≡ Err fault
Reads seen (Err OutOfMemory) given = Unit {0}

abbrev pub Gives : {A : Type 0} → Result A Unasked → Result A RequestFault → Type 0
Gives answer given = Reads (λ x. x) answer given

-- a JSON value, or the refusal that there is none
abbrev pub in_json : Option Data → Result Data RequestFault
in_json (Some d) = Ok d
in_json None = Err BadJson

-- the JSON value that a body is
abbrev pub json_in : List ℕ → Result Data RequestFault
json_in body = in_json (json_of body)

-- The refusal by a fault of a snapshot: its field and place. But for those of a shape, a bad address is the one
-- fault of a value.
abbrev pub snapshot_fault : SnapFault → RequestFault
snapshot_fault (Shape place f) = BadShape (Snapshot f) place
snapshot_fault _ = BadShape (Snapshot field.Url) 0

abbrev pub unless_fault : Result Raw SnapFault → Result Raw RequestFault
unless_fault (Ok raw) = Ok raw
unless_fault (Err fault) = Err (snapshot_fault fault)

-- the page of a snapshot that is a value
abbrev pub sent_page : Data → Result Raw RequestFault
sent_page d = unless_fault (sent_page_of d)

-- the page of a snapshot that is the body
abbrev pub snapshot_in : Data → Result Raw RequestFault
snapshot_in body = do
  members ← in_shape Body 0 (as_object body)
  sent_page body
