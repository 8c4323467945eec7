-- The body of a request that edits a page: a list of edits.
use Rattle.std.specs.Prelude.{ℕ, List, [], ◌∷◌, codes, option_and_then, Result, Ok}
use Rattle.serde_json.specs.Data.{Data, Items, no_items, item}
use Rattle.serde_json.specs.Find.{get, as_array, as_object}
use Rattle.snap_json.specs.Pages.{next_place}
use Rattle.snap_edit.specs.declared.edit.Edit.{Edit}
use Rattle.http_routes.specs.declared.part.Part.TheVariants as part
use Rattle.http_routes.specs.declared.fault.RequestFault.{RequestFault}
use Rattle.http_commands.specs.Shapes.{◌>>=◌, in_shape}
use Rattle.http_commands.specs.Edits.{edit_of}

-- the edits of a list whose first is at a place, or the place of the first bad one
abbrev pub edits_from : ℕ → Items → Result (List Edit) RequestFault
edits_from place no_items = Ok []
edits_from place (item d others) = do
  edit ← in_shape part.Edits place (edit_of d)
  rest ← edits_from (next_place place) others
  Ok (edit ∷ rest)

-- an object whose `edits` is a list of edits, which may be empty
abbrev pub edits_in : Data → Result (List Edit) RequestFault
edits_in body = do
  members ← in_shape part.Body 0 (as_object body)
  edits ← in_shape part.Edits 0 (option_and_then as_array (get (codes "edits") body))
  edits_from 1 edits
