-- Why a message makes no request of the desk: the refusals' numbers, their status codes and their names.
use Rattle.std.specs.Prelude.{ℕ, List, codes}
use Rattle.snap_json.specs.Faults.{field_name}
use Rattle.http_routes.specs.declared.part.Part.{Part}
use Rattle.http_routes.specs.declared.part.Part.TheVariants as part
use Rattle.http_routes.specs.declared.fault.RequestFault.{RequestFault}
use Rattle.http_routes.specs.declared.fault.RequestFault.TheVariants.{NoRoute, WrongMethod, NoCaller, BadJson, BadShape}

abbrev pub number : RequestFault → ℕ
number NoRoute = 6
number WrongMethod = 7
number NoCaller = 8
number BadJson = 9
number (BadShape part place) = 10

abbrev pub status : RequestFault → ℕ
status NoRoute = 404
status WrongMethod = 405
status NoCaller = 401
status BadJson = 400
status (BadShape part place) = 422

abbrev pub name : RequestFault → List ℕ
name NoRoute = codes "NoRoute"
name WrongMethod = codes "WrongMethod"
name NoCaller = codes "NoCaller"
name BadJson = codes "BadJson"
name (BadShape part place) = codes "BadShape"

-- the word of a part: a member of a body has its own name
abbrev pub word : Part → List ℕ
word part.Rev = codes "x-rev"
word part.Body = codes "body"
word (part.Snapshot field) = field_name field
word part.Role = codes "role"
word part.Languages = codes "languages"
word part.Pages = codes "pages"
word part.Graph = codes "@graph"
word part.Edits = codes "edits"
word part.Rule = codes "rule"
word part.Node = codes "node"
word part.Verdict = codes "verdict"
word part.Digest = codes "digest"
word part.Note = codes "note"
