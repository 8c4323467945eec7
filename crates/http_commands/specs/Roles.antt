-- The body of a request on a member: a role.
use Rattle.std.specs.Prelude.{ℕ, List, codes, bytes_eq, if◌then◌else◌, Option, Some, None, option_and_then, Result}
use Rattle.serde_json.specs.Data.{Data}
use Rattle.serde_json.specs.Find.{get, as_object}
use Rattle.snap_json.specs.Fields.{text_of}
use Rattle.keep_core.specs.declared.member.MemberRole.{MemberRole}
use Rattle.keep_core.specs.declared.member.MemberRole.TheVariants.{Owner, Editor, Judge, Reader}
use Rattle.http_routes.specs.declared.part.Part.TheVariants.{Body, Role}
use Rattle.http_routes.specs.declared.fault.RequestFault.{RequestFault}
use Rattle.http_commands.specs.Shapes.{◌>>=◌, in_shape}

-- the roles, and the word for none
abbrev pub role_named : List ℕ → Option (Option MemberRole)
role_named word =
    if bytes_eq word (codes "owner") then Some (Some Owner)
    else if bytes_eq word (codes "editor") then Some (Some Editor)
    else if bytes_eq word (codes "judge") then Some (Some Judge)
    else if bytes_eq word (codes "reader") then Some (Some Reader)
    else if bytes_eq word (codes "none") then Some None
    else None

abbrev pub role_of : Option Data → Option (Option MemberRole)
role_of member = option_and_then role_named (text_of member)

-- an object whose `role` is one of these words
abbrev pub role_in : Data → Result (Option MemberRole) RequestFault
role_in body = do
  members ← in_shape Body 0 (as_object body)
  in_shape Role 0 (role_of (get (codes "role") body))
