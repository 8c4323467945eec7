-- What the router answers for a path is the row of the table.
use Rattle.std.proofs.Common.{◌≡◌, ℕ, List, Some, None, cond, refl, ap, ◌∙◌, IsAscii}
use Rattle.std.specs.Str.{IsNotAscii}
use Rattle.matchit.specs.Rows.{RowsOf}
use Rattle.matchit.specs.Router.{RouteOf}
use Rattle.matchit.specs.Seek.{first}
use Rattle.matchit.specs.Params.{AllText}
use Rattle.segment_routes.specs.Pieces.{route_of}
use Rattle.segment_routes.proofs.Telling.{Walked, not-small, ascii-small, told-here, untold-here}
use Rattle.http_routes.specs.declared.place.Resource.{Resource}
use Rattle.http_routes.specs.Table.{table, rows}
use Rattle.http_routes.specs.Places.{row_of}

-- a path that isn't ASCII fits no row
pub unlike : (path : List ℕ) → IsNotAscii path → row_of path ≡ None
unlike path other = ap (λ t. cond t (route_of table path) None) (not-small path other)

-- one of ASCII fits what the table says
like : (path : List ℕ) → IsAscii path → row_of path ≡ route_of table path
like path is = ap (λ t. cond t (route_of table path) None) (ascii-small path is)

-- where the router finds a route, in a path that was made a text
pub found : (before path taken : List ℕ) (held : RowsOf (RouteOf Resource)) (r : RouteOf Resource) → IsAscii before → path ≡ before → held ≡ rows → first held path ≡ Some r → taken ≡ path
    → AllText (Walked taken r) × (row_of before ≡ Some (r.value, Walked taken r))
found before path taken held r is e f g i =
    let told = told-here table before path taken held r refl is e f g i in
    (told.0, like before is ∙ told.1)

-- where it finds none
pub missing : (before path : List ℕ) (held : RowsOf (RouteOf Resource)) → IsAscii before → path ≡ before → held ≡ rows → first held path ≡ None → row_of before ≡ None
missing before path held is e f g = like before is ∙ untold-here table before path held refl is e f g
