-- The tag of a row is seen.
use Rattle.std.proofs.Common.{◌≡◌, ℕ, List, refl}
use Rattle.snap_tree.specs.declared.row.Body.{Body}
use Rattle.snap_tree.specs.declared.row.Body.TheVariants.{Element, Words}
use Rattle.snap_tree.specs.declared.row.Row.{Row}
use Rattle.snap_tree.specs.Rows.{is_html, is_html_body}
use Rattle.acc_tree.specs.Seen.{seen_row, seen_body}

body_seen : (tag : List ℕ) (b : Body) → is_html_body tag (seen_body b) ≡ is_html_body tag b
body_seen tag (Element space name attrs) = refl
body_seen tag (Words text) = refl

pub html_seen : (tag : List ℕ) (row : Row) → is_html tag (seen_row row) ≡ is_html tag row
html_seen tag row = body_seen tag row.body
