-- What is written nests five levels deep at the most.
use Rattle.std.proofs.Common.{◌≡◌, ℕ, ◌≤◌, List, [], ◌∷◌, map, Option, Some, None, refl, arith}
use Rattle.serde_json.specs.Data.{object, depth, items_depth}
use Rattle.serde_json.specs.Read.{max_depth}
use Rattle.serde_json.specs.View.{items_of}
use Rattle.snap_tree.specs.declared.row.NodeId.{NodeId}
use Rattle.snap_tree.specs.declared.row.Attr.{Attr}
use Rattle.snap_tree.specs.declared.row.Body.{Body}
use Rattle.snap_tree.specs.declared.row.Body.TheVariants.{Element, Words}
use Rattle.snap_tree.specs.declared.row.Row.{Row}
use Rattle.snap_json.specs.Written.{parent_data, attr_data, members_data, row_data, page_data}

parent_is_flat : (p : Option NodeId) → depth (parent_data p) ≡ 0
parent_is_flat None = refl
parent_is_flat (Some p) = refl

attrs_depth : (attrs : List Attr) → items_depth (items_of (map attr_data attrs)) ≤ 1
attrs_depth [] = omega arith
attrs_depth (a ∷ attrs) = let rest = attrs_depth attrs in omega arith

body_depth : (row : Row) (body : Body) → depth (object (members_data row body)) ≤ 3
body_depth row (Element space tag attrs) =
    let items = attrs_depth attrs in let parent = parent_is_flat row.parent in omega arith
body_depth row (Words text) = let parent = parent_is_flat row.parent in omega arith

rows_depth : (rows : List Row) → items_depth (items_of (map row_data rows)) ≤ 3
unfolding row_data
rows_depth [] = omega arith
rows_depth (row ∷ rows) = let first = body_depth row row.body in let rest = rows_depth rows in omega arith

page_depth : (address : List ℕ) (rows : List Row) → depth (page_data address rows) ≤ 5
unfolding page_data
page_depth address rows = let items = rows_depth rows in omega arith

pub page_nests_few : (address : List ℕ) (rows : List Row) → depth (page_data address rows) ≤ max_depth
page_nests_few address rows = let h = page_depth address rows in omega arith
