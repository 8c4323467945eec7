-- The rows of a well tree can be read: no number is 0, and no tag and no attribute's name is empty.
use Rattle.std.proofs.Common.{◌<◌, ◌^◌, List, [], ◌∷◌, Option, Some, None, sym, subst}
use Rattle.std.specs.Prelude.{IfSome}
use Rattle.std.specs.List.{AllByRecursion}
use Rattle.snap_tree.specs.declared.row.NodeId.{NodeId}
use Rattle.snap_tree.specs.declared.row.Attr.{Attr}
use Rattle.snap_tree.specs.declared.row.Body.{Body}
use Rattle.snap_tree.specs.declared.row.Body.TheVariants.{Element, Words}
use Rattle.snap_tree.specs.declared.row.Row.{Row}
use Rattle.snap_tree.specs.Trees.{Trees, empty, tree, rows_of}
use Rattle.snap_tree.specs.Spots.{number_of}
use Rattle.snap_tree.specs.Well.{EachPlaced, IsWell}
use Rattle.snap_tree.specs.WellRow.{IsWellAttr, IsWellBody, IsWellRow}
use Rattle.snap_tree.proofs.EachRow.{all_append, all_parts}
use Rattle.snap_json.specs.Small.{IsSmall}
use Rattle.snap_json.proofs.ReadBack.{IsNumber, IsNamed, IsNamedBody, IsReadable}

attrs_named : (attrs : List Attr) → AllByRecursion IsWellAttr attrs → AllByRecursion IsNamed attrs
attrs_named [] h = tt
attrs_named (a ∷ attrs) h = (h.0.named.filled, attrs_named attrs h.1)

body_named : (body : Body) → IsWellBody body → IsNamedBody body
body_named (Element space tag attrs) h = (h.named.filled, attrs_named attrs h.each_well)
body_named (Words text) h = tt

ranged : (p : Option NodeId) → IfSome p (λ q. 0 < q.0) → IfSome p (λ q. q.0 < 2 ^ 32) → IfSome p IsNumber
ranged None above fits = tt
ranged (Some p) above fits = record { above = above; fits = fits }

readable_below : (above : List Row) (t : Trees) → IfSome (number_of above) (λ p. 0 < p.0) → EachPlaced above t → AllByRecursion IsWellRow (rows_of t) → AllByRecursion IsSmall (rows_of t) → AllByRecursion IsReadable (rows_of t)
readable_below above empty up placed well small = tt
readable_below above (tree r kids after) up placed well small =
    let wells = all_parts IsWellRow (rows_of kids) (rows_of after) well.1 in
    let smalls = all_parts IsSmall (rows_of kids) (rows_of after) small.1 in
    let own : IsReadable r = record {
      number = record { above = well.0.numbered; fits = small.0.number };
      parent = ranged r.parent (subst (λ p. IfSome p (λ q. 0 < q.0)) (sym placed.0.named) up) small.0.parent;
      body = body_named r.body well.0.body_well;
    }
    in
    (own, all_append IsReadable (rows_of kids) (rows_of after) (readable_below (r ∷ above) kids well.0.numbered placed.1.0 wells.0 smalls.0) (readable_below above after up placed.1.1 wells.1 smalls.1))

pub readable : (t : Trees) → IsWell t → AllByRecursion IsSmall (rows_of t) → AllByRecursion IsReadable (rows_of t)
readable t well small = readable_below [] t tt well.placed well.rows_well small
