-- The way up to a node whose role isn't passed over.
use Rattle.std.proofs.Common.{◌≡◌, List, [], ◌∷◌, map, drop, Some, None, option_map, sym, ◌∙◌, ap}
use Rattle.std.specs.Option.{option_or, option_map_or}
use Rattle.aria_tables.specs.declared.role.Role.{Role}
use Rattle.snap_tree.specs.declared.row.NodeId.{NodeId}
use Rattle.snap_tree.specs.declared.row.Row.{Row}
use Rattle.snap_tree.specs.Spots.{Spot, spot}
use Rattle.snap_tree.specs.Trees.{Trees}
use Rattle.acc_tree.specs.Following.{rows_above}
use Rattle.acc_tree.specs.Frames.{above_of}
use Rattle.acc_tree.specs.Pages.{role}
use Rattle.acc_tree.specs.Roles.{role_at}
use Rattle.acc_tree.specs.Seen.{seen_row, seen}
use Rattle.acc_tree.specs.Sights.{IsClimbed, Sight, summed, seen_spot}
use Rattle.acc_tree.proofs.Ancestors.{rows_step, rows_none}
use Rattle.acc_tree.proofs.Sighting.{sight_is_spot, seen_spot_is, spotted}
use Rattle.rules_more.specs.RequiredContext.{counting, nearest}

-- the node, and those above it
pub climbed : (passed : List Role) (t : Trees) → IsClimbed t → (n : NodeId) (row : Row) → Some row ≡ option_map (λ s. s.row) (spot t n)
    → option_or (counting passed (role (seen t) n)) (nearest passed (rows_above (seen t) row.parent)) ≡ nearest passed (rows_above (seen t) (Some n))
climbed passed t climbs n row is =
    let at = spotted t climbs n row is in
    let r : Row = seen_row at.at.row in
    let rs : List Row = map seen_row at.at.above in
    let found : spot (seen t) n ≡ Some (seen_spot at.at) = seen_spot_is t n ∙ ap (option_map seen_spot) at.found in
    let here : rows_above (seen t) (Some n) ≡ r ∷ rs = ap (λ o. option_map_or (λ (s : Spot). s.row ∷ s.above) o []) found in
    let further : rows_above (seen t) row.parent ≡ rs = ap (drop 1) (rows_step t climbs n row is ∙ here) in
    let own : role (seen t) n ≡ role_at (above_of rs) r =
    ap (λ o. option_map_or (λ (s : Sight). role_at s.above s.row) o None) (sight_is_spot (seen t) n ∙ ap (option_map summed) found) in
    (λ i. option_or (counting passed (own i)) (nearest passed (further i))) ∙ sym (ap (nearest passed) here)

pub climbed_none : (passed : List Role) (t : Trees) (n : NodeId) → None ≡ option_map (λ s. s.row) (spot t n) → None ≡ nearest passed (rows_above (seen t) (Some n))
climbed_none passed t n is = ap (nearest passed) (rows_none t n is)
