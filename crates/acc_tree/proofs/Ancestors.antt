-- The nodes above a node, by its parent's number.
use Rattle.std.proofs.Common.{◌≡◌, ◌==◌, ◌||◌, List, [], ◌∷◌, map, Bool, true, false, Option, Some, None, option_map, refl, sym, ◌∙◌, ap}
use Rattle.std.proofs.lemmas.Bool.Decides.{Decides-eqb}
use Rattle.std.specs.List.{list_any}
use Rattle.std.specs.Option.{option_map_or}
use Rattle.snap_tree.specs.declared.row.NodeId.{NodeId}
use Rattle.snap_tree.specs.declared.row.Row.{Row}
use Rattle.snap_tree.specs.Rows.{has_number}
use Rattle.snap_tree.specs.Spots.{Spot, spot, number_of, IsSpotOf, ClimbsBy}
use Rattle.snap_tree.specs.Trees.{Trees}
use Rattle.acc_tree.specs.Following.{rows_above, is_ancestor}
use Rattle.acc_tree.specs.Seen.{seen_row, seen}
use Rattle.acc_tree.specs.Sights.{IsClimbed, seen_spot}
use Rattle.acc_tree.proofs.Sighting.{seen_spot_is, spotted}

-- what is seen of the spot of a number
spot_seen_of : (t : Trees) (n : NodeId) (o : Option Spot) → spot t n ≡ o → spot (seen t) n ≡ option_map seen_spot o
spot_seen_of t n o e = seen_spot_is t n ∙ ap (option_map seen_spot) e

climbed_rows : (t : Trees) (above : List Row) → ClimbsBy above t → rows_above (seen t) (number_of above) ≡ map seen_row above
climbed_rows t [] h = refl
climbed_rows t (p ∷ above) h = by_spot (spot t p.id) refl h
  where
    by_spot : (o : Option Spot) → spot t p.id ≡ o → IsSpotOf p above o → rows_above (seen t) (Some p.id) ≡ map seen_row (p ∷ above)
    by_spot None e is = absurd is
    by_spot (Some s) e is =
        ap (λ o. option_map_or (λ (s : Spot). s.row ∷ s.above) o []) (spot_seen_of t p.id (Some s) e) ∙ (λ i. seen_row (is.0 i) ∷ map seen_row (is.1 i))

-- the rows above a spot are those above the children of its parent
spot_rows : (t : Trees) → IsClimbed t → (n : NodeId) (s : Spot) → spot t n ≡ Some s → rows_above (seen t) s.row.parent ≡ map seen_row s.above
spot_rows t climbed n s e =
    let named : s.row.parent ≡ number_of s.above = rw e at (climbed.named n) in
    let climbs : ClimbsBy s.above t = rw e at (climbed.climbs n) in
    ap (rows_above (seen t)) named ∙ climbed_rows t s.above climbs

pub rows_step : (t : Trees) → IsClimbed t → (n : NodeId) (row : Row) → Some row ≡ option_map (λ s. s.row) (spot t n) → seen_row row ∷ rows_above (seen t) row.parent ≡ rows_above (seen t) (Some n)
rows_step t climbed n row is =
    let at = spotted t climbed n row is in
    ap (λ (r : Row). seen_row r ∷ rows_above (seen t) r.parent) (sym at.row_is) ∙ ap (λ rows. seen_row at.at.row ∷ rows) (spot_rows t climbed n at.at at.found)
    ∙ sym (ap (λ o. option_map_or (λ (s : Spot). s.row ∷ s.above) o []) (spot_seen_of t n (Some at.at) at.found))

no_spot : (t : Trees) (n : NodeId) → None ≡ option_map (λ s. s.row) (spot t n) → spot t n ≡ None
no_spot t n is = by_spot (spot t n) is
  where
    by_spot : (o : Option Spot) → None ≡ option_map (λ s. s.row) o → o ≡ None
    by_spot None e = refl
    by_spot (Some s) e = cc

pub rows_none : (t : Trees) (n : NodeId) → None ≡ option_map (λ s. s.row) (spot t n) → [] ≡ rows_above (seen t) (Some n)
rows_none t n is = sym (ap (λ o. option_map_or (λ (s : Spot). s.row ∷ s.above) o []) (spot_seen_of t n None (no_spot t n is)))

pub ancestor_found : (t : Trees) → IsClimbed t → (n m : NodeId) (row : Row) → Some row ≡ option_map (λ s. s.row) (spot t m) → list_any (has_number n) (rows_above (seen t) row.parent) ≡ is_ancestor (seen t) n m
ancestor_found t climbed n m row is =
    let at = spotted t climbed m row is in
    ap (λ (r : Row). list_any (has_number n) (rows_above (seen t) r.parent)) (sym at.row_is) ∙ ap (list_any (has_number n)) (spot_rows t climbed m at.at at.found)
    ∙ sym (ap (λ o. option_map_or (λ (s : Spot). list_any (has_number n) s.above) o false) (spot_seen_of t m (Some at.at) at.found))

pub ancestor_none : (t : Trees) (n m : NodeId) → None ≡ option_map (λ s. s.row) (spot t m) → false ≡ is_ancestor (seen t) n m
ancestor_none t n m is = sym (ap (λ o. option_map_or (λ (s : Spot). list_any (has_number n) s.above) o false) (spot_seen_of t m None (no_spot t m is)))

-- ---- a number among rows

pub any_here : (n : NodeId) (row : Row) (rows : List Row) → row.id.0 ≡ n.0 → (row.id.0 == n.0) ≡ list_any (has_number n) (seen_row row ∷ rows)
any_here n row rows e = let is = (Decides-eqb row.id.0 n.0).1 e in is ∙ ap (λ b. b || list_any (has_number n) rows) (sym is)

pub any_further : (n : NodeId) (row : Row) (rows : List Row) → (row.id.0 ≡ n.0 → ⊥) → list_any (has_number n) rows ≡ list_any (has_number n) (seen_row row ∷ rows)
any_further n row rows e = by_test (row.id.0 == n.0) refl
  where
    by_test : (b : Bool) → (row.id.0 == n.0) ≡ b → list_any (has_number n) rows ≡ ((row.id.0 == n.0) || list_any (has_number n) rows)
    by_test true k = absurd (e ((Decides-eqb row.id.0 n.0).0 k))
    by_test false k = ap (λ b. b || list_any (has_number n) rows) (sym k)
