-- The label around an element, by its number and what is at that.
use Rattle.std.proofs.Common.{◌≡◌, ◌&&◌, not, List, [], ◌∷◌, Bool, true, false, if◌then◌else◌, Option, Some, None, option_map, option_and_then, refl, sym, ◌∙◌, ap, subst}
use Rattle.std.specs.List.{find}
use Rattle.snap_tree.specs.declared.row.NodeId.{NodeId}
use Rattle.snap_tree.specs.declared.row.Row.{Row}
use Rattle.snap_tree.specs.Grown.{is_number}
use Rattle.snap_tree.specs.Labels.{is_label, has_for, is_labelable, counts_for, outer_label}
use Rattle.snap_tree.specs.Spots.{Spot, spot, IsSpotOf, ClimbsBy}
use Rattle.snap_tree.specs.Trees.{Trees, rows_of}
use Rattle.acc_tree.specs.Sights.{Sight, sight_of, IsClimbed}
use Rattle.page_keys.specs.References.{nearest_label}
use Rattle.page_keys.proofs.Agreeing.{spot_sight}

-- the label of a number, where this sight of it counts for the element
abbrev pub outer_at : NodeId → NodeId → Sight → Option NodeId
outer_at n label s = if not (has_for s.row) && is_number (option_map (λ r. r.id) (find is_labelable (rows_of s.below))) n then Some label else None

abbrev pub outer_of : Trees → NodeId → Option NodeId → Option NodeId
outer_of t n None = None
outer_of t n (Some label) = option_and_then (outer_at n label) (sight_of t label)

-- a row above a node is that of its number
pub record StandsAt (t : Trees) (row : Row) : Type 0 where
  pub at : Spot
  pub found : spot t row.id ≡ Some at
  pub is : at.row ≡ row

found_up : (t : Trees) → IsClimbed t → (above : List Row) → ClimbsBy above t → (row : Row) → find is_label above ≡ Some row → StandsAt t row
found_up t climbed [] h row e = cc
found_up t climbed (p ∷ above) h row e = by_label (is_label p) refl e (spot t p.id) refl h (λ k. found_up t climbed above k row)
  where
    by_label : (b : Bool) → is_label p ≡ b → find is_label (p ∷ above) ≡ Some row → (o : Option Spot) → spot t p.id ≡ o → IsSpotOf p above o → (ClimbsBy above t → find is_label above ≡ Some row → StandsAt t row) → StandsAt t row
    by_label b k e None o is next = absurd is
    by_label true k e (Some s) o is next =
        let there : Some p ≡ Some row = rw k at e in
        let same : p ≡ row = cc in
        subst (StandsAt t) same (record { at = s; found = o; is = is.0 })
    by_label false k e (Some s) o is next =
        let there : find is_label above ≡ Some row = rw k at e in
        let climbs : ClimbsBy s.above t = rw o at (climbed.climbs p.id) in
        next (subst (λ rows. ClimbsBy rows t) is.1 climbs) there

pub outer_is : (t : Trees) → IsClimbed t → (n : NodeId) (s : Spot) → spot t n ≡ Some s → outer_label t s ≡ outer_of t s.row.id (nearest_label s.above)
outer_is t climbed n s e = by_label (find is_label s.above) refl
  where
    climbs : ClimbsBy s.above t
    climbs = rw e at (climbed.climbs n)

    by_label : (o : Option Row) → find is_label s.above ≡ o → outer_label t s ≡ outer_of t s.row.id (nearest_label s.above)
    by_label None h =
        ap (option_and_then (λ (label : Row). if counts_for t label s.row.id then Some label.id else None)) h ∙ sym (ap (λ o. outer_of t s.row.id (option_map (λ (r : Row). r.id) o)) h)
    by_label (Some label) h =
        let up = found_up t climbed s.above climbs label h in
        ap (option_and_then (λ (label : Row). if counts_for t label s.row.id then Some label.id else None)) h
        ∙ ap (λ o. if not (has_for label) && is_number (option_and_then (λ (s : Spot). option_map (λ (r : Row). r.id) (find is_labelable (rows_of s.below))) o) s.row.id then Some label.id else None) up.found
        ∙ ap (λ (r : Row). if not (has_for r) && is_number (option_map (λ (r : Row). r.id) (find is_labelable (rows_of up.at.below))) s.row.id then Some label.id else None) (sym up.is)
        ∙ sym (ap (option_and_then (outer_at s.row.id label.id)) (spot_sight t label.id up.at up.found))
        ∙ sym (ap (λ o. outer_of t s.row.id (option_map (λ (r : Row). r.id) o)) h)
