-- The laws of sights: a sight is a spot whose list above is summed up.
use Rattle.std.proofs.Common.{◌≡◌, ℕ, suc, ◌<◌, List, [], ◌∷◌, length, map, Bool, true, false, Option, Some, None, option_map, refl, sym, ◌∙◌, ap, subst, arith}
use Rattle.std.specs.Option.{option_or, option_map_or}
use Rattle.snap_tree.specs.declared.row.NodeId.{NodeId}
use Rattle.snap_tree.specs.declared.row.Row.{Row}
use Rattle.snap_tree.specs.Rows.{has_number}
use Rattle.snap_tree.specs.Spots.{Spot, spot_in, spot, number_of, IsSpotOf, ClimbsBy}
use Rattle.snap_tree.specs.Trees.{Trees, empty, tree}
use Rattle.acc_tree.specs.declared.above.Above.{Above}
use Rattle.acc_tree.specs.Frames.{nothing_above, under, above_of}
use Rattle.acc_tree.specs.Seen.{seen_row, seen}
use Rattle.acc_tree.specs.Pages.{said_of}
use Rattle.acc_tree.specs.Sights.{IsClimbed, Sight, sight_in, sight_of, above_children, row_of, summed, seen_spot, SightIsSpot, SeenSpot}

map_or : {A B : Type 0} (f : A → B) (a b : Option A) → option_map f (option_or a b) ≡ option_or (option_map f a) (option_map f b)
map_or f None b = refl
map_or f (Some x) b = refl

-- ---- sights and spots

sight_summed : (n : NodeId) (above : List Row) (t : Trees) → sight_in n (above_of above) t ≡ option_map summed (spot_in n above t)
sight_summed n above empty = refl
sight_summed n above (tree row kids after) = by_number (has_number n row) refl (sight_summed n (row ∷ above) kids) (sight_summed n above after)
  where
    by_number : (b : Bool) → has_number n row ≡ b → sight_in n (above_of (row ∷ above)) kids ≡ option_map summed (spot_in n (row ∷ above) kids) → sight_in n (above_of above) after ≡ option_map summed (spot_in n above after)
        → sight_in n (above_of above) (tree row kids after) ≡ option_map summed (spot_in n above (tree row kids after))
    by_number true e h k = rw e refl
    by_number false e h k = rw (e, h, k) (sym (map_or summed (spot_in n (row ∷ above) kids) (spot_in n above after)))

pub sight_is_spot : (t : Trees) (n : NodeId) → SightIsSpot t n
sight_is_spot t n = sight_summed n [] t

spot_seen : (n : NodeId) (above : List Row) (t : Trees) → spot_in n (map seen_row above) (seen t) ≡ option_map seen_spot (spot_in n above t)
spot_seen n above empty = refl
spot_seen n above (tree row kids after) = by_number (has_number n row) refl (spot_seen n (row ∷ above) kids) (spot_seen n above after)
  where
    by_number : (b : Bool) → has_number n row ≡ b → spot_in n (map seen_row (row ∷ above)) (seen kids) ≡ option_map seen_spot (spot_in n (row ∷ above) kids) → spot_in n (map seen_row above) (seen after) ≡ option_map seen_spot (spot_in n above after)
        → spot_in n (map seen_row above) (seen (tree row kids after)) ≡ option_map seen_spot (spot_in n above (tree row kids after))
    by_number true e h k = rw e refl
    by_number false e h k = rw (e, h, k) (sym (map_or seen_spot (spot_in n (row ∷ above) kids) (spot_in n above after)))

pub seen_spot_is : (t : Trees) (n : NodeId) → SeenSpot t n
seen_spot_is t n = spot_seen n [] t

-- what is seen of a spot, with the list above summed up
abbrev pub seen_summed : Spot → Sight
seen_summed s = summed (seen_spot s)

seen_sight_is : (t : Trees) (n : NodeId) (o : Option Spot) → spot t n ≡ o → sight_of (seen t) n ≡ option_map summed (option_map seen_spot o)
seen_sight_is t n o e = sight_is_spot (seen t) n ∙ ap (option_map summed) (seen_spot_is t n ∙ ap (option_map seen_spot) e)

-- ---- the way up

-- how many nodes are above the children of this one
abbrev pub height : Trees → Option NodeId → ℕ
height t None = 0
height t (Some n) = option_map_or (λ s. suc (length s.above)) (spot t n) 0

-- what is said of a spot by those above it
pub record IsSummed (t : Trees) (parent : Option NodeId) (above : List Row) : Type 0 where
  pub above_is : above_children (seen t) parent ≡ above_of (map seen_row above)
  pub height_is : height t parent ≡ length above

parent_above : (t : Trees) (above : List Row) → ClimbsBy above t → IsSummed t (number_of above) above
parent_above t [] h = record { above_is = refl; height_is = refl }
parent_above t (p ∷ above) h = by_spot (spot t p.id) refl h
  where
    by_spot : (o : Option Spot) → spot t p.id ≡ o → IsSpotOf p above o → IsSummed t (Some p.id) (p ∷ above)
    by_spot (Some s) e is = record {
      above_is = ap (λ o. option_map_or (λ s. under s.above s.row) o nothing_above) (seen_sight_is t p.id (Some s) e) ∙ ap (λ rows. under (above_of (map seen_row rows)) (seen_row s.row)) is.1 ∙ ap (λ r. under (above_of (map seen_row above)) (seen_row r)) is.0;
      height_is = ap (λ o. option_map_or (λ s. suc (length s.above)) o 0) e ∙ ap (λ rows. suc (length rows)) is.1;
    }
    by_spot None e is = absurd is

spot_above : (t : Trees) → IsClimbed t → (n : NodeId) (s : Spot) → spot t n ≡ Some s → IsSummed t s.row.parent s.above
spot_above t climbed n s e =
    let named : s.row.parent ≡ number_of s.above = rw e at (climbed.named n) in
    let climbs : ClimbsBy s.above t = rw e at (climbed.climbs n) in
    subst (λ p. IsSummed t p s.above) (sym named) (parent_above t s.above climbs)

-- the number has this spot, and what is above it is summed up by its parent's number
pub record IsSpotted (t : Trees) (n : NodeId) (row : Row) : Type 0 where
  pub at : Spot
  pub found : spot t n ≡ Some at
  pub row_is : at.row ≡ row
  pub sums : IsSummed t row.parent at.above

pub spotted : (t : Trees) → IsClimbed t → (n : NodeId) (row : Row) → Some row ≡ option_map (λ s. s.row) (spot t n) → IsSpotted t n row
spotted t climbed n row is = by_spot (spot t n) refl is
  where
    by_spot : (o : Option Spot) → spot t n ≡ o → Some row ≡ option_map (λ s. s.row) o → IsSpotted t n row
    by_spot None e h = cc
    by_spot (Some s) e h =
        let same : s.row ≡ row = cc in
        record { at = s; found = e; row_is = same; sums = subst (λ r. IsSummed t r.parent s.above) same (spot_above t climbed n s e) }

pub above_step : (t : Trees) → IsClimbed t → (n : NodeId) (row : Row) → Some row ≡ option_map (λ s. s.row) (spot t n) → under (above_children (seen t) row.parent) (seen_row row) ≡ above_children (seen t) (Some n)
above_step t climbed n row is =
    let at = spotted t climbed n row is in
    ap (λ a. under a (seen_row row)) at.sums.above_is ∙ ap (λ r. under (above_of (map seen_row at.at.above)) (seen_row r)) (sym at.row_is)
    ∙ sym (ap (λ o. option_map_or (λ s. under s.above s.row) o nothing_above) (seen_sight_is t n (Some at.at) at.found))

pub height_step : (t : Trees) → IsClimbed t → (n : NodeId) (row : Row) → Some row ≡ option_map (λ s. s.row) (spot t n) → height t row.parent < height t (Some n)
height_step t climbed n row is =
    let at = spotted t climbed n row is in
    let here : height t (Some n) ≡ suc (length at.at.above) = ap (λ o. option_map_or (λ s. suc (length s.above)) o 0) at.found in
    let there : height t row.parent ≡ length at.at.above = at.sums.height_is in
    omega (arith, here, there)

pub above_none : (t : Trees) (n : NodeId) → None ≡ option_map (λ s. s.row) (spot t n) → nothing_above ≡ above_children (seen t) (Some n)
above_none t n is = by_spot (spot t n) refl is
  where
    by_spot : (o : Option Spot) → spot t n ≡ o → None ≡ option_map (λ s. s.row) o → nothing_above ≡ above_children (seen t) (Some n)
    by_spot None e h = sym (ap (λ o. option_map_or (λ s. under s.above s.row) o nothing_above) (seen_sight_is t n None e))
    by_spot (Some s) e h = cc

abbrev pub sight_with : Row → Trees → Above → Option Sight
sight_with row below above = Some (record { row = seen_row row; below = seen below; above = above })

pub sight_found : (t : Trees) → IsClimbed t → (n : NodeId) (row : Row) (below : Trees) → Some row ≡ option_map (λ s. s.row) (spot t n) → Some below ≡ option_map (λ s. s.below) (spot t n)
    → Some (record { row = seen_row row; below = seen below; above = above_children (seen t) row.parent }) ≡ sight_of (seen t) n
sight_found t climbed n row below is holds =
    let at = spotted t climbed n row is in
    let inner : Some below ≡ Some at.at.below = holds ∙ ap (option_map (λ s. s.below)) at.found in
    let same : below ≡ at.at.below = cc in
    ap (sight_with row below) at.sums.above_is ∙ ap (λ b. sight_with row b (above_of (map seen_row at.at.above))) same ∙ ap (λ r. sight_with r at.at.below (above_of (map seen_row at.at.above))) (sym at.row_is)
    ∙ sym (seen_sight_is t n (Some at.at) at.found)

-- a look-up that gives nothing of the number's spot says that there is none
pub sight_none : {A : Type 0} (f : Spot → A) (t : Trees) (n : NodeId) → None ≡ option_map f (spot t n) → None ≡ sight_of (seen t) n
sight_none f t n is = by_spot (spot t n) refl is
  where
    by_spot : (o : Option Spot) → spot t n ≡ o → None ≡ option_map f o → None ≡ sight_of (seen t) n
    by_spot None e h = sym (seen_sight_is t n None e)
    by_spot (Some s) e h = cc

-- ---- what is said by number

pub said_found : {A : Type 0} (says : Above → Row → A) (stranger : A) (t : Trees) → IsClimbed t → (n : NodeId) (row : Row) → Some row ≡ option_map (λ s. s.row) (spot t n)
    → says (above_children (seen t) row.parent) (seen_row row) ≡ said_of says stranger (seen t) n
said_found says stranger t climbed n row is =
    let at = spotted t climbed n row is in
    ap (λ a. says a (seen_row row)) at.sums.above_is ∙ ap (λ r. says (above_of (map seen_row at.at.above)) (seen_row r)) (sym at.row_is)
    ∙ sym (ap (λ o. option_map_or (λ s. says s.above s.row) o stranger) (seen_sight_is t n (Some at.at) at.found))

pub said_none : {A : Type 0} (says : Above → Row → A) (stranger : A) (t : Trees) (n : NodeId) → None ≡ option_map (λ s. s.row) (spot t n) → stranger ≡ said_of says stranger (seen t) n
said_none says stranger t n is = ap (λ o. option_map_or (λ s. says s.above s.row) o stranger) (sight_none (λ s. s.row) t n is)

row_by : (o : Option Spot) → option_map seen_row (option_map (λ s. s.row) o) ≡ option_map (λ s. s.row) (option_map summed (option_map seen_spot o))
row_by None = refl
row_by (Some s) = refl

-- what is seen of the row of a number
pub row_seen : (t : Trees) (n : NodeId) (o : Option Row) → o ≡ option_map (λ s. s.row) (spot t n) → option_map seen_row o ≡ row_of (seen t) n
row_seen t n o is = ap (option_map seen_row) is ∙ row_by (spot t n) ∙ sym (ap (option_map (λ s. s.row)) (seen_sight_is t n (spot t n) refl))
