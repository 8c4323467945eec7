-- What is seen of a well page is a page as the laws ask, and has one root.
use Rattle.std.proofs.Common.{◌≡◌, ◌||◌, List, [], ◌∷◌, map, Option, Some, None, IfSome, option_map, refl, sym, ◌∙◌, ap, subst}
use Rattle.std.specs.List.{list_any}
use Rattle.snap_tree.specs.declared.row.NodeId.{NodeId}
use Rattle.snap_tree.specs.declared.row.Row.{Row}
use Rattle.snap_tree.specs.Rows.{has_number}
use Rattle.snap_tree.specs.SpotLaws.{NamesFirstAbove}
use Rattle.snap_tree.specs.Spots.{Spot, spot, spot_in, number_of}
use Rattle.snap_tree.specs.Trees.{Trees, empty, tree, rows_of}
use Rattle.snap_tree.specs.Well.{AreApart, HasRoot, IsWell}
use Rattle.snap_tree.proofs.Climbing.{climbs_above}
use Rattle.snap_tree.proofs.Spotting.{spot_parent}
use Rattle.acc_tree.specs.Seen.{seen_row, seen}
use Rattle.acc_tree.specs.Sights.{IsClimbed, seen_spot}
use Rattle.acc_tree.proofs.Finding.{rows_seen}
use Rattle.acc_tree.proofs.Sighting.{seen_spot_is}
use Rattle.page_keys.specs.Keys.{root_numbers}
use Rattle.page_keys.specs.Standing.{IsOne, IsPage}
use Rattle.page_keys.proofs.Stands.{found_in, row_number}

any_seen : (n : NodeId) (rows : List Row) → list_any (has_number n) (map seen_row rows) ≡ list_any (has_number n) rows
any_seen n [] = refl
any_seen n (row ∷ rows) = ap (λ b. has_number n row || b) (any_seen n rows)

apart_mapped : (rows : List Row) → AreApart rows → AreApart (map seen_row rows)
apart_mapped [] h = tt
apart_mapped (row ∷ rows) h = (any_seen row.id rows ∙ h.0, apart_mapped rows h.1)

apart_seen : (t : Trees) → AreApart (rows_of t) → AreApart (rows_of (seen t))
apart_seen t h = subst AreApart (sym (rows_seen t)) (apart_mapped (rows_of t) h)

number_seen : (rows : List Row) → number_of (map seen_row rows) ≡ number_of rows
number_seen [] = refl
number_seen (row ∷ rows) = refl

named_by : (o : Option Spot) → IfSome o (λ s. s.row.parent ≡ number_of s.above) → IfSome (option_map seen_spot o) (λ s. s.row.parent ≡ number_of s.above)
named_by None h = tt
named_by (Some s) h = h ∙ sym (number_seen s.above)

named_seen : (t : Trees) → IsWell t → (n : NodeId) → NamesFirstAbove (seen t) n
named_seen t well n = subst (λ o. IfSome o (λ (s : Spot). s.row.parent ≡ number_of s.above)) (sym (seen_spot_is t n)) (named_by (spot t n) (spot_parent n [] t well.placed))

one_seen : (t : Trees) → HasRoot t → IsOne (seen t)
one_seen empty h = h
one_seen (tree r kids empty) h = tt
one_seen (tree r kids (tree other below after)) h = h

pub page_seen : (t : Trees) → IsWell t → IsPage (seen t)
page_seen t well =
    let apart = apart_seen t well.apart in
    record {
      climbed = record { named = named_seen t well; climbs = λ n. climbs_above (seen t) n apart };
      apart = apart;
      one = one_seen t well.rooted;
    }

-- ---- the root

-- what stands below some node has something above it
below_some : (n : NodeId) (p : Row) (above : List Row) (t : Trees) (s : Spot) → spot_in n (p ∷ above) t ≡ Some s → number_of s.above ≡ None → ⊥
below_some n p above empty s e h = cc
below_some n p above (tree row kids after) s e h =
    found_in ⊥ n (p ∷ above) row kids after s (λ k is. let some : Some p.id ≡ None = ap (λ (s : Spot). number_of s.above) is ∙ h in cc)
    (λ k. below_some n row (p ∷ above) kids s k h) (λ k. below_some n p above after s k h) e

-- a node that names no parent is the one root
pub root_of : (t : Trees) → IsOne t → IsClimbed t → (n : NodeId) (s : Spot) → spot t n ≡ Some s → s.row.parent ≡ None → root_numbers t ≡ n ∷ []
root_of empty one climbed n s e h = absurd one
root_of (tree row kids empty) one climbed n s e h =
    let named : s.row.parent ≡ number_of s.above = rw e at (climbed.named n) in
    let none : number_of s.above ≡ None = sym named ∙ h in
    found_in (root_numbers (tree row kids empty) ≡ n ∷ []) n [] row kids empty s (λ k is. ap (λ n. n ∷ []) (row_number n row k))
    (λ k. absurd (below_some n row [] kids s k none)) (λ k. cc) e
root_of (tree row kids (tree other below after)) one climbed n s e h = absurd one
