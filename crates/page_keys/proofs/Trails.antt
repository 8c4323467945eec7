-- The trail of a node: the numbers and frames of those above it, the nearest first. What ancestors say of a node is
-- a function of it.
use Rattle.std.proofs.Common.{◌≡◌, ◌&&◌, ℕ, List, [], ◌∷◌, codes, Bool, true, false, if◌then◌else◌, Option, Some, None, refl, sym, ◌∙◌, ap, subst}
use Rattle.std.specs.Cmp.{first_so, second_so}
use Rattle.std.specs.Option.{option_map_or}
use Rattle.snap_tree.specs.declared.row.NodeId.{NodeId}
use Rattle.snap_tree.specs.declared.row.Space.{Space}
use Rattle.snap_tree.specs.declared.row.Body.{Body}
use Rattle.snap_tree.specs.declared.row.Body.TheVariants.{Element, Words}
use Rattle.snap_tree.specs.declared.row.Row.{Row}
use Rattle.snap_tree.specs.Labels.{is_label}
use Rattle.snap_tree.specs.Rows.{is_html_space, is_html_body}
use Rattle.snap_tree.specs.Spots.{Spot, spot, number_of, IsSpotOf, ClimbsBy}
use Rattle.snap_tree.specs.Trees.{Trees}
use Rattle.texts.specs.Words.{same_folded}
use Rattle.acc_tree.specs.declared.above.Above.{Above}
use Rattle.acc_tree.specs.Tags.{space_in, tag_in}
use Rattle.acc_tree.specs.Frames.{Frame, frame, nothing_above, beneath, above_of}
use Rattle.acc_tree.specs.Sights.{IsClimbed}
use Rattle.page_keys.specs.Keys.{frame_key}
use Rattle.page_keys.specs.Same.{same, all_same}
use Rattle.page_keys.specs.Nodes.{frames_of}
use Rattle.page_keys.specs.References.{nearest_label}
use Rattle.page_keys.proofs.Agreeing.{frames_agree, also_there}
use Rattle.page_keys.proofs.Stands.{spot_number}

abbrev pub Trail : Type 0
Trail = List (NodeId × Frame)

abbrev pub trail : List Row → Trail
trail [] = []
trail (row ∷ rows) = (row.id, frame (above_of rows) row) ∷ trail rows

-- the trail of the children of a number
abbrev pub trail_at : Trees → Option NodeId → Trail
trail_at t None = []
trail_at t (Some n) = option_map_or (λ s. trail (s.row ∷ s.above)) (spot t n) []

pub found_trail : (t : Trees) (n : NodeId) (s : Spot) → spot t n ≡ Some s → trail_at t (Some n) ≡ trail (s.row ∷ s.above)
found_trail t n s e = ap (λ o. option_map_or (λ (s : Spot). trail (s.row ∷ s.above)) o []) e

climbed_trail : (t : Trees) (above : List Row) → ClimbsBy above t → trail_at t (number_of above) ≡ trail above
climbed_trail t [] h = refl
climbed_trail t (p ∷ above) h = by_spot (spot t p.id) refl h
  where
    by_spot : (o : Option Spot) → spot t p.id ≡ o → IsSpotOf p above o → trail_at t (Some p.id) ≡ trail (p ∷ above)
    by_spot None e is = absurd is
    by_spot (Some s) e is = found_trail t p.id s e ∙ ap (λ rows. trail (s.row ∷ rows)) is.1 ∙ ap (λ r. trail (r ∷ above)) is.0

-- the trail of a node is that of the children of the parent that it names
pub trail_is : (t : Trees) → IsClimbed t → (n : NodeId) (s : Spot) → spot t n ≡ Some s → trail s.above ≡ trail_at t s.row.parent
trail_is t climbed n s e =
    let named : s.row.parent ≡ number_of s.above = rw e at (climbed.named n) in
    let climbs : ClimbsBy s.above t = rw e at (climbed.climbs n) in
    sym (climbed_trail t s.above climbs) ∙ ap (trail_at t) (sym named)

-- where pages agree on the frames of these nodes, which stand above one another on the old one, the trail is the same
pub same_trail : (old new : Trees) → IsClimbed old → IsClimbed new → (above : List Row) → ClimbsBy above old → all_same old new (frames_of above) ≡ true → trail_at old (number_of above) ≡ trail_at new (number_of above)
same_trail old new co cn [] h k = refl
same_trail old new co cn (p ∷ above) h k = by_spot (spot old p.id) refl h (λ climbs. same_trail old new co cn above climbs (second_so (same old new (frame_key p.id)) _ k))
  where
    here : same old new (frame_key p.id) ≡ true
    here = first_so (same old new (frame_key p.id)) (all_same old new (frames_of above)) k

    by_spot : (o : Option Spot) → spot old p.id ≡ o → IsSpotOf p above o → (ClimbsBy above old → trail_at old (number_of above) ≡ trail_at new (number_of above)) → trail_at old (Some p.id) ≡ trail_at new (Some p.id)
    by_spot None e is next = absurd is
    by_spot (Some s) e is next =
        let z = also_there old new p.id s e here in
        let climbs : ClimbsBy s.above old = rw e at (co.climbs p.id) in
        let named : s.row.parent ≡ number_of above = (rw e at (co.named p.id)) ∙ ap number_of is.1 in
        let f : frame (above_of s.above) s.row ≡ frame (above_of z.0.above) z.0.row = frames_agree old new p.id s z.0 e z.1 here in
        let parents : z.0.row.parent ≡ number_of above = ap (λ (f : Frame). f.parent) (sym f) ∙ named in
        let ids : s.row.id ≡ z.0.row.id = spot_number p.id [] old s e ∙ sym (spot_number p.id [] new z.0 z.1) in
        let rest : trail s.above ≡ trail z.0.above =
        trail_is old co p.id s e ∙ ap (trail_at old) named ∙ next (subst (λ rows. ClimbsBy rows old) is.1 climbs)
        ∙ ap (trail_at new) (sym parents) ∙ sym (trail_is new cn p.id z.0 z.1) in
        found_trail old p.id s e ∙ (λ i. (ids i, f i) ∷ rest i) ∙ sym (found_trail new p.id z.0 z.1)

-- the trails of two spots of one number
pub trails_agree : (old new : Trees) → IsClimbed old → IsClimbed new → (n : NodeId) (s z : Spot) → spot old n ≡ Some s → spot new n ≡ Some z → same old new (frame_key n) ≡ true → all_same old new (frames_of s.above) ≡ true → trail s.above ≡ trail z.above
trails_agree old new co cn n s z e d f k =
    let climbs : ClimbsBy s.above old = rw e at (co.climbs n) in
    let named : s.row.parent ≡ number_of s.above = rw e at (co.named n) in
    let parents : s.row.parent ≡ z.row.parent = ap (λ (f : Frame). f.parent) (frames_agree old new n s z e d f) in
    trail_is old co n s e ∙ ap (trail_at old) named ∙ same_trail old new co cn s.above climbs k ∙ ap (trail_at new) (sym named ∙ parents) ∙ sym (trail_is new cn n z d)

-- ---- what is above, summed up

above_by : Trail → Above
above_by [] = nothing_above
above_by (x ∷ xs) = beneath (above_by xs) x.0 x.1

above_is : (rows : List Row) → above_of rows ≡ above_by (trail rows)
unfolding above_by
above_is [] = refl
above_is (row ∷ rows) = ap (λ a. beneath a row.id (frame (above_of rows) row)) (above_is rows)

pub same_above : (xs ys : List Row) → trail xs ≡ trail ys → above_of xs ≡ above_of ys
same_above xs ys h = above_is xs ∙ ap above_by h ∙ sym (above_is ys)

-- ---- the nearest label

html_by : List ℕ → Option Space → Option (List ℕ) → Bool
html_by name (Some space) (Some tag) = is_html_space space && same_folded name tag
html_by name space tag = false

html_is : (name : List ℕ) (b : Body) → is_html_body name b ≡ html_by name (space_in b) (tag_in b)
unfolding html_by
html_is name (Element space tag attrs) = refl
html_is name (Words text) = refl

label_by : Trail → Option NodeId
label_by [] = None
label_by (x ∷ xs) = if html_by (codes "label") x.1.space x.1.tag then Some x.0 else label_by xs

label_is : (rows : List Row) → nearest_label rows ≡ label_by (trail rows)
unfolding is_label label_by
label_is [] = refl
label_is (row ∷ rows) = by_test (is_label row) (html_by (codes "label") (space_in row.body) (tag_in row.body)) refl refl (html_is (codes "label") row.body) (label_is rows)
  where
    by_test : (a b : Bool) → is_label row ≡ a → html_by (codes "label") (space_in row.body) (tag_in row.body) ≡ b → is_label row ≡ html_by (codes "label") (space_in row.body) (tag_in row.body) → nearest_label rows ≡ label_by (trail rows) → nearest_label (row ∷ rows) ≡ label_by (trail (row ∷ rows))
    by_test true true e h k ih = rw (e, h) refl
    by_test false false e h k ih = rw (e, h) ih
    by_test true false e h k ih = cc
    by_test false true e h k ih = cc

pub same_label : (xs ys : List Row) → trail xs ≡ trail ys → nearest_label xs ≡ nearest_label ys
same_label xs ys h = label_is xs ∙ ap label_by h ∙ sym (label_is ys)
