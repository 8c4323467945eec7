-- What two spots of one number have in common where pages agree on its keys.
use Rattle.std.proofs.Common.{◌≡◌, ◌&&◌, ℕ, List, [], ◌∷◌, ◌++◌, true, Option, Some, None, option_map, refl, sym, ◌∙◌, ap}
use Rattle.std.proofs.lemmas.List.Folds.{list_all-append}
use Rattle.std.specs.Cmp.{first_so, second_so}
use Rattle.snap_tree.specs.declared.row.NodeId.{NodeId}
use Rattle.snap_tree.specs.declared.row.Space.{Space}
use Rattle.snap_tree.specs.declared.row.Attr.{Attr}
use Rattle.snap_tree.specs.declared.row.Body.{Body}
use Rattle.snap_tree.specs.declared.row.Body.TheVariants.{Element, Words}
use Rattle.snap_tree.specs.declared.row.Row.{Row}
use Rattle.snap_tree.specs.Rows.{attrs_in}
use Rattle.snap_tree.specs.Spots.{Spot, spot}
use Rattle.snap_tree.specs.Trees.{Trees, empty, tree}
use Rattle.acc_tree.specs.declared.above.Above.{Above}
use Rattle.acc_tree.specs.Tags.{space_in, tag_in}
use Rattle.acc_tree.specs.Frames.{Frame, frame, above_of}
use Rattle.acc_tree.specs.Sights.{Sight, sight_of, summed}
use Rattle.acc_tree.proofs.Sighting.{sight_is_spot}
use Rattle.page_keys.specs.Keys.{Key, frame_key, own_key, kids_key, Own, own, text_in, root_numbers, frame_at}
use Rattle.page_keys.specs.Same.{same, all_same}
use Rattle.page_keys.specs.Nodes.{frames_above, self_keys, keys_in}
use Rattle.page_keys.specs.Standing.{spot_with, Stand}
use Rattle.page_keys.proofs.Tests.{agree}
use Rattle.page_keys.proofs.Stands.{spot_number}

-- ---- lists of keys

-- where pages agree on two lists of keys, they do on each
pub parts : (old new : Trees) (xs ys : List Key) → all_same old new (xs ++ ys) ≡ true → (all_same old new xs ≡ true) × (all_same old new ys ≡ true)
parts old new xs ys h =
    let both : (all_same old new xs && all_same old new ys) ≡ true = sym (list_all-append (same old new) xs ys) ∙ h in
    (first_so (all_same old new xs) (all_same old new ys) both, second_so (all_same old new xs) (all_same old new ys) both)

-- pages agree on what a node has by itself, and on the frames above it
pub record SameSelf (old new : Trees) (n : NodeId) : Type 0 where
  pub frame : same old new (frame_key n) ≡ true
  pub own : same old new (own_key n) ≡ true
  pub above : all_same old new (frames_above old n) ≡ true

pub self_parts : (old new : Trees) (n : NodeId) → all_same old new (self_keys old n) ≡ true → SameSelf old new n
self_parts old new n k =
    let more = second_so (same old new (frame_key n)) _ k in
    record {
      frame = first_so (same old new (frame_key n)) _ k;
      own = first_so (same old new (own_key n)) _ more;
      above = second_so (same old new (own_key n)) _ more;
    }

-- pages agree on a node, on which its children are, and on more keys
pub record SameNode (old new : Trees) (n : NodeId) (keys : List Key) : Type 0 where
  pub frame : same old new (frame_key n) ≡ true
  pub own : same old new (own_key n) ≡ true
  pub kids : same old new (kids_key n) ≡ true
  pub more : all_same old new keys ≡ true

pub node_parts : (old new : Trees) (n : NodeId) (keys : List Key) → all_same old new (frame_key n ∷ own_key n ∷ kids_key n ∷ keys) ≡ true → SameNode old new n keys
node_parts old new n keys k =
    let k1 = second_so (same old new (frame_key n)) _ k in
    let k2 = second_so (same old new (own_key n)) _ k1 in
    record {
      frame = first_so (same old new (frame_key n)) _ k;
      own = first_so (same old new (own_key n)) _ k1;
      kids = first_so (same old new (kids_key n)) _ k2;
      more = second_so (same old new (kids_key n)) _ k2;
    }

-- ---- a row is its number, its frame and what it has of its own

rebuilt : Option Space → Option (List ℕ) → List Attr → Option (List ℕ) → Body
rebuilt (Some space) (Some tag) attrs text = Element space tag attrs
rebuilt space tag attrs (Some text) = Words text
rebuilt space tag attrs None = Words []

body_is : (b : Body) → b ≡ rebuilt (space_in b) (tag_in b) (attrs_in b) (text_in b)
unfolding rebuilt
body_is (Element space tag attrs) = refl
body_is (Words text) = refl

same_row : (a b : Above) (r z : Row) → r.id ≡ z.id → frame a r ≡ frame b z → own r ≡ own z → r ≡ z
same_row a b r z ids f o =
    let body : r.body ≡ z.body =
    body_is r.body ∙ ap (λ (f : Frame). rebuilt f.space f.tag (own r).attrs (own r).text) f
    ∙ ap (λ (o : Own). rebuilt (frame b z).space (frame b z).tag o.attrs o.text) o ∙ sym (body_is z.body) in
    let parent : r.parent ≡ z.parent = ap (λ (f : Frame). f.parent) f in
    let facts : r.facts ≡ z.facts = ap (λ (o : Own). o.facts) o in
    λ i. record { id = ids i; parent = parent i; body = body i; facts = facts i }

-- ---- from keys to spots

pub spot_sight : (t : Trees) (n : NodeId) (s : Spot) → spot t n ≡ Some s → sight_of t n ≡ Some (summed s)
spot_sight t n s e = sight_is_spot t n ∙ ap (option_map summed) e

pub no_sight : (t : Trees) (n : NodeId) → spot t n ≡ None → sight_of t n ≡ None
no_sight t n e = sight_is_spot t n ∙ ap (option_map summed) e

values : {A : Type 0} (f : Sight → A) (old new : Trees) (n : NodeId) (s z : Spot) → spot old n ≡ Some s → spot new n ≡ Some z → option_map f (sight_of old n) ≡ option_map f (sight_of new n) → f (summed s) ≡ f (summed z)
values f old new n s z e d h =
    let is : Some (f (summed s)) ≡ Some (f (summed z)) = sym (ap (option_map f) (spot_sight old n s e)) ∙ h ∙ ap (option_map f) (spot_sight new n z d) in cc

pub frames_agree : (old new : Trees) (n : NodeId) (s z : Spot) → spot old n ≡ Some s → spot new n ≡ Some z → same old new (frame_key n) ≡ true → frame (above_of s.above) s.row ≡ frame (above_of z.above) z.row
frames_agree old new n s z e d k = values (λ s. frame s.above s.row) old new n s z e d (agree old new (frame_key n) k)

kids_agree : (old new : Trees) (n : NodeId) (s z : Spot) → spot old n ≡ Some s → spot new n ≡ Some z → same old new (kids_key n) ≡ true → root_numbers s.below ≡ root_numbers z.below
kids_agree old new n s z e d k = values (λ s. root_numbers s.below) old new n s z e d (agree old new (kids_key n) k)

-- equal rows, where the frame and the own key agree
pub rows_agree : (old new : Trees) (n : NodeId) (s z : Spot) → spot old n ≡ Some s → spot new n ≡ Some z → same old new (frame_key n) ≡ true → same old new (own_key n) ≡ true → s.row ≡ z.row
rows_agree old new n s z e d f o =
    same_row (above_of s.above) (above_of z.above) s.row z.row (spot_number n [] old s e ∙ sym (spot_number n [] new z d)) (frames_agree old new n s z e d f)
    (values (λ s. own s.row) old new n s z e d (agree old new (own_key n) o))

-- a number that one page holds is held by the other too, where its frame agrees
pub also_there : (old new : Trees) (n : NodeId) (s : Spot) → spot old n ≡ Some s → same old new (frame_key n) ≡ true → (z : Spot) × (spot new n ≡ Some z)
also_there old new n s e k = by_spot (spot new n) refl
  where
    by_spot : (o : Option Spot) → spot new n ≡ o → (z : Spot) × (spot new n ≡ Some z)
    by_spot (Some z) d = (z, d)
    by_spot None d =
        let none : frame_at new n ≡ None = ap (option_map (λ s. frame s.above s.row)) (no_sight new n d) in
        let some : frame_at old n ≡ Some (frame (above_of s.above) s.row) = ap (option_map (λ s. frame s.above s.row)) (spot_sight old n s e) in
        let both : frame_at old n ≡ frame_at new n = agree old new (frame_key n) k in cc

-- one that the one page doesn't hold isn't held by the other
pub not_there : (old new : Trees) (n : NodeId) → spot old n ≡ None → same old new (frame_key n) ≡ true → spot new n ≡ None
not_there old new n e k = by_spot (spot new n) refl
  where
    by_spot : (o : Option Spot) → spot new n ≡ o → spot new n ≡ None
    by_spot None d = d
    by_spot (Some z) d =
        let none : frame_at old n ≡ None = ap (option_map (λ s. frame s.above s.row)) (no_sight old n e) in
        let some : frame_at new n ≡ Some (frame (above_of z.above) z.row) = ap (option_map (λ s. frame s.above s.row)) (spot_sight new n z d) in
        let both : frame_at old n ≡ frame_at new n = agree old new (frame_key n) k in cc

-- ---- trees

-- Trees that stand on two pages with the same roots are equal where the pages agree on their keys. Both are taken
-- apart together.
pub same_trees : (old new : Trees) (a b : List Row) (t u : Trees) → Stand old a t → Stand new b u → root_numbers t ≡ root_numbers u → all_same old new (keys_in t) ≡ true → t ≡ u
same_trees old new a b empty empty p q n k = refl
same_trees old new a b empty (tree z below later) p q n k = cc
same_trees old new a b (tree r kids after) empty p q n k = cc
same_trees old new a b (tree r kids after) (tree z below later) p q n k =
    let ids : r.id ≡ z.id = cc in
    let rest : root_numbers after ≡ root_numbers later = cc in
    let there : spot new r.id ≡ Some (spot_with z below b) = ap (spot new) ids ∙ q.0 in
    let here = node_parts old new r.id (keys_in kids ++ keys_in after) k in
    let more = parts old new (keys_in kids) (keys_in after) here.more in
    let row : r ≡ z = rows_agree old new r.id (spot_with r kids a) (spot_with z below b) p.0 there here.frame here.own in
    let children = kids_agree old new r.id (spot_with r kids a) (spot_with z below b) p.0 there here.kids in
    let down : kids ≡ below = same_trees old new (r ∷ a) (z ∷ b) kids below p.1.0 q.1.0 children more.0 in
    let on : after ≡ later = same_trees old new a b after later p.1.1 q.1.1 rest more.1 in
    λ i. tree (row i) (down i) (on i)

-- the same below two spots of one number
pub below_agree : (old new : Trees) (n : NodeId) (s z : Spot) → spot old n ≡ Some s → spot new n ≡ Some z → Stand old (s.row ∷ s.above) s.below → Stand new (z.row ∷ z.above) z.below → same old new (kids_key n) ≡ true → all_same old new (keys_in s.below) ≡ true → s.below ≡ z.below
below_agree old new n s z e d p q c k = same_trees old new (s.row ∷ s.above) (z.row ∷ z.above) s.below z.below p q (kids_agree old new n s z e d c) k
