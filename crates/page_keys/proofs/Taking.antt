-- Where pages agree on what the references in a subtree look at, its node owns the same.
use Rattle.std.proofs.Common.{◌≡◌, ℕ, zero, suc, List, [], ◌∷◌, ◌++◌, map, true, Option, Some, None, refl, sym, ◌∙◌, ap, subst}
use Rattle.std.specs.List.{flat_map}
use Rattle.std.specs.Option.{option_map_or}
use Rattle.aria_tables.specs.declared.role.Role.{Role}
use Rattle.snap_tree.specs.declared.row.NodeId.{NodeId}
use Rattle.snap_tree.specs.declared.row.Row.{Row}
use Rattle.snap_tree.specs.Spots.{Spot, spot}
use Rattle.snap_tree.specs.Trees.{Trees, empty, tree}
use Rattle.acc_tree.specs.declared.above.Above.{Above}
use Rattle.acc_tree.specs.declared.owning.OwnedElement.{OwnedElement}
use Rattle.acc_tree.specs.Following.{followed}
use Rattle.acc_tree.specs.Frames.{frame, under, above_of}
use Rattle.acc_tree.specs.Owning.{standing_of, owned_at, owned_in, in_its_place, taken, owned_by, item_of, items, owned}
use Rattle.acc_tree.specs.Sights.{Sight, sight_of, summed}
use Rattle.page_keys.specs.Same.{all_same}
use Rattle.page_keys.specs.Nodes.{self_keys, tree_keys, node_keys}
use Rattle.page_keys.specs.References.{references_of, references_in, reference_keys}
use Rattle.page_keys.specs.Classes.{sub_keys}
use Rattle.page_keys.specs.Standing.{spot_with, Stand, IsPage}
use Rattle.page_keys.specs.Laws.{follows_at, owned_elements}
use Rattle.page_keys.proofs.Stands.{all_stand, stand_below, spot_number}
use Rattle.page_keys.proofs.Agreeing.{parts, spot_sight, no_sight}
use Rattle.page_keys.proofs.Trails.{trail, same_above}
use Rattle.page_keys.proofs.Again.{LooksAtPages, NodeAgain, node_again}
use Rattle.page_keys.proofs.Referring.{same_references}
use Rattle.page_keys.proofs.Following.{sights_same}
use Rattle.page_keys.proofs.Classes.{sub_sight, referring}

-- each row of these trees takes in the same
abbrev TakeSame : (Row → List OwnedElement) → (Row → List OwnedElement) → Trees → Type 0
TakeSame f g empty = Unit {0}
TakeSame f g (tree row kids after) = (f row ≡ g row) × (TakeSame f g kids × TakeSame f g after)

-- so the same is owned
owned_same_in : (through : List Role) (number : ℕ) (f g : Row → List OwnedElement) (above : Above) (t : Trees) → TakeSame f g t → owned_in through number f above t ≡ owned_in through number g above t
owned_same_in through number f g above empty p = refl
owned_same_in through number f g above (tree row kids after) p =
    let takes = p.0 in
    let down = owned_same_in through number f g (under above row) kids p.1.0 in
    let on = owned_same_in through number f g above after p.1.1 in
    λ i. owned_at (standing_of through above row) number row.id (down i ++ takes i) ++ on i

-- what a row takes in that stands on both pages below equal trails
taken_at : (old new : Trees) → IsPage old → IsPage new → (through : List Role) (number : ℕ) (a b : List Row) (row : Row) (kids : Trees) → spot old row.id ≡ Some (spot_with row kids a) → spot new row.id ≡ Some (spot_with row kids b) → trail a ≡ trail b
    → all_same old new (references_of old a row) ≡ true → taken through old number row ≡ taken through new number row
taken_at old new po pn through zero a b row kids e d way k = refl
taken_at old new po pn through (suc number) a b row kids e d way k =
    ap (flat_map (in_its_place through)) (sights_same old new po pn a b row kids e d way (same_references old new a row k))

-- and each row of trees that do
taken_below : (old new : Trees) → IsPage old → IsPage new → (through : List Role) (number : ℕ) (a b : List Row) (t : Trees) → Stand old a t → Stand new b t → trail a ≡ trail b → above_of a ≡ above_of b → all_same old new (references_in old a t) ≡ true
    → TakeSame (taken through old number) (taken through new number) t
taken_below old new po pn through number a b empty p q way above k = tt
taken_below old new po pn through number a b (tree row kids after) p q way above k =
    let first = parts old new (references_of old a row) (references_in old (row ∷ a) kids ++ references_in old a after) k in
    let rest = parts old new (references_in old (row ∷ a) kids) (references_in old a after) first.1 in (
      taken_at old new po pn through number a b row kids p.0 q.0 way first.0,
      (
        taken_below old new po pn through number (row ∷ a) (row ∷ b) kids p.1.0 q.1.0 (λ i. (row.id, frame (above i) row) ∷ way i) (λ i. under (above i) row) rest.0,
        taken_below old new po pn through number a b after p.1.1 q.1.1 way above rest.1,
      ),
    )

-- ---- a node that is found again

-- the two spots of a node that is found again
record Both (old new : Trees) (s : Spot) : Type 0 where
  pub above : List Row
  pub there : spot old s.row.id ≡ Some s
  pub here : spot new s.row.id ≡ Some (spot_with s.row s.below above)
  pub way : trail s.above ≡ trail above
  pub stand : Stand new (s.row ∷ above) s.below

both_spots : (old new : Trees) → IsPage new → (n : NodeId) (s : Spot) → spot old n ≡ Some s → NodeAgain new n s → Both old new s
both_spots old new pn n s e z =
    let id : n ≡ s.row.id = sym (spot_number n [] old s e) in
    let same : z.at ≡ spot_with s.row s.below z.at.above = λ i. spot_with (sym z.row i) (sym z.below i) z.at.above in
    record {
      above = z.at.above;
      there = ap (spot old) (sym id) ∙ e;
      here = ap (spot new) (sym id) ∙ z.found ∙ ap Some same;
      way = z.way;
      stand = subst (λ (z : Spot). Stand new (z.row ∷ z.above) z.below) same (stand_below new n [] new z.at (all_stand new pn.apart) z.found);
    }

-- what is said of a node by its sight is the same where it is so of each that is found again
by_spots : {A : Type 0} (says : Trees → Sight → A) (stranger : A)
    → ((old new : Trees) → IsPage old → IsPage new → (n : NodeId) (s : Spot) → spot old n ≡ Some s → Both old new s → all_same old new (references_of old s.above s.row) ≡ true
    → all_same old new (references_in old (s.row ∷ s.above) s.below) ≡ true → says old (summed s) ≡ says new (summed s))
    → LooksAtPages (λ t n. option_map_or (says t) (sight_of t n) stranger) sub_keys
by_spots says stranger again old new po pn n k = by_spot (spot old n) refl
  where
    same_sight : sight_of old n ≡ sight_of new n
    same_sight = sub_sight old new po pn n k

    keys : (all_same old new (self_keys old n) ≡ true) × (all_same old new (tree_keys old n) ≡ true)
    keys = parts old new (self_keys old n) (tree_keys old n) (parts old new (node_keys old n) (reference_keys old n) k).0

    by_spot : (o : Option Spot) → spot old n ≡ o → option_map_or (says old) (sight_of old n) stranger ≡ option_map_or (says new) (sight_of new n) stranger
    by_spot None e =
        let none = no_sight old n e in
        ap (λ o. option_map_or (says old) o stranger) none ∙ sym (ap (λ o. option_map_or (says new) o stranger) (sym same_sight ∙ none))
    by_spot (Some s) e =
        let here = spot_sight old n s e in
        let refs = referring old new n s e k in
        ap (λ o. option_map_or (says old) o stranger) here
        ∙ again old new po pn n s e (both_spots old new pn n s e (node_again old new po pn n s e keys.0 keys.1)) refs.0 refs.1
        ∙ sym (ap (λ o. option_map_or (says new) o stranger) (sym same_sight ∙ here))

pub follows_at_same : LooksAtPages follows_at sub_keys
follows_at_same =
    by_spots (λ t s. followed t s.row) []
    (λ old new po pn n s e z k h. sights_same old new po pn s.above z.above s.row s.below z.there z.here z.way (same_references old new s.above s.row k))

pub elements_same : (through : List Role) (number : ℕ) → LooksAtPages (owned_elements through number) sub_keys
elements_same through number =
    by_spots (λ t s. owned_by through t number s) []
    (λ old new po pn n s e z k h.
    let takes = taken_at old new po pn through number s.above z.above s.row s.below z.there z.here z.way k in
    let above = same_above s.above z.above z.way in
    let below = owned_same_in through number (taken through old number) (taken through new number) (under (above_of s.above) s.row) s.below
    (taken_below old new po pn through number (s.row ∷ s.above) (s.row ∷ z.above) s.below (stand_below old n [] old s (all_stand old po.apart) e) z.stand (λ i. (s.row.id, frame (above i) s.row) ∷ z.way i) (λ i. under (above i) s.row) h) in
    λ i. below i ++ takes i)

-- without their roles
items_are : (number : ℕ) (t : Trees) (n : NodeId) → items t n number ≡ map item_of (owned_elements [] number t n)
items_are number t n = by_sight (sight_of t n)
  where
    by_sight : (o : Option Sight) → option_map_or (λ s. map item_of (owned_by [] t number s)) o [] ≡ map item_of (option_map_or (owned_by [] t number) o [])
    by_sight None = refl
    by_sight (Some s) = refl

pub items_same : (number : ℕ) → LooksAtPages (λ t n. items t n number) sub_keys
items_same number old new po pn n k = items_are number old n ∙ ap (map item_of) (elements_same [] number old new po pn n k) ∙ sym (items_are number new n)

pub owned_same : LooksAtPages owned sub_keys
owned_same old new po pn n k = ap (map (λ i. i.node)) (items_same 1 old new po pn n k)
