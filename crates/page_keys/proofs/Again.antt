-- A node on the new page, where pages agree on its keys.
use Rattle.std.proofs.Common.{◌≡◌, List, [], true, Option, Some, None, option_map, refl, sym, ◌∙◌, ap}
use Rattle.std.specs.Option.{option_map_or}
use Rattle.snap_tree.specs.declared.row.NodeId.{NodeId}
use Rattle.snap_tree.specs.declared.row.Row.{Row}
use Rattle.snap_tree.specs.Spots.{Spot, spot}
use Rattle.snap_tree.specs.Trees.{Trees}
use Rattle.acc_tree.specs.declared.above.Above.{Above}
use Rattle.acc_tree.specs.Seen.{seen}
use Rattle.acc_tree.specs.Sights.{Sight, sight_of}
use Rattle.page_keys.specs.Keys.{Key}
use Rattle.page_keys.specs.Same.{all_same}
use Rattle.page_keys.specs.Nodes.{frames_of, self_keys, keys_in, keys_below, tree_keys, node_keys}
use Rattle.page_keys.specs.Standing.{IsPage}
use Rattle.page_keys.specs.Laws.{LooksAt, itself, alone, inner, subtree}
use Rattle.page_keys.proofs.Agreeing.{parts, self_parts, node_parts, spot_sight, no_sight, rows_agree, also_there, not_there, below_agree}
use Rattle.page_keys.proofs.Stands.{all_stand, stand_below}
use Rattle.page_keys.proofs.Trails.{trail, trails_agree, same_above}
use Rattle.page_keys.proofs.Pages.{page_seen}

-- ---- laws over pages hold of what is seen of well ones

abbrev pub LooksAtPages : {A : Type 0} → (Trees → NodeId → A) → (Trees → NodeId → List Key) → Type 0
LooksAtPages says keys = (old new : Trees) → IsPage old → IsPage new → (n : NodeId) → all_same old new (keys old n) ≡ true → says old n ≡ says new n

pub looks : {A : Type 0} (says : Trees → NodeId → A) (keys : Trees → NodeId → List Key) → LooksAtPages says keys → LooksAt says keys
looks says keys law old new n wo wn k = law (seen old) (seen new) (page_seen old wo) (page_seen new wn) n k

-- ---- spots

-- a spot of the number on the new page, with an equal row below an equal trail
pub record ItselfAgain (new : Trees) (n : NodeId) (s : Spot) : Type 0 where
  pub at : Spot
  pub found : spot new n ≡ Some at
  pub row : s.row ≡ at.row
  pub way : trail s.above ≡ trail at.above

pub itself_again : (old new : Trees) → IsPage old → IsPage new → (n : NodeId) (s : Spot) → spot old n ≡ Some s → all_same old new (self_keys old n) ≡ true → ItselfAgain new n s
itself_again old new po pn n s e k =
    let keys = self_parts old new n k in
    let above : all_same old new (frames_of s.above) ≡ true =
    ap (λ o. all_same old new (option_map_or (λ (s : Spot). frames_of s.above) o [])) (sym e) ∙ keys.above in
    let z = also_there old new n s e keys.frame in
    record {
      at = z.0;
      found = z.1;
      row = rows_agree old new n s z.0 e z.1 keys.frame keys.own;
      way = trails_agree old new po.climbed pn.climbed n s z.0 e z.1 keys.frame above;
    }

-- one with an equal row above equal trees
pub record TreeAgain (new : Trees) (n : NodeId) (s : Spot) : Type 0 where
  pub at : Spot
  pub found : spot new n ≡ Some at
  pub row : s.row ≡ at.row
  pub below : s.below ≡ at.below

pub tree_again : (old new : Trees) → IsPage old → IsPage new → (n : NodeId) (s : Spot) → spot old n ≡ Some s → all_same old new (tree_keys old n) ≡ true → TreeAgain new n s
tree_again old new po pn n s e k =
    let keys = node_parts old new n (keys_below old n) k in
    let below : all_same old new (keys_in s.below) ≡ true =
    ap (λ o. all_same old new (option_map_or (λ (s : Spot). keys_in s.below) o [])) (sym e) ∙ keys.more in
    let z = also_there old new n s e keys.frame in
    record {
      at = z.0;
      found = z.1;
      row = rows_agree old new n s z.0 e z.1 keys.frame keys.own;
      below = below_agree old new n s z.0 e z.1 (stand_below old n [] old s (all_stand old po.apart) e) (stand_below new n [] new z.0 (all_stand new pn.apart) z.1) keys.kids below;
    }

-- one that is equal, but for more that those above it may have
pub record NodeAgain (new : Trees) (n : NodeId) (s : Spot) : Type 0 where
  pub at : Spot
  pub found : spot new n ≡ Some at
  pub row : s.row ≡ at.row
  pub below : s.below ≡ at.below
  pub way : trail s.above ≡ trail at.above

pub node_again : (old new : Trees) → IsPage old → IsPage new → (n : NodeId) (s : Spot) → spot old n ≡ Some s → all_same old new (self_keys old n) ≡ true → all_same old new (tree_keys old n) ≡ true → NodeAgain new n s
node_again old new po pn n s e k h =
    let a = itself_again old new po pn n s e k in
    let b = tree_again old new po pn n s e h in
    let both : Some b.at ≡ Some a.at = sym b.found ∙ a.found in
    let one : b.at ≡ a.at = cc in
    record { at = a.at; found = a.found; row = a.row; below = b.below ∙ ap (λ (s : Spot). s.below) one; way = a.way }

-- ---- sights

pub alone_same : LooksAtPages alone self_keys
alone_same old new po pn n k = by_spot (spot old n) refl
  where
    by_spot : (o : Option Spot) → spot old n ≡ o → alone old n ≡ alone new n
    by_spot None e =
        ap (option_map itself) (no_sight old n e ∙ sym (no_sight new n (not_there old new n e (self_parts old new n k).frame)))
    by_spot (Some s) e =
        let z = itself_again old new po pn n s e k in
        let above = same_above s.above z.at.above z.way in
        ap (option_map itself) (spot_sight old n s e) ∙ (λ i. Some (z.row i, above i)) ∙ sym (ap (option_map itself) (spot_sight new n z.at z.found))

pub subtree_same : LooksAtPages subtree tree_keys
subtree_same old new po pn n k = by_spot (spot old n) refl
  where
    by_spot : (o : Option Spot) → spot old n ≡ o → subtree old n ≡ subtree new n
    by_spot None e =
        ap (option_map inner) (no_sight old n e ∙ sym (no_sight new n (not_there old new n e (node_parts old new n (keys_below old n) k).frame)))
    by_spot (Some s) e =
        let z = tree_again old new po pn n s e k in
        ap (option_map inner) (spot_sight old n s e) ∙ (λ i. Some (z.row i, z.below i)) ∙ sym (ap (option_map inner) (spot_sight new n z.at z.found))

-- a sight is a row with what is above it, and with the trees below it
pub whole_sight : (a b : Option Sight) → option_map itself a ≡ option_map itself b → option_map inner a ≡ option_map inner b → a ≡ b
whole_sight None None p q = refl
whole_sight None (Some z) p q = cc
whole_sight (Some s) None p q = cc
whole_sight (Some s) (Some z) p q =
    let one : itself s ≡ itself z = cc in
    let two : inner s ≡ inner z = cc in
    λ i. Some (record { row = (one i).0; below = (two i).1; above = (one i).1 })

pub sight_same : LooksAtPages sight_of node_keys
sight_same old new po pn n k =
    let both = parts old new (self_keys old n) (tree_keys old n) k in
    whole_sight (sight_of old n) (sight_of new n) (alone_same old new po pn n both.0) (subtree_same old new po pn n both.1)

-- what is said of a row and what is above it
pub said_same : {A : Type 0} (says : Above → Row → A) (stranger : A) → LooksAtPages (λ t n. option_map_or (λ s. says s.above s.row) (sight_of t n) stranger) self_keys
said_same says stranger old new po pn n k = by_itself (sight_of old n) ∙ ap (λ o. option_map_or (λ (x : Row × Above). says x.1 x.0) o stranger) (alone_same old new po pn n k) ∙ sym (by_itself (sight_of new n))
  where
    by_itself : (o : Option Sight) → option_map_or (λ s. says s.above s.row) o stranger ≡ option_map_or (λ (x : Row × Above). says x.1 x.0) (option_map itself o) stranger
    by_itself None = refl
    by_itself (Some s) = refl
