-- Names are the same where pages agree on what they look at.
use Rattle.std.proofs.Common.{◌≡◌, [], ◌∷◌, Bool, true, false, Option, Some, None, refl, sym, ◌∙◌, ap, subst}
use Rattle.std.specs.Option.{option_map_or}
use Rattle.texts.specs.Words.{tidy}
use Rattle.snap_tree.specs.declared.row.NodeId.{NodeId}
use Rattle.snap_tree.specs.Spots.{Spot, spot}
use Rattle.snap_tree.specs.Trees.{Trees}
use Rattle.acc_tree.specs.Frames.{frame, under}
use Rattle.acc_tree.specs.Sights.{Sight, sight_of, summed}
use Rattle.acc_name.specs.declared.named.How.{How}
use Rattle.acc_name.specs.declared.named.How.TheVariants as how
use Rattle.acc_name.specs.declared.named.Name.{Name}
use Rattle.acc_name.specs.Names.{untold, spoken, told_by, no_name, says_in, named, name_of}
use Rattle.acc_name.specs.Local.{NameLooks, OpenLooks, ClosedLooks}
use Rattle.page_keys.specs.Same.{all_same}
use Rattle.page_keys.specs.Nodes.{self_keys, tree_keys, node_keys}
use Rattle.page_keys.specs.References.{references_of, references_in, reference_keys}
use Rattle.page_keys.specs.Classes.{sub_keys}
use Rattle.page_keys.specs.Standing.{spot_with, Stand, IsPage}
use Rattle.page_keys.proofs.Stands.{all_stand, stand_below, spot_number}
use Rattle.page_keys.proofs.Agreeing.{parts, spot_sight, no_sight}
use Rattle.page_keys.proofs.Trails.{same_above}
use Rattle.page_keys.proofs.Again.{LooksAtPages, looks, NodeAgain, node_again, sight_same}
use Rattle.page_keys.proofs.Classes.{sub_sight, referring}
use Rattle.acc_name.proofs.SaidAgain.{asked, spoken_same}
use Rattle.acc_name.proofs.ToldAgain.{told_at, told_in}

-- what a node says in the name of another, on a page whose references are open
abbrev said_on : Trees → NodeId → How → Bool → Sight → Name
said_on t node how hidden = spoken (asked node hidden (told_by t node hidden)) how

-- A node that is found again says the same on both pages, where they agree on what the references at it and below it
-- look at.
said_again : (old new : Trees) → IsPage old → IsPage new → (node : NodeId) (how : How) (hidden : Bool) (n : NodeId) (s : Spot) → spot old n ≡ Some s → NodeAgain new n s
    → all_same old new (references_of old s.above s.row) ≡ true → all_same old new (references_in old (s.row ∷ s.above) s.below) ≡ true
    → said_on old node how hidden (summed s) ≡ said_on new node how hidden (summed s)
said_again old new po pn node how hidden n s e z k h =
    let id : n ≡ s.row.id = sym (spot_number n [] old s e) in
    let same : z.at ≡ spot_with s.row s.below z.at.above = λ i. spot_with (sym z.row i) (sym z.below i) z.at.above in
    let there : spot old s.row.id ≡ Some s = ap (spot old) (sym id) ∙ e in
    let here : spot new s.row.id ≡ Some (spot_with s.row s.below z.at.above) = ap (spot new) (sym id) ∙ z.found ∙ ap Some same in
    let above = same_above s.above z.at.above z.way in
    let stand : Stand new (s.row ∷ z.at.above) s.below = subst (λ (z : Spot). Stand new (z.row ∷ z.above) z.below) same (stand_below new n [] new z.at (all_stand new pn.apart) z.found) in
    spoken_same node hidden (told_by old node hidden) (told_by new node hidden) how (summed s)
    (told_at old new po pn node hidden s.above z.at.above s.row s.below there here z.way k)
    (told_in old new po pn node hidden (s.row ∷ s.above) (s.row ∷ z.at.above) s.below (stand_below old n [] old s (all_stand old po.apart) e) stand (λ i. (s.row.id, frame (above i) s.row) ∷ z.way i) (λ i. under (above i) s.row) h)

open_same : (node : NodeId) (how : How) (hidden : Bool) → LooksAtPages (λ t n. says_in t node n true how hidden) sub_keys
open_same node how hidden old new po pn n k = by_spot (spot old n) refl
  where
    same_sight : sight_of old n ≡ sight_of new n
    same_sight = sub_sight old new po pn n k

    keys : (all_same old new (self_keys old n) ≡ true) × (all_same old new (tree_keys old n) ≡ true)
    keys = parts old new (self_keys old n) (tree_keys old n) (parts old new (node_keys old n) (reference_keys old n) k).0

    by_spot : (o : Option Spot) → spot old n ≡ o → says_in old node n true how hidden ≡ says_in new node n true how hidden
    by_spot None e =
        let none = no_sight old n e in
        ap (λ o. option_map_or (said_on old node how hidden) o no_name) none ∙ sym (ap (λ o. option_map_or (said_on new node how hidden) o no_name) (sym same_sight ∙ none))
    by_spot (Some s) e =
        let here = spot_sight old n s e in
        let refs = referring old new n s e k in
        ap (λ o. option_map_or (said_on old node how hidden) o no_name) here
        ∙ said_again old new po pn node how hidden n s e (node_again old new po pn n s e keys.0 keys.1) refs.0 refs.1
        ∙ sym (ap (λ o. option_map_or (said_on new node how hidden) o no_name) (sym same_sight ∙ here))

pub name_looks : NameLooks
name_looks = looks name_of sub_keys (λ old new po pn n k. ap (λ (own : Name). named own.source (tidy own.text)) (open_same n how.Own false old new po pn n k))

pub open_looks : (node : NodeId) (how : How) (hidden : Bool) → OpenLooks node how hidden
open_looks node how hidden = looks (λ t n. says_in t node n true how hidden) sub_keys (open_same node how hidden)

closed_same : (node : NodeId) (how : How) (hidden : Bool) → LooksAtPages (λ t n. says_in t node n false how hidden) node_keys
closed_same node how hidden old new po pn n k =
    ap (λ o. option_map_or (spoken (asked node hidden untold) how) o no_name) (sight_same old new po pn n k)

pub closed_looks : (node : NodeId) (how : How) (hidden : Bool) → ClosedLooks node how hidden
closed_looks node how hidden = looks (λ t n. says_in t node n false how hidden) node_keys (closed_same node how hidden)
