-- References say the same of each node of a subtree where pages agree on what they look at.
use Rattle.std.proofs.Common.{◌≡◌, ◌++◌, List, [], ◌∷◌, not, Bool, true, Some, refl, ap}
use Rattle.std.specs.List.{flat_map}
use Rattle.std.specs.Option.{option_map_or}
use Rattle.snap_tree.specs.declared.row.NodeId.{NodeId}
use Rattle.snap_tree.specs.declared.row.Row.{Row}
use Rattle.snap_tree.specs.Spots.{spot}
use Rattle.snap_tree.specs.Trees.{Trees, empty, tree}
use Rattle.texts.specs.Words.{spaced, tidy}
use Rattle.acc_tree.specs.Following.{followed}
use Rattle.acc_tree.specs.Frames.{frame, under, above_of}
use Rattle.acc_tree.specs.Inclusion.{exposed}
use Rattle.acc_tree.specs.Sights.{Sight}
use Rattle.acc_name.specs.declared.named.How.TheVariants as how
use Rattle.acc_name.specs.Names.{untold, spoken, referred, followed_text, told_of, told_by}
use Rattle.page_keys.specs.Same.{all_same}
use Rattle.page_keys.specs.References.{references_of, references_in}
use Rattle.page_keys.specs.Standing.{spot_with, Stand, IsPage}
use Rattle.page_keys.proofs.Agreeing.{parts}
use Rattle.page_keys.proofs.Trails.{trail}
use Rattle.page_keys.proofs.Following.{sights_same}
use Rattle.page_keys.proofs.Referring.{TellsBySight, same_references, labelled_by_same, labels_same}
use Rattle.acc_name.proofs.SaidAgain.{TellSame, asked}

-- what a node says where it is referred to depends on its sight alone
referred_same : (old new : Trees) (node : NodeId) → TellsBySight (referred old node) (referred new node) old new
referred_same old new node m e =
    ap (λ o. option_map_or (λ (s : Sight). tidy (spoken (asked node (not (exposed s.above s.row)) untold) how.Referred s).text) o []) e

-- what the references of a row say
pub told_at : (old new : Trees) → IsPage old → IsPage new → (node : NodeId) (hidden : Bool) (a b : List Row) (row : Row) (kids : Trees) → spot old row.id ≡ Some (spot_with row kids a) → spot new row.id ≡ Some (spot_with row kids b) → trail a ≡ trail b
    → all_same old new (references_of old a row) ≡ true → told_of old node hidden row ≡ told_of new node hidden row
told_at old new po pn node hidden a b row kids e d way k =
    let r = same_references old new a row k in
    let each = referred_same old new node in
    let by = labelled_by_same (referred old node) (referred new node) old new po pn each a row r in
    let labels = labels_same (referred old node) (referred new node) old new po pn each row.id (spot_with row kids a) (spot_with row kids b) e d refl way r in
    let owned : followed old row ≡ followed new row = sights_same old new po pn a b row kids e d way r in
    λ i. record { labelled_by = spaced (by i); labels = spaced (labels i); owned = flat_map (followed_text node hidden) (owned i) }

-- and those of each row of trees that stand on both pages, below equal trails
pub told_in : (old new : Trees) → IsPage old → IsPage new → (node : NodeId) (hidden : Bool) (a b : List Row) (t : Trees) → Stand old a t → Stand new b t → trail a ≡ trail b → above_of a ≡ above_of b → all_same old new (references_in old a t) ≡ true
    → TellSame (told_by old node hidden) (told_by new node hidden) (above_of a) t
told_in old new po pn node hidden a b empty p q way above k = tt
told_in old new po pn node hidden a b (tree row kids after) p q way above k =
    let first = parts old new (references_of old a row) (references_in old (row ∷ a) kids ++ references_in old a after) k in
    let rest = parts old new (references_in old (row ∷ a) kids) (references_in old a after) first.1 in (
      told_at old new po pn node hidden a b row kids p.0 q.0 way first.0,
      (
        told_in old new po pn node hidden (row ∷ a) (row ∷ b) kids p.1.0 q.1.0 (λ i. (row.id, frame (above i) row) ∷ way i) (λ i. under (above i) row) rest.0,
        told_in old new po pn node hidden a b after p.1.1 q.1.1 way above rest.1,
      ),
    )
