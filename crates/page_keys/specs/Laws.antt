-- What the laws of keys say.
use Rattle.std.specs.Prelude.{◌≡◌, ℕ, List, [], map, codes, true, if◌then◌else◌, Option, option_map, option_and_then}
use Rattle.std.specs.Option.{option_map_or}
use Rattle.aria_tables.specs.declared.attr.AriaAttr.TheVariants as aria
use Rattle.snap_tree.specs.declared.row.NodeId.{NodeId}
use Rattle.snap_tree.specs.declared.row.Row.{Row}
use Rattle.snap_tree.specs.Labels.{first_with_id, labels_for}
use Rattle.snap_tree.specs.Lookups.{tagged}
use Rattle.snap_tree.specs.Trees.{Trees, empty}
use Rattle.snap_tree.specs.Well.{IsWell}
use Rattle.aria_tables.specs.declared.role.Role.{Role}
use Rattle.acc_tree.specs.declared.above.Above.{Above}
use Rattle.acc_tree.specs.declared.owning.OwnedElement.{OwnedElement}
use Rattle.acc_tree.specs.Following.{followed}
use Rattle.acc_tree.specs.Owning.{owned_by}
use Rattle.acc_tree.specs.References.{found, named_by, reference_words}
use Rattle.acc_tree.specs.Seen.{seen}
use Rattle.acc_tree.specs.Sights.{Sight, sight_of}
use Rattle.page_keys.specs.Keys.{Key, Own, own_at}
use Rattle.page_keys.specs.Same.{all_same}
use Rattle.page_keys.specs.Classes.{table_of, is_root, is_meta}

-- What is said of a node looks at these keys and at nothing else: it is the same on two well pages that agree on them.
abbrev pub LooksAt : {A : Type 0} → (Trees → NodeId → A) → (Trees → NodeId → List Key) → Type 0
LooksAt says keys =
    (old new : Trees) (n : NodeId) → IsWell old → IsWell new → all_same (seen old) (seen new) (keys (seen old) n) ≡ true
    → says (seen old) n ≡ says (seen new) n

-- ---- what is said of a node

-- its row, with what is above it
abbrev pub itself : Sight → Row × Above
itself s = (s.row, s.above)

abbrev pub alone : Trees → NodeId → Option (Row × Above)
alone t n = option_map itself (sight_of t n)

-- its row, with the trees below it
abbrev pub inner : Sight → Row × Trees
inner s = (s.row, s.below)

abbrev pub subtree : Trees → NodeId → Option (Row × Trees)
subtree t n = option_map inner (sight_of t n)

-- the sight of the nearest table
abbrev pub table_sight : Trees → NodeId → Option Sight
table_sight t n = option_and_then (sight_of t) (table_of t n)

-- of the root, the subtrees of the titles
abbrev pub root_titles : Trees → NodeId → List (Option (Row × Trees))
root_titles t n = if is_root t n then map (subtree t) (tagged t (codes "title")) else []

-- of a `meta`, what all metas have of their own
abbrev pub meta_owns : Trees → NodeId → List (Option Own)
meta_owns t n = if is_meta t n then map (own_at t) (tagged t (codes "meta")) else []

-- of the root, the whole page
abbrev pub page_at : Trees → NodeId → Trees
page_at t n = if is_root t n then t else empty

-- ---- what references find

-- what each of a node's words finds, or that it finds nothing
abbrev pub words_find : Trees → NodeId → List (Option NodeId)
words_find t n = option_map_or (λ s. map (first_with_id t) (reference_words s.row)) (sight_of t n) []

-- the sights of what aria-labelledby finds
abbrev pub labelled_by : Trees → NodeId → List (Option Sight)
labelled_by t n = option_map_or (λ s. map (sight_of t) (found t (named_by aria.Labelledby s.row))) (sight_of t n) []

-- the sights of its labels
abbrev pub labels_at : Trees → NodeId → List (Option Sight)
labels_at t n = map (sight_of t) (labels_for t n)

-- the sights of the nodes that it follows by aria-owns
abbrev pub follows_at : Trees → NodeId → List Sight
follows_at t n = option_map_or (λ s. followed t s.row) (sight_of t n) []

-- ---- what is owned

-- what a node owns where these roles are looked through and one may follow so many times
abbrev pub owned_elements : List Role → ℕ → Trees → NodeId → List OwnedElement
owned_elements through number t n = option_map_or (owned_by through t number) (sight_of t n) []
