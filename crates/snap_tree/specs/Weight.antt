-- The reference weight of a page: how much text references make a reader go through.
use Rattle.std.specs.Prelude.{ℕ, ◌+◌, ◌/◌, List, [], ◌∷◌, ◌++◌, length, codes, Option}
use Rattle.std.specs.Option.{option_map_or}
use Rattle.std.specs.List.{sum_by}
use Rattle.snap_tree.specs.declared.row.NodeId.{NodeId}
use Rattle.snap_tree.specs.declared.row.Body.{Body}
use Rattle.snap_tree.specs.declared.row.Body.TheVariants.{Element, Words}
use Rattle.snap_tree.specs.declared.row.Row.{Row}
use Rattle.snap_tree.specs.Trees.{Trees, rows_of}
use Rattle.texts.specs.Words.{words}
use Rattle.snap_tree.specs.Rows.{attribute}
use Rattle.snap_tree.specs.Spots.{Spot, spot, spots}
use Rattle.snap_tree.specs.Labels.{first_with_id, labels_at}

-- the bytes of a text, or of an element's attribute values
abbrev pub bytes_in : Body → ℕ
bytes_in (Element space tag attrs) = sum_by (λ a. length a.value) attrs
bytes_in (Words text) = length text

unfoldable pub node_weight : Row → ℕ
node_weight r = 1 + bytes_in r.body / 64

-- the weight of a node and of all that is below it
abbrev pub subtree_weight : Spot → ℕ
subtree_weight s = sum_by node_weight (s.row ∷ rows_of s.below)

-- the weight of what a number finds
abbrev pub weight_of : Trees → NodeId → ℕ
weight_of t n = option_map_or subtree_weight (spot t n) 0

-- the weight of what an id finds
abbrev pub id_weight : Trees → List ℕ → ℕ
id_weight t id = option_map_or (weight_of t) (first_with_id t id) 0

-- the ids that an attribute's value lists
abbrev pub listed : Option (List ℕ) → List (List ℕ)
listed value = option_map_or words value []

-- the ids that an element refers to
unfoldable pub references : Row → List (List ℕ)
references r = listed (attribute (codes "aria-labelledby") r) ++ listed (attribute (codes "aria-owns") r)

-- what a node's references and its labels find
abbrev pub found_weight : Trees → Spot → ℕ
found_weight t s = sum_by (id_weight t) (references s.row) + sum_by (weight_of t) (labels_at t s)

unfoldable pub reference_weight : Trees → ℕ
reference_weight t = sum_by (found_weight t) (spots t)
