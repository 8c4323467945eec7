-- What the references of a node look at: the keys of the words that they are made of, and the nodes found.
use Rattle.std.specs.Prelude.{ℕ, List, [], ◌∷◌, ◌++◌, map, if◌then◌else◌, Option, Some, None, option_map}
use Rattle.std.specs.List.{find, flat_map}
use Rattle.std.specs.Option.{option_map_or, option_to_list}
use Rattle.snap_tree.specs.declared.row.NodeId.{NodeId}
use Rattle.snap_tree.specs.declared.row.Row.{Row}
use Rattle.snap_tree.specs.Labels.{id_of, is_labelable, is_label, labels_naming}
use Rattle.snap_tree.specs.Spots.{spot}
use Rattle.snap_tree.specs.Trees.{Trees, empty, tree}
use Rattle.acc_tree.specs.References.{found, reference_words}
use Rattle.page_keys.specs.Keys.{Key, id_key, label_key}
use Rattle.page_keys.specs.Nodes.{node_keys}

-- ---- the keys of references

-- of an id that labels may name, also where none does
abbrev pub keys_of_id : Option (List ℕ) → List Key
keys_of_id None = []
keys_of_id (Some id) = id_key id ∷ label_key id ∷ []

-- of a row that can have labels
abbrev pub label_keys : Row → List Key
label_keys row = if is_labelable row then keys_of_id (id_of row) else []

-- each word of a reference is an id, whether it finds an element or none
abbrev pub word_keys : Row → List Key
word_keys row = map id_key (reference_words row)

-- ---- the nodes found

abbrev pub labels_of_id : Trees → Option (List ℕ) → List NodeId
labels_of_id t None = []
labels_of_id t (Some id) = labels_naming t id

-- the number of the nearest label among the nodes above
abbrev pub nearest_label : List Row → Option NodeId
nearest_label above = option_map (λ r. r.id) (find is_label above)

-- the labels of a row below these nodes: each that names its id, and the nearest label around it
abbrev pub labels_found : Trees → List Row → Row → List NodeId
labels_found t above row =
    if is_labelable row then labels_of_id t (id_of row) ++ option_to_list (nearest_label above) else []

abbrev pub words_found : Trees → Row → List NodeId
words_found t row = found t (reference_words row)

-- ---- what all this looks at

-- the references of one row below these nodes
abbrev pub references_of : Trees → List Row → Row → List Key
references_of t above row =
    (word_keys row ++ label_keys row) ++ flat_map (node_keys t) (words_found t row ++ labels_found t above row)

-- those of each row of some trees below these nodes
abbrev pub references_in : Trees → List Row → Trees → List Key
references_in t above empty = []
references_in t above (tree row kids after) =
    references_of t above row ++ (references_in t (row ∷ above) kids ++ references_in t above after)

-- those of a node and of all below it
abbrev pub reference_keys : Trees → NodeId → List Key
reference_keys t n =
    option_map_or (λ s. references_of t s.above s.row ++ references_in t (s.row ∷ s.above) s.below) (spot t n) []
