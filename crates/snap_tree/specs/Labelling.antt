-- How labels are found: those that name an id by groups, and those around elements from the top down.
use Rattle.std.specs.Prelude.{◌==◌, ◌&&◌, ◌||◌, not, ℕ, List, [], ◌∷◌, ◌++◌, codes, Bool, if◌then◌else◌, Option, Some, None, option_map, String, Vec}
use Rattle.std.specs.Option.{option_to_list}
use Rattle.std.specs.List.{find, slice_get}
use Rattle.std.specs.BTreeMap.{BTreeMap}
use Rattle.std.specs.declared.alloc.Global.{Global}
use Rattle.snap_tree.specs.declared.row.NodeId.{NodeId}
use Rattle.snap_tree.specs.declared.row.Row.{Row}
use Rattle.snap_tree.specs.declared.labels.Around.{Around}
use Rattle.snap_tree.specs.Trees.{Trees, empty, tree, rows_of}
use Rattle.snap_tree.specs.Grown.{is_number}
use Rattle.snap_tree.specs.Groups.{group_at}
use Rattle.snap_tree.specs.Labels.{id_of, has_type, is_labelable, is_label, has_for}
use Rattle.texts.specs.Words.{same_folded}

-- the labels that name an element's id, found in the groups of ids and of what labels name
abbrev pub labels_in : BTreeMap (String Global) (Vec NodeId Global) → BTreeMap (String Global) (Vec NodeId Global) → NodeId → Option (List ℕ) → List NodeId
labels_in ids fors n None = []
labels_in ids fors n (Some id) = if is_number (slice_get (group_at ids id) 0) n then group_at fors id else []

-- all labels of a row, given the label around it that counts for it
abbrev pub all_labels_in : BTreeMap (String Global) (Vec NodeId Global) → BTreeMap (String Global) (Vec NodeId Global) → Row → Option NodeId → List NodeId
all_labels_in ids fors r outer = if is_labelable r then labels_in ids fors r.id (id_of r) ++ option_to_list outer else []

-- the tag is input, and the row's type isn't hidden
abbrev pub is_shown_input : Row → List ℕ → Bool
is_shown_input r tag = same_folded (codes "input") tag && not (has_type (codes "hidden") r)

-- an HTML element of this tag is labelable
abbrev pub is_labelable_by : Row → List ℕ → Bool
is_labelable_by r tag =
    same_folded (codes "button") tag || same_folded (codes "meter") tag || same_folded (codes "output") tag
    || same_folded (codes "progress") tag || same_folded (codes "select") tag || same_folded (codes "textarea") tag
    || is_shown_input r tag

-- what a label around the rows counts for
abbrev pub around_by : Row → List Row → Option Around
around_by label rows = if has_for label then None else option_map (λ r. record { label = label.id; first = r.id }) (find is_labelable rows)

-- below a node: the node itself where it is a label, else what is around the node
abbrev pub around_below : Row → List Row → Option Around → Option Around
around_below r rows around = if is_label r then around_by r rows else around

-- the label around a node, where it counts for the node
abbrev pub label_around : NodeId → Option Around → Option NodeId
label_around n None = None
label_around n (Some around) = if around.first.0 == n.0 then Some around.label else None

-- for each node of some trees, in document order
abbrev pub labels_around : Option Around → Trees → List (Option NodeId)
labels_around around empty = []
labels_around around (tree r kids after) =
    label_around r.id around ∷ labels_around (around_below r (rows_of kids) around) kids ++ labels_around around after
