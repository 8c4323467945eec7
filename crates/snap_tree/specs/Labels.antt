-- Ids and labels: which element an id finds, which elements can have labels, and which they are.
use Rattle.std.specs.Prelude.{◌&&◌, ◌||◌, not, ℕ, List, [], ◌∷◌, ◌++◌, map, filter, codes, Bool, false, if◌then◌else◌, Option, Some, None, option_map, option_and_then}
use Rattle.std.specs.Option.{is_some, option_map_or, option_to_list}
use Rattle.std.specs.List.{find}
use Rattle.snap_tree.specs.declared.row.NodeId.{NodeId}
use Rattle.snap_tree.specs.declared.row.Row.{Row}
use Rattle.snap_tree.specs.Trees.{Trees, rows_of}
use Rattle.snap_tree.specs.Grown.{is_number}
use Rattle.snap_tree.specs.Rows.{is_html, attribute, is_key}
use Rattle.texts.specs.Words.{same_folded}
use Rattle.snap_tree.specs.Spots.{Spot, spot}

-- a value that isn't empty
abbrev pub filled : Option (List ℕ) → Option (List ℕ)
filled None = None
filled (Some []) = None
filled (Some (b ∷ text)) = Some (b ∷ text)

-- an element's id, which compares exactly; an empty one names nothing, and so is none
unfoldable pub id_of : Row → Option (List ℕ)
id_of r = filled (attribute (codes "id") r)

-- the number of the first element with this id
abbrev pub first_with_id : Trees → List ℕ → Option NodeId
first_with_id t id = option_map (λ r. r.id) (find (λ r. is_key id (id_of r)) (rows_of t))

-- ---- what can have a label

-- the type is this word
abbrev pub has_type : List ℕ → Row → Bool
has_type word r = option_map_or (same_folded word) (attribute (codes "type") r) false

-- HTML's labelable elements: button, meter, output, progress, select, textarea, and input unless it is hidden
unfoldable pub is_labelable : Row → Bool
is_labelable r =
    is_html (codes "button") r || is_html (codes "meter") r || is_html (codes "output") r
    || is_html (codes "progress") r || is_html (codes "select") r || is_html (codes "textarea") r
    || (is_html (codes "input") r && not (has_type (codes "hidden") r))

-- ---- labels that name an id

unfoldable pub is_label : Row → Bool
is_label r = is_html (codes "label") r

-- it has a `for`, be it an empty one
unfoldable pub has_for : Row → Bool
has_for r = is_some (attribute (codes "for") r)

-- the id that a label names
unfoldable pub for_of : Row → Option (List ℕ)
for_of r = if is_label r then filled (attribute (codes "for") r) else None

-- the labels that name this id, in document order
abbrev pub labels_naming : Trees → List ℕ → List NodeId
labels_naming t id = map (λ r. r.id) (filter (λ r. is_key id (for_of r)) (rows_of t))

-- the labels that name the element's id, where it is the first element with that id
abbrev pub labels_by : Trees → NodeId → Option (List ℕ) → List NodeId
labels_by t n None = []
labels_by t n (Some id) = if is_number (first_with_id t id) n then labels_naming t id else []

-- ---- the label around an element

-- the first labelable element below a node
abbrev pub first_labelable : Trees → NodeId → Option NodeId
first_labelable t n = option_and_then (λ s. option_map (λ r. r.id) (find is_labelable (rows_of s.below))) (spot t n)

-- a label counts for the first labelable element below it, unless it has a `for`
abbrev pub counts_for : Trees → Row → NodeId → Bool
counts_for t label n = not (has_for label) && is_number (first_labelable t label.id) n

-- the nearest label above a node, where it counts for the node; one further out is never tried
abbrev pub outer_label : Trees → Spot → Option NodeId
outer_label t s = option_and_then (λ label. if counts_for t label s.row.id then Some label.id else None) (find is_label s.above)

-- ---- all labels

-- those of a row, given the label around it that counts for it
abbrev pub labels_with : Trees → Row → Option NodeId → List NodeId
labels_with t r outer = if is_labelable r then labels_by t r.id (id_of r) ++ option_to_list outer else []

abbrev pub labels_at : Trees → Spot → List NodeId
labels_at t s = labels_with t s.row (outer_label t s)

-- the labels of a node: first those that name its id, then the one around it; none for a node that can't
-- have one, and for a stranger
abbrev pub labels_for : Trees → NodeId → List NodeId
labels_for t n = option_map_or (labels_at t) (spot t n) []
