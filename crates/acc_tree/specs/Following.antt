-- What an element takes in from elsewhere on the page by aria-owns (WAI-ARIA 1.2, "aria-owns").
use Rattle.std.specs.Prelude.{◌==◌, ◌&&◌, not, List, [], ◌∷◌, filter, Bool, false, Option, Some, None}
use Rattle.std.specs.List.{list_any, filter_map}
use Rattle.std.specs.Option.{option_map_or}
use Rattle.aria_tables.specs.declared.attr.AriaAttr.TheVariants as aria
use Rattle.snap_tree.specs.declared.row.NodeId.{NodeId}
use Rattle.snap_tree.specs.declared.row.Row.{Row}
use Rattle.snap_tree.specs.Rows.{has_number}
use Rattle.snap_tree.specs.Spots.{spot}
use Rattle.snap_tree.specs.Trees.{Trees}
use Rattle.acc_tree.specs.References.{found, named_by}
use Rattle.acc_tree.specs.Sights.{Sight, sight_of}

-- two numbers are one
abbrev pub is_same : NodeId → NodeId → Bool
is_same n m = n.0 == m.0

-- each number once, where it stands first
abbrev pub once : List NodeId → List NodeId
once [] = []
once (n ∷ ns) = n ∷ filter (λ m. not (is_same n m)) (once ns)

-- the nodes above the children of a number, the nearest first; none above the roots, and above those of a stranger
abbrev pub rows_above : Trees → Option NodeId → List Row
rows_above trees None = []
rows_above trees (Some n) = option_map_or (λ s. s.row ∷ s.above) (spot trees n) []

-- the node n is an ancestor of m
abbrev pub is_ancestor : Trees → NodeId → NodeId → Bool
is_ancestor trees n m = option_map_or (λ s. list_any (has_number n) s.above) (spot trees m) false

-- m is neither n nor an ancestor nor a descendant of n
abbrev pub are_apart : Trees → NodeId → NodeId → Bool
are_apart trees n m = not (is_same n m) && (not (is_ancestor trees m n) && not (is_ancestor trees n m))

-- the nodes that this row of the page follows: each is the first element whose id is some word of the row's aria-owns,
-- and stands apart from the row's own node. They stand in the order of the words, each once.
abbrev pub follows : Trees → Row → List NodeId
follows trees row = filter (are_apart trees row.id) (once (found trees (named_by aria.Owns row)))

-- these nodes as they are seen where they stand: the row of each, what is below it, and what is above it
abbrev pub followed : Trees → Row → List Sight
followed trees row = filter_map (sight_of trees) (follows trees row)
