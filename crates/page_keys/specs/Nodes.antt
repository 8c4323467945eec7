-- The keys of a node by itself, of its subtree, and of the two together.
use Rattle.std.specs.Prelude.{List, [], ◌∷◌, ◌++◌, map}
use Rattle.std.specs.Option.{option_map_or}
use Rattle.snap_tree.specs.declared.row.NodeId.{NodeId}
use Rattle.snap_tree.specs.declared.row.Row.{Row}
use Rattle.snap_tree.specs.Spots.{spot}
use Rattle.snap_tree.specs.Trees.{Trees, empty, tree}
use Rattle.page_keys.specs.Keys.{Key, frame_key, own_key, kids_key}

-- the frame of each of these rows
abbrev pub frames_of : List Row → List Key
frames_of rows = map (λ r. frame_key r.id) rows

-- the frames of the nodes above a node
abbrev pub frames_above : Trees → NodeId → List Key
frames_above t n = option_map_or (λ s. frames_of s.above) (spot t n) []

-- Frame and Own of a node, and Frame of each node above it
abbrev pub self_keys : Trees → NodeId → List Key
self_keys t n = frame_key n ∷ own_key n ∷ frames_above t n

-- Frame, Own and Kids of each node of some trees
abbrev pub keys_in : Trees → List Key
keys_in empty = []
keys_in (tree row kids after) = frame_key row.id ∷ own_key row.id ∷ kids_key row.id ∷ (keys_in kids ++ keys_in after)

abbrev pub keys_below : Trees → NodeId → List Key
keys_below t n = option_map_or (λ s. keys_in s.below) (spot t n) []

-- Frame, Own and Kids of each node of a node's subtree, itself included
abbrev pub tree_keys : Trees → NodeId → List Key
tree_keys t n = frame_key n ∷ own_key n ∷ kids_key n ∷ keys_below t n

-- of the two together
abbrev pub node_keys : Trees → NodeId → List Key
node_keys t n = self_keys t n ++ tree_keys t n
