-- What the classes of rules look at of a page's nodes, of a node. Where a class looks at what the whole page has, only
-- the root does, or a `meta`.
use Rattle.std.specs.Prelude.{List, [], ◌∷◌, ◌++◌, map, not, codes, Bool, false, if◌then◌else◌, Option, option_map, option_and_then}
use Rattle.std.specs.List.{flat_map}
use Rattle.std.specs.Option.{is_some, option_map_or}
use Rattle.snap_tree.specs.declared.row.NodeId.{NodeId}
use Rattle.snap_tree.specs.Lookups.{tagged}
use Rattle.snap_tree.specs.Rows.{is_html}
use Rattle.snap_tree.specs.Trees.{Trees}
use Rattle.acc_tree.specs.declared.above.Above.{Above}
use Rattle.acc_tree.specs.declared.above.TableAbove.{TableAbove}
use Rattle.acc_tree.specs.Sights.{sight_of}
use Rattle.page_keys.specs.Keys.{Key, own_key, tagged_key}
use Rattle.page_keys.specs.Nodes.{self_keys, keys_in, tree_keys, node_keys}
use Rattle.page_keys.specs.References.{reference_keys}

-- the node, its subtree, and what the references of each node of the subtree look at
abbrev pub sub_keys : Trees → NodeId → List Key
sub_keys t n = node_keys t n ++ reference_keys t n

abbrev pub table_in : Above → Option NodeId
table_in above = option_map (λ (a : TableAbove). a.node) above.table

-- the nearest table above a node
abbrev pub table_of : Trees → NodeId → Option NodeId
table_of t n = option_and_then (λ s. table_in s.above) (sight_of t n)

-- the node, and the subtree of the nearest table
abbrev pub table_keys : Trees → NodeId → List Key
table_keys t n = self_keys t n ++ option_map_or (tree_keys t) (table_of t n) []

abbrev pub is_root : Trees → NodeId → Bool
is_root t n = option_map_or (λ s. not (is_some s.row.parent)) (sight_of t n) false

-- which elements are titles, and the subtree of each
abbrev pub titles : Trees → List Key
titles t = tagged_key (codes "title") ∷ flat_map (tree_keys t) (tagged t (codes "title"))

-- the node, and at the root the titles
abbrev pub title_keys : Trees → NodeId → List Key
title_keys t n = self_keys t n ++ (if is_root t n then titles t else [])

abbrev pub is_meta : Trees → NodeId → Bool
is_meta t n = option_map_or (λ s. is_html (codes "meta") s.row) (sight_of t n) false

-- which elements are metas, and what each has of its own
abbrev pub metas : Trees → List Key
metas t = tagged_key (codes "meta") ∷ map own_key (tagged t (codes "meta"))

-- the node, and at a `meta` all metas
abbrev pub metas_keys : Trees → NodeId → List Key
metas_keys t n = self_keys t n ++ (if is_meta t n then metas t else [])

-- the node, and at the root every node
abbrev pub whole_keys : Trees → NodeId → List Key
whole_keys t n = self_keys t n ++ (if is_root t n then keys_in t else [])
