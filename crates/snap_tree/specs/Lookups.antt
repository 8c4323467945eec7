-- Look-ups in a tree.
use Rattle.std.specs.Prelude.{ℕ, List, filter, map, Option}
use Rattle.std.specs.List.{find}
use Rattle.snap_tree.specs.declared.row.NodeId.{NodeId}
use Rattle.snap_tree.specs.declared.row.Row.{Row}
use Rattle.snap_tree.specs.Trees.{Trees, rows_of}
use Rattle.snap_tree.specs.Rows.{has_number, is_html}

-- the row of a number
abbrev pub node : Trees → NodeId → Option Row
node t n = find (has_number n) (rows_of t)

-- the HTML elements of a tag, in document order
abbrev pub tagged : Trees → List ℕ → List NodeId
tagged t tag = map (λ r. r.id) (filter (is_html tag) (rows_of t))
