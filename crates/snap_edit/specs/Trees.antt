-- Trees with a node changed, taken out or put in. A page's numbers differ, so that the first node of a
-- number is the only one.
use Rattle.std.specs.Prelude.{ℕ, zero, suc, if◌then◌else◌, Some}
use Rattle.snap_tree.specs.declared.row.NodeId.{NodeId}
use Rattle.snap_tree.specs.declared.row.Row.{Row}
use Rattle.snap_tree.specs.Trees.{Trees, empty, tree, beside}
use Rattle.snap_tree.specs.Rows.{has_number}

-- in place of the first node of this number stand other trees, made of its row and of what is below it
abbrev pub replaced : NodeId → (Row → Trees → Trees) → Trees → Trees
replaced n f empty = empty
replaced n f (tree r kids after) = if has_number n r then beside (f r kids) after else tree r (replaced n f kids) (replaced n f after)

-- the node's row is changed, and what is below it stays
abbrev pub changed : NodeId → (Row → Row) → Trees → Trees
changed n f t = replaced n (λ r kids. tree (f r) kids empty) t

-- the node goes, and all that is below it
abbrev pub without : NodeId → Trees → Trees
without n t = replaced n (λ r kids. empty) t

-- the trees with others after this many of them
abbrev pub put_at : ℕ → Trees → Trees → Trees
put_at zero others t = beside others t
put_at (suc k) others empty = others
put_at (suc k) others (tree r kids after) = tree r kids (put_at k others after)

-- other trees stand below the node, after this many of its children
abbrev pub inserted : NodeId → ℕ → Trees → Trees → Trees
inserted p place others t = replaced p (λ r kids. tree r (put_at place others kids) empty) t

-- the row names this parent
abbrev pub with_parent : NodeId → Row → Row
with_parent p r = record { id = r.id; parent = Some p; body = r.body; facts = r.facts }

-- the first tree's root names this parent
abbrev pub hung : NodeId → Trees → Trees
hung p empty = empty
hung p (tree r kids after) = tree (with_parent p r) kids after
