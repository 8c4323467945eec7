-- What of each node of a page is the same on another page, but for references.
use Rattle.std.specs.Prelude.{◌≡◌, map}
use Rattle.snap_tree.specs.declared.row.NodeId.{NodeId}
use Rattle.snap_tree.specs.Trees.{Trees, rows_of}
use Rattle.page_keys.specs.Keys.{own_key}
use Rattle.page_keys.specs.Same.{same, all_same}
use Rattle.page_keys.specs.Nodes.{self_keys, tree_keys, keys_in}
use Rattle.page_keys.specs.Classes.{table_of, is_root, is_meta}
use Rattle.page_changes.specs.declared.marks.Marks.{Marks}
use Rattle.page_changes.specs.declared.marks.PageMarks.{PageMarks}

-- the marks of a number: what its node is, and whether the pages agree on lists of keys
abbrev pub marks_of : Trees → Trees → NodeId → Marks
marks_of old new n = record {
  node = n;
  root = is_root old n;
  meta = is_meta old n;
  table = table_of old n;
  itself = all_same old new (self_keys old n);
  own = same old new (own_key n);
  tree = all_same old new (tree_keys old n);
}

-- the marks of each node, and whether the pages agree on all nodes
pub record AreMarks (old new : Trees) (marks : PageMarks) : Type 0 where
  pub each : marks.each.items ≡ map (λ row. marks_of old new row.id) (rows_of old)
  pub all : marks.all ≡ all_same old new (keys_in old)
