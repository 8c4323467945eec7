-- What is the same on another page, of nodes in their places on this one.
use Rattle.std.specs.Prelude.{◌&&◌, not, List, [], ◌∷◌, ◌++◌, codes, Bool, true, Some}
use Rattle.std.specs.Option.{option_eq, is_some}
use Rattle.std.specs.Cmp.Lexicographic.{pointwise}
use Rattle.snap_tree.specs.declared.row.Row.{Row}
use Rattle.snap_tree.specs.Rows.{is_html}
use Rattle.snap_tree.specs.Trees.{Trees, empty, tree}
use Rattle.acc_tree.specs.declared.above.Above.{Above}
use Rattle.acc_tree.specs.Frames.{frame, under}
use Rattle.page_keys.specs.Keys.{own, root_numbers, frame_at, own_at, kids_at}
use Rattle.page_keys.specs.Same.{same_node, same_frame, same_own}
use Rattle.page_keys.specs.Classes.{table_in}
use Rattle.page_changes.specs.declared.marks.Marks.{Marks}

-- the other page has this frame, these own parts, these children at the node's number

abbrev pub frame_here : Trees → Above → Row → Bool
frame_here new above row = option_eq same_frame (Some (frame above row)) (frame_at new row.id)

abbrev pub own_here : Trees → Row → Bool
own_here new row = option_eq same_own (Some (own row)) (own_at new row.id)

abbrev pub kids_here : Trees → Row → Trees → Bool
kids_here new row kids = option_eq (pointwise same_node) (Some (root_numbers kids)) (kids_at new row.id)

-- everything of these trees is the same, which stand under this
abbrev pub tree_here : Trees → Above → Trees → Bool
tree_here new above empty = true
tree_here new above (tree row kids after) =
    frame_here new above row && (own_here new row && (kids_here new row kids && (tree_here new (under above row) kids && tree_here new above after)))

-- the marks of a node in its place; whether the frames above it are the same is handed down
abbrev pub marks_at : Trees → Above → Bool → Row → Trees → Marks
marks_at new above above_same row kids = record {
  node = row.id;
  root = not (is_some row.parent);
  meta = is_html (codes "meta") row;
  table = table_in above;
  itself = frame_here new above row && (own_here new row && above_same);
  own = own_here new row;
  tree = frame_here new above row && (own_here new row && (kids_here new row kids && tree_here new (under above row) kids));
}

abbrev pub marks_here : Trees → Above → Bool → Trees → List Marks
marks_here new above above_same empty = []
marks_here new above above_same (tree row kids after) =
    marks_at new above above_same row kids ∷ marks_here new (under above row) (frame_here new above row && above_same) kids ++ marks_here new above above_same after
