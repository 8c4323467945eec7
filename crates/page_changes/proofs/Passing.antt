-- What is handed down and up a page tells what its keys do.
use Rattle.std.proofs.Common.{◌≡◌, ◌&&◌, not, List, [], ◌∷◌, ◌++◌, map, codes, Bool, false, Some, option_map, option_and_then, refl, sym, ◌∙◌, ap}
use Rattle.std.proofs.lemmas.List.Folds.{list_all-append}
use Rattle.std.proofs.lemmas.List.{map-append}
use Rattle.std.specs.Option.{option_eq, option_map_or, is_some}
use Rattle.std.specs.Cmp.Lexicographic.{pointwise}
use Rattle.snap_tree.specs.declared.row.Row.{Row}
use Rattle.snap_tree.specs.Rows.{is_html}
use Rattle.snap_tree.specs.Spots.{Spot, spot}
use Rattle.snap_tree.specs.Trees.{Trees, empty, tree, rows_of}
use Rattle.acc_tree.specs.Frames.{frame, above_of}
use Rattle.acc_tree.specs.Sights.{Sight}
use Rattle.page_keys.specs.Keys.{frame_key, own_key, kids_key, own, root_numbers, frame_at, own_at, kids_at}
use Rattle.page_keys.specs.Same.{same_node, same_frame, same_own, same, all_same}
use Rattle.page_keys.specs.Nodes.{frames_of, frames_above, keys_in, keys_below}
use Rattle.page_keys.specs.Classes.{table_in, table_of, is_root, is_meta}
use Rattle.page_keys.specs.Standing.{spot_with, Stand}
use Rattle.page_keys.proofs.Agreeing.{spot_sight}
use Rattle.page_changes.specs.Here.{frame_here, own_here, kids_here, tree_here, marks_at, marks_here}
use Rattle.page_changes.specs.Marks.{marks_of}

-- ---- a node in its place

pub frame_is : (old new : Trees) (row : Row) (kids : Trees) (above : List Row) → spot old row.id ≡ Some (spot_with row kids above) → frame_here new (above_of above) row ≡ same old new (frame_key row.id)
unfolding same
frame_is old new row kids above e = sym (ap (λ o. option_eq same_frame (option_map (λ (s : Sight). frame s.above s.row) o) (frame_at new row.id)) (spot_sight old row.id (spot_with row kids above) e))

pub own_is : (old new : Trees) (row : Row) (kids : Trees) (above : List Row) → spot old row.id ≡ Some (spot_with row kids above) → own_here new row ≡ same old new (own_key row.id)
unfolding same
own_is old new row kids above e = sym (ap (λ o. option_eq same_own (option_map (λ (s : Sight). own s.row) o) (own_at new row.id)) (spot_sight old row.id (spot_with row kids above) e))

kids_is : (old new : Trees) (row : Row) (kids : Trees) (above : List Row) → spot old row.id ≡ Some (spot_with row kids above) → kids_here new row kids ≡ same old new (kids_key row.id)
unfolding same
kids_is old new row kids above e = sym (ap (λ o. option_eq (pointwise same_node) (option_map (λ (s : Sight). root_numbers s.below) o) (kids_at new row.id)) (spot_sight old row.id (spot_with row kids above) e))

-- ---- handed up

pub tree_is : (old new : Trees) (above : List Row) (t : Trees) → Stand old above t → tree_here new (above_of above) t ≡ all_same old new (keys_in t)
tree_is old new above empty p = refl
tree_is old new above (tree row kids after) p =
    let down : tree_here new (above_of (row ∷ above)) kids ≡ all_same old new (keys_in kids) = tree_is old new (row ∷ above) kids p.1.0 in
    let on : tree_here new (above_of above) after ≡ all_same old new (keys_in after) = tree_is old new above after p.1.1 in
    let parts : (all_same old new (keys_in kids) && all_same old new (keys_in after)) ≡ all_same old new (keys_in kids ++ keys_in after) = sym (list_all-append (same old new) (keys_in kids) (keys_in after)) in
    (λ i. frame_is old new row kids above p.0 i && (own_is old new row kids above p.0 i && (kids_is old new row kids above p.0 i && (down i && on i))))
    ∙ ap (λ b. same old new (frame_key row.id) && (same old new (own_key row.id) && (same old new (kids_key row.id) && b))) parts

-- ---- handed down

mark_is : (old new : Trees) (above : List Row) (above_same : Bool) (row : Row) (kids : Trees) → spot old row.id ≡ Some (spot_with row kids above) → Stand old (row ∷ above) kids → above_same ≡ all_same old new (frames_of above)
    → marks_at new (above_of above) above_same row kids ≡ marks_of old new row.id
mark_is old new above above_same row kids e p s =
    let up : above_same ≡ all_same old new (frames_above old row.id) = s ∙ sym (ap (λ o. all_same old new (option_map_or (λ (s : Spot). frames_of s.above) o [])) e) in
    let below : tree_here new (above_of (row ∷ above)) kids ≡ all_same old new (keys_below old row.id) =
    tree_is old new (row ∷ above) kids p ∙ sym (ap (λ o. all_same old new (option_map_or (λ (s : Spot). keys_in s.below) o [])) e) in
    let sight = spot_sight old row.id (spot_with row kids above) e in
    let root : not (is_some row.parent) ≡ is_root old row.id = sym (ap (λ o. option_map_or (λ (s : Sight). not (is_some s.row.parent)) o false) sight) in
    let meta : is_html (codes "meta") row ≡ is_meta old row.id = sym (ap (λ o. option_map_or (λ (s : Sight). is_html (codes "meta") s.row) o false) sight) in
    let table : table_in (above_of above) ≡ table_of old row.id = sym (ap (option_and_then (λ (s : Sight). table_in s.above)) sight) in
    λ i. record {
      node = row.id;
      root = root i;
      meta = meta i;
      table = table i;
      itself = frame_is old new row kids above e i && (own_is old new row kids above e i && up i);
      own = own_is old new row kids above e i;
      tree = frame_is old new row kids above e i && (own_is old new row kids above e i && (kids_is old new row kids above e i && below i));
    }

pub marks_are : (old new : Trees) (above : List Row) (above_same : Bool) (t : Trees) → Stand old above t → above_same ≡ all_same old new (frames_of above)
    → marks_here new (above_of above) above_same t ≡ map (λ row. marks_of old new row.id) (rows_of t)
marks_are old new above above_same empty p s = refl
marks_are old new above above_same (tree row kids after) p s =
    let first : marks_at new (above_of above) above_same row kids ≡ marks_of old new row.id = mark_is old new above above_same row kids p.0 p.1.0 s in
    let more : (frame_here new (above_of above) row && above_same) ≡ all_same old new (frames_of (row ∷ above)) = λ i. frame_is old new row kids above p.0 i && s i in
    let down = marks_are old new (row ∷ above) (frame_here new (above_of above) row && above_same) kids p.1.0 more in
    let on = marks_are old new above above_same after p.1.1 s in
    (λ i. first i ∷ down i ++ on i) ∙ ap (λ xs. marks_of old new row.id ∷ xs) (sym (map-append (λ (r : Row). marks_of old new r.id) (rows_of kids) (rows_of after)))
