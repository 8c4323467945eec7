-- What is handed down and up of references tells what their keys do.
use Rattle.std.proofs.Common.{◌≡◌, ◌&&◌, ℕ, List, [], ◌∷◌, ◌++◌, filter, map, Bool, true, false, if◌then◌else◌, Option, Some, None, option_map, refl, sym, ◌∙◌, ap}
use Rattle.std.proofs.lemmas.Grind.{flat_map-append}
use Rattle.std.proofs.lemmas.List.Folds.{list_all-append}
use Rattle.std.proofs.lemmas.List.{map-append}
use Rattle.std.specs.List.{find, flat_map, cons_option}
use Rattle.std.specs.Option.{option_map_or, option_to_list}
use Rattle.snap_tree.specs.declared.row.NodeId.{NodeId}
use Rattle.snap_tree.specs.declared.row.Row.{Row}
use Rattle.snap_tree.specs.Labels.{first_with_id, id_of, for_of, is_label, is_labelable, labels_naming}
use Rattle.snap_tree.specs.Rows.{is_key}
use Rattle.snap_tree.specs.Spots.{Spot}
use Rattle.snap_tree.specs.Trees.{Trees, empty, tree, rows_of}
use Rattle.acc_tree.specs.References.{found, reference_words}
use Rattle.acc_tree.specs.Seen.{seen_row, seen}
use Rattle.acc_tree.proofs.Finding.{rows_seen}
use Rattle.page_keys.specs.Keys.{id_key, label_key}
use Rattle.page_keys.specs.Same.{same, all_same}
use Rattle.page_keys.specs.Nodes.{node_keys}
use Rattle.page_keys.specs.References.{keys_of_id, label_keys, word_keys, labels_of_id, nearest_label, labels_found, words_found, references_of, references_in, reference_keys}
use Rattle.page_keys.specs.Standing.{Stand}
use Rattle.page_changes.specs.References.{naming, nodes_same, word_same, words_same, id_same, labels_same, row_same, label_under, rows_same, below_same}

-- ---- labels of a page

naming_rows : (id : List ℕ) (rows : List Row) → naming id rows ≡ map (λ r. r.id) (filter (λ r. is_key id (for_of r)) (map seen_row rows))
naming_rows id [] = refl
naming_rows id (row ∷ rows) = by_key (is_key id (for_of (seen_row row))) (naming_rows id rows)
  where
    by_key : (b : Bool) → naming id rows ≡ map (λ (r : Row). r.id) (filter (λ r. is_key id (for_of r)) (map seen_row rows))
        → map (λ (r : Row). r.id) (if b then row ∷ filter (λ r. is_key id (for_of (seen_row r))) rows else filter (λ r. is_key id (for_of (seen_row r))) rows)
        ≡ map (λ (r : Row). r.id) (if b then seen_row row ∷ filter (λ r. is_key id (for_of r)) (map seen_row rows) else filter (λ r. is_key id (for_of r)) (map seen_row rows))
    by_key true h = ap (λ ns. row.id ∷ ns) h
    by_key false h = h

pub naming_page : (id : List ℕ) (t : Trees) → naming id (rows_of t) ≡ labels_naming (seen t) id
naming_page id t = naming_rows id (rows_of t) ∙ ap (λ rows. map (λ (r : Row). r.id) (filter (λ r. is_key id (for_of r)) rows)) (sym (rows_seen t))

-- ---- one row

exchange : (a b c d : Bool) → ((a && b) && (c && d)) ≡ ((a && c) && (b && d))
exchange false b c d = refl
exchange true false false d = refl
exchange true false true d = refl
exchange true true c d = refl

joins : (o : Option NodeId) (ms : List NodeId) → option_to_list o ++ ms ≡ cons_option o ms
joins None ms = refl
joins (Some m) ms = refl

nodes_parts : (old new : Trees) (xs ys : List NodeId) → (nodes_same old new xs && nodes_same old new ys) ≡ nodes_same old new (xs ++ ys)
nodes_parts old new xs ys =
    sym (list_all-append (same old new) (flat_map (node_keys old) xs) (flat_map (node_keys old) ys)) ∙ ap (all_same old new) (sym (flat_map-append (node_keys old) xs ys))

words_are : (old new : Trees) (words : List (List ℕ)) → words_same old new words ≡ (all_same old new (map id_key words) && nodes_same old new (found old words))
words_are old new [] = refl
words_are old new (word ∷ words) =
    ap (λ b. word_same old new word && b) (words_are old new words)
    ∙ exchange (same old new (id_key word)) (nodes_same old new (option_to_list (first_with_id old word))) (all_same old new (map id_key words)) (nodes_same old new (found old words))
    ∙ ap (λ b. (same old new (id_key word) && all_same old new (map id_key words)) && b)
    (nodes_parts old new (option_to_list (first_with_id old word)) (found old words) ∙ ap (nodes_same old new) (joins (first_with_id old word) (found old words)))

ids_are : (old new : Trees) (id : Option (List ℕ)) (label : Option NodeId) → (id_same old new id && nodes_same old new (option_to_list label)) ≡ (all_same old new (keys_of_id id) && nodes_same old new (labels_of_id old id ++ option_to_list label))
ids_are old new None label = refl
ids_are old new (Some id) label =
    regroup (same old new (id_key id)) (same old new (label_key id)) (nodes_same old new (labels_naming old id)) (nodes_same old new (option_to_list label))
    ∙ ap (λ b. (same old new (id_key id) && (same old new (label_key id) && true)) && b) (nodes_parts old new (labels_naming old id) (option_to_list label))
  where
    regroup : (a b c d : Bool) → ((a && (b && c)) && d) ≡ ((a && (b && true)) && (c && d))
    regroup false b c d = refl
    regroup true false c d = refl
    regroup true true c d = refl

labels_are : (old new : Trees) (above : List Row) (row : Row) → labels_same old new (nearest_label above) row ≡ (all_same old new (label_keys row) && nodes_same old new (labels_found old above row))
labels_are old new above row = by_kind (is_labelable row)
  where
    by_kind : (b : Bool) → (if b then id_same old new (id_of row) && nodes_same old new (option_to_list (nearest_label above)) else true)
        ≡ (all_same old new (if b then keys_of_id (id_of row) else []) && nodes_same old new (if b then labels_of_id old (id_of row) ++ option_to_list (nearest_label above) else []))
    by_kind true = ids_are old new (id_of row) (nearest_label above)
    by_kind false = refl

pub row_is : (old new : Trees) (above : List Row) (row : Row) → row_same old new (nearest_label above) row ≡ all_same old new (references_of old above row)
row_is old new above row =
    (λ i. words_are old new (reference_words row) i && labels_are old new above row i)
    ∙ exchange (all_same old new (word_keys row)) (nodes_same old new (words_found old row)) (all_same old new (label_keys row)) (nodes_same old new (labels_found old above row))
    ∙ (λ i. sym (list_all-append (same old new) (word_keys row) (label_keys row)) i && nodes_parts old new (words_found old row) (labels_found old above row) i)
    ∙ sym (list_all-append (same old new) (word_keys row ++ label_keys row) (flat_map (node_keys old) (words_found old row ++ labels_found old above row)))

-- ---- through trees

label_is : (above : List Row) (row : Row) → label_under (nearest_label above) row ≡ nearest_label (row ∷ above)
label_is above row = by_label (is_label row)
  where
    by_label : (b : Bool) → (if b then Some row.id else nearest_label above) ≡ option_map (λ (r : Row). r.id) (if b then Some row else find is_label above)
    by_label true = refl
    by_label false = refl

pub rows_are : (old new : Trees) (above : List Row) (label : Option NodeId) (t : Trees) → label ≡ nearest_label above → rows_same old new label t ≡ all_same old new (references_in old above t)
rows_are old new above label empty l = refl
rows_are old new above label (tree row kids after) l =
    let here : row_same old new label row ≡ all_same old new (references_of old above row) = ap (λ l. row_same old new l row) l ∙ row_is old new above row in
    let under : label_under label row ≡ nearest_label (row ∷ above) = ap (λ l. label_under l row) l ∙ label_is above row in
    let down = rows_are old new (row ∷ above) (label_under label row) kids under in
    let on = rows_are old new above label after l in
    (λ i. here i && (down i && on i))
    ∙ ap (λ b. all_same old new (references_of old above row) && b) (sym (list_all-append (same old new) (references_in old (row ∷ above) kids) (references_in old above after)))
    ∙ sym (list_all-append (same old new) (references_of old above row) (references_in old (row ∷ above) kids ++ references_in old above after))

pub below_are : (old new : Trees) (above : List Row) (label : Option NodeId) (t : Trees) → Stand old above t → label ≡ nearest_label above → below_same old new label t ≡ map (λ row. all_same old new (reference_keys old row.id)) (rows_of t)
below_are old new above label empty p l = refl
below_are old new above label (tree row kids after) p l =
    let here : row_same old new label row ≡ all_same old new (references_of old above row) = ap (λ l. row_same old new l row) l ∙ row_is old new above row in
    let under : label_under label row ≡ nearest_label (row ∷ above) = ap (λ l. label_under l row) l ∙ label_is above row in
    let inner = rows_are old new (row ∷ above) (label_under label row) kids under in
    let first : (row_same old new label row && rows_same old new (label_under label row) kids) ≡ all_same old new (reference_keys old row.id) =
    (λ i. here i && inner i) ∙ sym (list_all-append (same old new) (references_of old above row) (references_in old (row ∷ above) kids))
    ∙ sym (ap (λ o. all_same old new (option_map_or (λ (s : Spot). references_of old s.above s.row ++ references_in old (s.row ∷ s.above) s.below) o [])) p.0) in
    let down = below_are old new (row ∷ above) (label_under label row) kids p.1.0 under in
    let on = below_are old new above label after p.1.1 l in
    (λ i. first i ∷ down i ++ on i) ∙ ap (λ xs. all_same old new (reference_keys old row.id) ∷ xs) (sym (map-append (λ (r : Row). all_same old new (reference_keys old r.id)) (rows_of kids) (rows_of after)))
