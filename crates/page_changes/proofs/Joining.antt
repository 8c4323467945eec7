-- The flags of each class, by what was found on one pass after another.
use Rattle.std.proofs.Common.{◌≡◌, ◌&&◌, ◌||◌, not, List, [], ◌∷◌, ◌++◌, map, Bool, true, false, if◌then◌else◌, refl, sym, ◌∙◌, ap}
use Rattle.std.proofs.lemmas.List.Folds.{list_all-append}
use Rattle.std.specs.Option.{option_map_or}
use Rattle.snap_tree.specs.declared.row.NodeId.{NodeId}
use Rattle.snap_tree.specs.declared.row.Row.{Row}
use Rattle.snap_tree.specs.Trees.{Trees}
use Rattle.page_keys.specs.Keys.{Key}
use Rattle.page_keys.specs.Same.{same, all_same}
use Rattle.page_keys.specs.Nodes.{self_keys, tree_keys, node_keys, keys_in}
use Rattle.page_keys.specs.References.{reference_keys}
use Rattle.page_keys.specs.Classes.{sub_keys, table_of, table_keys, is_root, titles, is_meta, metas}
use Rattle.page_changes.specs.declared.flags.Common.{Common}
use Rattle.page_changes.specs.Marks.{marks_of}
use Rattle.page_changes.specs.Flags.{flags_of, IsCommon, flags_at, joined}

-- more keys, which are looked at where a node is of some kind
where_so : (old new : Trees) (mine more : List Key) (kind found : Bool) → found ≡ all_same old new more → (all_same old new mine && (not kind || found)) ≡ all_same old new (mine ++ (if kind then more else []))
where_so old new mine more true found h = ap (λ b. all_same old new mine && b) h ∙ sym (list_all-append (same old new) mine more)
where_so old new mine more false found h = sym (list_all-append (same old new) mine [])

both : (old new : Trees) (n : NodeId) → (all_same old new (self_keys old n) && (all_same old new (tree_keys old n) && all_same old new (reference_keys old n))) ≡ all_same old new (sub_keys old n)
both old new n =
    regroup (all_same old new (self_keys old n)) (all_same old new (tree_keys old n)) (all_same old new (reference_keys old n))
    ∙ ap (λ b. b && all_same old new (reference_keys old n)) (sym (list_all-append (same old new) (self_keys old n) (tree_keys old n))) ∙ sym (list_all-append (same old new) (node_keys old n) (reference_keys old n))
  where
    regroup : (a b c : Bool) → (a && (b && c)) ≡ ((a && b) && c)
    regroup true b c = refl
    regroup false b c = refl

flags_are : (old new : Trees) (common : Common) → IsCommon old new common → (n : NodeId) → flags_at old new common (marks_of old new n) (all_same old new (reference_keys old n)) ≡ flags_of old new n
flags_are old new common h n =
    let sub = both old new n in
    let table : (all_same old new (self_keys old n) && all_same old new (option_map_or (tree_keys old) (table_of old n) [])) ≡ all_same old new (table_keys old n) =
    sym (list_all-append (same old new) (self_keys old n) (option_map_or (tree_keys old) (table_of old n) [])) in
    let title = where_so old new (self_keys old n) (titles old) (is_root old n) common.titles h.titles in
    let meta = where_so old new (self_keys old n) (metas old) (is_meta old n) common.metas h.metas in
    let whole = where_so old new (self_keys old n) (keys_in old) (is_root old n) common.all h.all in
    λ i. record { node = n; itself = all_same old new (self_keys old n); sub = sub i; table = table i; title = title i; metas = meta i; whole = whole i }

pub joined_are : (old new : Trees) (common : Common) → IsCommon old new common → (rows : List Row)
    → joined old new common (map (λ row. marks_of old new row.id) rows) (map (λ row. all_same old new (reference_keys old row.id)) rows) ≡ map (λ row. flags_of old new row.id) rows
joined_are old new common h [] = refl
joined_are old new common h (row ∷ rows) =
    let first = flags_are old new common h row.id in
    let more = joined_are old new common h rows in
    λ i. first i ∷ more i
