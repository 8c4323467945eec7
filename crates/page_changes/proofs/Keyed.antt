-- Keys of ids, labels and tags, and lists of nodes.
use Rattle.std.proofs.Common.{◌≡◌, ◌&&◌, ℕ, List, ◌∷◌, ◌++◌, map, codes, Bool, true, false, Option, refl, sym, ◌∙◌, ap}
use Rattle.std.proofs.lemmas.List.Folds.{list_all-append}
use Rattle.std.specs.Cmp.Lexicographic.{pointwise}
use Rattle.std.specs.List.{flat_map}
use Rattle.std.specs.Option.{option_eq}
use Rattle.aria_tables.specs.declared.attr.AriaAttr.{AriaAttr}
use Rattle.aria_tables.specs.declared.attr.AriaAttr.TheVariants as aria
use Rattle.snap_tree.specs.declared.row.NodeId.{NodeId}
use Rattle.snap_tree.specs.declared.row.Row.{Row}
use Rattle.snap_tree.specs.Labels.{first_with_id, labels_naming}
use Rattle.snap_tree.specs.Lookups.{tagged}
use Rattle.snap_tree.specs.Trees.{Trees}
use Rattle.acc_tree.specs.References.{named_by, reference_words}
use Rattle.page_keys.specs.Keys.{Key, own_key, id_key, label_key, tagged_key}
use Rattle.page_keys.specs.Same.{same_node, same, all_same}
use Rattle.page_keys.specs.Nodes.{tree_keys}
use Rattle.page_keys.specs.Classes.{titles, metas}
use Rattle.page_changes.specs.References.{nodes_same, word_same, words_same, named_same}

-- ---- keys

pub id_key_same : (old new : Trees) (id : List ℕ) (a b : Option NodeId) → a ≡ first_with_id old id → b ≡ first_with_id new id → option_eq same_node a b ≡ same old new (id_key id)
unfolding same
id_key_same old new id a b e h = λ i. option_eq same_node (e i) (h i)

naming_same : (old new : Trees) (id : List ℕ) (a b : List NodeId) → a ≡ labels_naming old id → b ≡ labels_naming new id → pointwise same_node a b ≡ same old new (label_key id)
unfolding same
naming_same old new id a b e h = λ i. pointwise same_node (e i) (h i)

tagged_same : (old new : Trees) (tag : List ℕ) (a b : List NodeId) → a ≡ tagged old tag → b ≡ tagged new tag → pointwise same_node a b ≡ same old new (tagged_key tag)
unfolding same
tagged_same old new tag a b e h = λ i. pointwise same_node (e i) (h i)

pub named_is : (old new : Trees) (id : List ℕ) (a b : List NodeId) (keys nodes : Bool) → a ≡ labels_naming old id → b ≡ labels_naming new id → keys ≡ pointwise same_node a b → nodes ≡ nodes_same old new a → (keys && nodes) ≡ named_same old new id
named_is old new id a b keys nodes e h k m =
    let one : keys ≡ same old new (label_key id) = k ∙ naming_same old new id a b e h in
    let other : nodes ≡ nodes_same old new (labels_naming old id) = m ∙ ap (nodes_same old new) e in
    λ i. one i && other i

pub titles_are : (old new : Trees) (a b : List NodeId) (keys nodes : Bool) → a ≡ tagged old (codes "title") → b ≡ tagged new (codes "title") → keys ≡ pointwise same_node a b → nodes ≡ all_same old new (flat_map (tree_keys old) a) → (keys && nodes) ≡ all_same old new (titles old)
titles_are old new a b keys nodes e h k m =
    let one : keys ≡ same old new (tagged_key (codes "title")) = k ∙ tagged_same old new (codes "title") a b e h in
    let other : nodes ≡ all_same old new (flat_map (tree_keys old) (tagged old (codes "title"))) = m ∙ ap (λ ns. all_same old new (flat_map (tree_keys old) ns)) e in
    λ i. one i && other i

pub metas_are : (old new : Trees) (a b : List NodeId) (keys nodes : Bool) → a ≡ tagged old (codes "meta") → b ≡ tagged new (codes "meta") → keys ≡ pointwise same_node a b → nodes ≡ all_same old new (map own_key a) → (keys && nodes) ≡ all_same old new (metas old)
metas_are old new a b keys nodes e h k m =
    let one : keys ≡ same old new (tagged_key (codes "meta")) = k ∙ tagged_same old new (codes "meta") a b e h in
    let other : nodes ≡ all_same old new (map own_key (tagged old (codes "meta"))) = m ∙ ap (λ ns. all_same old new (map own_key ns)) e in
    λ i. one i && other i

-- ---- lists of nodes, one after another

pub first_differs : (old new : Trees) (keys : NodeId → List Key) (all : List NodeId) (n : NodeId) (later : List NodeId) (b : Bool) → all ≡ n ∷ later → b ≡ all_same old new (keys n) → b ≡ false → false ≡ all_same old new (flat_map keys all)
first_differs old new keys all n later b e h k =
    let no : all_same old new (keys n) ≡ false = sym h ∙ k in
    ap (λ b. b && all_same old new (flat_map keys later)) (sym no) ∙ sym (list_all-append (same old new) (keys n) (flat_map keys later)) ∙ ap (λ ns. all_same old new (flat_map keys ns)) (sym e)

pub first_agrees : (old new : Trees) (keys : NodeId → List Key) (all : List NodeId) (n : NodeId) (later : List NodeId) (b : Bool) → all ≡ n ∷ later → b ≡ all_same old new (keys n) → b ≡ true → all_same old new (flat_map keys later) ≡ all_same old new (flat_map keys all)
first_agrees old new keys all n later b e h k =
    let yes : all_same old new (keys n) ≡ true = sym h ∙ k in
    ap (λ b. b && all_same old new (flat_map keys later)) (sym yes) ∙ sym (list_all-append (same old new) (keys n) (flat_map keys later)) ∙ ap (λ ns. all_same old new (flat_map keys ns)) (sym e)

-- ---- five attributes

pub five_attrs : (old new : Trees) (row : Row) (a b c d e : Bool) → a ≡ words_same old new (named_by aria.Labelledby row) → b ≡ words_same old new (named_by aria.Describedby row) → c ≡ words_same old new (named_by aria.Details row)
    → d ≡ words_same old new (named_by aria.Flowto row) → e ≡ words_same old new (named_by aria.Owns row) → (a && (b && (c && (d && e)))) ≡ words_same old new (reference_words row)
five_attrs old new row a b c d e ha hb hc hd he =
    (λ i. ha i && (hb i && (hc i && (hd i && (he ∙ last) i))))
    ∙ more aria.Labelledby _ _ (more aria.Describedby _ _ (more aria.Details _ _ (more aria.Flowto _ _ (more aria.Owns _ _ refl))))
  where
    last : words_same old new (named_by aria.Owns row) ≡ (words_same old new (named_by aria.Owns row) && true)
    last = by_bool (words_same old new (named_by aria.Owns row))
      where
        by_bool : (b : Bool) → b ≡ (b && true)
        by_bool true = refl
        by_bool false = refl

    more : (name : AriaAttr) (rest : List (List ℕ)) (b : Bool) → b ≡ words_same old new rest → (words_same old new (named_by name row) && b) ≡ words_same old new (named_by name row ++ rest)
    more name rest b h = ap (λ b. words_same old new (named_by name row) && b) h ∙ sym (list_all-append (word_same old new) (named_by name row) rest)
