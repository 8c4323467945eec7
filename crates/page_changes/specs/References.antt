-- Whether pages agree on what references look at, of nodes in their places.
use Rattle.std.specs.Prelude.{◌≡◌, ◌&&◌, ℕ, List, [], ◌∷◌, ◌++◌, filter, map, Bool, true, if◌then◌else◌, Option, Some, None, String, Vec, IfSome}
use Rattle.std.specs.BTreeMap.{BTreeMap, get_by_text}
use Rattle.std.specs.List.{flat_map, list_all}
use Rattle.std.specs.Option.{option_to_list}
use Rattle.std.specs.Str.{bytes_eq}
use Rattle.std.specs.declared.alloc.Global.{Global}
use Rattle.snap_tree.specs.declared.row.NodeId.{NodeId}
use Rattle.snap_tree.specs.declared.row.Row.{Row}
use Rattle.snap_tree.specs.Groups.{group_at}
use Rattle.snap_tree.specs.Labels.{first_with_id, id_of, for_of, is_label, is_labelable, labels_naming}
use Rattle.snap_tree.specs.Rows.{is_key}
use Rattle.snap_tree.specs.Trees.{Trees, empty, tree}
use Rattle.acc_tree.specs.References.{reference_words}
use Rattle.acc_tree.specs.Seen.{seen_row, seen}
use Rattle.page_keys.specs.Keys.{id_key, label_key}
use Rattle.page_keys.specs.Same.{same, all_same}
use Rattle.page_keys.specs.Nodes.{node_keys}
use Rattle.page_changes.specs.declared.pages.Pages.{Pages}
use Rattle.page_changes.specs.ByNumber.{AreByNumber}

-- ---- labels by the id that they name

-- the labels among some rows that name an id
abbrev pub naming : List ℕ → List Row → List NodeId
naming id rows = map (λ r. r.id) (filter (λ r. is_key id (for_of (seen_row r))) rows)

abbrev pub AreNaming : List Row → BTreeMap (String Global) (Vec NodeId Global) → Type 0
AreNaming rows labels = (id : List ℕ) → group_at labels id ≡ naming id rows

abbrev pub AreLabels : Trees → BTreeMap (String Global) (Vec NodeId Global) → Type 0
AreLabels t labels = (id : List ℕ) → group_at labels id ≡ labels_naming t id

-- two pages, with the marks of the old one and the labels of both
pub record AreCompared (pages : Pages) : Type 0 where
  pub marks : AreByNumber (seen pages.old.now.trees) (seen pages.new.now.trees) pages.by_number.now
  pub old_labels : AreLabels (seen pages.old.now.trees) pages.old_labels.now
  pub new_labels : AreLabels (seen pages.new.now.trees) pages.new_labels.now

-- ---- the references of one row

-- these nodes agree by themselves and throughout their subtrees
abbrev pub nodes_same : Trees → Trees → List NodeId → Bool
nodes_same old new nodes = all_same old new (flat_map (node_keys old) nodes)

-- a word finds the same element on both pages, and that agrees
abbrev pub word_same : Trees → Trees → List ℕ → Bool
word_same old new word = same old new (id_key word) && nodes_same old new (option_to_list (first_with_id old word))

abbrev pub words_same : Trees → Trees → List (List ℕ) → Bool
words_same old new words = list_all (word_same old new) words

-- an id has the same labels, which agree
abbrev pub named_same : Trees → Trees → List ℕ → Bool
named_same old new id = same old new (label_key id) && nodes_same old new (labels_naming old id)

abbrev pub id_same : Trees → Trees → Option (List ℕ) → Bool
id_same old new None = true
id_same old new (Some id) = same old new (id_key id) && named_same old new id

-- the labels of a row, given the nearest one above it
abbrev pub labels_same : Trees → Trees → Option NodeId → Row → Bool
labels_same old new label row = if is_labelable row then id_same old new (id_of row) && nodes_same old new (option_to_list label) else true

abbrev pub row_same : Trees → Trees → Option NodeId → Row → Bool
row_same old new label row = words_same old new (reference_words row) && labels_same old new label row

-- what is remembered of ids is right
abbrev pub IsMemory : Trees → Trees → BTreeMap (String Global) Bool → Type 0
IsMemory old new memory = (id : List ℕ) → IfSome (get_by_text memory id) (λ b. b ≡ named_same old new id)

-- one more id is remembered, and the others stay
abbrev pub Remembers : BTreeMap (String Global) Bool → BTreeMap (String Global) Bool → List ℕ → Bool → Type 0
Remembers old new id same = (text : List ℕ) → get_by_text new text ≡ (if bytes_eq text id then Some same else get_by_text old text)

-- ---- through subtrees

-- the nearest label above the children of a row
abbrev pub label_under : Option NodeId → Row → Option NodeId
label_under label row = if is_label row then Some row.id else label

-- those of each row of some trees, below this label
abbrev pub rows_same : Trees → Trees → Option NodeId → Trees → Bool
rows_same old new label empty = true
rows_same old new label (tree row kids after) =
    row_same old new label row && (rows_same old new (label_under label row) kids && rows_same old new label after)

-- of each node, those of it and of all below it
abbrev pub below_same : Trees → Trees → Option NodeId → Trees → List Bool
below_same old new label empty = []
below_same old new label (tree row kids after) =
    (row_same old new label row && rows_same old new (label_under label row) kids) ∷ below_same old new (label_under label row) kids ++ below_same old new label after
