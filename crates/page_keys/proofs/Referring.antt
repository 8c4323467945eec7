-- Where pages agree on the keys of references and on what they find, they find the same. Said of any that is told of
-- a found node by its sight, so that no list of pairs is needed.
use Rattle.std.proofs.Common.{◌≡◌, ◌&&◌, not, ℕ, List, [], ◌∷◌, ◌++◌, map, Bool, true, false, if◌then◌else◌, Option, Some, None, option_map, option_and_then, refl, sym, ◌∙◌, ap}
use Rattle.std.proofs.lemmas.Grind.{flat_map-append}
use Rattle.std.proofs.lemmas.List.{map-append}
use Rattle.std.specs.Cmp.{first_so, second_so}
use Rattle.std.specs.List.{find, flat_map, cons_option}
use Rattle.std.specs.Option.{option_map_or, option_to_list}
use Rattle.aria_tables.specs.declared.attr.AriaAttr.TheVariants as aria
use Rattle.snap_tree.specs.declared.row.NodeId.{NodeId}
use Rattle.snap_tree.specs.declared.row.Row.{Row}
use Rattle.snap_tree.specs.Grown.{is_number}
use Rattle.snap_tree.specs.Labels.{first_with_id, id_of, is_labelable, has_for, labels_naming, labels_by, labels_with, labels_at, labels_for, outer_label}
use Rattle.snap_tree.specs.Spots.{Spot, spot}
use Rattle.snap_tree.specs.Trees.{Trees, rows_of}
use Rattle.acc_tree.specs.References.{found, named_by}
use Rattle.acc_tree.specs.Sights.{Sight, sight_of}
use Rattle.page_keys.specs.Keys.{Key, id_key, label_key}
use Rattle.page_keys.specs.Same.{same, all_same}
use Rattle.page_keys.specs.Nodes.{node_keys}
use Rattle.page_keys.specs.References.{keys_of_id, label_keys, word_keys, labels_of_id, nearest_label, labels_found, words_found, references_of}
use Rattle.page_keys.specs.Standing.{IsPage}
use Rattle.page_keys.proofs.Tests.{agree}
use Rattle.page_keys.proofs.Agreeing.{parts}
use Rattle.page_keys.proofs.Again.{sight_same}
use Rattle.page_keys.proofs.Trails.{trail, same_label}
use Rattle.page_keys.proofs.Outer.{outer_of, outer_at, outer_is}

-- ---- lists of nodes

-- what is told of each of these nodes is the same where pages agree on the keys of each
pub each_same : {A : Type 0} (f g : NodeId → A) (old new : Trees) (keys : NodeId → List Key) → ((m : NodeId) → all_same old new (keys m) ≡ true → f m ≡ g m) → (ms : List NodeId) → all_same old new (flat_map keys ms) ≡ true → map f ms ≡ map g ms
each_same f g old new keys each [] k = refl
each_same f g old new keys each (m ∷ ms) k =
    let both = parts old new (keys m) (flat_map keys ms) k in
    let one = each m both.0 in
    let more = each_same f g old new keys each ms both.1 in
    λ i. one i ∷ more i

-- what is told of a node by its sight is the same on both pages
abbrev pub TellsBySight : {A : Type 0} → (NodeId → A) → (NodeId → A) → Trees → Trees → Type 0
TellsBySight f g old new = (m : NodeId) → sight_of old m ≡ sight_of new m → f m ≡ g m

-- pages agree on each of these nodes and its subtree
abbrev pub SameFound : Trees → Trees → List NodeId → Type 0
SameFound old new ms = all_same old new (flat_map (node_keys old) ms) ≡ true

pub found_parts : (old new : Trees) (xs ys : List NodeId) → SameFound old new (xs ++ ys) → SameFound old new xs × SameFound old new ys
found_parts old new xs ys k = parts old new (flat_map (node_keys old) xs) (flat_map (node_keys old) ys) (sym (ap (all_same old new) (flat_map-append (node_keys old) xs ys)) ∙ k)

found_same : {A : Type 0} (f g : NodeId → A) (old new : Trees) → IsPage old → IsPage new → TellsBySight f g old new → (ms : List NodeId) → SameFound old new ms → map f ms ≡ map g ms
found_same f g old new po pn each ms k = each_same f g old new (node_keys old) (λ m h. each m (sight_same old new po pn m h)) ms k

-- ---- words

pub firsts_same : (old new : Trees) (words : List (List ℕ)) → all_same old new (map id_key words) ≡ true → map (first_with_id old) words ≡ map (first_with_id new) words
firsts_same old new [] k = refl
firsts_same old new (word ∷ words) k =
    let one : first_with_id old word ≡ first_with_id new word = agree old new (id_key word) (first_so (same old new (id_key word)) _ k) in
    let more = firsts_same old new words (second_so (same old new (id_key word)) _ k) in
    λ i. one i ∷ more i

pub words_same : (old new : Trees) (words : List (List ℕ)) → all_same old new (map id_key words) ≡ true → found old words ≡ found new words
words_same old new [] k = refl
words_same old new (word ∷ words) k =
    let one : first_with_id old word ≡ first_with_id new word = agree old new (id_key word) (first_so (same old new (id_key word)) _ k) in
    let more = words_same old new words (second_so (same old new (id_key word)) _ k) in
    λ i. cons_option (one i) (more i)

cons_option-append : {X : Type 0} (o : Option X) (xs ys : List X) → cons_option o (xs ++ ys) ≡ cons_option o xs ++ ys
cons_option-append None xs ys = refl
cons_option-append (Some x) xs ys = refl

pub found-append : (t : Trees) (xs ys : List (List ℕ)) → found t (xs ++ ys) ≡ found t xs ++ found t ys
found-append t [] ys = refl
found-append t (x ∷ xs) ys = ap (cons_option (first_with_id t x)) (found-append t xs ys) ∙ cons_option-append (first_with_id t x) (found t xs) (found t ys)

-- ---- a node's references

-- pages agree on all that the references of a row look at
pub record SameReferences (old new : Trees) (above : List Row) (row : Row) : Type 0 where
  pub words : all_same old new (word_keys row) ≡ true
  pub labels : all_same old new (label_keys row) ≡ true
  pub words_found : SameFound old new (words_found old row)
  pub labels_found : SameFound old new (labels_found old above row)

pub same_references : (old new : Trees) (above : List Row) (row : Row) → all_same old new (references_of old above row) ≡ true → SameReferences old new above row
same_references old new above row k =
    let both = parts old new (word_keys row ++ label_keys row) (flat_map (node_keys old) (words_found old row ++ labels_found old above row)) k in
    let keys = parts old new (word_keys row) (label_keys row) both.0 in
    let nodes = found_parts old new (words_found old row) (labels_found old above row) both.1 in
    record { words = keys.0; labels = keys.1; words_found = nodes.0; labels_found = nodes.1 }

-- of what aria-labelledby finds the same is told
pub labelled_by_same : {A : Type 0} (f g : NodeId → A) (old new : Trees) → IsPage old → IsPage new → TellsBySight f g old new → (above : List Row) (row : Row) → SameReferences old new above row
    → map f (found old (named_by aria.Labelledby row)) ≡ map g (found new (named_by aria.Labelledby row))
labelled_by_same f g old new po pn each above row r =
    let first = named_by aria.Labelledby row in
    let rest = flat_map (λ name. named_by name row) (aria.Describedby ∷ aria.Details ∷ aria.Flowto ∷ aria.Owns ∷ []) in
    let keys = parts old new (map id_key first) (map id_key rest) (sym (ap (all_same old new) (map-append id_key first rest)) ∙ r.words) in
    let nodes = found_parts old new (found old first) (found old rest) (sym (ap (λ ms. all_same old new (flat_map (node_keys old) ms)) (found-append old first rest)) ∙ r.words_found) in
    found_same f g old new po pn each (found old first) nodes.0 ∙ ap (map g) (words_same old new first keys.0)

-- ---- labels

named_same : {A : Type 0} (f g : NodeId → A) (old new : Trees) → IsPage old → IsPage new → TellsBySight f g old new → (n : NodeId) (id : Option (List ℕ)) → all_same old new (keys_of_id id) ≡ true → SameFound old new (labels_of_id old id)
    → map f (labels_by old n id) ≡ map g (labels_by new n id)
named_same f g old new po pn each n None k h = refl
named_same {A = A} f g old new po pn each n (Some id) k h =
    let first : first_with_id old id ≡ first_with_id new id = agree old new (id_key id) (first_so (same old new (id_key id)) _ k) in
    let naming : labels_naming old id ≡ labels_naming new id = agree old new (label_key id) (first_so (same old new (label_key id)) _ (second_so (same old new (id_key id)) _ k)) in
    let all : map f (labels_naming old id) ≡ map g (labels_naming new id) = found_same f g old new po pn each (labels_naming old id) h ∙ ap (map g) naming in
    chosen f (is_number (first_with_id old id) n) (labels_naming old id) ∙ (λ i. if is_number (first i) n then all i else []) ∙ sym (chosen g (is_number (first_with_id new id) n) (labels_naming new id))
  where
    chosen : (f : NodeId → A) (b : Bool) (ms : List NodeId) → map f (if b then ms else []) ≡ (if b then map f ms else [])
    chosen f true ms = refl
    chosen f false ms = refl

outer_same : {A : Type 0} (f g : NodeId → A) (old new : Trees) → IsPage old → IsPage new → TellsBySight f g old new → (n : NodeId) (label : Option NodeId) → SameFound old new (option_to_list label)
    → map f (option_to_list (outer_of old n label)) ≡ map g (option_to_list (outer_of new n label))
outer_same f g old new po pn each n None h = refl
outer_same {A = A} f g old new po pn each n (Some label) h =
    let same_sight : sight_of old label ≡ sight_of new label = sight_same old new po pn label (parts old new (node_keys old label) [] h).0 in
    by_sight (each label same_sight) (sight_of old label) ∙ ap (λ o. map g (option_to_list (option_and_then (outer_at n label) o))) same_sight
  where
    by_test : f label ≡ g label → (b : Bool) → map f (option_to_list (if b then Some label else None)) ≡ map g (option_to_list (if b then Some label else None))
    by_test h true = ap (λ a. a ∷ []) h
    by_test h false = refl

    by_sight : f label ≡ g label → (o : Option Sight) → map f (option_to_list (option_and_then (outer_at n label) o)) ≡ map g (option_to_list (option_and_then (outer_at n label) o))
    by_sight h None = refl
    by_sight h (Some s) = by_test h (not (has_for s.row) && is_number (option_map (λ r. r.id) (find is_labelable (rows_of s.below))) n)

-- of the labels of a node the same is told
pub labels_same : {A : Type 0} (f g : NodeId → A) (old new : Trees) → IsPage old → IsPage new → TellsBySight f g old new → (n : NodeId) (s z : Spot) → spot old n ≡ Some s → spot new n ≡ Some z → s.row ≡ z.row → trail s.above ≡ trail z.above
    → SameReferences old new s.above s.row → map f (labels_for old n) ≡ map g (labels_for new n)
labels_same {A} f g old new po pn each n s z e d row way r =
    ap (λ o. map f (option_map_or (labels_at old) o [])) e ∙ by_kind (is_labelable s.row) refl ∙ sym (ap (λ o. map g (option_map_or (labels_at new) o [])) d)
  where
    label : nearest_label s.above ≡ nearest_label z.above
    label = same_label s.above z.above way

    outer : outer_label new z ≡ outer_of new s.row.id (nearest_label s.above)
    outer = outer_is new pn.climbed n z d ∙ (λ i. outer_of new (sym row i).id (sym label i))

    by_kind : (b : Bool) → is_labelable s.row ≡ b → map f (labels_with old s.row (outer_label old s)) ≡ map g (labels_with new z.row (outer_label new z))
    by_kind false k = ap (λ b. map f (if b then labels_by old s.row.id (id_of s.row) ++ option_to_list (outer_label old s) else [])) k
        ∙ sym (ap (λ b. map g (if b then labels_by new s.row.id (id_of s.row) ++ option_to_list (outer_label new z) else [])) k)
        ∙ ap (λ (r : Row). map g (labels_with new r (outer_label new z))) row
    by_kind true k =
        let keys : all_same old new (keys_of_id (id_of s.row)) ≡ true = ap (λ b. all_same old new (if b then keys_of_id (id_of s.row) else [])) (sym k) ∙ r.labels in
        let nodes : SameFound old new (labels_of_id old (id_of s.row) ++ option_to_list (nearest_label s.above)) =
        ap (λ b. all_same old new (flat_map (node_keys old) (if b then labels_of_id old (id_of s.row) ++ option_to_list (nearest_label s.above) else []))) (sym k) ∙ r.labels_found in
        let both = found_parts old new (labels_of_id old (id_of s.row)) (option_to_list (nearest_label s.above)) nodes in
        let named : map f (labels_by old s.row.id (id_of s.row)) ≡ map g (labels_by new s.row.id (id_of s.row)) = named_same f g old new po pn each s.row.id (id_of s.row) keys both.0 in
        let around : map f (option_to_list (outer_label old s)) ≡ map g (option_to_list (outer_label new z)) =
        ap (λ o. map f (option_to_list o)) (outer_is old po.climbed n s e) ∙ outer_same f g old new po pn each s.row.id (nearest_label s.above) both.1 ∙ sym (ap (λ o. map g (option_to_list o)) outer) in
        ap (λ b. map f (if b then labels_by old s.row.id (id_of s.row) ++ option_to_list (outer_label old s) else [])) k
        ∙ map-append f (labels_by old s.row.id (id_of s.row)) (option_to_list (outer_label old s)) ∙ (λ i. named i ++ around i) ∙ sym (map-append g (labels_by new s.row.id (id_of s.row)) (option_to_list (outer_label new z)))
        ∙ sym (ap (λ b. map g (if b then labels_by new s.row.id (id_of s.row) ++ option_to_list (outer_label new z) else [])) k)
        ∙ ap (λ (r : Row). map g (labels_with new r (outer_label new z))) row
