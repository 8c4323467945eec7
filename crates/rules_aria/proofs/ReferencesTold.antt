-- Whether a reference is dead is told by what the words of references find.
use Rattle.std.proofs.Common.{◌≡◌, ◌&&◌, ◌||◌, ◌==◌, ℕ, List, [], ◌∷◌, ◌++◌, map, length, unwrap_or, Bool, true, false, if◌then◌else◌, Option, Some, None, option_and_then, refl, sym, ◌∙◌, ap}
use Rattle.std.proofs.lemmas.Bool.{false≢true}
use Rattle.std.specs.List.{AllByRecursion, flat_map, filter_map, cons_option, list_any}
use Rattle.std.specs.Option.{option_map_or}
use Rattle.texts.specs.Words.{blank, words}
use Rattle.aria_tables.specs.declared.attr.AriaAttr.{AriaAttr}
use Rattle.aria_tables.specs.declared.attr.AriaAttr.TheVariants as aria
use Rattle.aria_tables.specs.Attributes.{attr_of, is_reference}
use Rattle.snap_tree.specs.declared.row.Attr.{Attr}
use Rattle.snap_tree.specs.declared.row.NodeId.{NodeId}
use Rattle.snap_tree.specs.declared.row.Row.{Row}
use Rattle.snap_tree.specs.Labels.{first_with_id}
use Rattle.acc_tree.specs.declared.attributes.Attribute.TheVariants as attribute
use Rattle.acc_tree.specs.Inclusion.{exposed}
use Rattle.acc_tree.specs.References.{found, named_by, references, reference_words}
use Rattle.acc_tree.specs.Seen.{seen, attr, aria_attrs}
use Rattle.acc_tree.specs.Sights.{Sight, sight_of}
use Rattle.rule_core.specs.declared.info.Class.TheVariants.{Sub}
use Rattle.rule_core.specs.declared.reason.Reason.TheVariants.{BadValue, DeadReference}
use Rattle.rule_core.specs.Findings.{met, failed, verdict_of}
use Rattle.rule_sights.specs.Nodes.{if_row}
use Rattle.page_keys.specs.Laws.{words_find}
use Rattle.page_keys.proofs.Looking.{words_look}
use Rattle.rule_core.specs.Reach.{class_keys}
use Rattle.rule_core.proofs.Targets.{IsKept, on_nodes}
use Rattle.rule_sights.specs.Telling.{Tells}
use Rattle.rule_sights.proofs.Told.{sight_told}
use Rattle.rules_aria.specs.AriaLines.{aria_lines}
use Rattle.rules_aria.specs.AriaValue.{filled_attr, is_bad, is_dead, has_filled, value_verdict, aria_value_is_valid}
use Rattle.rules_aria.proofs.AttributesTold.{IsValue, aria_values}

-- ---- what words find

words_told : Tells Sub words_find
unfolding class_keys
words_told = words_look

-- what a word finds, or that it finds nothing
abbrev Finds : Type 0
Finds = List ℕ → Option NodeId

first_two : {A : Type 0} (x y : A) (xs ys : List A) → x ∷ xs ≡ y ∷ ys → (x ≡ y) × (xs ≡ ys)
first_two x y xs ys e =
    let one : x ≡ y = cc in
    let more : xs ≡ ys = cc in
    (one, more)

halves : (f g : Finds) (xs ys : List (List ℕ)) → map f (xs ++ ys) ≡ map g (xs ++ ys) → (map f xs ≡ map g xs) × (map f ys ≡ map g ys)
halves f g [] ys e = (refl, e)
halves f g (x ∷ xs) ys e =
    let both = first_two (f x) (g x) (map f (xs ++ ys)) (map g (xs ++ ys)) e in
    let rest = halves f g xs ys both.1 in
    ((λ i. both.0 i ∷ rest.0 i), rest.1)

-- the words of a reference attribute find the same
abbrev SameWords : Finds → Finds → Row → AriaAttr → Type 0
SameWords f g row name = map f (named_by name row) ≡ map g (named_by name row)

each_part : (f g : Finds) (row : Row) (names : List AriaAttr) → map f (flat_map (λ name. named_by name row) names) ≡ map g (flat_map (λ name. named_by name row) names) → AllByRecursion (SameWords f g row) names
each_part f g row [] e = tt
each_part f g row (name ∷ names) e =
    let both = halves f g (named_by name row) (flat_map (λ name. named_by name row) names) e in
    (both.0, each_part f g row names both.1)

-- where all words of a row find the same, so do those of each of its references
each_reference : (f g : Finds) (row : Row) → AllByRecursion (SameWords f g row) references → (known : AriaAttr) → is_reference known ≡ true → SameWords f g row known
each_reference f g row all aria.Labelledby is = all.0
each_reference f g row all aria.Describedby is = all.1.0
each_reference f g row all aria.Details is = all.1.1.0
each_reference f g row all aria.Flowto is = all.1.1.1.0
each_reference f g row all aria.Owns is = all.1.1.1.1.0
each_reference f g row all _ is = absurd (false≢true is)

found_same : (f g : Finds) (all : List (List ℕ)) → map f all ≡ map g all → filter_map f all ≡ filter_map g all
found_same f g [] e = refl
found_same f g (word ∷ all) e =
    let both = first_two (f word) (g word) (map f all) (map g all) e in
    let rest = found_same f g all both.1 in
    λ i. cons_option (both.0 i) (rest i)

-- ---- dead references

attr_is : (b : Bool) (a : Attr) (known : AriaAttr) → (if b then None else attr_of a.name) ≡ Some known → attr_of a.name ≡ Some known
attr_is true a known e = cc
attr_is false a known e = e

-- a value that refers finds nothing on both, or something on both
finds_same : (f g : Finds) (row : Row) → AllByRecursion (SameWords f g row) references → (a : Attr) (known : AriaAttr) → attr (attribute.Aria known) row ≡ Some a.value → (b : Bool) → is_reference known ≡ b
    → (b && length (filter_map f (words a.value)) == 0) ≡ (b && length (filter_map g (words a.value)) == 0)
finds_same f g row all a known value true is =
    let own_words : named_by known row ≡ words a.value = ap (λ (o : Option (List ℕ)). words (unwrap_or o [])) value in
    let here : filter_map f (named_by known row) ≡ filter_map g (named_by known row) = found_same f g (named_by known row) (each_reference f g row all known is) in
    let same : filter_map f (words a.value) ≡ filter_map g (words a.value) = sym (ap (filter_map f) own_words) ∙ here ∙ ap (filter_map g) own_words in
    ap (λ (nodes : List NodeId). length nodes == 0) same
finds_same f g row all a known value false is = refl

dead_same : (f g : Finds) (row : Row) → AllByRecursion (SameWords f g row) references → (a : Attr) → IsValue row a → is_dead (filter_map f) a ≡ is_dead (filter_map g) a
dead_same f g row all a value = by_attr (filled_attr a) refl
  where
    by_attr : (o : Option AriaAttr) → filled_attr a ≡ o
        → option_map_or (λ known. is_reference known && length (filter_map f (words a.value)) == 0) o false ≡ option_map_or (λ known. is_reference known && length (filter_map g (words a.value)) == 0) o false
    by_attr None h = refl
    by_attr (Some known) h = finds_same f g row all a known (value known (attr_is (blank a.value) a known h)) (is_reference known) refl

any_dead : (f g : Finds) (row : Row) → AllByRecursion (SameWords f g row) references → (attrs : List Attr) → AllByRecursion (IsValue row) attrs → list_any (is_dead (filter_map f)) attrs ≡ list_any (is_dead (filter_map g)) attrs
any_dead f g row same [] all = refl
any_dead f g row same (a ∷ attrs) all =
    let one = dead_same f g row same a all.0 in
    let more = any_dead f g row same attrs all.1 in
    λ i. one i || more i

-- ---- the verdict

pub values_kept : IsKept Sub aria_value_is_valid
values_kept old new n versions k = by_sight (sight_of (seen old.trees) n) refl ∙ ap (λ o. option_and_then (λ (s : Sight). value_verdict (found (seen new.trees)) s.above s.row) (option_and_then (if_row has_filled) o)) sight
  where
    sight : sight_of (seen old.trees) n ≡ sight_of (seen new.trees) n
    sight = sight_told old.trees new.trees n versions.old_well versions.new_well (on_nodes Sub old new n k)

    finds : words_find (seen old.trees) n ≡ words_find (seen new.trees) n
    finds = words_told old.trees new.trees n versions.old_well versions.new_well (on_nodes Sub old new n k)

    by_test : (s : Sight) (b : Bool) → value_verdict (found (seen old.trees)) s.above s.row ≡ value_verdict (found (seen new.trees)) s.above s.row
        → option_and_then (λ (s : Sight). value_verdict (found (seen old.trees)) s.above s.row) (if b then Some s else None)
        ≡ option_and_then (λ (s : Sight). value_verdict (found (seen new.trees)) s.above s.row) (if b then Some s else None)
    by_test s true h = h
    by_test s false h = refl

    by_sight : (o : Option Sight) → sight_of (seen old.trees) n ≡ o
        → option_and_then (λ (s : Sight). value_verdict (found (seen old.trees)) s.above s.row) (option_and_then (if_row has_filled) (sight_of (seen old.trees) n))
        ≡ option_and_then (λ (s : Sight). value_verdict (found (seen new.trees)) s.above s.row) (option_and_then (if_row has_filled) (sight_of (seen old.trees) n))
    by_sight None e =
        ap (λ o. option_and_then (λ (s : Sight). value_verdict (found (seen old.trees)) s.above s.row) (option_and_then (if_row has_filled) o)) e
        ∙ sym (ap (λ o. option_and_then (λ (s : Sight). value_verdict (found (seen new.trees)) s.above s.row) (option_and_then (if_row has_filled) o)) e)
    by_sight (Some s) e =
        let words_same : map (first_with_id (seen old.trees)) (reference_words s.row) ≡ map (first_with_id (seen new.trees)) (reference_words s.row) =
        sym (ap (λ o. option_map_or (λ (s : Sight). map (first_with_id (seen old.trees)) (reference_words s.row)) o []) e) ∙ finds
        ∙ ap (λ o. option_map_or (λ (s : Sight). map (first_with_id (seen new.trees)) (reference_words s.row)) o []) (sym sight ∙ e) in
        let dead = any_dead (first_with_id (seen old.trees)) (first_with_id (seen new.trees)) s.row (each_part (first_with_id (seen old.trees)) (first_with_id (seen new.trees)) s.row references words_same) (aria_attrs s.row) (aria_values old.trees versions.old_well n s e) in
        let same : value_verdict (found (seen old.trees)) s.above s.row ≡ value_verdict (found (seen new.trees)) s.above s.row =
        ap (λ d. if exposed s.above s.row then Some (verdict_of (if list_any is_bad (aria_attrs s.row) then failed BadValue else (if d then failed DeadReference else met)) (aria_lines s.row)) else None) dead in
        ap (λ o. option_and_then (λ (s : Sight). value_verdict (found (seen old.trees)) s.above s.row) (option_and_then (if_row has_filled) o)) e
        ∙ by_test s (has_filled s.row) same
        ∙ sym (ap (λ o. option_and_then (λ (s : Sight). value_verdict (found (seen new.trees)) s.above s.row) (option_and_then (if_row has_filled) o)) e)
