-- Rows that refer to nothing, and rows that nothing labels.
use Rattle.std.proofs.Common.{◌≡◌, ◌&&◌, ◌||◌, ℕ, List, [], ◌∷◌, ◌++◌, Bool, true, false, if◌then◌else◌, None, unwrap_or, refl, sym, ◌∙◌, ap}
use Rattle.std.proofs.lemmas.Bool.{false≢true}
use Rattle.std.proofs.lemmas.Slice.Eq.{bytes_eq-Decides}
use Rattle.std.specs.List.{list_any}
use Rattle.std.specs.Str.{chars}
use Rattle.aria_tables.specs.Attributes.{name_of}
use Rattle.aria_tables.specs.declared.attr.AriaAttr.{AriaAttr}
use Rattle.aria_tables.specs.declared.attr.AriaAttr.TheVariants as aria
use Rattle.snap_tree.specs.declared.row.Attr.{Attr}
use Rattle.snap_tree.specs.declared.row.Row.{Row}
use Rattle.snap_tree.specs.Labels.{id_of, is_labelable}
use Rattle.snap_tree.specs.Rows.{attrs_of, value_of}
use Rattle.snap_tree.specs.Trees.{Trees}
use Rattle.texts.specs.Words.{folded, same_folded, words}
use Rattle.acc_tree.specs.declared.attributes.Attribute.TheVariants as attribute
use Rattle.acc_tree.specs.Attributes.{attribute_name, begins_aria, is_aria}
use Rattle.acc_tree.specs.References.{named_by, reference_words}
use Rattle.acc_tree.specs.Seen.{seen_row}
use Rattle.acc_tree.proofs.Seeing.{attr_seen}
use Rattle.page_changes.specs.References.{id_same, labels_same, words_same}

-- ---- no name begins `aria-`

other_side : (a b : Bool) → (a || b) ≡ false → b ≡ false
other_side false b e = e
other_side true b e = cc

-- such a name finds no value
none_named : (name : List ℕ) → is_aria name ≡ true → (attrs : List Attr) → list_any (λ a. is_aria a.name) attrs ≡ false → value_of name attrs ≡ None
none_named name begins [] e = refl
none_named name begins (a ∷ attrs) e =
    by_test (same_folded a.name name) refl (none_named name begins attrs (other_side (is_aria a.name) (list_any (λ a. is_aria a.name) attrs) e))
  where
    by_test : (b : Bool) → same_folded a.name name ≡ b → value_of name attrs ≡ None → value_of name (a ∷ attrs) ≡ None
    by_test true k h =
        let begins_too : is_aria a.name ≡ true = ap begins_aria ((bytes_eq-Decides (folded a.name) (folded name)).0 k) ∙ begins in
        absurd (false≢true (sym e ∙ ap (λ b. b || list_any (λ a. is_aria a.name) attrs) begins_too))
    by_test false k h = rw k h

no_text : words [] ≡ []
unfolding chars
no_text = refl

none_named_by : (name : AriaAttr) → is_aria (name_of name) ≡ true → (row : Row) → list_any (λ a. is_aria a.name) (attrs_of row) ≡ false → named_by name (seen_row row) ≡ []
unfolding attribute_name
none_named_by name begins row e = ap (λ value. words (unwrap_or value [])) (attr_seen (attribute.Aria name) row ∙ none_named (name_of name) begins (attrs_of row) e) ∙ no_text

pub no_references : (old new : Trees) (row : Row) → list_any (λ a. is_aria a.name) (attrs_of row) ≡ false → true ≡ words_same old new (reference_words (seen_row row))
no_references old new row e =
    let none : (name : AriaAttr) → is_aria (name_of name) ≡ true → [] ≡ named_by name (seen_row row) = λ name begins. sym (none_named_by name begins row e) in
    λ i. words_same old new (none aria.Labelledby refl i ++ (none aria.Describedby refl i ++ (none aria.Details refl i ++ (none aria.Flowto refl i ++ (none aria.Owns refl i ++ [])))))

-- ---- nothing labels a row

pub no_labels : (row : Row) → id_of (seen_row row) ≡ None → (old new : Trees) → true ≡ labels_same old new None (seen_row row)
no_labels row e old new = by_kind (is_labelable (seen_row row)) ∙ sym (ap (λ id. if is_labelable (seen_row row) then id_same old new id && true else true) e)
  where
    by_kind : (b : Bool) → true ≡ (if b then true else true)
    by_kind true = refl
    by_kind false = refl
