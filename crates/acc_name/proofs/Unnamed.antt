-- Where an attribute names nothing, nobody is referred to.
use Rattle.std.proofs.Common.{◌≡◌, ◌==◌, ℕ, length, ◌∷◌, List, [], Bool, true, false, Option, Some, None, is_some, unwrap_or, filter, refl, sym, ◌∙◌, ap, arith}
use Rattle.std.specs.List.{flat_map, filter_map}
use Rattle.std.proofs.lemmas.Str.{chars-nil}
use Rattle.aria_tables.specs.declared.attr.AriaAttr.TheVariants as aria
use Rattle.snap_tree.specs.declared.row.NodeId.{NodeId}
use Rattle.snap_tree.specs.declared.row.Row.{Row}
use Rattle.snap_tree.specs.Trees.{Trees}
use Rattle.texts.specs.Words.{cut, words}
use Rattle.acc_tree.specs.declared.attributes.Attribute.TheVariants as attribute
use Rattle.acc_tree.specs.Following.{are_apart, once}
use Rattle.acc_tree.specs.References.{found, named_by}
use Rattle.acc_tree.specs.Seen.{has, text_at}
use Rattle.acc_tree.specs.Sights.{sight_of}
use Rattle.acc_name.specs.declared.told.Told.{Told}
use Rattle.acc_name.specs.Names.{followed_text, all_followed, all_referred, told_of}
use Rattle.acc_name.specs.Voices.{labelled_of}

words_of_nothing : words [] ≡ []
words_of_nothing = ap (cut []) chars-nil

pub no_characters : (text : List ℕ) (empty : Bool) → empty ≡ (length text == 0) → empty ≡ true → text ≡ []
no_characters [] empty is h = refl
no_characters (x ∷ text) empty is h = grind arith

-- a value without a character names nobody
pub unlabelled : (t : Trees) (node : NodeId) (row : Row) (value : List ℕ) → value ≡ text_at (attribute.Aria aria.Labelledby) row → value ≡ []
    → [] ≡ all_referred t node (found t (named_by aria.Labelledby row))
unlabelled t node row value is none =
    ap (λ (ws : List (List ℕ)). all_referred t node (found t ws)) (sym words_of_nothing ∙ ap words (sym none ∙ is))

value_of_none : (value : Option (List ℕ)) → is_some value ≡ false → unwrap_or value [] ≡ []
value_of_none None h = refl
value_of_none (Some text) h = cc

-- without aria-owns nobody is followed
unowned : (t : Trees) (node : NodeId) (hidden : Bool) (row : Row) → has (attribute.Aria aria.Owns) row ≡ false → [] ≡ all_followed t node hidden row
unowned t node hidden row none =
    ap (λ (ws : List (List ℕ)). flat_map (followed_text node hidden) (filter_map (sight_of t) (filter (are_apart t row.id) (once (found t ws)))))
    (sym words_of_nothing ∙ ap words (sym (value_of_none _ none)))

-- ---- what references say of a row, in two steps

abbrev labelled_with : Trees → NodeId → Row → List ℕ → Told
labelled_with t node row owned = record (labelled_of t node row) { owned = owned }

-- what they say besides its labels is put in
pub with_owned : (t : Trees) (node : NodeId) (hidden : Bool) (row : Row) (told : Told) (owned : List ℕ) → told ≡ labelled_of t node row → owned ≡ all_followed t node hidden row
    → (let made : Told = record { labelled_by = told.labelled_by; labels = told.labels; owned = owned } in made) ≡ told_of t node hidden row
with_owned t node hidden row told owned is own =
    let put : Told → Told = λ x. record { labelled_by = x.labelled_by; labels = x.labels; owned = owned } in
    ap put is ∙ ap (labelled_with t node row) own

-- or nothing is to be put in
pub without_owned : (t : Trees) (node : NodeId) (hidden : Bool) (row : Row) (told : Told) → told ≡ labelled_of t node row → has (attribute.Aria aria.Owns) row ≡ false
    → told ≡ told_of t node hidden row
without_owned t node hidden row told is none = is ∙ ap (labelled_with t node row) (unowned t node hidden row none)
