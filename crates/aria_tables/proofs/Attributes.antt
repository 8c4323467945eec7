-- The names of attributes: each is found by its own, and among those of its length already.
use Rattle.std.proofs.Common.{◌≡◌, ℕ, true, false, eqb, List, [], ◌∷◌, length, filter, Some, refl, sym, ap}
use Rattle.std.specs.List.{find}
use Rattle.texts.specs.Words.{same_folded}
use Rattle.aria_tables.specs.declared.attr.AriaAttr.{AriaAttr}
use Rattle.aria_tables.specs.declared.attr.AriaAttr.TheVariants.{Activedescendant}
use Rattle.aria_tables.specs.Attributes.{name_of, attributes, attr_of}
use Rattle.aria_tables.proofs.Lengths.{find-filter, same_folded-length, filter_nothing, is_length, unknown_length}

pub attr_of_name : (attr : AriaAttr) → attr_of (name_of attr) ≡ Some attr
unfolding attr_of attributes
attr_of_name Activedescendant = refl
attr_of_name _ = refl

pub attributes_at : (n k : ℕ) → n ≡ k → filter (λ attr. eqb (length (name_of attr)) k) attributes ≡ filter (λ attr. eqb (length (name_of attr)) n) attributes
attributes_at n k e = ap (λ m. filter (λ attr. eqb (length (name_of attr)) m) attributes) (sym e)

abbrev pub name_lengths : List ℕ
name_lengths = 9 ∷ 10 ∷ 11 ∷ 12 ∷ 13 ∷ 14 ∷ 15 ∷ 16 ∷ 17 ∷ 20 ∷ 21 ∷ []

name_length : (attr : AriaAttr) → is_length name_lengths (length (name_of attr)) ≡ true
name_length Activedescendant = refl
name_length _ = refl

pub no_attribute_at : (n : ℕ) → is_length name_lengths n ≡ false → [] ≡ filter (λ attr. eqb (length (name_of attr)) n) attributes
no_attribute_at n h = filter_nothing _ (λ attr. unknown_length name_lengths n _ (name_length attr) h _ refl) attributes

pub attr_by_length : (text : List ℕ) → find (λ attr. same_folded text (name_of attr)) (filter (λ attr. eqb (length (name_of attr)) (length text)) attributes) ≡ attr_of text
unfolding attr_of
attr_by_length text = find-filter _ _ (λ attr. same_folded-length text (name_of attr)) attributes
