-- A tag is looked for among those of its first letter alone.
use Rattle.std.proofs.Common.{◌≡◌, ℕ, true, false, eqb, eq-eqb, List, [], ◌∷◌, filter, slice_get, None, Some, refl, sym, ap, ◌∙◌}
use Rattle.std.proofs.lemmas.Option.{none-some, same_Some}
use Rattle.std.proofs.lemmas.Slice.Eq.{bytes_eq-Decides}
use Rattle.std.specs.Char.{to_ascii_lowercase}
use Rattle.std.specs.List.{find}
use Rattle.texts.specs.Words.{folded, same_folded}
use Rattle.aria_tables.proofs.Lengths.{find-filter, filter_nothing, is_length, unknown_length}
use Rattle.acc_tree.specs.declared.tags.Tag.{Tag}
use Rattle.acc_tree.specs.declared.tags.Tag.TheVariants as tag
use Rattle.acc_tree.specs.Tags.{tag_word, all_tags, begins, known_tag}

pub tags_at : (n k : ℕ) → n ≡ k → filter (λ t. begins k (tag_word t)) all_tags ≡ filter (λ t. begins n (tag_word t)) all_tags
tags_at n k e = ap (λ m. filter (λ t. begins m (tag_word t)) all_tags) (sym e)

-- the letters that tags begin with: all but j, r, w, x, y and z
abbrev pub tag_letters : List ℕ
tag_letters =
    97 ∷ 98 ∷ 99 ∷ 100 ∷ 101 ∷ 102 ∷ 104 ∷ 105 ∷ 107 ∷ 108 ∷ 109 ∷ 110 ∷ 111 ∷ 112 ∷ 113 ∷ 115 ∷ 116 ∷ 117 ∷ 118 ∷ []

abbrev first_letter : List ℕ → ℕ
first_letter [] = 0
first_letter (b ∷ word) = b

tag_letter : (t : Tag) → is_length tag_letters (first_letter (tag_word t)) ≡ true
unfolding tag_word
tag_letter tag.A = refl
tag_letter _ = refl

by_first : (t : Tag) (n : ℕ) → begins n (tag_word t) ≡ eqb (first_letter (tag_word t)) n
unfolding tag_word
by_first tag.A n = refl
by_first _ n = refl

pub no_tag_at : (n : ℕ) → is_length tag_letters n ≡ false → [] ≡ filter (λ t. begins n (tag_word t)) all_tags
no_tag_at n h = filter_nothing (λ t. begins n (tag_word t)) (λ t. by_first t n ∙ unknown_length tag_letters n (first_letter (tag_word t)) (tag_letter t) h (eqb (first_letter (tag_word t)) n) refl) all_tags

-- the words of tags are in lower case
folded_word : (t : Tag) → folded (tag_word t) ≡ tag_word t
unfolding tag_word
folded_word tag.A = refl
folded_word _ = refl

same_begins : (b : ℕ) (rest : List ℕ) (t : Tag) → same_folded (b ∷ rest) (tag_word t) ≡ true → begins (to_ascii_lowercase b) (tag_word t) ≡ true
same_begins b rest t h =
    ap (begins (to_ascii_lowercase b)) (sym (folded_word t) ∙ sym ((bytes_eq-Decides (folded (b ∷ rest)) (folded (tag_word t))).0 h)) ∙ eq-eqb (to_ascii_lowercase b) (to_ascii_lowercase b) refl

by_letter : (b : ℕ) (rest : List ℕ) → find (λ t. same_folded (b ∷ rest) (tag_word t)) (filter (λ t. begins (to_ascii_lowercase b) (tag_word t)) all_tags) ≡ known_tag (b ∷ rest)
by_letter b rest = find-filter _ _ (λ t. same_begins b rest t) all_tags

pub tag_by_letter : (text : List ℕ) (b : ℕ) → Some b ≡ slice_get text 0 → find (λ t. same_folded text (tag_word t)) (filter (λ t. begins (to_ascii_lowercase b) (tag_word t)) all_tags) ≡ known_tag text
tag_by_letter [] b h = absurd (none-some b (sym h))
tag_by_letter (x ∷ rest) b h =
    ap (λ k. find (λ t. same_folded (x ∷ rest) (tag_word t)) (filter (λ t. begins (to_ascii_lowercase k) (tag_word t)) all_tags)) (same_Some b x h) ∙ by_letter x rest

pub no_tag : (text : List ℕ) → None ≡ slice_get text 0 → None ≡ known_tag text
unfolding tag_word
no_tag [] h = refl
no_tag (x ∷ rest) h = absurd (none-some x h)
