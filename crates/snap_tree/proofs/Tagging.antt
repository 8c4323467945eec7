-- Tags of labelable elements are told apart by their lengths.
use Rattle.std.proofs.Common.{◌≡◌, ℕ, List, length, Bool, true, false, ◌||◌, eqb, eq-eqb, refl, sym, ◌∙◌, ap}
use Rattle.std.proofs.lemmas.Bool.{false≢true}
use Rattle.std.proofs.lemmas.List.{length-map}
use Rattle.std.proofs.lemmas.Slice.Eq.{bytes_eq-Decides}
use Rattle.std.specs.Prelude.{codes}
use Rattle.std.specs.Char.{to_ascii_lowercase}
use Rattle.texts.specs.Words.{folded, same_folded}
use Rattle.snap_tree.specs.declared.row.Row.{Row}
use Rattle.snap_tree.specs.Labelling.{is_shown_input, is_labelable_by}

-- texts of other lengths differ
apart : (a b : List ℕ) → eqb (length b) (length a) ≡ false → same_folded a b ≡ false
apart a b h = by_test (same_folded a b) refl
  where
    same_length : same_folded a b ≡ true → length b ≡ length a
    same_length e = sym (sym (length-map a to_ascii_lowercase) ∙ ap length ((bytes_eq-Decides (folded a) (folded b)).0 e) ∙ length-map b to_ascii_lowercase)

    by_test : (t : Bool) → same_folded a b ≡ t → t ≡ false
    by_test true e = absurd (false≢true (sym h ∙ eq-eqb (length b) (length a) (same_length e)))
    by_test false e = refl

second : (a b : Bool) → (a || b) ≡ (a || false || false || false || false || b)
second true b = refl
second false b = refl

first_third_fifth : (a b c : Bool) → (a || b || c) ≡ (a || false || b || false || c || false || false)
first_third_fifth true b c = refl
first_third_fifth false true c = refl
first_third_fifth false false true = refl
first_third_fifth false false false = refl

fourth_sixth : (a b : Bool) → (a || b) ≡ (a || false || b || false)
fourth_sixth true b = refl
fourth_sixth false true = refl
fourth_sixth false false = refl

is_not : (word tag : List ℕ) (n : ℕ) → length tag ≡ n → eqb n (length word) ≡ false → same_folded word tag ≡ false
is_not word tag n h e = apart word tag (ap (λ m. eqb m (length word)) h ∙ e)

pub tags_of_5 : (r : Row) (tag : List ℕ) → length tag ≡ 5 → (same_folded (codes "meter") tag || is_shown_input r tag) ≡ is_labelable_by r tag
tags_of_5 r tag h =
    rw (is_not (codes "button") tag 5 h refl, is_not (codes "output") tag 5 h refl, is_not (codes "progress") tag 5 h refl, is_not (codes "select") tag 5 h refl, is_not (codes "textarea") tag 5 h refl)
    (second (same_folded (codes "meter") tag) (is_shown_input r tag))

pub tags_of_6 : (r : Row) (tag : List ℕ) → length tag ≡ 6 → (same_folded (codes "button") tag || same_folded (codes "output") tag || same_folded (codes "select") tag) ≡ is_labelable_by r tag
tags_of_6 r tag h =
    rw (is_not (codes "meter") tag 6 h refl, is_not (codes "progress") tag 6 h refl, is_not (codes "textarea") tag 6 h refl, is_not (codes "input") tag 6 h refl)
    (first_third_fifth (same_folded (codes "button") tag) (same_folded (codes "output") tag) (same_folded (codes "select") tag))

pub tags_of_8 : (r : Row) (tag : List ℕ) → length tag ≡ 8 → (same_folded (codes "progress") tag || same_folded (codes "textarea") tag) ≡ is_labelable_by r tag
tags_of_8 r tag h =
    rw (is_not (codes "button") tag 8 h refl, is_not (codes "meter") tag 8 h refl, is_not (codes "output") tag 8 h refl, is_not (codes "select") tag 8 h refl, is_not (codes "input") tag 8 h refl)
    (fourth_sixth (same_folded (codes "progress") tag) (same_folded (codes "textarea") tag))

pub no_tag_of : (r : Row) (tag : List ℕ) → eqb (length tag) 5 ≡ false → eqb (length tag) 6 ≡ false → eqb (length tag) 8 ≡ false → false ≡ is_labelable_by r tag
no_tag_of r tag five six eight =
    rw (apart (codes "button") tag six, apart (codes "meter") tag five, apart (codes "output") tag six, apart (codes "progress") tag eight, apart (codes "select") tag six, apart (codes "textarea") tag eight, apart (codes "input") tag five)
    refl
