-- A word is looked for among those of its length alone.
use Rattle.std.proofs.Common.{◌≡◌, ℕ, Bool, true, false, cond, eqb, eq-eqb, List, [], ◌∷◌, length, filter, Some, refl, sym, ap, ◌∙◌}
use Rattle.std.proofs.lemmas.Bool.{false≢true, eqb-true}
use Rattle.std.proofs.lemmas.List.{length-map}
use Rattle.std.proofs.lemmas.Slice.Eq.{bytes_eq-Decides}
use Rattle.std.specs.Char.{to_ascii_lowercase}
use Rattle.std.specs.List.{find, list_any}
use Rattle.texts.specs.Words.{folded, same_folded}

-- what passes p passes q too, so p finds the same among those that pass q
pub find-filter : {X : Type 0} (p q : X → Bool) → ((x : X) → p x ≡ true → q x ≡ true) → (xs : List X) → find p (filter q xs) ≡ find p xs
find-filter p q both [] = refl
find-filter p q both (x ∷ xs) = by_tests (p x) (q x) refl refl (find-filter p q both xs)
  where
    by_tests : (b k : Bool) → p x ≡ b → q x ≡ k → find p (filter q xs) ≡ find p xs → find p (filter q (x ∷ xs)) ≡ find p (x ∷ xs)
    by_tests true true e f rest =
        ap (λ k. find p (cond k (x ∷ filter q xs) (filter q xs))) f ∙ ap (λ b. cond b (Some x) (find p (filter q xs))) e ∙ sym (ap (λ b. cond b (Some x) (find p xs)) e)
    by_tests true false e f rest = absurd (false≢true (sym f ∙ both x e))
    by_tests false true e f rest =
        ap (λ k. find p (cond k (x ∷ filter q xs) (filter q xs))) f ∙ ap (λ b. cond b (Some x) (find p (filter q xs))) e ∙ rest ∙ sym (ap (λ b. cond b (Some x) (find p xs)) e)
    by_tests false false e f rest =
        ap (λ k. find p (cond k (x ∷ filter q xs) (filter q xs))) f ∙ rest ∙ sym (ap (λ b. cond b (Some x) (find p xs)) e)

-- texts that are equal but for case have one length
pub same_folded-length : (a b : List ℕ) → same_folded a b ≡ true → eqb (length b) (length a) ≡ true
same_folded-length a b h =
    ap (λ n. eqb n (length a)) (sym (length-map b to_ascii_lowercase) ∙ ap length (sym ((bytes_eq-Decides (folded a) (folded b)).0 h)) ∙ length-map a to_ascii_lowercase) ∙ eq-eqb (length a) (length a) refl

pub filter_nothing : {X : Type 0} (q : X → Bool) → ((x : X) → q x ≡ false) → (xs : List X) → [] ≡ filter q xs
filter_nothing q none [] = refl
filter_nothing q none (x ∷ xs) = filter_nothing q none xs ∙ sym (ap (λ b. cond b (x ∷ filter q xs) (filter q xs)) (none x))

abbrev pub is_length : List ℕ → ℕ → Bool
is_length lengths n = list_any (eqb n) lengths

-- a length that isn't among some is none of them
pub unknown_length : (lengths : List ℕ) (n m : ℕ) → is_length lengths m ≡ true → is_length lengths n ≡ false → (b : Bool) → eqb m n ≡ b → b ≡ false
unknown_length lengths n m known unknown false e = refl
unknown_length lengths n m known unknown true e =
    absurd (false≢true (sym unknown ∙ ap (is_length lengths) (sym (eqb-true m n e)) ∙ known))
