-- A target is cut before its first question mark.
use Rattle.std.proofs.Common.{◌≡◌, ◌≢◌, ℕ, zero, suc, ◌<◌, ◌≤◌, inl, inr, Bool, true, false, cond, ◌==◌, List, [], ◌∷◌, length, get_or, take, drop, refl, sym, ap, ◌∙◌, eq-eqb, arith}
use Rattle.std.proofs.lemmas.Bool.{ne_eqb, cases_lt}
use Rattle.std.proofs.lemmas.List.{take_all}
use Rattle.segment_routes.specs.Paths.{before}

before_at : (xs : List ℕ) (stop i : ℕ) → i < length xs → get_or xs i 0 ≡ stop → ((k : ℕ) → k < i → get_or xs k 0 ≢ stop) → take i xs ≡ before stop xs
before_at [] stop i inside here none = absurd (omega arith)
before_at (b ∷ xs) stop zero inside here none = ap (λ t. cond t [] (b ∷ before stop xs)) (sym (eq-eqb b stop here))
before_at (b ∷ xs) stop (suc i) inside here none =
    ap (λ l. b ∷ l) (before_at xs stop i (omega arith) here (λ k below. none (suc k) (omega arith)))
    ∙ ap (λ t. cond t [] (b ∷ before stop xs)) (sym (ne_eqb b stop (none 0 (omega arith))))

before_all : (xs : List ℕ) (stop : ℕ) → ((k : ℕ) → k < length xs → get_or xs k 0 ≢ stop) → xs ≡ before stop xs
before_all [] stop none = refl
before_all (b ∷ xs) stop none =
    ap (λ l. b ∷ l) (before_all xs stop (λ k below. none (suc k) (omega arith)))
    ∙ ap (λ t. cond t [] (b ∷ before stop xs)) (sym (ne_eqb b stop (none 0 (omega arith))))

-- the bytes before the first of this kind, by its place
pub before_first : (xs : List ℕ) (stop i : ℕ) → i ≤ length xs → ((k : ℕ) → k < i → get_or xs k 0 ≢ stop) → (i < length xs → get_or xs i 0 ≡ stop) → take i xs ≡ before stop xs
before_first xs stop i within none here =
    elim (cases_lt i (length xs)) [
      | inl inside ↦ before_at xs stop i inside (here inside) none
      | inr past ↦ take_all i xs past ∙ before_all xs stop (λ k below. none k (omega arith))
    ]
