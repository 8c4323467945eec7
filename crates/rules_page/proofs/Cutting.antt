-- A text in pieces.
use Rattle.std.proofs.Common.{◌≡◌, ◌==◌, ◌<◌, ◌+◌, ℕ, suc, List, [], ◌∷◌, ◌++◌, length, drop, take, Bool, true, false, cond, Option, refl, sym, ap, ◌∙◌, arith}
use Rattle.std.specs.List.{before_first, after_first, position_or_len}
use Rattle.std.specs.Option.{option_or}
use Rattle.rules_page.specs.declared.viewport.Limit.{Limit}
use Rattle.rules_page.specs.Viewport.{onto, pieces, part_limits, last_limits}

-- the place of the first such byte
abbrev place : ℕ → List ℕ → ℕ
place c text = position_or_len (λ b. b == c) text

-- a byte more before the cut
further : (c b : ℕ) (text : List ℕ) (k : ℕ) → k ≡ suc (place c text) → (b ∷ take (place c text) text) ∷ pieces c (drop (place c text + 1) text) ≡ take k (b ∷ text) ∷ pieces c (drop (k + 1) (b ∷ text))
further c b text k e =
    let more : k + 1 ≡ suc (place c text + 1) = omega arith in
    ap (λ first. first ∷ pieces c (drop (place c text + 1) text)) (sym (ap (λ m. take m (b ∷ text)) e))
    ∙ ap (λ rest. take k (b ∷ text) ∷ pieces c rest) (sym (ap (λ m. drop m (b ∷ text)) more))

-- at the first such byte a text is cut
pub cut_at : (c : ℕ) (text : List ℕ) → place c text < length text → pieces c text ≡ before_first (λ b. b == c) text ∷ pieces c (after_first (λ b. b == c) text)
cut_at c [] h = absurd (omega arith)
cut_at c (b ∷ text) h = by_byte (b == c) refl (cut_at c text)
  where
    by_byte : (is : Bool) → (b == c) ≡ is → (place c text < length text → pieces c text ≡ before_first (λ b. b == c) text ∷ pieces c (after_first (λ b. b == c) text)) → pieces c (b ∷ text) ≡ before_first (λ b. b == c) (b ∷ text) ∷ pieces c (after_first (λ b. b == c) (b ∷ text))
    by_byte true e later = rw e refl
    by_byte false e later =
        let at : place c (b ∷ text) ≡ suc (place c text) = rw e (omega arith) in
        let less : place c text < length text = omega arith in
        let first : pieces c (b ∷ text) ≡ onto b (pieces c text) = rw e refl in
        first ∙ ap (onto b) (later less) ∙ further c b text (place c (b ∷ text)) at

-- a text without such a byte is one piece
pub uncut : (c : ℕ) (text : List ℕ) → place c text ≡ length text → pieces c text ≡ text ∷ []
uncut c [] h = refl
uncut c (b ∷ text) h = by_byte (b == c) refl (uncut c text)
  where
    by_byte : (is : Bool) → (b == c) ≡ is → (place c text ≡ length text → pieces c text ≡ text ∷ []) → pieces c (b ∷ text) ≡ (b ∷ text) ∷ []
    by_byte true e later =
        let at : place c (b ∷ text) ≡ 0 = rw e refl in
        absurd (omega arith)
    by_byte false e later =
        let at : place c (b ∷ text) ≡ suc (place c text) = rw e (omega arith) in
        let same : place c text ≡ length text = omega arith in
        rw e (ap (onto b) (later same))

-- what the last pair says in some parts and then others
pub last_of_both : (l : Limit) (found : Option Bool) (xs ys : List (List ℕ)) → last_limits l found (xs ++ ys) ≡ last_limits l (last_limits l found xs) ys
last_of_both l found [] ys = refl
last_of_both l found (part ∷ xs) ys = last_of_both l (option_or (part_limits l part) found) xs ys
