-- A list cut at one more comma.
use Rattle.std.proofs.Common.{◌≡◌, ℕ, ◌+◌, ◌<◌, List, [], ◌∷◌, ◌++◌, length, map, refl, sym, ap, ◌∙◌, arith, length-append}
use Rattle.std.specs.Borrow.{Bor}
use Rattle.std.proofs.lemmas.List.{map-append}
use Rattle.json_parts.specs.Parts.{joined}

joined_more : (parts : List (List ℕ)) (a b : List ℕ) → joined (parts ++ (a ++ 44 ∷ b) ∷ []) ≡ joined ((parts ++ a ∷ []) ++ b ∷ [])
joined_more [] a b = refl
joined_more (part ∷ []) a b = refl
joined_more (part ∷ other ∷ others) a b = ap (λ l. part ++ 44 ∷ l) (joined_more (other ∷ others) a b)

-- what a slice shows
abbrev pub shown : Bor (List ℕ) → List ℕ
shown p = p.now

-- what is left is cut in two
pub cut_more : (parts now : List (Bor (List ℕ))) (part : Bor (List ℕ)) (rest later list : List ℕ) → now ≡ parts ++ part ∷ [] → rest ≡ part.now ++ 44 ∷ later
    → joined (map shown parts ++ rest ∷ []) ≡ list → joined (map shown now ++ later ∷ []) ≡ list
cut_more parts now part rest later list is cut before =
    ap (λ ps. joined (map shown ps ++ later ∷ [])) is ∙ ap (λ ps. joined (ps ++ later ∷ [])) (map-append shown parts (part ∷ []))
    ∙ sym (joined_more (map shown parts) part.now later) ∙ ap (λ l. joined (map shown parts ++ l ∷ [])) (sym cut) ∙ before

pub shorter : (rest part later : List ℕ) → rest ≡ part ++ 44 ∷ later → length later < length rest
shorter rest part later cut = omega (arith, ap length cut, length-append part (44 ∷ later))
