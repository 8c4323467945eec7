-- A text that grows by parts.
use Rattle.std.proofs.Common.{◌≡◌, ◌<◌, ◌^◌, ℕ, List, [], ◌∷◌, ◌++◌, length, decimal, refl, sym, ap, ◌∙◌, append_assoc, arith}
use Rattle.std.proofs.lemmas.Fmt.{decimal_nonempty}
use Rattle.std.specs.List.{join_with_byte}
use Rattle.rules_aria.specs.Joined.{added}

-- what has come so far, and then these parts
abbrev pub joined_on : ℕ → List ℕ → List (List ℕ) → List ℕ
joined_on separator [] parts = join_with_byte separator parts
joined_on separator (b ∷ text) [] = b ∷ text
joined_on separator (b ∷ text) (part ∷ parts) = (b ∷ text) ++ separator ∷ join_with_byte separator (part ∷ parts)

joined_on-added : (separator : ℕ) (text part : List ℕ) (parts : List (List ℕ)) → 0 < length part → joined_on separator text (part ∷ parts) ≡ joined_on separator (added separator text part) parts
joined_on-added separator [] [] parts h = absurd (omega arith)
joined_on-added separator [] (c ∷ part) [] h = refl
joined_on-added separator [] (c ∷ part) (next ∷ parts) h = refl
joined_on-added separator (b ∷ text) part [] h = sym (append_assoc (b ∷ text) (separator ∷ []) part)
joined_on-added separator (b ∷ text) part (next ∷ parts) h =
    sym (ap (λ t. t ++ separator ∷ join_with_byte separator (next ∷ parts)) (append_assoc (b ∷ text) (separator ∷ []) part)
    ∙ append_assoc (b ∷ text) (separator ∷ part) (separator ∷ join_with_byte separator (next ∷ parts)))

pub number_joined : (text : List ℕ) (n : ℕ) (parts : List (List ℕ)) → n < 2 ^ 32 → joined_on 32 text (decimal n ∷ parts) ≡ joined_on 32 (added 32 text (decimal n)) parts
number_joined text n parts h = joined_on-added 32 text (decimal n) parts (decimal_nonempty n (omega arith))
