-- A text that was prepared for names.
use Rattle.std.proofs.Common.{◌≡◌, ◌<◌, ◌+◌, ℕ, Bool, true, false, cond, List, ◌∷◌, ◌++◌, length, nat_le, decimal, codes, refl, sym, ◌∙◌, arith}
use Rattle.std.proofs.lemmas.Bool.{leb-true}
use Rattle.std.proofs.lemmas.List.{length-append}
use Rattle.hex.specs.Hex.{encode_lower}
use Rattle.sha2.specs.Sha256.{sha256}
use Rattle.rule_core.specs.Brief.{digested, brief}

by_length : (text : List ℕ) → 4096 < length text → (fits : Bool) → nat_le (length text) 4096 ≡ fits → cond fits text (digested text) ≡ digested text
by_length text long true e = absurd (omega (arith, long, leb-true (length text) 4096 e))
by_length text long false e = refl

long_digested : (text : List ℕ) → 4096 < length text → brief text ≡ digested text
unfolding brief
long_digested text long = by_length text long (nat_le (length text) 4096) refl

joined : (shown name : List ℕ) → length (shown ++ 10 ∷ name) ≡ length shown + (length name + 1)
joined shown name = omega (arith, length-append shown (10 ∷ name))

-- what stands for a long text and a name
pub long_is : (shown name : List ℕ) (n : ℕ) (hash : List ℕ) → 4096 < length shown → n ≡ length (shown ++ 10 ∷ name) → hash ≡ sha256 (shown ++ 10 ∷ name)
    → codes "long " ++ decimal n ++ 32 ∷ encode_lower hash ≡ brief (shown ++ 10 ∷ name)
unfolding digested
long_is shown name n hash long count is =
    (λ i. codes "long " ++ decimal (count i) ++ 32 ∷ encode_lower (is i))
    ∙ sym (long_digested (shown ++ 10 ∷ name) (omega (arith, long, joined shown name)))
