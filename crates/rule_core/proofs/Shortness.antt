-- What stands in evidence is short: itself, or a word, a length and a digest.
use Rattle.std.proofs.Common.{◌≡◌, ◌≤◌, ◌<◌, ◌^◌, ◌+◌, ◌*◌, ℕ, Bool, true, false, cond, List, ◌∷◌, ◌++◌, length, nat_le, decimal, refl, ap, ◌∙◌, arith}
use Rattle.std.proofs.lemmas.Bool.{leb-true, le-leb}
use Rattle.std.proofs.lemmas.Fmt.{length-decimal-le}
use Rattle.std.proofs.lemmas.List.{length-append}
use Rattle.hex.specs.Hex.{encode_lower, lower_digits}
use Rattle.hex.proofs.HexLemmas.{length-encode_with}
use Rattle.sha2.proofs.Facts256.{length-sha256}
use Rattle.rule_core.specs.declared.evidence.TheConstants.{LONGEST}
use Rattle.rule_core.specs.Brief.{digest, digested, brief}

-- 64 digits of the digest
length_digits : (text : List ℕ) → length (encode_lower (digest text)) ≡ 64
length_digits text = length-encode_with lower_digits (digest text) ∙ ap (λ n. 2 * n) (length-sha256 text)

digested_short : (text : List ℕ) → length text < 2 ^ 64 → length (digested text) ≤ 90
unfolding digested
digested_short text small =
    let few : length (decimal (length text)) ≤ 20 = length-decimal-le 20 (length text) (omega arith) (omega arith) small in
    let all : length (decimal (length text) ++ 32 ∷ encode_lower (digest text)) ≡ length (decimal (length text)) + length (32 ∷ encode_lower (digest text)) =
    length-append (decimal (length text)) (32 ∷ encode_lower (digest text)) in
    omega (arith, few, all, length_digits text)

by_length : (text : List ℕ) → length text < 2 ^ 64 → (fits : Bool) → nat_le (length text) LONGEST ≡ fits → length (cond fits text (digested text)) ≤ 4096
by_length text small true e = leb-true (length text) LONGEST e
by_length text small false e = omega (arith, digested_short text small)

pub brief_short : (text : List ℕ) → length text < 2 ^ 64 → length (brief text) ≤ 4096
unfolding brief
brief_short text small = by_length text small (nat_le (length text) LONGEST) refl

pub brief_itself : (text : List ℕ) → length text ≤ 4096 → brief text ≡ text
unfolding brief
brief_itself text short = ap (λ b. cond b text (digested text)) (le-leb (length text) LONGEST short)
