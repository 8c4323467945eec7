-- Visible ASCII characters with single spaces between them are a tidy text.
use Rattle.std.proofs.Common.{◌≡◌, ◌⊎◌, inl, inr, IsTrue, ◌<◌, ℕ, List, [], ◌∷◌, ◌++◌, length, Bool, true, false, not, ◌&&◌, ◌==◌, refl, sym, ◌∙◌, ap, arith, append_assoc}
use Rattle.std.proofs.lemmas.Bool.{and_parts, eqb-true, agree_below_at}
use Rattle.std.proofs.lemmas.List.{append-nil, length-append}
use Rattle.std.proofs.lemmas.Str.{chars-IsAscii, encode_ascii}
use Rattle.std.proofs.lemmas.Str.Ascii.{IsAscii-nil, IsAscii-cons}
use Rattle.std.specs.Char.{is_whitespace}
use Rattle.std.specs.Int.{is_in_range}
use Rattle.std.specs.Str.{IsAscii}
use Rattle.texts.specs.Words.{ended, cut, spaced, tidy}

-- whether a byte is a visible character or a space, and no space that follows another
abbrev pub may_follow : Bool → ℕ → Bool
may_follow after_space b = not (b == 32 && after_space) && is_in_range 32 126 b

-- whether these bytes may come next, and end the text
abbrev pub goes_on : Bool → List ℕ → Bool
goes_on after_space [] = not after_space
goes_on after_space (b ∷ bs) = may_follow after_space b && goes_on (b == 32) bs

-- a visible character
abbrev is_letter : ℕ → Bool
is_letter b = not (b == 32) && is_in_range 32 126 b

below_128 : (b : ℕ) → is_letter b ≡ true → b < 128
below_128 b h = grind arith

no_space : (b : ℕ) → is_letter b ≡ true → is_whitespace b ≡ false
no_space b h = ap (λ g. g && is_whitespace b) (sym h) ∙ agree_below_at (λ c. is_letter c && is_whitespace c) (λ c. false) 128 b refl (below_128 b h)

space_follows : (after_space : Bool) → may_follow after_space 32 ≡ true → after_space ≡ false
space_follows true h = cc
space_follows false h = refl

-- a byte that may come next is a space, which doesn't follow another, or a visible character
abbrev Follows : Bool → ℕ → Type 0
Follows after_space b = ((b ≡ 32) × (after_space ≡ false) × ((b == 32) ≡ true)) ⊎ ((is_letter b ≡ true) × ((b == 32) ≡ false))

follow_cases : (after_space : Bool) (b : ℕ) → may_follow after_space b ≡ true → Follows after_space b
follow_cases after_space b h = by_test (b == 32) refl
  where
    by_test : (t : Bool) → (b == 32) ≡ t → Follows after_space b
    by_test true e =
        let is = eqb-true b 32 e in
        inl (is, space_follows after_space (sym (ap (may_follow after_space) is) ∙ h), e)
    by_test false e = inr (ap (λ t. not t && is_in_range 32 126 b) e ∙ sym (ap (λ t. not (t && after_space) && is_in_range 32 126 b) e) ∙ h, e)

plain_IsAscii : (after_space : Bool) (bs : List ℕ) → goes_on after_space bs ≡ true → IsAscii bs
plain_IsAscii after_space [] h = IsAscii-nil
plain_IsAscii after_space (b ∷ bs) h =
    let both = and_parts (may_follow after_space b) (goes_on (b == 32) bs) h in
    IsAscii-cons b bs (byte (follow_cases after_space b both.0)) (plain_IsAscii (b == 32) bs both.1)
  where
    byte : Follows after_space b → b < 128
    byte (inl space) = omega (arith, space.0)
    byte (inr letter) = below_128 b letter.0

ended_word : (word : List ℕ) → 0 < length word → ended word ≡ word ∷ []
ended_word [] h = absurd (omega arith)
ended_word (b ∷ word) h = refl

spaced_cons : (word bs : List ℕ) (ws : List (List ℕ)) → spaced ws ≡ bs → 0 < length bs → spaced (word ∷ ws) ≡ word ++ 32 ∷ bs
spaced_cons word bs [] e some = absurd (omega (arith, ap length e))
spaced_cons word bs (w ∷ ws) e some = ap (λ text. word ++ 32 ∷ text) e

-- the bytes that may come after a word are its rest and further words
abbrev WithWord : List ℕ → Type 0
WithWord bs = (word : List ℕ) → 0 < length word → goes_on false bs ≡ true → spaced (cut word bs) ≡ word ++ bs

abbrev AtStart : List ℕ → Type 0
AtStart bs = goes_on true bs ≡ true → spaced (cut [] bs) ≡ bs

cut_letter : (word bs : List ℕ) (b : ℕ) → is_letter b ≡ true → cut word (b ∷ bs) ≡ cut (word ++ b ∷ []) bs
cut_letter word bs b h = rw (no_space b h, encode_ascii b (below_128 b h)) refl

cut_space : (word bs : List ℕ) (b : ℕ) → b ≡ 32 → 0 < length word → cut word (b ∷ bs) ≡ word ∷ cut [] bs
cut_space word bs b is some = ap (λ c. cut word (c ∷ bs)) is ∙ ap (λ ws. ws ++ cut [] bs) (ended_word word some)

not_empty : (bs : List ℕ) → goes_on true bs ≡ true → 0 < length bs
not_empty [] h = cc
not_empty (b ∷ bs) h = omega arith

word_step : (b : ℕ) (bs : List ℕ) → WithWord bs → AtStart bs → WithWord (b ∷ bs)
word_step b bs on anew word some h =
    let both = and_parts (may_follow false b) (goes_on (b == 32) bs) h in
    by_byte (follow_cases false b both.0) both.1
  where
    by_byte : Follows false b → goes_on (b == 32) bs ≡ true → spaced (cut word (b ∷ bs)) ≡ word ++ b ∷ bs
    by_byte (inl space) h =
        let later = sym (ap (λ t. goes_on t bs) space.2) ∙ h in
        ap spaced (cut_space word bs b space.0 some) ∙ spaced_cons word bs (cut [] bs) (anew later) (not_empty bs later)
        ∙ sym (ap (λ c. word ++ c ∷ bs) space.0)
    by_byte (inr letter) h =
        let later = sym (ap (λ t. goes_on t bs) letter.1) ∙ h in
        ap spaced (cut_letter word bs b letter.0) ∙ on (word ++ b ∷ []) (omega (arith, length-append word (b ∷ []))) later
        ∙ append_assoc word (b ∷ []) bs

start_step : (b : ℕ) (bs : List ℕ) → WithWord bs → AtStart (b ∷ bs)
start_step b bs on h =
    let both = and_parts (may_follow true b) (goes_on (b == 32) bs) h in
    by_byte (follow_cases true b both.0) both.1
  where
    by_byte : Follows true b → goes_on (b == 32) bs ≡ true → spaced (cut [] (b ∷ bs)) ≡ b ∷ bs
    by_byte (inl space) h = cc
    by_byte (inr letter) h =
        let later = sym (ap (λ t. goes_on t bs) letter.1) ∙ h in
        ap spaced (cut_letter [] bs b letter.0) ∙ on (b ∷ []) (omega arith) later

plain_words : (bs : List ℕ) → WithWord bs × AtStart bs
plain_words [] = (λ word some h. ap spaced (ended_word word some) ∙ sym (append-nil word), λ h. cc)
plain_words (b ∷ bs) = (word_step b bs (plain_words bs).0 (plain_words bs).1, start_step b bs (plain_words bs).0)

pub plain_is_tidy : (text : List ℕ) → goes_on true text ≡ true → tidy text ≡ text
plain_is_tidy text h = ap (λ cs. spaced (cut [] cs)) (chars-IsAscii text (plain_IsAscii true text h)) ∙ (plain_words text).1 h

-- all bytes have been looked at
pub plain-all : (text rest : List ℕ) (plain after_space : Bool) → length rest < 1 → (plain && goes_on after_space rest) ≡ goes_on true text
    → IsTrue (plain && not after_space) → tidy text ≡ text
plain-all text [] plain after_space end seen h = plain_is_tidy text (sym seen ∙ h)
plain-all text (b ∷ rest) plain after_space end seen h = absurd (omega arith)
