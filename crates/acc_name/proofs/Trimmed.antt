-- White space at the ends of a text is no part of its words.
use Rattle.std.proofs.Common.{◌≡◌, ℕ, List, [], ◌∷◌, ◌++◌, ◌&&◌, ◌==◌, length, Bool, true, false, cond, IsUtf8, refl, sym, ◌∙◌, ap, arith}
use Rattle.std.proofs.Math.Utf8.{scalars, scalar}
use Rattle.std.proofs.lemmas.Bool.{and_parts, eqb-true}
use Rattle.std.proofs.lemmas.List.{append-nil}
use Rattle.std.proofs.lemmas.Str.{chars-encodes, scalars-chars}
use Rattle.std.specs.Prelude.{encode_utf8}
use Rattle.std.specs.Char.{is_whitespace}
use Rattle.std.specs.Str.{chars, skip_leading_whitespace, drop_trailing_whitespace, trim_start, trim_end, trim}
use Rattle.texts.specs.Words.{ended, cut, words, spaced, tidy}
use Rattle.texts.proofs.Wording.{cut-skip}

-- ---- characters stay characters

scalars-skip : (cs : List ℕ) → scalars cs ≡ true → scalars (skip_leading_whitespace cs) ≡ true
scalars-skip [] h = refl
scalars-skip (c ∷ cs) h = by_white (is_whitespace c) (scalars-skip cs (and_parts (scalar c) (scalars cs) h).1)
  where
    by_white : (b : Bool) → scalars (skip_leading_whitespace cs) ≡ true → scalars (cond b (skip_leading_whitespace cs) (c ∷ cs)) ≡ true
    by_white true s = s
    by_white false s = h

scalars-drop : (cs : List ℕ) → scalars cs ≡ true → scalars (drop_trailing_whitespace cs) ≡ true
scalars-drop [] h = refl
scalars-drop (c ∷ cs) h =
    let both = and_parts (scalar c) (scalars cs) h in
    by_end (is_whitespace c && length (drop_trailing_whitespace cs) == 0) both.0 (scalars-drop cs both.1)
  where
    by_end : (b : Bool) → scalar c ≡ true → scalars (drop_trailing_whitespace cs) ≡ true → scalars (cond b [] (c ∷ drop_trailing_whitespace cs)) ≡ true
    by_end true is s = refl
    by_end false is s = rw is s

-- ---- words stay words

nil_of : (ds : List ℕ) → length ds ≡ 0 → ds ≡ []
nil_of [] h = refl
nil_of (d ∷ ds) h = absurd (omega (arith, h))

cut-white : (word cs : List ℕ) (c : ℕ) → is_whitespace c ≡ true → cut word (c ∷ cs) ≡ ended word ++ cut [] cs
cut-white word cs c e = ap (λ b. cond b (ended word ++ cut [] cs) (cut (word ++ encode_utf8 c) cs)) e

cut-letter : (word cs : List ℕ) (c : ℕ) → is_whitespace c ≡ false → cut word (c ∷ cs) ≡ cut (word ++ encode_utf8 c) cs
cut-letter word cs c e = ap (λ b. cond b (ended word ++ cut [] cs) (cut (word ++ encode_utf8 c) cs)) e

cut-end : (cs word : List ℕ) → cut word (drop_trailing_whitespace cs) ≡ cut word cs
cut-end [] word = refl
cut-end (c ∷ cs) word = by_tests (is_whitespace c) (length (drop_trailing_whitespace cs) == 0) (drop_trailing_whitespace cs) refl refl (cut-end cs)
  where
    by_tests : (b none : Bool) (ds : List ℕ) → is_whitespace c ≡ b → (length ds == 0) ≡ none → ((w : List ℕ) → cut w ds ≡ cut w cs)
        → cut word (cond (is_whitespace c && length ds == 0) [] (c ∷ ds)) ≡ cut word (c ∷ cs)
    by_tests true true ds e k same =
        ap (λ t. cut word (cond t [] (c ∷ ds))) (ap (λ t. t && length ds == 0) e ∙ k) ∙ sym (append-nil (ended word))
        ∙ ap (λ ws. ended word ++ ws) (sym (ap (cut []) (nil_of ds (eqb-true (length ds) 0 k))) ∙ same []) ∙ sym (cut-white word cs c e)
    by_tests true false ds e k same =
        ap (λ t. cut word (cond t [] (c ∷ ds))) (ap (λ t. t && length ds == 0) e ∙ k) ∙ cut-white word ds c e
        ∙ ap (λ ws. ended word ++ ws) (same []) ∙ sym (cut-white word cs c e)
    by_tests false none ds e k same =
        ap (λ t. cut word (cond (t && length ds == 0) [] (c ∷ ds))) e ∙ cut-letter word ds c e
        ∙ same (word ++ encode_utf8 c) ∙ sym (cut-letter word cs c e)

start_is_utf8 : (text : List ℕ) → IsUtf8 text → IsUtf8 (trim_start text)
unfolding trim_start
start_is_utf8 text is = (skip_leading_whitespace (chars text), (scalars-skip (chars text) (scalars-chars text is), refl))

words-start : (text : List ℕ) → IsUtf8 text → words (trim_start text) ≡ words text
unfolding trim_start
words-start text is = ap (cut []) (chars-encodes (skip_leading_whitespace (chars text)) (scalars-skip (chars text) (scalars-chars text is))) ∙ sym (cut-skip (chars text))

words-end : (text : List ℕ) → IsUtf8 text → words (trim_end text) ≡ words text
unfolding trim_end
words-end text is = ap (cut []) (chars-encodes (drop_trailing_whitespace (chars text)) (scalars-drop (chars text) (scalars-chars text is))) ∙ cut-end (chars text) []

pub tidy_trim : (text : List ℕ) → IsUtf8 text → tidy (trim text) ≡ tidy text
tidy_trim text is = ap spaced (words-end (trim_start text) (start_is_utf8 text is) ∙ words-start text is)
