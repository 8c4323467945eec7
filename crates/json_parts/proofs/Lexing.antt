-- A text without a bad lexeme gives the same lexemes before another text, where a word may end between the two.
use Rattle.std.proofs.Common.{◌≡◌, ℕ, zero, suc, ◌+◌, ◌≤◌, Bool, true, ◌&&◌, List, [], ◌∷◌, ◌++◌, length, Option, Some, None, is_some, refl, sym, ap, ap₂, ◌∙◌, arith, append_assoc, length-append}
use Rattle.std.proofs.lemmas.Bool.{false≢true, and_parts}
use Rattle.json.specs.Text.{content, plain}
use Rattle.json.specs.Word.{ends_word, word}
use Rattle.json.specs.Lex.{Lexeme, token, comma, colon, Class, quote, backslash, operator, space, other, class, operator_lexeme, string_token, Mode, between, in_word, in_string, lex_byte, lex}
use Rattle.json.specs.Align.{is_good}
use Rattle.json.proofs.Printed.Numbers.{in_word-ended}
use Rattle.json_parts.proofs.Strings.{closes}
use Rattle.json_parts.proofs.Words.{word_more}

-- no lexeme is bad
abbrev pub are_good : List Lexeme → Bool
are_good [] = true
are_good (token t ∷ ls) = is_good t && are_good ls
are_good (comma ∷ ls) = are_good ls
are_good (colon ∷ ls) = are_good ls

later_good : (l : Lexeme) (ls : List Lexeme) → are_good (l ∷ ls) ≡ true → are_good ls ≡ true
later_good (token t) ls h = (and_parts (is_good t) (are_good ls) h).1
later_good comma ls h = h
later_good colon ls h = h

string_good : (o : Option (List ℕ)) (ls : List Lexeme) → are_good (token (string_token o) ∷ ls) ≡ true → is_some o ≡ true
string_good None ls h = absurd (false≢true h)
string_good (Some s) ls h = refl

module _ (u : List ℕ) (ended : ends_word u ≡ true) where
  abbrev Extends : Mode → List ℕ → Type 0
  Extends m xs = are_good (lex m xs) ≡ true → lex m (xs ++ u) ≡ lex m xs ++ lex between u

  -- the same, for the class of the first byte
  abbrev Byte : Mode → Class → ℕ → List ℕ → Type 0
  Byte m c x xs = are_good (lex_byte m c x xs (λ n. lex n xs)) ≡ true → lex_byte m c x (xs ++ u) (λ n. lex n (xs ++ u)) ≡ lex_byte m c x xs (λ n. lex n xs) ++ lex between u

  text_first : (x n : ℕ) (xs : List ℕ) → length xs ≤ n → ((ys : List ℕ) → length ys ≤ n → Extends between ys) → Byte between quote x xs
  text_first x n xs le again h =
      let found = string_good (content plain xs) (lex in_string xs) h in
      let c = closes plain xs found in
      let here : lex in_string xs ≡ lex between c.back = ap (lex in_string) c.is ∙ c.lexed c.back in
      let further : lex in_string (xs ++ u) ≡ lex between (c.back ++ u) = ap (λ l. lex in_string (l ++ u)) c.is ∙ ap (lex in_string) (append_assoc c.front c.back u) ∙ c.lexed (c.back ++ u) in
      let read : content plain (xs ++ u) ≡ content plain xs = ap (λ l. content plain (l ++ u)) c.is ∙ ap (content plain) (append_assoc c.front c.back u) ∙ c.read (c.back ++ u) in
      let good : are_good (lex between c.back) ≡ true = ap are_good (sym here) ∙ later_good (token (string_token (content plain xs))) (lex in_string xs) h in
      let shorter : length c.back ≤ n = omega (arith, ap length c.is, length-append c.front c.back) in
      ap₂ (λ o ls. token (string_token o) ∷ ls) read (further ∙ again c.back shorter good ∙ ap (λ ls. ls ++ lex between u) (sym here))

  first_between : (c : Class) (x n : ℕ) (xs : List ℕ) → class x ≡ c → length xs ≤ n → ((ys : List ℕ) → length ys ≤ n → Extends between ys) → Extends in_word xs → Byte between c x xs
  first_between quote x n xs is le again word_again h = text_first x n xs le again h
  first_between backslash x n xs is le again word_again h = absurd (false≢true h)
  first_between operator x n xs is le again word_again h = ap (λ ls. operator_lexeme x ∷ ls) (again xs le (later_good (operator_lexeme x) (lex between xs) h))
  first_between space x n xs is le again word_again h = again xs le h
  first_between other x n xs is le again word_again h =
      let parts = and_parts (is_good (word (x ∷ xs))) (are_good (lex in_word xs)) h in
      ap₂ (λ w ls. token w ∷ ls) (word_more x xs u is parts.0 ended) (word_again parts.1)

  first_in_word : (c : Class) (x : ℕ) (xs : List ℕ) → Extends between xs → Extends in_word xs → Byte in_word c x xs
  first_in_word quote x xs again word_again h = word_again h
  first_in_word backslash x xs again word_again h = word_again h
  first_in_word operator x xs again word_again h = ap (λ ls. operator_lexeme x ∷ ls) (again (later_good (operator_lexeme x) (lex between xs) h))
  first_in_word space x xs again word_again h = again h
  first_in_word other x xs again word_again h = word_again h

  both : (n : ℕ) (xs : List ℕ) → length xs ≤ n → Extends between xs × Extends in_word xs
  unfolding lex
  both n [] le = (λ h. refl, λ h. in_word-ended u ended)
  both zero (x ∷ xs) le = let never : ⊥ = omega (arith, le) in absurd never
  both (suc n) (x ∷ xs) le =
      let less : length xs ≤ n = omega (arith, le) in
      let again = both n xs less in
      (first_between (class x) x n xs refl less (λ ys l. (both n ys l).0) again.1, first_in_word (class x) x xs again.0 again.1)

  pub lex_more : (xs : List ℕ) → are_good (lex between xs) ≡ true → lex between (xs ++ u) ≡ lex between xs ++ lex between u
  lex_more xs = (both (length xs) xs (omega arith)).0
