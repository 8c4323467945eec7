-- Texts of JSON values, by themselves and before what follows them.
use Rattle.std.proofs.Common.{◌≡◌, ℕ, ◌≤◌, Bool, true, false, ◌&&◌, if◌then◌else◌, List, [], ◌∷◌, ◌++◌, Option, Some, None, is_some, option_map, option_and_then, IsUtf8, refl, sym, ap, ◌∙◌, subst, arith, append-nil}
use Rattle.std.proofs.lemmas.Bool.{false≢true, and_parts}
use Rattle.std.proofs.lemmas.Str.{IsUtf8-append, IsUtf8-from_is_utf8}
use Rattle.std.specs.Str.{is_utf8}
use Rattle.json.specs.Token.{Token}
use Rattle.json.specs.Lex.{fresh, after_value, between, lex, begins_colon, punctuate, tokens}
use Rattle.json.specs.Word.{ends_word}
use Rattle.json.specs.Json.{Json, value, if_last}
use Rattle.json.specs.Tree.{json_tokens, depth}
use Rattle.json.proofs.Printed.Trees.{value-json_tokens}
use Rattle.json.proofs.Unique.Spelling.{value-json_tokens_back}
use Rattle.json.proofs.Nesting.{value-depth}
use Rattle.serde_json.specs.Data.{Data}
use Rattle.serde_json.specs.Read.{of_json, read}
use Rattle.json_parts.specs.Parts.{is_end, is_shallow, value_of}
use Rattle.json_parts.proofs.Lexing.{lex_more}
use Rattle.json_parts.proofs.Places.{all_good, ended, punctuate_more, lexemes_good}
use Rattle.json_parts.proofs.Trees.{value_good, value_ended}

-- ---- a text

-- the text is spelled by a JSON value nested at most so deep, which means this one
pub record Means (deepest : ℕ) (part : List ℕ) (d : Data) : Type 0 where
  pub j : Json
  pub utf8 : IsUtf8 part
  pub spelled : tokens part ≡ json_tokens j
  pub shallow : depth j ≤ deepest
  pub means : of_json j ≡ Some d

-- what is read of the tokens of a value
pub read_of : (text : List ℕ) (j : Json) → tokens text ≡ json_tokens j → depth j ≤ 127 → read text ≡ of_json j
read_of text j is h =
    ap (λ ts. option_and_then of_json (option_and_then (λ p. if_last p.0 p.1) (value 127 ts))) (is ∙ sym (append-nil (json_tokens j)))
    ∙ ap (λ o. option_and_then of_json (option_and_then (λ p. if_last p.0 p.1) o)) (value-json_tokens j 127 [] h)

module _ (n : ℕ) (within : n ≤ 127) where
  of_value : (part : List ℕ) (d : Data) (o : Option (Json × List Token)) → IsUtf8 part → value n (tokens part) ≡ o → is_end (option_map (λ p. p.1) o) ≡ true → read part ≡ Some d → Means n part d
  of_value part d None utf8 is end h = absurd (false≢true end)
  of_value part d (Some (j, u ∷ us)) utf8 is end h = absurd (false≢true end)
  of_value part d (Some (j, [])) utf8 is end h =
      let spelled = value-json_tokens_back n (tokens part) [] j is ∙ append-nil (json_tokens j) in
      let shallow = value-depth n (tokens part) [] j is in
      record { j = j; utf8 = utf8; spelled = spelled; shallow = shallow; means = sym (read_of part j spelled (omega (arith, shallow, within))) ∙ h }

  shallow_end : (part : List ℕ) → is_shallow n part ≡ true → is_end (option_map (λ p. p.1) (value n (tokens part))) ≡ true
  unfolding is_shallow
  shallow_end part h = h

  if_part : (part : List ℕ) (d : Data) (b : Bool) → (is_utf8 part && is_shallow n part) ≡ b → (if b then read part else None) ≡ Some d → Means n part d
  if_part part d false is h = absurd (false≢true (ap is_some h))
  if_part part d true is h =
      let parts = and_parts (is_utf8 part) (is_shallow n part) is in
      of_value part d (value n (tokens part)) (IsUtf8-from_is_utf8 part parts.0) refl (shallow_end part parts.1) h

  pub of_text : (part : List ℕ) (d : Data) → value_of n part ≡ Some d → Means n part d
  unfolding value_of
  of_text part d h = if_part part d (is_utf8 part && is_shallow n part) refl h

-- ---- a text before what follows it

pub follows : (n : ℕ) (part u : List ℕ) (d : Data) (m : Means n part d) → ends_word u ≡ true → begins_colon (lex between u) ≡ false
    → punctuate fresh (lex between (part ++ u)) ≡ json_tokens m.j ++ punctuate after_value (lex between u)
follows n part u d m ended_there no_colon =
    let good = subst (λ ts. all_good ts ≡ true) (sym m.spelled) (value_good m.j) in
    let last = subst (λ ts. ended false ts ≡ true) (sym m.spelled) (value_ended m.j false) in
    ap (punctuate fresh) (lex_more u ended_there part (lexemes_good (lex between part) fresh good))
    ∙ punctuate_more (lex between u) no_colon (lex between part) fresh good last ∙ ap (λ ts. ts ++ punctuate after_value (lex between u)) m.spelled

pub ascii_first : (x : ℕ) (xs : List ℕ) → IsUtf8 (x ∷ []) → IsUtf8 xs → IsUtf8 (x ∷ xs)
ascii_first x xs one rest = IsUtf8-append (x ∷ []) xs one rest
