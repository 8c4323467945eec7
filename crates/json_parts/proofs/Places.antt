-- Lexemes of a value are punctuated alike by themselves, in a list, and before what may follow a value.
use Rattle.std.proofs.Common.{◌≡◌, ℕ, Bool, true, false, ◌&&◌, List, [], ◌∷◌, ◌++◌, refl, ap, ◌∙◌}
use Rattle.std.proofs.lemmas.Bool.{false≢true, and_parts}
use Rattle.json.specs.Token.{Token, begin_object, end_object, begin_array, end_array, key, string, number, boolean, null, bad}
use Rattle.json.specs.Lex.{Lexeme, token, comma, colon, Place, fresh, after_value, after_comma, after_key, begins_colon, may_begin, may_close, if_allowed, place_token, punctuate}
use Rattle.json.specs.Print.{begins, ends}
use Rattle.json.specs.Align.{is_good}
use Rattle.json_parts.proofs.Lexing.{are_good}

-- no token is bad
abbrev pub all_good : List Token → Bool
all_good [] = true
all_good (t ∷ ts) = is_good t && all_good ts

-- whether the last token ends a value
abbrev pub ended : Bool → List Token → Bool
ended b [] = b
ended b (t ∷ ts) = ended (ends t) ts

-- whether a value has ended there, if nothing follows
abbrev at : Place → Bool
at fresh = false
at after_value = true
at after_comma = true
at after_key = false

-- ---- before what may follow a value

same_colon : (ls ms : List Lexeme) → begins_colon ms ≡ false → begins_colon (ls ++ ms) ≡ begins_colon ls
same_colon [] ms h = h
same_colon (token t ∷ ls) ms h = refl
same_colon (comma ∷ ls) ms h = refl
same_colon (colon ∷ ls) ms h = refl

module _ (ms : List Lexeme) (no_colon : begins_colon ms ≡ false) where
  abbrev rest : List Token
  rest = punctuate after_value ms

  abbrev Goes : List Token → List Token → Bool → Type 0
  Goes here there b = all_good here ≡ true → ended b here ≡ true → there ≡ here ++ rest

  allowed : (b : Bool) (t : Token) (k k' : Place → List Token) (next : Place) (c : Bool) → Goes (k next) (k' next) (ends t) → Goes (if_allowed b t k next) (if_allowed b t k' next) c
  allowed true t k k' next c goes good last = ap (λ ts. t ∷ ts) (goes (and_parts (is_good t) (all_good (k next)) good).1 last)
  allowed false t k k' next c goes good last = absurd (false≢true good)

  text_goes : (p : Place) (s : List ℕ) (b : Bool) (k k' : Place → List Token) → ((n : Place) → Goes (k n) (k' n) (at n)) → Goes (place_token p (string s) b k) (place_token p (string s) b k') (at p)
  text_goes p s true k k' goes = allowed (may_begin p) (key s) k k' after_key (at p) (goes after_key)
  text_goes p s false k k' goes = allowed (may_begin p) (string s) k k' after_value (at p) (goes after_value)

  token_goes : (p : Place) (t : Token) (b : Bool) (k k' : Place → List Token) → ((n : Place) → Goes (k n) (k' n) (at n)) → Goes (place_token p t b k) (place_token p t b k') (at p)
  token_goes p begin_object b k k' goes = allowed (may_begin p) begin_object k k' fresh (at p) (goes fresh)
  token_goes p end_object b k k' goes = allowed (may_close p) end_object k k' after_value (at p) (goes after_value)
  token_goes p begin_array b k k' goes = allowed (may_begin p) begin_array k k' fresh (at p) (goes fresh)
  token_goes p end_array b k k' goes = allowed (may_close p) end_array k k' after_value (at p) (goes after_value)
  token_goes p (key s) b k k' goes = λ good last. absurd (false≢true good)
  token_goes p (string s) b k k' goes = text_goes p s b k k' goes
  token_goes p (number s) b k k' goes = allowed (may_begin p) (number s) k k' after_value (at p) (goes after_value)
  token_goes p (boolean v) b k k' goes = allowed (may_begin p) (boolean v) k k' after_value (at p) (goes after_value)
  token_goes p null b k k' goes = allowed (may_begin p) null k k' after_value (at p) (goes after_value)
  token_goes p bad b k k' goes = λ good last. absurd (false≢true good)

  abbrev Punctuates : Place → List Lexeme → Type 0
  Punctuates p ls = Goes (punctuate p ls) (punctuate p (ls ++ ms)) (at p)

  token_next : (p : Place) (t : Token) (ls : List Lexeme) → ((n : Place) → Punctuates n ls)
      → Goes (place_token p t (begins_colon ls) (λ n. punctuate n ls)) (place_token p t (begins_colon (ls ++ ms)) (λ n. punctuate n (ls ++ ms))) (at p)
  token_next p t ls again good last =
      ap (λ b. place_token p t b (λ n. punctuate n (ls ++ ms))) (same_colon ls ms no_colon) ∙ token_goes p t (begins_colon ls) (λ n. punctuate n ls) (λ n. punctuate n (ls ++ ms)) again good last

  pub punctuate_more : (ls : List Lexeme) (p : Place) → Punctuates p ls
  unfolding punctuate
  punctuate_more [] fresh good last = absurd (false≢true last)
  punctuate_more [] after_value good last = refl
  punctuate_more [] after_comma good last = absurd (false≢true good)
  punctuate_more [] after_key good last = absurd (false≢true good)
  punctuate_more (token t ∷ ls) fresh good last = token_next fresh t ls (punctuate_more ls) good last
  punctuate_more (token t ∷ ls) after_value good last = token_next after_value t ls (punctuate_more ls) good last
  punctuate_more (token t ∷ ls) after_comma good last = token_next after_comma t ls (punctuate_more ls) good last
  punctuate_more (token t ∷ ls) after_key good last = token_next after_key t ls (punctuate_more ls) good last
  punctuate_more (comma ∷ ls) fresh good last = absurd (false≢true good)
  punctuate_more (comma ∷ ls) after_value good last = punctuate_more ls after_comma good last
  punctuate_more (comma ∷ ls) after_comma good last = absurd (false≢true good)
  punctuate_more (comma ∷ ls) after_key good last = absurd (false≢true good)
  punctuate_more (colon ∷ ls) fresh good last = absurd (false≢true good)
  punctuate_more (colon ∷ ls) after_value good last = absurd (false≢true good)
  punctuate_more (colon ∷ ls) after_comma good last = absurd (false≢true good)
  punctuate_more (colon ∷ ls) after_key good last = punctuate_more ls fresh good last

-- ---- after a comma

-- the first token begins a value
abbrev pub starts : List Token → Bool
starts [] = false
starts (t ∷ ts) = begins t

after_a_comma_token : (t : Token) (b : Bool) (k : Place → List Token) → starts (place_token fresh t b k) ≡ true → place_token after_comma t b k ≡ place_token fresh t b k
after_a_comma_token begin_object b k h = refl
after_a_comma_token end_object b k h = absurd (false≢true h)
after_a_comma_token begin_array b k h = refl
after_a_comma_token end_array b k h = absurd (false≢true h)
after_a_comma_token (key s) b k h = refl
after_a_comma_token (string s) true k h = refl
after_a_comma_token (string s) false k h = refl
after_a_comma_token (number s) b k h = refl
after_a_comma_token (boolean v) b k h = refl
after_a_comma_token null b k h = refl
after_a_comma_token bad b k h = refl

pub after_a_comma : (ls : List Lexeme) → starts (punctuate fresh ls) ≡ true → punctuate after_comma ls ≡ punctuate fresh ls
unfolding punctuate
after_a_comma [] h = absurd (false≢true h)
after_a_comma (token t ∷ ls) h = after_a_comma_token t (begins_colon ls) (λ n. punctuate n ls) h
after_a_comma (comma ∷ ls) h = refl
after_a_comma (colon ∷ ls) h = refl

-- ---- good tokens come of good lexemes

if_good : (b : Bool) (t : Token) (k : Place → List Token) (next : Place) → all_good (if_allowed b t k next) ≡ true → (is_good t ≡ true) × (all_good (k next) ≡ true)
if_good true t k next h = and_parts (is_good t) (all_good (k next)) h
if_good false t k next h = absurd (false≢true h)

text_good : (p : Place) (s : List ℕ) (b : Bool) (ls : List Lexeme) → ((n : Place) → all_good (punctuate n ls) ≡ true → are_good ls ≡ true) → all_good (place_token p (string s) b (λ n. punctuate n ls)) ≡ true → are_good ls ≡ true
text_good p s true ls again h = again after_key (if_good (may_begin p) (key s) (λ n. punctuate n ls) after_key h).1
text_good p s false ls again h = again after_value (if_good (may_begin p) (string s) (λ n. punctuate n ls) after_value h).1

token_good : (p : Place) (t : Token) (b : Bool) (ls : List Lexeme) → ((n : Place) → all_good (punctuate n ls) ≡ true → are_good ls ≡ true) → all_good (place_token p t b (λ n. punctuate n ls)) ≡ true → are_good (token t ∷ ls) ≡ true
token_good p begin_object b ls again h = again fresh (if_good (may_begin p) begin_object (λ n. punctuate n ls) fresh h).1
token_good p end_object b ls again h = again after_value (if_good (may_close p) end_object (λ n. punctuate n ls) after_value h).1
token_good p begin_array b ls again h = again fresh (if_good (may_begin p) begin_array (λ n. punctuate n ls) fresh h).1
token_good p end_array b ls again h = again after_value (if_good (may_close p) end_array (λ n. punctuate n ls) after_value h).1
token_good p (key s) b ls again h = absurd (false≢true h)
token_good p (string s) b ls again h = text_good p s b ls again h
token_good p (number s) b ls again h = again after_value (if_good (may_begin p) (number s) (λ n. punctuate n ls) after_value h).1
token_good p (boolean v) b ls again h = again after_value (if_good (may_begin p) (boolean v) (λ n. punctuate n ls) after_value h).1
token_good p null b ls again h = again after_value (if_good (may_begin p) null (λ n. punctuate n ls) after_value h).1
token_good p bad b ls again h = absurd (false≢true h)

pub lexemes_good : (ls : List Lexeme) (p : Place) → all_good (punctuate p ls) ≡ true → are_good ls ≡ true
unfolding punctuate
lexemes_good [] p h = refl
lexemes_good (token t ∷ ls) fresh h = token_good fresh t (begins_colon ls) ls (lexemes_good ls) h
lexemes_good (token t ∷ ls) after_value h = token_good after_value t (begins_colon ls) ls (lexemes_good ls) h
lexemes_good (token t ∷ ls) after_comma h = token_good after_comma t (begins_colon ls) ls (lexemes_good ls) h
lexemes_good (token t ∷ ls) after_key h = token_good after_key t (begins_colon ls) ls (lexemes_good ls) h
lexemes_good (comma ∷ ls) fresh h = absurd (false≢true h)
lexemes_good (comma ∷ ls) after_value h = lexemes_good ls after_comma h
lexemes_good (comma ∷ ls) after_comma h = absurd (false≢true h)
lexemes_good (comma ∷ ls) after_key h = absurd (false≢true h)
lexemes_good (colon ∷ ls) fresh h = absurd (false≢true h)
lexemes_good (colon ∷ ls) after_value h = absurd (false≢true h)
lexemes_good (colon ∷ ls) after_comma h = absurd (false≢true h)
lexemes_good (colon ∷ ls) after_key h = lexemes_good ls fresh h
