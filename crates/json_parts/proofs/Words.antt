-- A word ends where a word may end, whatever follows that.
use Rattle.std.proofs.Common.{◌≡◌, ℕ, ◌+◌, Bool, true, false, cond, ◌||◌, ◌==◌, List, [], ◌∷◌, ◌++◌, length, take, drop, Option, Some, None, is_some, option_and_then, refl, sym, ap, ◌∙◌, append_assoc}
use Rattle.std.proofs.lemmas.Bool.{false≢true, and_parts}
use Rattle.std.proofs.lemmas.List.{take-append-drop}
use Rattle.std.proofs.lemmas.Slice.Eq.{bytes_eq-Decides}
use Rattle.std.specs.List.{prefix_len}
use Rattle.std.specs.Char.{is_ascii_digit}
use Rattle.json.specs.Token.{Token}
use Rattle.json.specs.Word.{head, ends_word, after_digits, after_minus, after_sign, after_whole, after_fraction, after_exponent, after_number, number_before, literal, word}
use Rattle.json.specs.Lex.{Lexeme, token, Class, other, class, lex, lex_byte, between}
use Rattle.json.specs.Print.{IsNumber}
use Rattle.json.specs.Align.{is_good}
use Rattle.json.proofs.Printed.Numbers.{number_alone, lex-number}

-- ---- what follows a number is the end of the text

abbrev Ends : List ℕ → List ℕ → Type 0
Ends t r = (s : List ℕ) × (t ≡ s ++ r)

abbrev EndsIn : List ℕ → Option (List ℕ) → Type 0
EndsIn t None = Unit {0}
EndsIn t (Some r) = Ends t r

drops : (n : ℕ) (t : List ℕ) → Ends t (drop n t)
drops n t = (take n t, sym (take-append-drop n t))

whole : (t : List ℕ) → Ends t t
whole t = ([], refl)

then_ends : (t u r : List ℕ) → Ends t u → Ends u r → Ends t r
then_ends t u r a b = (a.0 ++ b.0, a.1 ∙ ap (λ l. a.0 ++ l) b.1 ∙ sym (append_assoc a.0 b.0 r))

one_of : (b : Bool) (t x y : List ℕ) → Ends t x → Ends t y → Ends t (cond b x y)
one_of true t x y p q = p
one_of false t x y p q = q

some_of : (b : Bool) (t : List ℕ) (x y : Option (List ℕ)) → EndsIn t x → EndsIn t y → EndsIn t (cond b x y)
some_of true t x y p q = p
some_of false t x y p q = q

after : (t u : List ℕ) (o : Option (List ℕ)) → Ends t u → EndsIn u o → EndsIn t o
after t u None a b = tt
after t u (Some r) a b = then_ends t u r a b

next : (t : List ℕ) (f : List ℕ → Option (List ℕ)) → ((u : List ℕ) → EndsIn u (f u)) → (o : Option (List ℕ)) → EndsIn t o → EndsIn t (option_and_then f o)
next t f g None a = tt
next t f g (Some u) a = after t u (f u) a (g u)

digits : (t : List ℕ) → EndsIn t (after_digits t)
digits t = some_of (prefix_len is_ascii_digit t == 0) t None (Some (drop (prefix_len is_ascii_digit t) t)) tt (drops (prefix_len is_ascii_digit t) t)

fraction : (t : List ℕ) → EndsIn t (after_fraction t)
fraction t = some_of (head t == 46) t (after_digits (drop 1 t)) (Some t) (after t (drop 1 t) (after_digits (drop 1 t)) (drops 1 t) (digits (drop 1 t))) (whole t)

signed : (t : List ℕ) → EndsIn t (after_digits (after_sign t))
signed t = after t (after_sign t) (after_digits (after_sign t)) (one_of ((head t == 45) || (head t == 43)) t (drop 1 t) t (drops 1 t) (whole t)) (digits (after_sign t))

exponent : (t : List ℕ) → EndsIn t (after_exponent t)
exponent t =
    some_of ((head t == 101) || (head t == 69)) t (after_digits (after_sign (drop 1 t))) (Some t) (after t (drop 1 t) (after_digits (after_sign (drop 1 t))) (drops 1 t) (signed (drop 1 t))) (whole t)

integer : (t : List ℕ) → EndsIn t (after_whole t)
integer t = some_of (head t == 48) t (Some (drop 1 t)) (after_digits t) (drops 1 t) (digits t)

number_ends : (t : List ℕ) → EndsIn t (after_number t)
unfolding after_number
number_ends t =
    let begun = after t (after_minus t) (after_whole (after_minus t)) (one_of (head t == 45) t (drop 1 t) t (drops 1 t) (whole t)) (integer (after_minus t)) in
    next t after_exponent exponent (option_and_then after_fraction (after_whole (after_minus t))) (next t after_fraction fraction (after_whole (after_minus t)) begun)

-- ---- a good word

-- the word is a front of the text, after which a word may end
record IsWord (t : List ℕ) : Type 0 where
  front : List ℕ
  back : List ℕ
  is : t ≡ front ++ back
  ended : ends_word back ≡ true
  read : (v : List ℕ) → ends_word v ≡ true → word (front ++ v) ≡ word t

ends_before : (r u : List ℕ) → ends_word r ≡ true → ends_word u ≡ true → ends_word (r ++ u) ≡ true
ends_before [] u h k = k
ends_before (x ∷ xs) u h k = h

passed : (b : Bool) (k : Token) → is_good (cond b k Token.bad) ≡ true → b ≡ true
passed true k h = refl
passed false k h = h

-- one of the three names
named : (name t : List ℕ) (k : Token) → ((v : List ℕ) → ends_word v ≡ true → word (name ++ v) ≡ k) → is_good (literal name k t) ≡ true → IsWord t
named name t k reads h =
    let parts = and_parts _ _ (passed _ k h) in
    let here : name ≡ take (length name) t = (bytes_eq-Decides name (take (length name) t)).0 parts.0 in
    let is : t ≡ name ++ drop (length name) t = sym (take-append-drop (length name) t) ∙ ap (λ l. l ++ drop (length name) t) (sym here) in
    record { front = name; back = drop (length name) t; is = is; ended = parts.1; read = λ v e. reads v e ∙ sym (ap word is ∙ reads (drop (length name) t) parts.1) }

reads_true : (v : List ℕ) → ends_word v ≡ true → word (116 ∷ 114 ∷ 117 ∷ 101 ∷ v) ≡ Token.boolean true
unfolding word
reads_true v e = ap (λ b. cond b (Token.boolean true) Token.bad) e

reads_false : (v : List ℕ) → ends_word v ≡ true → word (102 ∷ 97 ∷ 108 ∷ 115 ∷ 101 ∷ v) ≡ Token.boolean false
unfolding word
reads_false v e = ap (λ b. cond b (Token.boolean false) Token.bad) e

reads_null : (v : List ℕ) → ends_word v ≡ true → word (110 ∷ 117 ∷ 108 ∷ 108 ∷ v) ≡ Token.null
unfolding word
reads_null v e = ap (λ b. cond b Token.null Token.bad) e

-- a number
abbrev token_or : List Lexeme → Token
token_or [] = Token.bad
token_or (token t ∷ ls) = t
token_or (Lexeme.comma ∷ ls) = Token.bad
token_or (Lexeme.colon ∷ ls) = Token.bad

other_first : (c : Class) (x : ℕ) (xs : List ℕ) → class x ≡ c → c ≡ other → token_or (lex between (x ∷ xs)) ≡ word (x ∷ xs)
unfolding lex
other_first c x xs e o = ap (λ k. token_or (lex_byte between k x xs (λ n. lex n xs))) (e ∙ o)

no_number : IsNumber [] → ⊥
unfolding after_number
no_number h = false≢true (ap is_some h)

number_read : (x : ℕ) (xs s rest : List ℕ) → class x ≡ other → x ∷ xs ≡ s ++ rest → IsNumber s → (v : List ℕ) → ends_word v ≡ true → word (s ++ v) ≡ Token.number s
number_read x xs [] rest o is number v e = absurd (no_number number)
number_read x xs (y ∷ s) rest o is number v e =
    let same : x ≡ y = ap head is in
    sym (other_first (class y) y (s ++ v) refl (ap class (sym same) ∙ o)) ∙ ap token_or (lex-number (y ∷ s) v number e)

spelled : (x : ℕ) (xs : List ℕ) (o : Option (List ℕ)) → class x ≡ other → after_number (x ∷ xs) ≡ o → EndsIn (x ∷ xs) o → is_good (number_before (x ∷ xs) o) ≡ true → IsWord (x ∷ xs)
spelled x xs None c is ends h = absurd (false≢true h)
spelled x xs (Some rest) c is ends h =
    let t = x ∷ xs in
    let ended = passed (ends_word rest) _ h in
    let s = ends.0 in
    let number = number_alone s rest ended (ap after_number (sym ends.1) ∙ is) in
    let reads = number_read x xs s rest c ends.1 number in
    record { front = s; back = rest; is = ends.1; ended = ended; read = λ v e. reads v e ∙ sym (ap word ends.1 ∙ reads rest ended) }

choose : {P : Type 0} (b : Bool) (x y : Token) → (is_good x ≡ true → P) → (is_good y ≡ true → P) → is_good (cond b x y) ≡ true → P
choose true x y f g = f
choose false x y f g = g

is_word : (x : ℕ) (xs : List ℕ) → class x ≡ other → is_good (word (x ∷ xs)) ≡ true → IsWord (x ∷ xs)
unfolding word
is_word x xs c =
    let t = x ∷ xs in
    choose (x == 116) _ _ (named (116 ∷ 114 ∷ 117 ∷ 101 ∷ []) t (Token.boolean true) reads_true)
    (choose (x == 102) _ _ (named (102 ∷ 97 ∷ 108 ∷ 115 ∷ 101 ∷ []) t (Token.boolean false) reads_false)
    (choose (x == 110) _ _ (named (110 ∷ 117 ∷ 108 ∷ 108 ∷ []) t Token.null reads_null) (spelled x xs (after_number t) c refl (number_ends t))))

-- a good word reads alike before a text in which a word may end
pub word_more : (x : ℕ) (xs u : List ℕ) → class x ≡ other → is_good (word (x ∷ xs)) ≡ true → ends_word u ≡ true → word (x ∷ (xs ++ u)) ≡ word (x ∷ xs)
word_more x xs u c good ended =
    let w = is_word x xs c good in
    ap (λ t. word (t ++ u)) w.is ∙ ap word (append_assoc w.front w.back u) ∙ w.read (w.back ++ u) (ends_before w.back u w.ended ended)
