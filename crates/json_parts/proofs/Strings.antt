-- A string ends where it ends, whatever follows it.
use Rattle.std.proofs.Common.{◌≡◌, ℕ, Bool, true, false, cond, ◌&&◌, ◌==◌, nat_lt, List, [], ◌∷◌, ◌++◌, Option, Some, None, is_some, option_and_then, refl, sym, ap, ◌∙◌, append_assoc}
use Rattle.std.proofs.lemmas.Bool.{false≢true, eqb-true, and_parts}
use Rattle.std.specs.Char.{is_digit, encode_utf8}
use Rattle.json.specs.Text.{code_unit, short_escape, is_high_surrogate, is_low_surrogate, surrogate_pair, Within, plain, after_backslash, after_u, after_high, prepend, content}
use Rattle.json.specs.Word.{is_operator, is_space}
use Rattle.json.specs.Lex.{Lexeme, quote, backslash, operator, space, other, Mode, in_string, in_escape, lex_byte, lex}

abbrev is_found : Option ℕ → Bool
is_found None = false
is_found (Some u) = true

all_hex : (b : Bool) (u : ℕ) → is_found (cond b (Some u) None) ≡ true → b ≡ true
all_hex true u h = refl
all_hex false u h = h

-- where the lexer is within a string
abbrev pub mode : Within → Mode
mode plain = in_string
mode after_backslash = in_escape
mode after_u = in_string
mode (after_high h) = in_string

-- the string closes after a front of the text, which both readers pass in the same way before any other text
pub record Closed (w : Within) (xs : List ℕ) : Type 0 where
  pub front : List ℕ
  pub back : List ℕ
  pub is : xs ≡ front ++ back
  pub read : (v : List ℕ) → content w (front ++ v) ≡ content w xs
  pub lexed : (v : List ℕ) → lex (mode w) (front ++ v) ≡ lex Mode.between v

-- ---- the steps of the lexer

by : {P : Type 0} (b : Bool) → (b ≡ true → P) → (b ≡ false → P) → P
by true f g = f refl
by false f g = g refl

passes : (o s : Bool) (k : Mode → List Lexeme) (x : ℕ) (xs : List ℕ) → lex_byte in_string (cond o operator (cond s space other)) x xs k ≡ k in_string
passes true s k x xs = refl
passes false true k x xs = refl
passes false false k x xs = refl

lex_plain : (x : ℕ) (xs : List ℕ) → (x == 34) ≡ false → (x == 92) ≡ false → lex in_string (x ∷ xs) ≡ lex in_string xs
unfolding lex
lex_plain x xs q b =
    (λ i. lex_byte in_string (cond (q i) quote (cond (b i) backslash (cond (is_operator x) operator (cond (is_space x) space other)))) x xs (λ n. lex n xs)) ∙ passes (is_operator x) (is_space x) (λ n. lex n xs) x xs

lex_backslash : (x : ℕ) (xs : List ℕ) → (x == 92) ≡ true → lex in_string (x ∷ xs) ≡ lex in_escape xs
unfolding lex
lex_backslash x xs b = ap (λ y. lex in_string (y ∷ xs)) (eqb-true x 92 b)

lex_quote : (x : ℕ) (xs : List ℕ) → (x == 34) ≡ true → lex in_string (x ∷ xs) ≡ lex Mode.between xs
unfolding lex
lex_quote x xs b = ap (λ y. lex in_string (y ∷ xs)) (eqb-true x 34 b)

lex_escape : (x : ℕ) (xs : List ℕ) → lex in_escape (x ∷ xs) ≡ lex in_string xs
unfolding lex
lex_escape x xs = refl

not_this : (c x : ℕ) (t : Bool) → (t ≡ true → x ≡ c) → is_digit c 16 ≡ false → is_digit x 16 ≡ true → t ≡ false
not_this c x false e never h = refl
not_this c x true e never h = absurd (false≢true (sym never ∙ ap (λ y. is_digit y 16) (sym (e refl)) ∙ h))

lex_hex : (x : ℕ) (xs : List ℕ) → is_digit x 16 ≡ true → lex in_string (x ∷ xs) ≡ lex in_string xs
lex_hex x xs h = lex_plain x xs (not_this 34 x (x == 34) (eqb-true x 34) refl h) (not_this 92 x (x == 92) (eqb-true x 92) refl h)

lex_unit : (a b c d : ℕ) (xs : List ℕ) → is_found (code_unit a b c d) ≡ true → lex in_string (a ∷ b ∷ c ∷ d ∷ xs) ≡ lex in_string xs
unfolding code_unit
lex_unit a b c d xs h =
    let p = and_parts (is_digit a 16 && is_digit b 16 && is_digit c 16) (is_digit d 16) (all_hex _ _ h) in
    let q = and_parts (is_digit a 16 && is_digit b 16) (is_digit c 16) p.0 in
    let r = and_parts (is_digit a 16) (is_digit b 16) q.0 in
    lex_hex a (b ∷ c ∷ d ∷ xs) r.0 ∙ lex_hex b (c ∷ d ∷ xs) r.1 ∙ lex_hex c (d ∷ xs) q.1 ∙ lex_hex d xs p.1

-- ---- where a string closes

-- after some bytes that both readers pass
passed : (w w' : Within) (a xs : List ℕ) (f : Option (List ℕ) → Option (List ℕ)) → ((v : List ℕ) → content w (a ++ v) ≡ f (content w' v)) → ((v : List ℕ) → lex (mode w) (a ++ v) ≡ lex (mode w') v)
    → Closed w' xs → Closed w (a ++ xs)
passed w w' a xs f reads lexes c =
    record {
      front = a ++ c.front;
      back = c.back;
      is = ap (λ l. a ++ l) c.is ∙ sym (append_assoc a c.front c.back);
      read = λ v. ap (content w) (append_assoc a c.front v) ∙ reads (c.front ++ v) ∙ ap f (c.read v) ∙ sym (reads xs);
      lexed = λ v. ap (lex (mode w)) (append_assoc a c.front v) ∙ lexes (c.front ++ v) ∙ c.lexed v;
    }

some_before : (a : List ℕ) (o : Option (List ℕ)) → is_some (prepend a o) ≡ true → is_some o ≡ true
some_before a None h = h
some_before a (Some s) h = refl

none_found : {P : Type 0} (o : Option (List ℕ)) → o ≡ None → is_some o ≡ true → P
none_found o e h = absurd (false≢true (ap is_some (sym e) ∙ h))

pub closes : (w : Within) (xs : List ℕ) → is_some (content w xs) ≡ true → Closed w xs
unfolding content
closes plain [] h = absurd (false≢true h)
closes plain (x ∷ xs) h =
    by (x == 34)
    (λ q.
    record {
      front = x ∷ [];
      back = xs;
      is = refl;
      read = λ v. ap (λ b. cond b (Some []) (cond (x == 92) (content after_backslash v) (cond (nat_lt x 32) None (prepend (x ∷ []) (content plain v))))) q
          ∙ sym (ap (λ b. cond b (Some []) (cond (x == 92) (content after_backslash xs) (cond (nat_lt x 32) None (prepend (x ∷ []) (content plain xs))))) q);
      lexed = λ v. lex_quote x v q;
    })
    (λ q. by (x == 92)
    (λ b.
    let reads : (v : List ℕ) → content plain (x ∷ v) ≡ content after_backslash v =
    λ v. (λ i. cond (q i) (Some []) (cond (b i) (content after_backslash v) (cond (nat_lt x 32) None (prepend (x ∷ []) (content plain v))))) in
    passed plain after_backslash (x ∷ []) xs (λ o. o) reads (λ v. lex_backslash x v b) (closes after_backslash xs (ap is_some (sym (reads xs)) ∙ h)))
    (λ b. by (nat_lt x 32)
    (λ l. none_found _ (λ i. cond (q i) (Some []) (cond (b i) (content after_backslash xs) (cond (l i) None (prepend (x ∷ []) (content plain xs))))) h)
    (λ l.
    let reads : (v : List ℕ) → content plain (x ∷ v) ≡ prepend (x ∷ []) (content plain v) =
    λ v. (λ i. cond (q i) (Some []) (cond (b i) (content after_backslash v) (cond (l i) None (prepend (x ∷ []) (content plain v))))) in
    passed plain plain (x ∷ []) xs (prepend (x ∷ [])) reads (λ v. lex_plain x v q b) (closes plain xs (some_before (x ∷ []) _ (ap is_some (sym (reads xs)) ∙ h))))))
closes after_backslash [] h = absurd (false≢true h)
closes after_backslash (x ∷ xs) h =
    by (x == 117)
    (λ u.
    let reads : (v : List ℕ) → content after_backslash (x ∷ v) ≡ content after_u v =
    λ v. ap (λ b. cond b (content after_u v) (option_and_then (λ c. prepend (c ∷ []) (content plain v)) (short_escape x))) u in
    passed after_backslash after_u (x ∷ []) xs (λ o. o) reads (λ v. lex_escape x v) (closes after_u xs (ap is_some (sym (reads xs)) ∙ h)))
    (λ u. short (λ w. closes w xs) (short_escape x) refl u)
  where
    short : ((w : Within) → is_some (content w xs) ≡ true → Closed w xs) → (o : Option ℕ) → short_escape x ≡ o → (x == 117) ≡ false → Closed after_backslash (x ∷ xs)
    short again None e u = none_found _ (λ i. cond (u i) (content after_u xs) (option_and_then (λ c. prepend (c ∷ []) (content plain xs)) (e i))) h
    short again (Some c) e u =
        let reads : (v : List ℕ) → content after_backslash (x ∷ v) ≡ prepend (c ∷ []) (content plain v) =
        λ v. (λ i. cond (u i) (content after_u v) (option_and_then (λ c. prepend (c ∷ []) (content plain v)) (e i))) in
        passed after_backslash plain (x ∷ []) xs (prepend (c ∷ [])) reads (λ v. lex_escape x v) (again plain (some_before (c ∷ []) _ (ap is_some (sym (reads xs)) ∙ h)))
closes after_u [] h = absurd (false≢true h)
closes after_u (a ∷ []) h = absurd (false≢true h)
closes after_u (a ∷ b ∷ []) h = absurd (false≢true h)
closes after_u (a ∷ b ∷ c ∷ []) h = absurd (false≢true h)
closes after_u (a ∷ b ∷ c ∷ d ∷ xs) h = unit (λ w. closes w xs) (code_unit a b c d) refl
  where
    of : List ℕ → ℕ → Option (List ℕ)
    of v u = cond (is_high_surrogate u) (content (after_high u) v) (cond (is_low_surrogate u) None (prepend (encode_utf8 u) (content plain v)))

    unit : ((w : Within) → is_some (content w xs) ≡ true → Closed w xs) → (o : Option ℕ) → code_unit a b c d ≡ o → Closed after_u (a ∷ b ∷ c ∷ d ∷ xs)
    unit again None e = none_found _ (ap (option_and_then (of xs)) e) h
    unit again (Some u) e =
        let lexes = λ (v : List ℕ). lex_unit a b c d v (ap is_found e) in
        by (is_high_surrogate u)
        (λ s.
        let reads : (v : List ℕ) → content after_u (a ∷ b ∷ c ∷ d ∷ v) ≡ content (after_high u) v =
        λ v. ap (option_and_then (of v)) e ∙ ap (λ t. cond t (content (after_high u) v) (cond (is_low_surrogate u) None (prepend (encode_utf8 u) (content plain v)))) s in
        passed after_u (after_high u) (a ∷ b ∷ c ∷ d ∷ []) xs (λ o. o) reads lexes (again (after_high u) (ap is_some (sym (reads xs)) ∙ h)))
        (λ s. by (is_low_surrogate u)
        (λ l. none_found _ (ap (option_and_then (of xs)) e ∙ (λ i. cond (s i) (content (after_high u) xs) (cond (l i) None (prepend (encode_utf8 u) (content plain xs))))) h)
        (λ l.
        let reads : (v : List ℕ) → content after_u (a ∷ b ∷ c ∷ d ∷ v) ≡ prepend (encode_utf8 u) (content plain v) =
        λ v. ap (option_and_then (of v)) e ∙ (λ i. cond (s i) (content (after_high u) v) (cond (l i) None (prepend (encode_utf8 u) (content plain v)))) in
        passed after_u plain (a ∷ b ∷ c ∷ d ∷ []) xs (prepend (encode_utf8 u)) reads lexes (again plain (some_before (encode_utf8 u) _ (ap is_some (sym (reads xs)) ∙ h)))))
closes (after_high h') [] h = absurd (false≢true h)
closes (after_high h') (s ∷ []) h = absurd (false≢true h)
closes (after_high h') (s ∷ u ∷ []) h = absurd (false≢true h)
closes (after_high h') (s ∷ u ∷ a ∷ []) h = absurd (false≢true h)
closes (after_high h') (s ∷ u ∷ a ∷ b ∷ []) h = absurd (false≢true h)
closes (after_high h') (s ∷ u ∷ a ∷ b ∷ c ∷ []) h = absurd (false≢true h)
closes (after_high h') (s ∷ u ∷ a ∷ b ∷ c ∷ d ∷ xs) h =
    by ((s == 92) && (u == 117)) (λ e. unit (λ w. closes w xs) (code_unit a b c d) refl e) (λ e. none_found _ (ap (λ t. cond t (option_and_then (of xs) (code_unit a b c d)) None) e) h)
  where
    of : List ℕ → ℕ → Option (List ℕ)
    of v l = cond (is_low_surrogate l) (prepend (encode_utf8 (surrogate_pair h' l)) (content plain v)) None

    unit : ((w : Within) → is_some (content w xs) ≡ true → Closed w xs) → (o : Option ℕ) → code_unit a b c d ≡ o → ((s == 92) && (u == 117)) ≡ true → Closed (after_high h') (s ∷ u ∷ a ∷ b ∷ c ∷ d ∷ xs)
    unit again None e t = none_found _ (λ i. cond (t i) (option_and_then (of xs) (e i)) None) h
    unit again (Some l) e t =
        by (is_low_surrogate l)
        (λ low.
        let bytes = encode_utf8 (surrogate_pair h' l) in
        let reads : (v : List ℕ) → content (after_high h') (s ∷ u ∷ a ∷ b ∷ c ∷ d ∷ v) ≡ prepend bytes (content plain v) =
        λ v. (λ i. cond (t i) (option_and_then (of v) (e i)) None) ∙ ap (λ k. cond k (prepend bytes (content plain v)) None) low in
        let lexes = λ (v : List ℕ). lex_backslash s (u ∷ a ∷ b ∷ c ∷ d ∷ v) (and_parts _ _ t).0 ∙ lex_escape u (a ∷ b ∷ c ∷ d ∷ v) ∙ lex_unit a b c d v (ap is_found e) in
        passed (after_high h') plain (s ∷ u ∷ a ∷ b ∷ c ∷ d ∷ []) xs (prepend bytes) reads lexes (again plain (some_before bytes _ (ap is_some (sym (reads xs)) ∙ h))))
        (λ low. none_found _ ((λ i. cond (t i) (option_and_then (of xs) (e i)) None) ∙ ap (λ k. cond k (prepend (encode_utf8 (surrogate_pair h' l)) (content plain xs)) None) low) h)
