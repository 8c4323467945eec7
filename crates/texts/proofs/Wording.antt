-- Words of a text, found from its first character on.
use Rattle.std.proofs.Common.{◌⊎◌, inl, inr, subst, ◌≡◌, ℕ, ◌+◌, ◌<◌, ◌≤◌, List, [], ◌∷◌, ◌++◌, length, take, drop, get_or, Bool, true, false, cond, ◌&&◌, refl, sym, ◌∙◌, ap, arith, append_assoc}
use Rattle.std.proofs.lemmas.List.{append-nil, length-append, take_at, drop_at, at_drop_more}
use Rattle.std.proofs.lemmas.Str.{chars-encodes, encodes-chars, scalars-chars, encodes-append, IsCharBoundary-at_seam, length-encode, length-le-encodes}
use Rattle.std.specs.Prelude.{encode_utf8, encode_utf8_all}
use Rattle.std.specs.Char.{is_whitespace, len_utf8}
use Rattle.std.specs.Str.{chars, IsUtf8, IsCharBoundary, skip_leading_whitespace, trim_start}
use Rattle.std.proofs.Math.Utf8.{scalars, scalar}
use Rattle.texts.specs.Words.{ended, cut, words, spaced, front, back, front_len}

cut-white : (word cs : List ℕ) (c : ℕ) → is_whitespace c ≡ true → cut word (c ∷ cs) ≡ ended word ++ cut [] cs
cut-white word cs c e = ap (λ b. cond b (ended word ++ cut [] cs) (cut (word ++ encode_utf8 c) cs)) e

cut-letter : (word cs : List ℕ) (c : ℕ) → is_whitespace c ≡ false → cut word (c ∷ cs) ≡ cut (word ++ encode_utf8 c) cs
cut-letter word cs c e = ap (λ b. cond b (ended word ++ cut [] cs) (cut (word ++ encode_utf8 c) cs)) e

pub cut-skip : (cs : List ℕ) → cut [] cs ≡ cut [] (skip_leading_whitespace cs)
cut-skip [] = refl
cut-skip (c ∷ cs) = by_white (is_whitespace c) refl (cut-skip cs)
  where
    by_white : (b : Bool) → is_whitespace c ≡ b → cut [] cs ≡ cut [] (skip_leading_whitespace cs) → cut [] (c ∷ cs) ≡ cut [] (skip_leading_whitespace (c ∷ cs))
    by_white true e h = cut-white [] cs c e ∙ h ∙ sym (ap (λ b. cut [] (cond b (skip_leading_whitespace cs) (c ∷ cs))) e)
    by_white false e h = sym (ap (λ b. cut [] (cond b (skip_leading_whitespace cs) (c ∷ cs))) e)

-- what the test tells of the word that has come, and of the rest
abbrev ends : List ℕ → List ℕ → ℕ → Bool → List (List ℕ)
ends word cs c b = ended (word ++ encode_utf8_all (cond b [] (c ∷ front cs))) ++ cut [] (cond b (c ∷ cs) (back cs))

pub cut-front : (word cs : List ℕ) → cut word cs ≡ ended (word ++ encode_utf8_all (front cs)) ++ cut [] (back cs)
cut-front word [] = ap ended (sym (append-nil word)) ∙ sym (append-nil _)
cut-front word (c ∷ cs) = by_white (is_whitespace c) refl (cut-front (word ++ encode_utf8 c) cs)
  where
    by_white : (b : Bool) → is_whitespace c ≡ b → cut (word ++ encode_utf8 c) cs ≡ ended ((word ++ encode_utf8 c) ++ encode_utf8_all (front cs)) ++ cut [] (back cs) → cut word (c ∷ cs) ≡ ended (word ++ encode_utf8_all (front (c ∷ cs))) ++ cut [] (back (c ∷ cs))
    by_white true e h =
        cut-white word cs c e ∙ ap (λ w. ended w ++ cut [] cs) (sym (append-nil word)) ∙ ap (λ ws. ended (word ++ []) ++ ws) (sym (cut-white [] cs c e)) ∙ sym (ap (ends word cs c) e)
    by_white false e h =
        cut-letter word cs c e ∙ h ∙ ap (λ w. ended w ++ cut [] (back cs)) (append_assoc word (encode_utf8 c) (encode_utf8_all (front cs))) ∙ sym (ap (ends word cs c) e)

pub front-back : (cs : List ℕ) → front cs ++ back cs ≡ cs
front-back [] = refl
front-back (c ∷ cs) = by_white (is_whitespace c) refl (front-back cs)
  where
    by_white : (b : Bool) → is_whitespace c ≡ b → front cs ++ back cs ≡ cs → front (c ∷ cs) ++ back (c ∷ cs) ≡ c ∷ cs
    by_white true e h = ap (λ b. cond b [] (c ∷ front cs) ++ cond b (c ∷ cs) (back cs)) e
    by_white false e h = ap (λ b. cond b [] (c ∷ front cs) ++ cond b (c ∷ cs) (back cs)) e ∙ ap (λ ds. c ∷ ds) h

-- how many bytes stand before the first white space, one character on
pub front_bytes-white : (c : ℕ) (cs : List ℕ) → is_whitespace c ≡ true → length (encode_utf8_all (front (c ∷ cs))) ≡ 0
front_bytes-white c cs e = ap (λ b. length (encode_utf8_all (cond b [] (c ∷ front cs)))) e

pub front_bytes-letter : (c : ℕ) (cs : List ℕ) → is_whitespace c ≡ false → length (encode_utf8_all (front (c ∷ cs))) ≡ len_utf8 c + length (encode_utf8_all (front cs))
front_bytes-letter c cs e =
    ap (λ b. length (encode_utf8_all (cond b [] (c ∷ front cs)))) e ∙ length-append (encode_utf8 c) (encode_utf8_all (front cs)) ∙ ap (λ n. n + length (encode_utf8_all (front cs))) (length-encode c)

pub front_bytes-le : (bs : List ℕ) → IsUtf8 bs → front_len bs ≤ length bs
front_bytes-le bs u =
    let parts = ap encode_utf8_all (front-back (chars bs)) ∙ encodes-chars bs u in
    omega (arith, ap length (sym (encodes-append (front (chars bs)) (back (chars bs))) ∙ parts), length-append (encode_utf8_all (front (chars bs))) (encode_utf8_all (back (chars bs))))

-- a loop over the characters, one turn on
pub front_bytes-turn : (cs : List ℕ) (n c : ℕ) → (n < length cs) × (c ≡ get_or cs n c) → (b : Bool) → is_whitespace c ≡ b → length (encode_utf8_all (front (drop n cs))) ≡ cond b 0 (len_utf8 c + length (encode_utf8_all (front (drop (n + 1) cs))))
front_bytes-turn cs n c h true e =
    ap (λ ds. length (encode_utf8_all (front ds))) (at_drop_more (λ ds. ds) cs n c h.0 ∙ ap (λ d. d ∷ drop (n + 1) cs) (sym h.1)) ∙ front_bytes-white c (drop (n + 1) cs) e
front_bytes-turn cs n c h false e =
    ap (λ ds. length (encode_utf8_all (front ds))) (at_drop_more (λ ds. ds) cs n c h.0 ∙ ap (λ d. d ∷ drop (n + 1) cs) (sym h.1)) ∙ front_bytes-letter c (drop (n + 1) cs) e

-- ---- the first word

scalars-after : (p : ℕ) (cs : List ℕ) → scalars (p ∷ cs) ≡ true → scalars cs ≡ true
scalars-after p cs h = (both_true (scalar p) (scalars cs) h).1
  where
    both_true : (a b : Bool) → (a && b) ≡ true → (a ≡ true) × (b ≡ true)
    both_true true true h = (refl, refl)
    both_true true false h = cc
    both_true false b h = cc

scalars-skip : (cs : List ℕ) → scalars cs ≡ true → scalars (skip_leading_whitespace cs) ≡ true
scalars-skip [] h = refl
scalars-skip (c ∷ cs) h = by_white (is_whitespace c) refl (scalars-skip cs (scalars-after c cs h))
  where
    by_white : (b : Bool) → is_whitespace c ≡ b → scalars (skip_leading_whitespace cs) ≡ true → scalars (skip_leading_whitespace (c ∷ cs)) ≡ true
    by_white true e s = ap (λ b. scalars (cond b (skip_leading_whitespace cs) (c ∷ cs))) e ∙ s
    by_white false e s = ap (λ b. scalars (cond b (skip_leading_whitespace cs) (c ∷ cs))) e ∙ h

scalars-back : (cs : List ℕ) → scalars cs ≡ true → scalars (back cs) ≡ true
scalars-back [] h = refl
scalars-back (c ∷ cs) h = by_white (is_whitespace c) refl (scalars-back cs (scalars-after c cs h))
  where
    by_white : (b : Bool) → is_whitespace c ≡ b → scalars (back cs) ≡ true → scalars (back (c ∷ cs)) ≡ true
    by_white true e s = ap (λ b. scalars (cond b (c ∷ cs) (back cs))) e ∙ h
    by_white false e s = ap (λ b. scalars (cond b (c ∷ cs) (back cs))) e ∙ s

skip-length : (cs : List ℕ) → length (encode_utf8_all (skip_leading_whitespace cs)) ≤ length (encode_utf8_all cs)
skip-length [] = omega arith
skip-length (c ∷ cs) = by_white (is_whitespace c) refl (skip-length cs)
  where
    by_white : (b : Bool) → is_whitespace c ≡ b → length (encode_utf8_all (skip_leading_whitespace cs)) ≤ length (encode_utf8_all cs) → length (encode_utf8_all (skip_leading_whitespace (c ∷ cs))) ≤ length (encode_utf8_all (c ∷ cs))
    by_white true e s =
        omega (arith, ap (λ b. length (encode_utf8_all (cond b (skip_leading_whitespace cs) (c ∷ cs)))) e, length-append (encode_utf8 c) (encode_utf8_all cs))
    by_white false e s = omega (arith, ap (λ b. length (encode_utf8_all (cond b (skip_leading_whitespace cs) (c ∷ cs)))) e)

-- what is left after white space begins with a letter, or is nothing
abbrev Begins : List ℕ → Type 0
Begins cs = (cs ≡ []) ⊎ ((c : ℕ) × (rest : List ℕ) × (cs ≡ c ∷ rest) × (is_whitespace c ≡ false))

skip-begins : (cs : List ℕ) → Begins (skip_leading_whitespace cs)
skip-begins [] = inl refl
skip-begins (c ∷ cs) = by_white (is_whitespace c) refl (skip-begins cs)
  where
    by_white : (b : Bool) → is_whitespace c ≡ b → Begins (skip_leading_whitespace cs) → Begins (skip_leading_whitespace (c ∷ cs))
    by_white true e h = subst Begins (sym (ap (λ b. cond b (skip_leading_whitespace cs) (c ∷ cs)) e)) h
    by_white false e h = inr (c, cs, ap (λ b. cond b (skip_leading_whitespace cs) (c ∷ cs)) e, e)

-- what a text's words are, where `start` is the text without the white space at its start
pub record StartsAt (text start : List ℕ) (len : ℕ) : Type 0 where
  pub boundary : IsCharBoundary start len
  pub words_are : 0 < length start → words text ≡ take len start ∷ words (drop len start)
  pub none : length start ≡ 0 → words text ≡ []
  pub shorter : 0 < length start → length (drop len start) < length text
  pub not_empty : 0 < length start → 0 < length (take len start)

front-letter : (c : ℕ) (cs : List ℕ) → is_whitespace c ≡ false → front (c ∷ cs) ≡ c ∷ front cs
front-letter c cs e = ap (λ b. cond b [] (c ∷ front cs)) e

ended-word : (w : List ℕ) → 0 < length w → ended w ≡ w ∷ []
ended-word [] h = absurd (omega arith)
ended-word (b ∷ w) h = refl

front-positive : (ds : List ℕ) → Begins ds → 0 < length (encode_utf8_all ds) → 0 < length (encode_utf8_all (front ds))
front-positive ds (inl e) h = let none : length (encode_utf8_all ds) ≡ 0 = ap (λ cs. length (encode_utf8_all cs)) e in absurd (omega arith)
front-positive ds (inr b) h =
    let whole = ap (λ cs. length (encode_utf8_all (front cs))) b.2 ∙ ap (λ cs. length (encode_utf8_all cs)) (front-letter b.0 b.1 b.3) in
    omega (arith, whole, length-le-encodes (b.0 ∷ front b.1))

word_at : (text cs ds : List ℕ) → chars text ≡ cs → encode_utf8_all cs ≡ text → skip_leading_whitespace cs ≡ ds → scalars ds ≡ true → Begins ds → StartsAt text (encode_utf8_all ds) (front_len (encode_utf8_all ds))
word_at text cs ds ec et ed sc b =
    let word = encode_utf8_all (front ds) in
    let rest = encode_utf8_all (back ds) in
    let n : front_len (encode_utf8_all ds) ≡ length word = ap (λ xs. length (encode_utf8_all (front xs))) (chars-encodes ds sc) in
    let parts : encode_utf8_all ds ≡ word ++ rest = sym (ap encode_utf8_all (front-back ds)) ∙ encodes-append (front ds) (back ds) in
    let takes : take (front_len (encode_utf8_all ds)) (encode_utf8_all ds) ≡ word = ap (take (front_len (encode_utf8_all ds))) parts ∙ take_at word rest _ (sym n) in
    let drops : drop (front_len (encode_utf8_all ds)) (encode_utf8_all ds) ≡ rest = ap (drop (front_len (encode_utf8_all ds))) parts ∙ drop_at word rest _ (sym n) in
    let all : words text ≡ ended word ++ cut [] (back ds) = ap (cut []) ec ∙ cut-skip cs ∙ ap (cut []) ed ∙ cut-front [] ds in
    let later : words rest ≡ cut [] (back ds) = ap (cut []) (chars-encodes (back ds) (scalars-back ds sc)) in
    let long : length (encode_utf8_all ds) ≤ length text =
    omega (arith, skip-length cs, ap (λ xs. length (encode_utf8_all xs)) ed, ap length et) in
    let both = length-append word rest in
    let sum = ap length parts in
    record {
      boundary = subst (IsCharBoundary (encode_utf8_all ds)) (sym n) (IsCharBoundary-at_seam _ word rest parts (back ds, (scalars-back ds sc, refl)));
      words_are = λ h. all ∙ ap (λ ws. ws ++ cut [] (back ds)) (ended-word word (front-positive ds b h)) ∙ sym (ap (λ w. w ∷ words (drop (front_len (encode_utf8_all ds)) (encode_utf8_all ds))) takes ∙ ap (λ r. word ∷ words r) drops ∙ ap (λ ws. word ∷ ws) later);
      none = λ h. none_of h b;
      shorter = λ h. let p = front-positive ds b h in omega (arith, ap length drops);
      not_empty = λ h. let p = front-positive ds b h in omega (arith, ap length takes);
    }
  where
    none_of : length (encode_utf8_all ds) ≡ 0 → Begins ds → words text ≡ []
    none_of h (inl e) = ap (cut []) ec ∙ cut-skip cs ∙ ap (cut []) ed ∙ ap (cut []) e
    none_of h (inr b) = absurd (omega (arith, length-le-encodes ds, ap length b.2))

pub first_word : (text start : List ℕ) → IsUtf8 text → start ≡ trim_start text → StartsAt text start (front_len start)
unfolding trim_start
first_word text start u e =
    subst (λ s. StartsAt text s (front_len s)) (sym e)
    (word_at text (chars text) (skip_leading_whitespace (chars text)) refl (encodes-chars text u) refl (scalars-skip (chars text) (scalars-chars text u)) (skip-begins (chars text)))

-- ---- tidying, with some words put down already

abbrev pub resumed : List ℕ → List (List ℕ) → List ℕ
resumed [] ws = spaced ws
resumed (b ∷ bs) [] = b ∷ bs
resumed (b ∷ bs) (w ∷ ws) = (b ∷ bs) ++ 32 ∷ spaced (w ∷ ws)
