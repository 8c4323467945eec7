-- What `matchit` says that a route's parameters took are the segments at their places.
use Rattle.std.proofs.Common.{◌≡◌, ℕ, suc, ◌+◌, ◌-◌, ◌<◌, ◌≤◌, List, [], ◌∷◌, ◌++◌, length, drop, get_or, Bool, true, false, cond, refl, sym, ap, ap₂, ◌∙◌, arith, ◌==◌, ltb, leb, ◌&&◌, bytes_eq, append_assoc, append-nil, length-append, get_or-append-add}
use Rattle.std.proofs.Math.Seq.{drop-append_seam, take-append_seam}
use Rattle.std.proofs.lemmas.Bool.{and_parts}
use Rattle.std.proofs.lemmas.Bool.Decides.{nat_tests}
use Rattle.std.specs.Cmp.Lexicographic.{bytes_decides}
use Rattle.matchit.specs.Rows.{param_token}
use Rattle.matchit.specs.Seek.{segment}
use Rattle.matchit.specs.Level.{IsText}
use Rattle.matchit.specs.Params.{walk, wild_from, wild_stop, part_of, after_token}
use Rattle.segment_routes.specs.Paths.{slash}
use Rattle.segment_routes.specs.Pieces.{Piece, Word, Name, Pieces, is_some_text, fits, parts}
use Rattle.segment_routes.specs.Spelling.{tokens, keys, keys_of}
use Rattle.segment_routes.proofs.Seeking.{AllPlain, EachPlain, IsWord, AreGood, join, segment-slash}

text-plain : (w : List ℕ) → AllPlain w → IsText w
text-plain [] h = tt
text-plain (b ∷ w) h = (h.0.0, text-plain w h.1)

text-word : (w : List ℕ) → IsWord w → IsText w
text-word [] h = tt
text-word (b ∷ w) h = (h.0.0, text-plain w h.1)

wild-skip : (w rest : List ℕ) (len tok at tok2 at2 : ℕ) → IsText w → at + length w ≤ len → tok2 ≡ tok + length w → at2 ≡ at + length w → wild_from (w ++ rest) len tok at ≡ wild_from rest len tok2 at2
wild-skip [] rest len tok at tok2 at2 h l e f =
    let a : tok ≡ tok2 = omega arith in
    let b : at ≡ at2 = omega arith in
    ap₂ (λ t p. wild_from rest len t p) a b
wild-skip (b ∷ w) rest len tok at tok2 at2 h l e f =
    let small : b < 256 = h.0 in
    let byte : ltb b param_token ≡ true = grind (arith, nat_tests) in
    let inside : ltb at len ≡ true = grind (arith, nat_tests) in
    rw (byte, inside) (wild-skip w rest len (tok + 1) (at + 1) tok2 at2 h.1 (omega arith) (omega arith) (omega arith))

-- a walk skips a word
walk-skip : (P text Q : List ℕ) (names : List (ℕ × ℕ)) (tok at tok2 at2 : ℕ) → wild_from (drop tok P) (length Q) tok at ≡ wild_from (drop tok2 P) (length Q) tok2 at2 → walk P text Q names tok at ≡ walk P text Q names tok2 at2
walk-skip P text Q [] tok at tok2 at2 e = refl
walk-skip P text Q (n ∷ ns) tok at tok2 at2 e =
    ap (λ w. (part_of text n.0 n.1, part_of Q w.1 (wild_stop P w.0 Q w.1)) ∷ walk P text Q ns (after_token w.0) (wild_stop P w.0 Q w.1)) e

-- where a parameter is
wild-here : (rest : List ℕ) (len tok at : ℕ) → at < len → wild_from (slash ∷ (param_token ∷ rest)) len tok at ≡ (tok + 1, at + 1)
wild-here rest len tok at l =
    let inside : ltb at len ≡ true = grind (arith, nat_tests) in
    rw inside refl

-- where it stops
stop-last : (P Q : List ℕ) (tok at : ℕ) → length P ≤ tok + 1 → wild_stop P tok Q at ≡ length Q
stop-last P Q tok at l =
    let no : ltb (tok + 1) (length P) ≡ false = grind (arith, nat_tests) in
    of (ltb tok (length P) && (get_or P tok 0 == param_token)) no
  where
    of : (t : Bool) → ltb (tok + 1) (length P) ≡ false → cond (t && ltb (tok + 1) (length P)) (at + length (segment (drop at Q)) - length (segment (drop (tok + 1) P))) (length Q) ≡ length Q
    of true e = rw e refl
    of false e = refl

stop-inside : (P Q : List ℕ) (tok at : ℕ) → tok + 1 < length P → get_or P tok 0 ≡ param_token → wild_stop P tok Q at ≡ at + length (segment (drop at Q)) - length (segment (drop (tok + 1) P))
stop-inside P Q tok at l e =
    let first : ltb tok (length P) ≡ true = grind (arith, nat_tests) in
    let second : ltb (tok + 1) (length P) ≡ true = grind (arith, nat_tests) in
    rw (first, second, e) refl

part-here : (front s back Q : List ℕ) (a b : ℕ) → Q ≡ front ++ (s ++ back) → a ≡ length front → b ≡ length front + length s → part_of Q a b ≡ s
part-here front s back Q a b e f g =
    let long : length Q ≡ length front + (length s + length back) = ap length e ∙ length-append front (s ++ back) ∙ ap (λ n. length front + n) (length-append s back) in
    let low : leb a b ≡ true = grind (arith, nat_tests) in
    let high : leb b (length Q) ≡ true = grind (arith, nat_tests) in
    let size : b - a ≡ length s = omega arith in
    let from : drop a Q ≡ s ++ back = ap₂ (λ n l. drop n l) f e ∙ drop-append_seam front (s ++ back) in
    rw (low, high, size, from) (take-append_seam s back)

-- the path at a parameter, whatever follows
stop-here : (pre done : List ℕ) (ps : Pieces) (s : List ℕ) (ss : List (List ℕ)) (P Q : List ℕ) (tok at : ℕ) → AllPlain s → fits ps ss ≡ true
    → P ≡ pre ++ (slash ∷ (param_token ∷ tokens ps)) → Q ≡ done ++ (slash ∷ (s ++ join ss)) → tok ≡ length pre + 1 → at ≡ length done + 1
    → wild_stop P tok Q at ≡ at + length s
stop-here pre done [] s (t ∷ ss) P Q tok at p f e g h i = cc
stop-here pre done [] s [] P Q tok at p f e g h i =
    let long : length P ≡ length pre + 2 = ap length e ∙ length-append pre (slash ∷ (param_token ∷ [])) in
    let all : length Q ≡ length done + suc (length (s ++ [])) = ap length g ∙ length-append done (slash ∷ (s ++ [])) in
    let same : length (s ++ []) ≡ length s = ap length (append-nil s) in
    stop-last P Q tok at (omega arith) ∙ omega arith
stop-here pre done (piece ∷ ps) s [] P Q tok at p f e g h i = cc
stop-here pre done (piece ∷ ps) s (t ∷ ss) P Q tok at p f e g h i =
    let back = tokens (piece ∷ ps) in
    let rest = t ++ join ss in
    let some : length back ≡ suc (length back - 1) = some-tokens piece ps in
    let long : length P ≡ length pre + suc (suc (length back)) = ap length e ∙ length-append pre (slash ∷ (param_token ∷ back)) in
    let one : get_or P tok 0 ≡ param_token = ap₂ (λ l n. get_or l n 0) e h ∙ get_or-append-add pre (slash ∷ (param_token ∷ back)) 1 0 in
    let left : drop (tok + 1) P ≡ back =
    ap₂ (λ n l. drop n l) (two-more tok (length pre) h ∙ sym (length-append pre (slash ∷ (param_token ∷ [])))) (e ∙ sym (append_assoc pre (slash ∷ (param_token ∷ [])) back))
    ∙ drop-append_seam (pre ++ (slash ∷ (param_token ∷ []))) back in
    let right : drop at Q ≡ s ++ (slash ∷ rest) =
    ap₂ (λ n l. drop n l) (i ∙ sym (length-append done (slash ∷ []))) (g ∙ sym (append_assoc done (slash ∷ []) (s ++ (slash ∷ rest))))
    ∙ drop-append_seam (done ++ (slash ∷ [])) (s ++ (slash ∷ rest)) in
    let size : length (segment (drop at Q)) ≡ length s + 1 = ap (λ l. length (segment l)) right ∙ ap length (segment-slash s rest p) ∙ length-append s (slash ∷ []) in
    let last : length (segment (drop (tok + 1) P)) ≡ 1 = ap (λ l. length (segment l)) left ∙ one-token piece ps in
    stop-inside P Q tok at (omega arith) one ∙ omega arith
  where
    some-tokens : (piece : Piece) (ps : Pieces) → length (tokens (piece ∷ ps)) ≡ suc (length (tokens (piece ∷ ps)) - 1)
    some-tokens (Word w) ps = omega arith
    some-tokens (Name n) ps = omega arith

    one-token : (piece : Piece) (ps : Pieces) → length (segment (tokens (piece ∷ ps))) ≡ 1
    one-token (Word w) ps = refl
    one-token (Name n) ps = refl

    two-more : (tok n : ℕ) → tok ≡ n + 1 → tok + 1 ≡ n + 2
    two-more tok n e = omega arith

-- each parameter with its segment
walk-from : (ps : Pieces) (ss : List (List ℕ)) (pre done P Q text : List ℕ) (names : List (ℕ × ℕ)) (tok at : ℕ) → AreGood ps → EachPlain ss → fits ps ss ≡ true → keys text names ≡ keys_of ps
    → P ≡ pre ++ tokens ps → Q ≡ done ++ join ss → tok ≡ length pre → at ≡ length done → length P < 2000
    → walk P text Q names tok at ≡ parts ps ss
walk-from [] ss pre done P Q text [] tok at h p f k e g i j l = refl
walk-from [] ss pre done P Q text (n ∷ ns) tok at h p f k e g i j l = cc
walk-from (piece ∷ ps) [] pre done P Q text names tok at h p f k e g i j l = cc
walk-from (Word w ∷ ps) (s ∷ ss) pre done P Q text names tok at h p f k e g i j l =
    let both = and_parts (bytes_eq w s) (fits ps ss) f in
    let same : w ≡ s = (bytes_decides w s).0 both.0 in
    let lw : length w ≡ length s = ap length same in
    let tok2 = length (pre ++ (slash ∷ w)) in
    let at2 = length (done ++ (slash ∷ s)) in
    let eP : P ≡ (pre ++ (slash ∷ w)) ++ tokens ps = e ∙ sym (append_assoc pre (slash ∷ w) (tokens ps)) in
    let eQ : Q ≡ (done ++ (slash ∷ s)) ++ join ss = g ∙ sym (append_assoc done (slash ∷ s) (join ss)) in
    let here : drop tok P ≡ (slash ∷ w) ++ tokens ps = ap₂ (λ n q. drop n q) i e ∙ drop-append_seam pre ((slash ∷ w) ++ tokens ps) in
    let there : drop tok2 P ≡ tokens ps = ap (drop tok2) eP ∙ drop-append_seam (pre ++ (slash ∷ w)) (tokens ps) in
    let long : length Q ≡ at2 + length (join ss) = ap length eQ ∙ length-append (done ++ (slash ∷ s)) (join ss) in
    let lt : tok2 ≡ length pre + suc (length w) = length-append pre (slash ∷ w) in
    let la : at2 ≡ length done + suc (length s) = length-append done (slash ∷ s) in
    let skip : wild_from (drop tok P) (length Q) tok at ≡ wild_from (drop tok2 P) (length Q) tok2 at2 =
    ap (λ x. wild_from x (length Q) tok at) here
    ∙ wild-skip (slash ∷ w) (tokens ps) (length Q) tok at tok2 at2 (omega arith, text-word w h.0) (omega arith) (omega arith) (omega arith)
    ∙ sym (ap (λ x. wild_from x (length Q) tok2 at2) there) in
    walk-skip P text Q names tok at tok2 at2 skip
    ∙ walk-from ps ss (pre ++ (slash ∷ w)) (done ++ (slash ∷ s)) P Q text names tok2 at2 h.1 p.1 both.1 k eP eQ refl refl l
walk-from (Name key ∷ ps) (s ∷ ss) pre done P Q text [] tok at h p f k e g i j l = cc
walk-from (Name key ∷ ps) (s ∷ ss) pre done P Q text (n ∷ ns) tok at h p f k e g i j l =
    let both = and_parts (is_some_text s) (fits ps ss) f in
    let first : part_of text n.0 n.1 ≡ key = cc in
    let others : keys text ns ≡ keys_of ps = cc in
    let eP : P ≡ (pre ++ (slash ∷ (param_token ∷ []))) ++ tokens ps = e ∙ sym (append_assoc pre (slash ∷ (param_token ∷ [])) (tokens ps)) in
    let eQ : Q ≡ (done ++ (slash ∷ s)) ++ join ss = g ∙ sym (append_assoc done (slash ∷ s) (join ss)) in
    let eR : Q ≡ (done ++ (slash ∷ [])) ++ (s ++ join ss) = g ∙ sym (append_assoc done (slash ∷ []) (s ++ join ss)) in
    let long : length Q ≡ length done + suc (length (s ++ join ss)) = ap length g ∙ length-append done (slash ∷ (s ++ join ss)) in
    let size : length P ≡ length pre + suc (suc (length (tokens ps))) = ap length e ∙ length-append pre (slash ∷ (param_token ∷ tokens ps)) in
    let front : length (done ++ (slash ∷ [])) ≡ length done + 1 = length-append done (slash ∷ []) in
    let whole : length (done ++ (slash ∷ s)) ≡ length done + suc (length s) = length-append done (slash ∷ s) in
    let lt : length (pre ++ (slash ∷ (param_token ∷ []))) ≡ length pre + 2 = length-append pre (slash ∷ (param_token ∷ [])) in
    let here : drop tok P ≡ slash ∷ (param_token ∷ tokens ps) = ap₂ (λ m q. drop m q) i e ∙ drop-append_seam pre (slash ∷ (param_token ∷ tokens ps)) in
    let wild : wild_from (drop tok P) (length Q) tok at ≡ (tok + 1, at + 1) =
    ap (λ x. wild_from x (length Q) tok at) here ∙ wild-here (tokens ps) (length Q) tok at (omega arith) in
    let stop : wild_stop P (tok + 1) Q (at + 1) ≡ (at + 1) + length s =
    stop-here pre done ps s ss P Q (tok + 1) (at + 1) p.0 both.1 e g (omega arith) (omega arith) in
    let part : part_of Q (at + 1) ((at + 1) + length s) ≡ s = part-here (done ++ (slash ∷ [])) s (join ss) Q (at + 1) ((at + 1) + length s) eR (omega arith) (omega arith) in
    let next : after_token (tok + 1) ≡ tok + 2 = omega arith in
    let rest : walk P text Q ns (tok + 2) ((at + 1) + length s) ≡ parts ps ss =
    walk-from ps ss (pre ++ (slash ∷ (param_token ∷ []))) (done ++ (slash ∷ s)) P Q text ns (tok + 2) ((at + 1) + length s) h p.1 both.1 others eP eQ (omega arith) (omega arith) l in
    ap (λ w. (part_of text n.0 n.1, part_of Q w.1 (wild_stop P w.0 Q w.1)) ∷ walk P text Q ns (after_token w.0) (wild_stop P w.0 Q w.1)) wild
    ∙ ap (λ t. (part_of text n.0 n.1, part_of Q (at + 1) t) ∷ walk P text Q ns (after_token (tok + 1)) t) stop
    ∙ ap₂ (λ a b. (a, b) ∷ walk P text Q ns (after_token (tok + 1)) ((at + 1) + length s)) first part
    ∙ ap (λ t. (key, s) ∷ walk P text Q ns t ((at + 1) + length s)) next
    ∙ ap (λ r. (key, s) ∷ r) rest

pub walk-parts : (ps : Pieces) (ss : List (List ℕ)) (text : List ℕ) (names : List (ℕ × ℕ)) → AreGood ps → EachPlain ss → fits ps ss ≡ true → keys text names ≡ keys_of ps → length (tokens ps) < 2000
    → walk (tokens ps) text (join ss) names 0 0 ≡ parts ps ss
walk-parts ps ss text names h p f k l = walk-from ps ss [] [] (tokens ps) (join ss) text names 0 0 h p f k refl refl refl refl l
