-- `matchit`'s walk over routes of whole segments goes a segment at a time.
use Rattle.std.proofs.Common.{◌≡◌, ◌≢◌, ℕ, zero, suc, ◌-◌, ◌<◌, ◌≤◌, List, [], ◌∷◌, ◌++◌, length, drop, Option, Some, None, Bool, true, false, cond, refl, sym, ap, ◌∙◌, arith, nat_eq, ◌==◌, ltb, ◌&&◌, append-nil, length-append, bytes_eq}
use Rattle.std.proofs.Math.Seq.{drop-append_seam}
use Rattle.std.proofs.lemmas.Bool.{ne_eqb}
use Rattle.std.proofs.lemmas.Bool.Decides.{nat_tests}
use Rattle.std.specs.Cmp.Lexicographic.{pointwise}
use Rattle.matchit.specs.Rows.{RowsOf, param_token, catch_all_token}
use Rattle.matchit.specs.Seek.{own, step, or_else, seek, param_step, has_slash, segment, cuts, longest_from, longest_suffix, with_suffix}
use Rattle.matchit.proofs.ParamLemmas.{better-empty}
use Rattle.segment_routes.specs.Paths.{slash}
use Rattle.segment_routes.specs.Pieces.{Word, Name, Pieces, is_some_text}
use Rattle.segment_routes.specs.Spelling.{tokens, spelled}

-- a byte of a segment
abbrev pub IsPlain : ℕ → Type 0
IsPlain b = (b < 256) × (b ≢ slash)

abbrev pub AllPlain : List ℕ → Type 0
AllPlain [] = Unit {0}
AllPlain (b ∷ rest) = IsPlain b × AllPlain rest

abbrev pub EachPlain : List (List ℕ) → Type 0
EachPlain [] = Unit {0}
EachPlain (segment ∷ rest) = AllPlain segment × EachPlain rest

-- a word of a route
abbrev pub IsWord : List ℕ → Type 0
IsWord [] = ⊥
IsWord (b ∷ rest) = IsPlain b × AllPlain rest

abbrev pub AreGood : Pieces → Type 0
AreGood [] = Unit {0}
AreGood (Word word ∷ pieces) = IsWord word × AreGood pieces
AreGood (Name key ∷ pieces) = AreGood pieces

-- a path of these segments
abbrev pub join : List (List ℕ) → List ℕ
join [] = []
join (segment ∷ rest) = slash ∷ (segment ++ join rest)

-- what is left of a word, and what comes after it
abbrev pub MidsOf : Type 0 → Type 0
MidsOf K = List (List ℕ × (Pieces × K))

module _ {K : Type 0} where
  abbrev pub AllGood : List (Pieces × K) → Type 0
  AllGood [] = Unit {0}
  AllGood (row ∷ rows) = AreGood row.0 × AllGood rows

  abbrev pub AllPlainMids : MidsOf K → Type 0
  AllPlainMids [] = Unit {0}
  AllPlainMids (m ∷ ms) = AllPlain m.0 × AllPlainMids ms

  abbrev pub mids : MidsOf K → RowsOf K
  mids [] = []
  mids ((word, r) ∷ ms) = (word ++ tokens r.0, r.1) ∷ mids ms

  abbrev pub words : List (Pieces × K) → MidsOf K
  words [] = []
  words (([], k) ∷ rs) = words rs
  words ((Word word ∷ ps, k) ∷ rs) = (word, (ps, k)) ∷ words rs
  words ((Name key ∷ ps, k) ∷ rs) = words rs

  abbrev pub names : List (Pieces × K) → List (Pieces × K)
  names [] = []
  names (([], k) ∷ rs) = names rs
  names ((Word word ∷ ps, k) ∷ rs) = names rs
  names ((Name key ∷ ps, k) ∷ rs) = (ps, k) ∷ names rs

  -- the rows behind a slash
  abbrev pub starts : List (Pieces × K) → RowsOf K
  starts [] = []
  starts (([], k) ∷ rs) = starts rs
  starts ((Word word ∷ ps, k) ∷ rs) = (word ++ tokens ps, k) ∷ starts rs
  starts ((Name key ∷ ps, k) ∷ rs) = (param_token ∷ tokens ps, k) ∷ starts rs

  -- what comes after this word
  abbrev pub picked : List ℕ → MidsOf K → List (Pieces × K)
  picked segment [] = []
  picked segment ((word, r) ∷ ms) = cond (bytes_eq word segment) (r ∷ picked segment ms) (picked segment ms)

  abbrev pub lits : List ℕ → List (Pieces × K) → List (Pieces × K)
  lits segment rs = picked segment (words rs)

  abbrev pub advance : ℕ → MidsOf K → MidsOf K
  advance b [] = []
  advance b (([], r) ∷ ms) = advance b ms
  advance b ((x ∷ w, r) ∷ ms) = cond (x == b) ((w, r) ∷ advance b ms) (advance b ms)

  or_else-none : (a : Option K) → or_else a None ≡ a
  or_else-none None = refl
  or_else-none (Some k) = refl

  param_step-empty : (p : List ℕ) → (param_step {K = K} [] p).1 ≡ []
  unfolding param_step
  param_step-empty p =
      elim (has_slash p) as (λ v. (cond {A = ℕ × RowsOf K} v (0, []) (length p, [])).1 ≡ []) [
        | true ↦ refl
        | false ↦ refl
      ]

  pub seek-none : (k : ℕ) (p : List ℕ) → seek {K = K} k [] p ≡ None
  unfolding seek
  seek-none k [] = refl
  seek-none (suc k) (b ∷ p) = seek-none k p
  seek-none zero (b ∷ p) = simp (seek-none 0 p, param_step-empty (b ∷ p), seek-none (((param_step {K = K} [] (b ∷ p)).0) - 1) p)

  pub seek-skip : (a : List ℕ) (rs : RowsOf K) (p : List ℕ) → seek (length a) rs (a ++ p) ≡ seek 0 rs p
  unfolding seek
  seek-skip [] rs p = refl
  seek-skip (b ∷ a) rs p = seek-skip a rs p

  -- a byte where no parameter comes next
  seek-on : (rs : RowsOf K) (b : ℕ) (p : List ℕ) → step param_token rs ≡ [] → step catch_all_token rs ≡ [] → seek 0 rs (b ∷ p) ≡ seek 0 (step b rs) p
  unfolding seek
  seek-on rs b p np nc = simp (np, nc, param_step-empty (b ∷ p), seek-none ((param_step {K = K} [] (b ∷ p)).0 - 1) p, or_else-none)

  step-spelled : (rs : List (Pieces × K)) → step slash (spelled rs) ≡ starts rs
  step-spelled [] = refl
  step-spelled (([], k) ∷ rs) = step-spelled rs
  step-spelled ((Word w ∷ ps, k) ∷ rs) = ap (λ r. (w ++ tokens ps, k) ∷ r) (step-spelled rs)
  step-spelled ((Name n ∷ ps, k) ∷ rs) = ap (λ r. (param_token ∷ tokens ps, k) ∷ r) (step-spelled rs)

  step-spelled_other : (b : ℕ) (rs : List (Pieces × K)) → slash ≢ b → step b (spelled rs) ≡ []
  step-spelled_other b [] n = refl
  step-spelled_other b (([], k) ∷ rs) n = step-spelled_other b rs n
  step-spelled_other b ((Word w ∷ ps, k) ∷ rs) n = rw (ne_eqb slash b n) (step-spelled_other b rs n)
  step-spelled_other b ((Name m ∷ ps, k) ∷ rs) n = rw (ne_eqb slash b n) (step-spelled_other b rs n)

  -- a byte that is no slash, where a segment would have to begin
  pub seek-off : (rs : List (Pieces × K)) (b : ℕ) (p : List ℕ) → IsPlain b → seek 0 (spelled rs) (b ∷ p) ≡ None
  seek-off rs b p h =
      seek-on (spelled rs) b p (step-spelled_other param_token rs (λ e. omega arith)) (step-spelled_other catch_all_token rs (λ e. omega arith))
      ∙ ap (λ r. seek 0 r p) (step-spelled_other b rs (λ e. h.1 (sym e)))
      ∙ seek-none 0 p

  -- a slash
  pub seek-slash : (rs : List (Pieces × K)) (p : List ℕ) → seek 0 (spelled rs) (slash ∷ p) ≡ seek 0 (starts rs) p
  seek-slash rs p =
      seek-on (spelled rs) slash p (step-spelled_other param_token rs (λ e. omega arith)) (step-spelled_other catch_all_token rs (λ e. omega arith))
      ∙ ap (λ r. seek 0 r p) (step-spelled rs)

  step-mids : (b : ℕ) (ms : MidsOf K) → slash ≢ b → step b (mids ms) ≡ mids (advance b ms)
  step-mids b [] n = refl
  step-mids b (([], ([], k)) ∷ ms) n = step-mids b ms n
  step-mids b (([], (Word w ∷ ps, k)) ∷ ms) n = rw (ne_eqb slash b n) (step-mids b ms n)
  step-mids b (([], (Name m ∷ ps, k)) ∷ ms) n = rw (ne_eqb slash b n) (step-mids b ms n)
  step-mids b ((x ∷ w, r) ∷ ms) n =
      elim (x == b) as (λ v. cond v ((w ++ tokens r.0, r.1) ∷ step b (mids ms)) (step b (mids ms)) ≡ mids (cond v ((w, r) ∷ advance b ms) (advance b ms))) [
        | true ↦ ap (λ l. (w ++ tokens r.0, r.1) ∷ l) (step-mids b ms n)
        | false ↦ step-mids b ms n
      ]

  step-mids_slash : (ms : MidsOf K) → AllPlainMids ms → step slash (mids ms) ≡ starts (picked [] ms)
  step-mids_slash [] h = refl
  step-mids_slash (([], ([], k)) ∷ ms) h = step-mids_slash ms h.1
  step-mids_slash (([], (Word w ∷ ps, k)) ∷ ms) h = ap (λ l. (w ++ tokens ps, k) ∷ l) (step-mids_slash ms h.1)
  step-mids_slash (([], (Name m ∷ ps, k)) ∷ ms) h = ap (λ l. (param_token ∷ tokens ps, k) ∷ l) (step-mids_slash ms h.1)
  step-mids_slash ((x ∷ w, r) ∷ ms) h = rw (ne_eqb x slash h.0.0.1) (step-mids_slash ms h.1)

  step-mids_wild : (t : ℕ) (ms : MidsOf K) → 256 ≤ t → AllPlainMids ms → step t (mids ms) ≡ []
  step-mids_wild t [] l h = refl
  step-mids_wild t (([], ([], k)) ∷ ms) l h = step-mids_wild t ms l h.1
  step-mids_wild t (([], (Word w ∷ ps, k)) ∷ ms) l h = rw (ne_eqb slash t (λ e. omega arith)) (step-mids_wild t ms l h.1)
  step-mids_wild t (([], (Name m ∷ ps, k)) ∷ ms) l h = rw (ne_eqb slash t (λ e. omega arith)) (step-mids_wild t ms l h.1)
  step-mids_wild t ((x ∷ w, r) ∷ ms) l h = rw (ne_eqb x t (λ e. omega (arith, h.0.0.0))) (step-mids_wild t ms l h.1)

  own-mids : (ms : MidsOf K) → own (mids ms) ≡ own (spelled (picked [] ms))
  own-mids [] = refl
  own-mids (([], ([], k)) ∷ ms) = refl
  own-mids (([], (Word w ∷ ps, k)) ∷ ms) = own-mids ms
  own-mids (([], (Name m ∷ ps, k)) ∷ ms) = own-mids ms
  own-mids ((x ∷ w, r) ∷ ms) = own-mids ms

  plain-advance : (b : ℕ) (ms : MidsOf K) → AllPlainMids ms → AllPlainMids (advance b ms)
  plain-advance b [] h = tt
  plain-advance b (([], r) ∷ ms) h = plain-advance b ms h.1
  plain-advance b ((x ∷ w, r) ∷ ms) h =
      elim (x == b) as (λ v. AllPlainMids (cond v ((w, r) ∷ advance b ms) (advance b ms))) [
        | true ↦ (h.0.1, plain-advance b ms h.1)
        | false ↦ plain-advance b ms h.1
      ]

  picked-advance : (b : ℕ) (seg : List ℕ) (ms : MidsOf K) → picked seg (advance b ms) ≡ picked (b ∷ seg) ms
  picked-advance b seg [] = refl
  picked-advance b seg (([], r) ∷ ms) = picked-advance b seg ms
  picked-advance b seg ((x ∷ w, r) ∷ ms) =
      elim (x == b) as (λ v. picked seg (cond v ((w, r) ∷ advance b ms) (advance b ms)) ≡ cond (v && bytes_eq w seg) (r ∷ picked (b ∷ seg) ms) (picked (b ∷ seg) ms)) [
        | true ↦ ap (λ l. cond (bytes_eq w seg) (r ∷ l) l) (picked-advance b seg ms)
        | false ↦ picked-advance b seg ms
      ]

  -- a word's bytes
  seek-word : (ms : MidsOf K) (seg : List ℕ) (ss : List (List ℕ)) → AllPlainMids ms → AllPlain seg → seek 0 (mids ms) (seg ++ join ss) ≡ seek 0 (spelled (picked seg ms)) (join ss)
  unfolding seek
  seek-word ms [] [] h p = own-mids ms
  seek-word ms [] (s ∷ ss) h p =
      seek-on (mids ms) slash (s ++ join ss) (step-mids_wild param_token ms (omega arith) h) (step-mids_wild catch_all_token ms (omega arith) h)
      ∙ ap (λ r. seek 0 r (s ++ join ss)) (step-mids_slash ms h)
      ∙ sym (seek-slash (picked [] ms) (s ++ join ss))
  seek-word ms (b ∷ seg) ss h p =
      seek-on (mids ms) b (seg ++ join ss) (step-mids_wild param_token ms (omega arith) h) (step-mids_wild catch_all_token ms (omega arith) h)
      ∙ ap (λ r. seek 0 r (seg ++ join ss)) (step-mids b ms (λ e. p.0.1 (sym e)))
      ∙ seek-word (advance b ms) seg ss (plain-advance b ms h) p.1
      ∙ ap (λ r. seek 0 (spelled r) (join ss)) (picked-advance b seg ms)

-- segments of a path
segment-plain : (seg : List ℕ) → AllPlain seg → segment seg ≡ seg
segment-plain [] p = refl
segment-plain (b ∷ seg) p = rw (ne_eqb b slash p.0.1) (ap (λ l. b ∷ l) (segment-plain seg p.1))

pub segment-slash : (seg rest : List ℕ) → AllPlain seg → segment (seg ++ (slash ∷ rest)) ≡ seg ++ slash ∷ []
segment-slash [] rest p = refl
segment-slash (b ∷ seg) rest p = rw (ne_eqb b slash p.0.1) (ap (λ l. b ∷ l) (segment-slash seg rest p.1))

no-slash : (seg : List ℕ) → AllPlain seg → has_slash seg ≡ false
no-slash [] p = refl
no-slash (b ∷ seg) p = rw (ne_eqb b slash p.0.1) (no-slash seg p.1)

a-slash : (seg rest : List ℕ) → has_slash (seg ++ (slash ∷ rest)) ≡ true
a-slash [] rest = refl
a-slash (b ∷ seg) rest =
    elim (b == slash) as (λ v. cond v true (has_slash (seg ++ (slash ∷ rest))) ≡ true) [
      | true ↦ refl
      | false ↦ a-slash seg rest
    ]

plain-drop : (n : ℕ) (seg : List ℕ) → AllPlain seg → AllPlain (drop n seg)
plain-drop zero seg p = p
plain-drop (suc n) [] p = tt
plain-drop (suc n) (b ∷ seg) p = plain-drop n seg p.1

less_one : (n : ℕ) → suc n - 1 ≡ n
less_one n = omega arith

-- the suffix of a slash alone
abbrev lone : List ℕ
lone = slash ∷ []

not-lone : (seg : List ℕ) → AllPlain seg → pointwise nat_eq lone seg ≡ false
not-lone [] p = refl
not-lone (b ∷ seg) p =
    let e : nat_eq slash b ≡ false = ne_eqb slash b (λ q. p.0.1 (sym q)) in
    rw e refl

and-false : (a b : Bool) → b ≡ false → (a && b) ≡ false
and-false true b e = e
and-false false b e = refl

cuts-plain : (seg : List ℕ) → AllPlain seg → cuts seg lone ≡ false
cuts-plain seg p = and-false _ _ (not-lone _ (plain-drop (length seg - 1) seg p))

cuts-empty : cuts lone lone ≡ false
cuts-empty = refl

seam : (b : ℕ) (seg : List ℕ) → length ((b ∷ seg) ++ lone) - 1 ≡ length (b ∷ seg)
seam b seg = omega (arith, length-append (b ∷ seg) lone)

cuts-slash : (b : ℕ) (seg : List ℕ) → cuts ((b ∷ seg) ++ lone) lone ≡ true
cuts-slash b seg =
    let long : ltb 1 (length ((b ∷ seg) ++ lone)) ≡ true = grind (arith, nat_tests, length-append seg lone) in
    let end : drop (length ((b ∷ seg) ++ lone) - 1) ((b ∷ seg) ++ lone) ≡ lone = ap (λ n. drop n ((b ∷ seg) ++ lone)) (seam b seg) ∙ drop-append_seam (b ∷ seg) lone in
    rw (long, end) refl

module _ {K : Type 0} where
  -- some row goes on
  abbrev pub goes_on : List (Pieces × K) → Bool
  goes_on [] = false
  goes_on (([], k) ∷ rs) = goes_on rs
  goes_on ((piece ∷ ps, k) ∷ rs) = true

  starts-end : (rs : List (Pieces × K)) → goes_on rs ≡ false → starts rs ≡ []
  starts-end [] e = refl
  starts-end (([], k) ∷ rs) e = starts-end rs e
  starts-end ((piece ∷ ps, k) ∷ rs) e = cc

  longest-uncut : (seg : List ℕ) (rs : List (Pieces × K)) → cuts seg lone ≡ false → longest_suffix seg (spelled rs) ≡ []
  longest-uncut seg [] e = refl
  longest-uncut seg (([], k) ∷ rs) e = rw (better-empty seg []) (longest-uncut seg rs e)
  longest-uncut seg ((Word w ∷ ps, k) ∷ rs) e = ap (λ v. longest_from seg (cond v lone []) (spelled rs)) e ∙ longest-uncut seg rs e
  longest-uncut seg ((Name n ∷ ps, k) ∷ rs) e = ap (λ v. longest_from seg (cond v lone []) (spelled rs)) e ∙ longest-uncut seg rs e

  longest-kept : (seg : List ℕ) (rs : List (Pieces × K)) → longest_from seg lone (spelled rs) ≡ lone
  longest-kept seg [] = refl
  longest-kept seg (([], k) ∷ rs) = rw (better-empty seg lone) (longest-kept seg rs)
  longest-kept seg ((Word w ∷ ps, k) ∷ rs) = longest-kept seg rs
  longest-kept seg ((Name n ∷ ps, k) ∷ rs) = longest-kept seg rs

  longest-cut : (seg : List ℕ) (rs : List (Pieces × K)) → cuts seg lone ≡ true → longest_suffix seg (spelled rs) ≡ cond (goes_on rs) lone []
  longest-cut seg [] e = refl
  longest-cut seg (([], k) ∷ rs) e = rw (better-empty seg []) (longest-cut seg rs e)
  longest-cut seg ((Word w ∷ ps, k) ∷ rs) e = ap (λ v. longest_from seg (cond v lone []) (spelled rs)) e ∙ longest-kept seg rs
  longest-cut seg ((Name n ∷ ps, k) ∷ rs) e = ap (λ v. longest_from seg (cond v lone []) (spelled rs)) e ∙ longest-kept seg rs

  step-with_suffix : (rs : List (Pieces × K)) → step slash (with_suffix lone (spelled rs)) ≡ starts rs
  step-with_suffix [] = refl
  step-with_suffix (([], k) ∷ rs) = step-with_suffix rs
  step-with_suffix ((Word w ∷ ps, k) ∷ rs) = ap (λ r. (w ++ tokens ps, k) ∷ r) (step-with_suffix rs)
  step-with_suffix ((Name n ∷ ps, k) ∷ rs) = ap (λ r. (param_token ∷ tokens ps, k) ∷ r) (step-with_suffix rs)

  step-with_suffix_other : (b : ℕ) (rs : List (Pieces × K)) → slash ≢ b → step b (with_suffix lone (spelled rs)) ≡ []
  step-with_suffix_other b [] n = refl
  step-with_suffix_other b (([], k) ∷ rs) n = step-with_suffix_other b rs n
  step-with_suffix_other b ((Word w ∷ ps, k) ∷ rs) n = rw (ne_eqb slash b n) (step-with_suffix_other b rs n)
  step-with_suffix_other b ((Name m ∷ ps, k) ∷ rs) n = rw (ne_eqb slash b n) (step-with_suffix_other b rs n)

  -- a slash after a parameter
  with-slash : (rs : List (Pieces × K)) (p : List ℕ) → seek 0 (with_suffix lone (spelled rs)) (slash ∷ p) ≡ seek 0 (spelled rs) (slash ∷ p)
  with-slash rs p =
      seek-on (with_suffix lone (spelled rs)) slash p (step-with_suffix_other param_token rs (λ e. omega arith)) (step-with_suffix_other catch_all_token rs (λ e. omega arith))
      ∙ ap (λ r. seek 0 r p) (step-with_suffix rs)
      ∙ sym (seek-slash rs p)

  no-way : (rs : List (Pieces × K)) (p : List ℕ) → goes_on rs ≡ false → seek 0 (spelled rs) (slash ∷ p) ≡ None
  no-way rs p e = seek-slash rs p ∙ ap (λ r. seek 0 r p) (starts-end rs e) ∙ seek-none 0 p

  -- what `param_step` does where the longest suffix is known
  taken-all : (rs : RowsOf K) (path : List ℕ) → longest_suffix (segment path) rs ≡ [] → has_slash path ≡ false → param_step rs path ≡ (length path, rs)
  unfolding param_step
  taken-all rs path e h = rw (e, h) refl

  taken-none : (rs : RowsOf K) (path : List ℕ) → longest_suffix (segment path) rs ≡ [] → has_slash path ≡ true → param_step rs path ≡ (0, [])
  unfolding param_step
  taken-none rs path e h = rw (e, h) refl

  taken-part : (rs : RowsOf K) (path : List ℕ) → longest_suffix (segment path) rs ≡ lone → param_step rs path ≡ (length (segment path) - 1, with_suffix lone rs)
  unfolding param_step
  taken-part rs path e = rw e refl

  -- where a step by a parameter goes on
  abbrev go : ℕ × RowsOf K → List ℕ → Option K
  go s p = seek (s.0 - 1) s.1 p

  -- a parameter takes a whole segment
  after-name : (rs : List (Pieces × K)) (b : ℕ) (seg : List ℕ) (ss : List (List ℕ)) → AllPlain (b ∷ seg)
      → go (param_step (spelled rs) ((b ∷ seg) ++ join ss)) (seg ++ join ss) ≡ seek 0 (spelled rs) (join ss)
  after-name rs b seg [] p =
      let whole : segment ((b ∷ seg) ++ []) ≡ b ∷ seg = ap segment (append-nil (b ∷ seg)) ∙ segment-plain (b ∷ seg) p in
      let uncut : longest_suffix (segment ((b ∷ seg) ++ [])) (spelled rs) ≡ [] = ap (λ s. longest_suffix s (spelled rs)) whole ∙ longest-uncut (b ∷ seg) rs (cuts-plain (b ∷ seg) p) in
      let none : has_slash ((b ∷ seg) ++ []) ≡ false = ap has_slash (append-nil (b ∷ seg)) ∙ no-slash (b ∷ seg) p in
      let long : length ((b ∷ seg) ++ []) - 1 ≡ length seg = ap (λ l. length l - 1) (append-nil (b ∷ seg)) ∙ less_one (length seg) in
      ap (λ s. go s (seg ++ [])) (taken-all (spelled rs) ((b ∷ seg) ++ []) uncut none)
      ∙ ap (λ n. seek n (spelled rs) (seg ++ [])) long
      ∙ seek-skip seg (spelled rs) []
  after-name rs b seg (s ∷ ss) p =
      let rest = s ++ join ss in
      let path = (b ∷ seg) ++ (slash ∷ rest) in
      let cut : longest_suffix (segment path) (spelled rs) ≡ cond (goes_on rs) lone [] = ap (λ t. longest_suffix t (spelled rs)) (segment-slash (b ∷ seg) rest p) ∙ longest-cut ((b ∷ seg) ++ lone) rs (cuts-slash b seg) in
      of (goes_on rs) refl cut
    where
      of : (t : Bool) → goes_on rs ≡ t → longest_suffix (segment ((b ∷ seg) ++ (slash ∷ (s ++ join ss)))) (spelled rs) ≡ cond t lone []
          → go (param_step (spelled rs) ((b ∷ seg) ++ (slash ∷ (s ++ join ss)))) (seg ++ (slash ∷ (s ++ join ss))) ≡ seek 0 (spelled rs) (slash ∷ (s ++ join ss))
      of true e cut =
          let rest = s ++ join ss in
          let long : length (segment ((b ∷ seg) ++ (slash ∷ rest))) - 1 - 1 ≡ length seg = ap (λ l. length l - 1 - 1) (segment-slash (b ∷ seg) rest p) ∙ omega (arith, length-append (b ∷ seg) lone) in
          ap (λ s. go s (seg ++ (slash ∷ rest))) (taken-part (spelled rs) ((b ∷ seg) ++ (slash ∷ rest)) cut)
          ∙ ap (λ n. seek n (with_suffix lone (spelled rs)) (seg ++ (slash ∷ rest))) long
          ∙ seek-skip seg (with_suffix lone (spelled rs)) (slash ∷ rest)
          ∙ with-slash rs rest
      of false e cut =
          let rest = s ++ join ss in
          ap (λ s. go s (seg ++ (slash ∷ rest))) (taken-none (spelled rs) ((b ∷ seg) ++ (slash ∷ rest)) cut (a-slash (b ∷ seg) rest))
          ∙ seek-none 0 (seg ++ (slash ∷ rest))
          ∙ sym (no-way rs rest e)

  -- rows behind a slash: those with a word, and those with a parameter
  step-starts : (b : ℕ) (rs : List (Pieces × K)) → b < 256 → step b (starts rs) ≡ step b (mids (words rs))
  step-starts b [] l = refl
  step-starts b (([], k) ∷ rs) l = step-starts b rs l
  step-starts b ((Word [] ∷ [], k) ∷ rs) l = step-starts b rs l
  step-starts b ((Word [] ∷ (Word w ∷ ps), k) ∷ rs) l = rw (step-starts b rs l) refl
  step-starts b ((Word [] ∷ (Name n ∷ ps), k) ∷ rs) l = rw (step-starts b rs l) refl
  step-starts b ((Word (x ∷ w) ∷ ps, k) ∷ rs) l = rw (step-starts b rs l) refl
  step-starts b ((Name n ∷ ps, k) ∷ rs) l = rw (ne_eqb param_token b (λ e. omega arith)) (step-starts b rs l)

  step-starts_param : (rs : List (Pieces × K)) → AllGood rs → step param_token (starts rs) ≡ spelled (names rs)
  step-starts_param [] h = refl
  step-starts_param (([], k) ∷ rs) h = step-starts_param rs h.1
  step-starts_param ((Word [] ∷ ps, k) ∷ rs) h = absurd h.0.0
  step-starts_param ((Word (x ∷ w) ∷ ps, k) ∷ rs) h = rw (ne_eqb x param_token (λ e. omega (arith, h.0.0.0.0))) (step-starts_param rs h.1)
  step-starts_param ((Name n ∷ ps, k) ∷ rs) h = ap (λ r. (tokens ps, k) ∷ r) (step-starts_param rs h.1)

  step-starts_catch : (rs : List (Pieces × K)) → AllGood rs → step catch_all_token (starts rs) ≡ []
  step-starts_catch [] h = refl
  step-starts_catch (([], k) ∷ rs) h = step-starts_catch rs h.1
  step-starts_catch ((Word [] ∷ ps, k) ∷ rs) h = absurd h.0.0
  step-starts_catch ((Word (x ∷ w) ∷ ps, k) ∷ rs) h = rw (ne_eqb x catch_all_token (λ e. omega (arith, h.0.0.0.0))) (step-starts_catch rs h.1)
  step-starts_catch ((Name n ∷ ps, k) ∷ rs) h = step-starts_catch rs h.1

  step-starts_slash : (rs : List (Pieces × K)) → AllGood rs → step slash (starts rs) ≡ []
  step-starts_slash [] h = refl
  step-starts_slash (([], k) ∷ rs) h = step-starts_slash rs h.1
  step-starts_slash ((Word [] ∷ ps, k) ∷ rs) h = absurd h.0.0
  step-starts_slash ((Word (x ∷ w) ∷ ps, k) ∷ rs) h = rw (ne_eqb x slash h.0.0.0.1) (step-starts_slash rs h.1)
  step-starts_slash ((Name n ∷ ps, k) ∷ rs) h = step-starts_slash rs h.1

  own-starts : (rs : List (Pieces × K)) → AllGood rs → own (starts rs) ≡ None
  own-starts [] h = refl
  own-starts (([], k) ∷ rs) h = own-starts rs h.1
  own-starts ((Word [] ∷ ps, k) ∷ rs) h = absurd h.0.0
  own-starts ((Word (x ∷ w) ∷ ps, k) ∷ rs) h = own-starts rs h.1
  own-starts ((Name n ∷ ps, k) ∷ rs) h = own-starts rs h.1

  plain-words : (rs : List (Pieces × K)) → AllGood rs → AllPlainMids (words rs)
  plain-words [] h = tt
  plain-words (([], k) ∷ rs) h = plain-words rs h.1
  plain-words ((Word [] ∷ ps, k) ∷ rs) h = absurd h.0.0
  plain-words ((Word (x ∷ w) ∷ ps, k) ∷ rs) h = ((h.0.0.0, h.0.0.1), plain-words rs h.1)
  plain-words ((Name n ∷ ps, k) ∷ rs) h = plain-words rs h.1

  no-empty : (rs : List (Pieces × K)) → AllGood rs → lits [] rs ≡ []
  no-empty [] h = refl
  no-empty (([], k) ∷ rs) h = no-empty rs h.1
  no-empty ((Word [] ∷ ps, k) ∷ rs) h = absurd h.0.0
  no-empty ((Word (x ∷ w) ∷ ps, k) ∷ rs) h = no-empty rs h.1
  no-empty ((Name n ∷ ps, k) ∷ rs) h = no-empty rs h.1

  abbrev pub where_some : List ℕ → Option K → Option K
  where_some segment answer = cond (is_some_text segment) answer None

  -- a walk's step, unfolded
  seek-step : (rs : RowsOf K) (b : ℕ) (p : List ℕ) → step catch_all_token rs ≡ []
      → seek 0 rs (b ∷ p) ≡ or_else (seek 0 (step b rs) p) (go (param_step (step param_token rs) (b ∷ p)) p)
  unfolding seek
  seek-step rs b p nc = simp (nc, or_else-none)

  nothing-left : (rs : List (Pieces × K)) → AllGood rs → seek 0 (starts rs) [] ≡ or_else (seek 0 (spelled (lits [] rs)) []) None
  unfolding seek
  nothing-left rs h = own-starts rs h ∙ sym (or_else-none (own (spelled (lits [] rs))) ∙ ap (λ r. own (spelled r)) (no-empty rs h))

  -- a whole segment
  pub seek-segment : (rs : List (Pieces × K)) (seg : List ℕ) (ss : List (List ℕ)) → AllGood rs → AllPlain seg
      → seek 0 (starts rs) (seg ++ join ss) ≡ or_else (seek 0 (spelled (lits seg rs)) (join ss)) (where_some seg (seek 0 (spelled (names rs)) (join ss)))
  seek-segment rs [] [] h p = nothing-left rs h
  seek-segment rs [] (s ∷ ss) h p =
      let rest = s ++ join ss in
      let uncut : longest_suffix (segment (slash ∷ rest)) (spelled (names rs)) ≡ [] = longest-uncut lone (names rs) cuts-empty in
      let right : or_else (seek 0 (spelled (lits [] rs)) (slash ∷ rest)) None ≡ None = or_else-none _ ∙ ap (λ r. seek 0 (spelled r) (slash ∷ rest)) (no-empty rs h) ∙ seek-none 0 (slash ∷ rest) in
      seek-step (starts rs) slash rest (step-starts_catch rs h)
      ∙ ap (λ r. or_else (seek 0 r rest) (go (param_step (step param_token (starts rs)) (slash ∷ rest)) rest)) (step-starts_slash rs h)
      ∙ ap (λ a. or_else a (go (param_step (step param_token (starts rs)) (slash ∷ rest)) rest)) (seek-none 0 rest)
      ∙ ap (λ r. go (param_step r (slash ∷ rest)) rest) (step-starts_param rs h)
      ∙ ap (λ s. go s rest) (taken-none (spelled (names rs)) (slash ∷ rest) uncut refl)
      ∙ seek-none 0 rest
      ∙ sym right
  seek-segment rs (b ∷ seg) ss h p =
      let rest = seg ++ join ss in
      let word : seek 0 (step b (starts rs)) rest ≡ seek 0 (spelled (lits (b ∷ seg) rs)) (join ss) =
      ap (λ r. seek 0 r rest) (step-starts b rs p.0.0)
      ∙ sym (seek-on (mids (words rs)) b rest (step-mids_wild param_token (words rs) (omega arith) (plain-words rs h)) (step-mids_wild catch_all_token (words rs) (omega arith) (plain-words rs h)))
      ∙ seek-word (words rs) (b ∷ seg) ss (plain-words rs h) p in
      let name : go (param_step (step param_token (starts rs)) (b ∷ rest)) rest ≡ seek 0 (spelled (names rs)) (join ss) =
      ap (λ r. go (param_step r (b ∷ rest)) rest) (step-starts_param rs h) ∙ after-name (names rs) b seg ss p in
      seek-step (starts rs) b rest (step-starts_catch rs h)
      ∙ ap (λ a. or_else a (go (param_step (step param_token (starts rs)) (b ∷ rest)) rest)) word
      ∙ ap (λ a. or_else (seek 0 (spelled (lits (b ∷ seg) rs)) (join ss)) a) name
