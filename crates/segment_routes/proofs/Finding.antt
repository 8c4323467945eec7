-- `matchit`'s walk over the routes of an ordered table finds the first route that fits the segments.
use Rattle.std.proofs.Common.{◌≡◌, ◌≢◌, ℕ, suc, ◌<◌, List, [], ◌∷◌, ◌++◌, Option, Some, None, Bool, true, false, cond, refl, sym, ap, ◌∙◌, arith, ◌==◌, ltb, not, ◌&&◌, bytes_eq, IsAscii, subst}
use Rattle.std.proofs.lemmas.Bool.{and_parts}
use Rattle.std.proofs.lemmas.Bool.Decides.{nat_tests}
use Rattle.std.specs.Cmp.Lexicographic.{bytes_decides}
use Rattle.matchit.specs.Seek.{own, or_else, seek, first}
use Rattle.segment_routes.specs.Paths.{slash, segments, put_first}
use Rattle.segment_routes.specs.Pieces.{Word, Name, Pieces, is_some_text, fits, find, routed}
use Rattle.segment_routes.specs.Spelling.{spelled, is_plain, all_plain, are_good, precedes, all_before, is_ordered, is_good}
use Rattle.segment_routes.proofs.Seeking.{IsPlain, AllPlain, EachPlain, AreGood, AllGood, join, words, names, picked, lits, where_some, seek-slash, seek-segment, seek-off}

both : (a b : Bool) → a ≡ true → b ≡ true → (a && b) ≡ true
both true b e f = f
both false b e f = cc

plain : (b : ℕ) → is_plain b ≡ true → IsPlain b
plain b e =
    let parts = and_parts (ltb b 256) (not (b == slash)) e in
    (grind (arith, nat_tests), λ q. grind (arith, nat_tests))

plains : (w : List ℕ) → all_plain w ≡ true → AllPlain w
plains [] e = tt
plains (b ∷ w) e = let parts = and_parts (is_plain b) (all_plain w) e in (plain b parts.0, plains w parts.1)

pub good : (ps : Pieces) → are_good ps ≡ true → AreGood ps
good [] e = tt
good (Word [] ∷ ps) e = cc
good (Word (b ∷ w) ∷ ps) e =
    let parts = and_parts (all_plain (b ∷ w)) (are_good ps) e in
    (plains (b ∷ w) parts.0, good ps parts.1)
good (Name n ∷ ps) e = good ps e

module _ {K : Type 0} where
  all_good : (rs : List (Pieces × K)) → is_good rs ≡ true → AllGood rs
  all_good [] e = tt
  all_good (r ∷ rs) e = let parts = and_parts (are_good r.0) (is_good rs) e in (good r.0 parts.0, all_good rs parts.1)

  good-lits : (s : List ℕ) (rs : List (Pieces × K)) → AllGood rs → AllGood (lits s rs)
  good-lits s [] h = tt
  good-lits s (([], k) ∷ rs) h = good-lits s rs h.1
  good-lits s ((Word w ∷ ps, k) ∷ rs) h =
      elim (bytes_eq w s) as (λ v. AllGood (cond v ((ps, k) ∷ lits s rs) (lits s rs))) [
        | true ↦ (h.0.1, good-lits s rs h.1)
        | false ↦ good-lits s rs h.1
      ]
  good-lits s ((Name n ∷ ps, k) ∷ rs) h = good-lits s rs h.1

  good-names : (rs : List (Pieces × K)) → AllGood rs → AllGood (names rs)
  good-names [] h = tt
  good-names (([], k) ∷ rs) h = good-names rs h.1
  good-names ((Word w ∷ ps, k) ∷ rs) h = good-names rs h.1
  good-names ((Name n ∷ ps, k) ∷ rs) h = (h.0, good-names rs h.1)

  before-lits : (w : List ℕ) (ps : Pieces) (rs : List (Pieces × K)) → all_before (Word w ∷ ps) rs ≡ true → all_before ps (lits w rs) ≡ true
  before-lits w ps [] e = refl
  before-lits w ps (([], k) ∷ rs) e = before-lits w ps rs e
  before-lits w ps ((Word v ∷ qs, k) ∷ rs) e =
      let h = and_parts (cond (bytes_eq v w) (precedes ps qs) true) (all_before (Word w ∷ ps) rs) e in
      of (bytes_eq v w) h.0 (before-lits w ps rs h.1)
    where
      of : (t : Bool) → cond t (precedes ps qs) true ≡ true → all_before ps (lits w rs) ≡ true → all_before ps (cond t ((qs, k) ∷ lits w rs) (lits w rs)) ≡ true
      of true h ih = both _ _ h ih
      of false h ih = ih
  before-lits w ps ((Name n ∷ qs, k) ∷ rs) e = before-lits w ps rs e

  before-names : (m : List ℕ) (ps : Pieces) (rs : List (Pieces × K)) → all_before (Name m ∷ ps) rs ≡ true → all_before ps (names rs) ≡ true
  before-names m ps [] e = refl
  before-names m ps (([], k) ∷ rs) e = before-names m ps rs e
  before-names m ps ((Word v ∷ qs, k) ∷ rs) e = cc
  before-names m ps ((Name n ∷ qs, k) ∷ rs) e = let h = and_parts (precedes ps qs) (all_before (Name m ∷ ps) rs) e in both _ _ h.0 (before-names m ps rs h.1)

  no-words : (m : List ℕ) (ps : Pieces) (rs : List (Pieces × K)) → all_before (Name m ∷ ps) rs ≡ true → words rs ≡ []
  no-words m ps [] e = refl
  no-words m ps (([], k) ∷ rs) e = no-words m ps rs e
  no-words m ps ((Word v ∷ qs, k) ∷ rs) e = cc
  no-words m ps ((Name n ∷ qs, k) ∷ rs) e = no-words m ps rs (and_parts (precedes ps qs) (all_before (Name m ∷ ps) rs) e).1

  ordered-lits : (s : List ℕ) (rs : List (Pieces × K)) → is_ordered rs ≡ true → is_ordered (lits s rs) ≡ true
  ordered-lits s [] e = refl
  ordered-lits s (([], k) ∷ rs) e = ordered-lits s rs (and_parts (all_before [] rs) (is_ordered rs) e).1
  ordered-lits s ((Word w ∷ ps, k) ∷ rs) e =
      let h = and_parts (all_before (Word w ∷ ps) rs) (is_ordered rs) e in
      of (bytes_eq w s) refl (before-lits w ps rs h.0) (ordered-lits s rs h.1)
    where
      of : (t : Bool) → bytes_eq w s ≡ t → all_before ps (lits w rs) ≡ true → is_ordered (lits s rs) ≡ true → is_ordered (cond t ((ps, k) ∷ lits s rs) (lits s rs)) ≡ true
      of true same b ih = both _ _ (subst (λ z. all_before ps (lits z rs) ≡ true) ((bytes_decides w s).0 same) b) ih
      of false other b ih = ih
  ordered-lits s ((Name n ∷ ps, k) ∷ rs) e = ordered-lits s rs (and_parts (all_before (Name n ∷ ps) rs) (is_ordered rs) e).1

  ordered-names : (rs : List (Pieces × K)) → is_ordered rs ≡ true → is_ordered (names rs) ≡ true
  ordered-names [] e = refl
  ordered-names (([], k) ∷ rs) e = ordered-names rs (and_parts (all_before [] rs) (is_ordered rs) e).1
  ordered-names ((Word w ∷ ps, k) ∷ rs) e = ordered-names rs (and_parts (all_before (Word w ∷ ps) rs) (is_ordered rs) e).1
  ordered-names ((Name n ∷ ps, k) ∷ rs) e =
      let h = and_parts (all_before (Name n ∷ ps) rs) (is_ordered rs) e in
      both _ _ (before-names n ps rs h.0) (ordered-names rs h.1)

  -- what a row says
  abbrev pub said : Option (Pieces × K) → Option K
  said None = None
  said (Some row) = Some row.1

  where-none : (s : List ℕ) → where_some {K = K} s None ≡ None
  where-none [] = refl
  where-none (b ∷ s) = refl

  by-name : (t u : Bool) (f g : Option (Pieces × K)) (r q : Pieces × K) → r.1 ≡ q.1 → said f ≡ cond t (said g) None → said (cond (t && u) (Some r) f) ≡ cond t (said (cond u (Some q) g)) None
  by-name true true f g r q e h = ap Some e
  by-name true false f g r q e h = h
  by-name false u f g r q e h = h

  by-word : (t u : Bool) (f : Option (Pieces × K)) (ls : List (Pieces × K)) (ss : List (List ℕ)) (ps : Pieces) (k : K) (r : Pieces × K) (x : Option K) → fits ps ss ≡ u → r.1 ≡ k
      → said f ≡ or_else (said (find ls ss)) x → said (cond (t && u) (Some r) f) ≡ or_else (said (find (cond t ((ps, k) ∷ ls) ls) ss)) x
  by-word true true f ls ss ps k r x fit e h = ap Some e ∙ sym (ap (λ v. or_else (said (cond v (Some (ps, k)) (find ls ss))) x) fit)
  by-word true false f ls ss ps k r x fit e h = h ∙ sym (ap (λ v. or_else (said (cond v (Some (ps, k)) (find ls ss))) x) fit)
  by-word false u f ls ss ps k r x fit e h = h

  -- the first row that fits has its first piece a word, or else a parameter
  find-split : (rs : List (Pieces × K)) (s : List ℕ) (ss : List (List ℕ)) → is_ordered rs ≡ true
      → said (find rs (s ∷ ss)) ≡ or_else (said (find (lits s rs) ss)) (where_some s (said (find (names rs) ss)))
  find-split [] s ss e = sym (where-none s)
  find-split (([], k) ∷ rs) s ss e = find-split rs s ss (and_parts (all_before [] rs) (is_ordered rs) e).1
  find-split ((Word w ∷ ps, k) ∷ rs) s ss e =
      by-word (bytes_eq w s) (fits ps ss) (find rs (s ∷ ss)) (lits s rs) ss ps k (Word w ∷ ps, k) (where_some s (said (find (names rs) ss))) refl refl
      (find-split rs s ss (and_parts (all_before (Word w ∷ ps) rs) (is_ordered rs) e).1)
  find-split ((Name n ∷ ps, k) ∷ rs) s ss e =
      let h = and_parts (all_before (Name n ∷ ps) rs) (is_ordered rs) e in
      let none : lits s rs ≡ [] = ap (picked s) (no-words n ps rs h.0) in
      let rest = find-split rs s ss h.1 ∙ ap (λ l. or_else (said (find l ss)) (where_some s (said (find (names rs) ss)))) none in
      by-name (is_some_text s) (fits ps ss) (find rs (s ∷ ss)) (find (names rs) ss) (Name n ∷ ps, k) (ps, k) refl rest
      ∙ sym (ap (λ l. or_else (said (find l ss)) (where_some s (said (find ((ps, k) ∷ names rs) ss)))) none)

  find-end : (rs : List (Pieces × K)) → own (spelled rs) ≡ said (find rs [])
  find-end [] = refl
  find-end (([], k) ∷ rs) = refl
  find-end ((Word w ∷ ps, k) ∷ rs) = find-end rs
  find-end ((Name n ∷ ps, k) ∷ rs) = find-end rs

  -- the walk finds the first row that fits
  pub seek-find : (ss : List (List ℕ)) (rs : List (Pieces × K)) → AllGood rs → is_ordered rs ≡ true → EachPlain ss → seek 0 (spelled rs) (join ss) ≡ said (find rs ss)
  unfolding seek
  seek-find [] rs h o p = find-end rs
  seek-find (s ∷ ss) rs h o p =
      seek-slash rs (s ++ join ss)
      ∙ seek-segment rs s ss h p.0
      ∙ ap (λ a. or_else a (where_some s (seek 0 (spelled (names rs)) (join ss)))) (seek-find ss (lits s rs) (good-lits s rs h) (ordered-lits s rs o) p.1)
      ∙ ap (λ a. or_else (said (find (lits s rs) ss)) (where_some s a)) (seek-find ss (names rs) (good-names rs h) (ordered-names rs o) p.1)
      ∙ sym (find-split rs s ss o)

  -- what holds of the row that was found
  pub found-fits : (rs : List (Pieces × K)) (ss : List (List ℕ)) (r : Pieces × K) → find rs ss ≡ Some r → fits r.0 ss ≡ true
  found-fits [] ss r e = cc
  found-fits (row ∷ rs) ss r e = of (fits row.0 ss) refl (found-fits rs ss r) e
    where
      of : (t : Bool) → fits row.0 ss ≡ t → (find rs ss ≡ Some r → fits r.0 ss ≡ true) → cond t (Some row) (find rs ss) ≡ Some r → fits r.0 ss ≡ true
      of true f ih q = let same : row ≡ r = cc in subst (λ z. fits z.0 ss ≡ true) same f
      of false f ih q = ih q

  abbrev pub Each : (Pieces × K → Type 0) → List (Pieces × K) → Type 0
  Each P [] = Unit {0}
  Each P (row ∷ rows) = P row × Each P rows

  pub found-has : (P : Pieces × K → Type 0) (rs : List (Pieces × K)) (ss : List (List ℕ)) (r : Pieces × K) → Each P rs → find rs ss ≡ Some r → P r
  found-has P [] ss r h e = cc
  found-has P (row ∷ rs) ss r h e = of (fits row.0 ss) (found-has P rs ss r h.1) e
    where
      of : (t : Bool) → (find rs ss ≡ Some r → P r) → cond t (Some row) (find rs ss) ≡ Some r → P r
      of true ih q = let same : row ≡ r = cc in subst P same h.0
      of false ih q = ih q

-- a path is its segments
abbrev pub unsplit : List (List ℕ) → List ℕ
unsplit [] = []
unsplit (s ∷ ss) = s ++ join ss

abbrev IsSome : List (List ℕ) → Type 0
IsSome [] = ⊥
IsSome (s ∷ ss) = Unit {0}

some-put : (b : ℕ) (l : List (List ℕ)) → IsSome (put_first b l)
some-put b [] = tt
some-put b (s ∷ ss) = tt

some-segments : (path : List ℕ) → IsSome (segments path)
some-segments [] = tt
some-segments (b ∷ path) =
    elim (b == slash) as (λ v. IsSome (cond v ([] ∷ segments path) (put_first b (segments path)))) [
      | true ↦ tt
      | false ↦ some-put b (segments path)
    ]

join-some : (l : List (List ℕ)) → IsSome l → join l ≡ slash ∷ unsplit l
join-some [] h = absurd h
join-some (s ∷ ss) h = refl

unsplit-put : (b : ℕ) (l : List (List ℕ)) → IsSome l → unsplit (put_first b l) ≡ b ∷ unsplit l
unsplit-put b [] h = absurd h
unsplit-put b (s ∷ ss) h = refl

pub rebuilt : (path : List ℕ) → unsplit (segments path) ≡ path
rebuilt [] = refl
rebuilt (b ∷ path) = of (b == slash) refl (rebuilt path)
  where
    of : (t : Bool) → (b == slash) ≡ t → unsplit (segments path) ≡ path → unsplit (cond t ([] ∷ segments path) (put_first b (segments path))) ≡ b ∷ path
    of true e ih =
        let is : b ≡ slash = grind (arith, nat_tests) in
        join-some (segments path) (some-segments path) ∙ ap (λ l. slash ∷ l) ih ∙ ap (λ x. x ∷ path) (sym is)
    of false e ih = unsplit-put b (segments path) (some-segments path) ∙ ap (λ l. b ∷ l) ih

plain-put : (b : ℕ) (l : List (List ℕ)) → IsPlain b → EachPlain l → EachPlain (put_first b l)
plain-put b [] p h = ((p, tt), tt)
plain-put b (s ∷ ss) p h = ((p, h.0), h.1)

pub plain-segments : (path : List ℕ) → IsAscii path → EachPlain (segments path)
plain-segments [] h = (tt, tt)
plain-segments (b ∷ path) h = of (b == slash) refl (plain-segments path (λ i. h (suc i)))
  where
    of : (t : Bool) → (b == slash) ≡ t → EachPlain (segments path) → EachPlain (cond t ([] ∷ segments path) (put_first b (segments path)))
    of true e ih = (tt, ih)
    of false e ih =
        let other : b ≢ slash = λ q. grind (arith, nat_tests) in
        let small : b < 128 = h 0 in
        plain-put b (segments path) (omega arith, other) ih

module _ {K : Type 0} where
  pub first-routed : (rs : List (Pieces × K)) (path : List ℕ) → is_good rs ≡ true → is_ordered rs ≡ true → IsAscii path → first (spelled rs) path ≡ said (routed rs (segments path))
  first-routed rs path g o h =
      ap (first (spelled rs)) (sym (rebuilt path)) ∙ of (segments path) (some-segments path) (plain-segments path h)
    where
      of : (l : List (List ℕ)) → IsSome l → EachPlain l → first (spelled rs) (unsplit l) ≡ said (routed rs l)
      of [] n p = absurd n
      of ([] ∷ ss) n p = seek-find ss rs (all_good rs g) o p.1
      of ((b ∷ root) ∷ ss) n p = seek-off rs b (root ++ join ss) p.0.0
