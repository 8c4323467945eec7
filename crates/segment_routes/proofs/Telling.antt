-- What a router with the rows of a table says of a path is what the table says.
use Rattle.std.proofs.Common.{◌≡◌, ℕ, suc, ◌<◌, List, [], ◌∷◌, length, Option, Some, None, Bool, true, false, cond, ltb, ◌&&◌, ◌==◌, refl, sym, ap, ap₂, ◌∙◌, subst, bytes_eq, IsAscii, arith, slice_index}
use Rattle.std.specs.Str.{IsNotAscii}
use Rattle.std.specs.List.{list_all}
use Rattle.std.specs.Cmp.Lexicographic.{bytes_decides}
use Rattle.std.proofs.lemmas.Bool.{and_parts}
use Rattle.std.proofs.lemmas.Bool.Decides.{nat_tests}
use Rattle.std.proofs.lemmas.Str.{IsUtf8-from_ascii}
use Rattle.std.proofs.lemmas.Str.Ascii.{IsAscii-nil, IsAscii-cons}
use Rattle.matchit.specs.Rows.{RowsOf}
use Rattle.matchit.specs.Router.{RouteOf}
use Rattle.matchit.specs.Seek.{first}
use Rattle.matchit.specs.Params.{walk, AllText}
use Rattle.segment_routes.specs.Paths.{slash, segments, put_first, is_small, is_ascii}
use Rattle.segment_routes.specs.Pieces.{Word, Name, Pieces, fits, find, parts, routed, given, route_of}
use Rattle.segment_routes.specs.Spelling.{tokens, text_of, spans, spelled, entry, entries, rows_of, keys, keys_of, same_texts, are_good, precedes, all_before, is_right, is_ordered, is_good, all_right, is_table}
use Rattle.segment_routes.proofs.Seeking.{EachPlain, join}
use Rattle.segment_routes.proofs.Finding.{said, first-routed, good, unsplit, rebuilt, plain-segments}
use Rattle.segment_routes.proofs.Walking.{walk-parts}

abbrev pub EachAscii : List (List ℕ) → Type 0
EachAscii [] = Unit {0}
EachAscii (text ∷ rest) = IsAscii text × EachAscii rest

pub small-ascii : (text : List ℕ) → list_all is_small text ≡ true → IsAscii text
small-ascii [] e = IsAscii-nil
small-ascii (b ∷ text) e =
    let both = and_parts (is_small b) (list_all is_small text) e in
    let small : b < 128 = grind (arith, nat_tests) in
    IsAscii-cons b text small (small-ascii text both.1)

-- a text with a byte beyond ASCII
pub not-small : (text : List ℕ) → IsNotAscii text → is_ascii text ≡ false
not-small text other = of (is_ascii text) refl
  where
    of : (t : Bool) → is_ascii text ≡ t → t ≡ false
    of true e = let low : slice_index text other.0 < 128 = small-ascii text e other.0 in absurd (omega (arith, other.1))
    of false e = refl

pub ascii-small : (text : List ℕ) → IsAscii text → is_ascii text ≡ true
ascii-small [] h = refl
ascii-small (b ∷ text) h =
    let first : b < 128 = h 0 in
    let small : is_small b ≡ true = grind (arith, nat_tests) in
    ap (λ t. t && is_ascii text) small ∙ ascii-small text (λ i. h (suc i))

small-each : (texts : List (List ℕ)) → list_all is_ascii texts ≡ true → EachAscii texts
small-each [] e = tt
small-each (t ∷ texts) e =
    let both = and_parts (is_ascii t) (list_all is_ascii texts) e in
    (small-ascii t both.0, small-each texts both.1)

-- the parameters of an ASCII path are texts
all-text : (ps : Pieces) (ss : List (List ℕ)) → EachAscii (keys_of ps) → EachAscii ss → AllText (parts ps ss)
all-text [] ss k a = tt
all-text (Word w ∷ ps) [] k a = tt
all-text (Name n ∷ ps) [] k a = tt
all-text (Word w ∷ ps) (s ∷ ss) k a = all-text ps ss k a.1
all-text (Name n ∷ ps) (s ∷ ss) k a = (IsUtf8-from_ascii n k.0, IsUtf8-from_ascii s a.0, all-text ps ss k.1 a.1)

same : (ss ts : List (List ℕ)) → same_texts ss ts ≡ true → ss ≡ ts
same [] [] e = refl
same [] (t ∷ ts) e = cc
same (s ∷ ss) [] e = cc
same (s ∷ ss) (t ∷ ts) e =
    let both = and_parts (bytes_eq s t) (same_texts ss ts) e in
    ap₂ (λ x xs. x ∷ xs) ((bytes_decides s t).0 both.0) (same ss ts both.1)

ascii-put : (b : ℕ) (l : List (List ℕ)) → b < 128 → EachAscii l → EachAscii (put_first b l)
ascii-put b [] p h = (IsAscii-cons b [] p IsAscii-nil, tt)
ascii-put b (s ∷ ss) p h = (IsAscii-cons b s p h.0, h.1)

ascii-segments : (path : List ℕ) → IsAscii path → EachAscii (segments path)
ascii-segments [] h = (IsAscii-nil, tt)
ascii-segments (b ∷ path) h = of (b == slash) (h 0) (ascii-segments path (λ i. h (suc i)))
  where
    of : (t : Bool) → b < 128 → EachAscii (segments path) → EachAscii (cond t ([] ∷ segments path) (put_first b (segments path)))
    of true small ih = (IsAscii-nil, ih)
    of false small ih = ascii-put b (segments path) small ih

-- what holds of the row that was found
abbrev Is : List (List ℕ) → Pieces → Type 0
Is ss ps = (fits ps ss ≡ true) × (are_good ps ≡ true) × (is_right ps ≡ true)

module _ {K : Type 0} where
  abbrev pub Walked : List ℕ → RouteOf K → List (List ℕ × List ℕ)
  Walked path r = walk r.pattern r.text path r.names 0 0

  -- the parameters of a route that was found are texts, and with its value they are what the table says
  abbrev pub Told : List ℕ → RouteOf K → Option (K × List (List ℕ × List ℕ)) → Type 0
  Told path r answer = AllText (Walked path r) × (answer ≡ Some (r.value, Walked path r))

  good-entries : (rs : List (Pieces × K)) → is_good (entries rs) ≡ is_good rs
  good-entries [] = refl
  good-entries ((ps, k) ∷ rs) = ap (λ t. are_good ps && t) (good-entries rs)

  before-entries : (ps : Pieces) (rs : List (Pieces × K)) → all_before ps (entries rs) ≡ all_before ps rs
  before-entries ps [] = refl
  before-entries ps ((qs, k) ∷ rs) = ap (λ t. precedes ps qs && t) (before-entries ps rs)

  ordered-entries : (rs : List (Pieces × K)) → is_ordered (entries rs) ≡ is_ordered rs
  ordered-entries [] = refl
  ordered-entries ((ps, k) ∷ rs) = ap₂ (λ t u. t && u) (before-entries ps rs) (ordered-entries rs)

  -- a row with what a router keeps of it
  abbrev kept : Option (Pieces × K) → Option (RouteOf K)
  kept None = None
  kept (Some (ps, k)) = Some (entry ps k)

  found-kept : (rs : List (Pieces × K)) (ss : List (List ℕ)) → said (find (entries rs) ss) ≡ kept (find rs ss)
  found-kept [] ss = refl
  found-kept ((ps, k) ∷ rs) ss = of (fits ps ss) (found-kept rs ss)
    where
      of : (t : Bool) → said (find (entries rs) ss) ≡ kept (find rs ss) → said (cond t (Some (ps, entry ps k)) (find (entries rs) ss)) ≡ kept (cond t (Some (ps, k)) (find rs ss))
      of true ih = refl
      of false ih = ih

  routed-kept : (rs : List (Pieces × K)) (l : List (List ℕ)) → said (routed (entries rs) l) ≡ kept (routed rs l)
  routed-kept rs [] = refl
  routed-kept rs ([] ∷ ss) = found-kept rs ss
  routed-kept rs ((b ∷ root) ∷ ss) = refl

  found-is : (rs : List (Pieces × K)) (ss : List (List ℕ)) (ps : Pieces) (k : K) → is_good rs ≡ true → all_right rs ≡ true → find rs ss ≡ Some (ps, k) → Is ss ps
  found-is [] ss ps k g r e = cc
  found-is ((qs, j) ∷ rs) ss ps k g r e =
      let gs = and_parts (are_good qs) (is_good rs) g in
      let hs = and_parts (is_right qs) (all_right rs) r in
      of (fits qs ss) refl gs.0 hs.0 (found-is rs ss ps k gs.1 hs.1) e
    where
      OnSome : Option (Pieces × K) → Type 0
      OnSome None = ⊥
      OnSome (Some row) = Is ss row.0

      of : (t : Bool) → fits qs ss ≡ t → are_good qs ≡ true → is_right qs ≡ true → (find rs ss ≡ Some (ps, k) → Is ss ps) → cond t (Some (qs, j)) (find rs ss) ≡ Some (ps, k) → Is ss ps
      of true f g0 h0 ih q = subst (λ o. OnSome o) q (f, g0, h0)
      of false f g0 h0 ih q = ih q

  told-row : (ps : Pieces) (k : K) (ss : List (List ℕ)) (path : List ℕ) → Is ss ps → join ss ≡ path → EachPlain ss → EachAscii ss
      → Told path (entry ps k) (Some (k, parts ps ss))
  told-row ps k ss path is u p a =
      let right = and_parts (same_texts (keys (text_of ps) (spans 0 ps)) (keys_of ps)) (ltb (length (tokens ps)) 2000 && list_all is_ascii (keys_of ps)) is.2 in
      let other = and_parts (ltb (length (tokens ps)) 2000) (list_all is_ascii (keys_of ps)) right.1 in
      let short : length (tokens ps) < 2000 = grind (arith, nat_tests, other.0) in
      let walked : Walked path (entry ps k) ≡ parts ps ss =
      ap (λ q. walk (tokens ps) (text_of ps) q (spans 0 ps) 0 0) (sym u)
      ∙ walk-parts ps ss (text_of ps) (spans 0 ps) (good ps is.1) p is.0 (same _ _ right.0) short in (
        subst AllText (sym walked) (all-text ps ss (small-each (keys_of ps) other.1) a),
        ap (λ w. Some (k, w)) (sym walked),
      )

  told-routed : (rs : List (Pieces × K)) (path : List ℕ) (r : RouteOf K) (l : List (List ℕ)) (o : Option (Pieces × K)) → is_good rs ≡ true → all_right rs ≡ true
      → routed rs l ≡ o → unsplit l ≡ path → EachPlain l → EachAscii l → kept o ≡ Some r → Told path r (given l o)
  told-routed rs path r l None g h q u p a s = cc
  told-routed rs path r [] (Some (ps, k)) g h q u p a s = cc
  told-routed rs path r ((b ∷ root) ∷ ss) (Some (ps, k)) g h q u p a s = cc
  told-routed rs path r ([] ∷ ss) (Some (ps, k)) g h q u p a s =
      let one : entry ps k ≡ r = cc in
      subst (λ x. Told path x (Some (k, parts ps ss))) one (told-row ps k ss path (found-is rs ss ps k g h q) u p.1 a.1)

  -- what a router says of a path, by the row that fits
  first-kept : (rs : List (Pieces × K)) (path : List ℕ) → is_good rs ≡ true → is_ordered rs ≡ true → IsAscii path → first (rows_of rs) path ≡ kept (routed rs (segments path))
  first-kept rs path g o h = first-routed (entries rs) path (good-entries rs ∙ g) (ordered-entries rs ∙ o) h ∙ routed-kept rs (segments path)

  -- where a router finds a route
  pub told : (rs : List (Pieces × K)) (path : List ℕ) (r : RouteOf K) → is_table rs ≡ true → IsAscii path → first (rows_of rs) path ≡ Some r → Told path r (route_of rs path)
  told rs path r t h e =
      let a = and_parts (is_good rs) (is_ordered rs && all_right rs) t in
      let b = and_parts (is_ordered rs) (all_right rs) a.1 in
      told-routed rs path r (segments path) (routed rs (segments path)) a.0 b.1 refl (rebuilt path) (plain-segments path h) (ascii-segments path h)
      (sym (first-kept rs path a.0 b.0 h) ∙ e)

  -- where it finds none
  pub untold : (rs : List (Pieces × K)) (path : List ℕ) → is_table rs ≡ true → IsAscii path → first (rows_of rs) path ≡ None → route_of rs path ≡ None
  untold rs path t h e =
      let a = and_parts (is_good rs) (is_ordered rs && all_right rs) t in
      let b = and_parts (is_ordered rs) (all_right rs) a.1 in
      of (segments path) (routed rs (segments path)) (sym (first-kept rs path a.0 b.0 h) ∙ e)
    where
      of : (l : List (List ℕ)) (o : Option (Pieces × K)) → kept o ≡ None → given l o ≡ None
      of [] o q = refl
      of (root ∷ ss) None q = refl
      of (root ∷ ss) (Some (ps, k)) q = cc

  -- the same, as code comes to it: the path was made a text, and the router is one with these rows
  pub told-here : (rs : List (Pieces × K)) (before path taken : List ℕ) (held : RowsOf (RouteOf K)) (r : RouteOf K) → is_table rs ≡ true → IsAscii before → path ≡ before → held ≡ rows_of rs
      → first held path ≡ Some r → taken ≡ path → Told taken r (route_of rs before)
  told-here rs before path taken held r t h e f g i =
      subst (λ p. Told p r (route_of rs before)) (sym (i ∙ e)) (told rs before r t h (sym (ap₂ (λ q p. first q p) f e) ∙ g))

  pub untold-here : (rs : List (Pieces × K)) (before path : List ℕ) (held : RowsOf (RouteOf K)) → is_table rs ≡ true → IsAscii before → path ≡ before → held ≡ rows_of rs → first held path ≡ None
      → route_of rs before ≡ None
  untold-here rs before path held t h e f g = untold rs before t h (sym (ap₂ (λ q p. first q p) f e) ∙ g)
