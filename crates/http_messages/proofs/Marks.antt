-- The search for the end of a head block.
use Rattle.std.proofs.Common.{◌≡◌, ℕ, suc, ◌+◌, ◌-◌, ◌<◌, ◌≤◌, Bool, true, false, cond, List, [], ◌∷◌, ◌++◌, length, get_or, take, drop, Option, Some, None, option_map, refl, sym, ap, inl, inr, ◌∙◌, subst, arith, length-drop, length-take, length-append}
use Rattle.std.proofs.lemmas.Bool.{cases_lt}
use Rattle.std.proofs.Math.Seq.{take-append-add}
use Rattle.std.specs.Str.{bytes_eq}
use Rattle.http_messages.specs.declared.blocks.TheConstants.{MOST_HEAD}
use Rattle.std.proofs.lemmas.Slice.Eq.{bytes_eq-Decides}
use Rattle.std.proofs.lemmas.List.{drop_more, drop_all, take_all, take-append-le}
use Rattle.http_messages.specs.Blocks.{mark, begins_mark, block_end, window, MayStart}

-- a mark is as long as it is
mark_fits : (bytes : List ℕ) → begins_mark bytes ≡ true → 4 ≤ length bytes
mark_fits bytes is = omega (arith, ap length ((bytes_eq-Decides mark (take (length mark) bytes)).0 is), length-take (length mark) bytes)

here : (bytes : List ℕ) → begins_mark bytes ≡ true → block_end bytes ≡ Some 4
here [] is = absurd (omega (arith, mark_fits [] is))
here (b ∷ bytes) is = ap (λ t. cond t (Some 4) (option_map suc (block_end bytes))) is

not_here : (b : ℕ) (bytes : List ℕ) → begins_mark (b ∷ bytes) ≡ false → block_end (b ∷ bytes) ≡ option_map suc (block_end bytes)
not_here b bytes is = ap (λ t. cond t (Some 4) (option_map suc (block_end bytes))) is

map_twice : (at : ℕ) (o : Option ℕ) → option_map (λ n. at + n) (option_map suc o) ≡ option_map (λ n. (at + 1) + n) o
map_twice at None = refl
map_twice at (Some n) = let e : at + suc n ≡ (at + 1) + n = omega arith in ap Some e

-- ---- a search that goes on

pub found : (bytes : List ℕ) (at : ℕ) → MayStart at bytes → begins_mark (drop at bytes) ≡ true → block_end bytes ≡ Some (at + 4)
found bytes at may is = may ∙ ap (option_map (λ n. at + n)) (here (drop at bytes) is)

pub found_within : (bytes : List ℕ) (at : ℕ) → at ≤ length bytes → begins_mark (drop at bytes) ≡ true → at + 4 ≤ length bytes
found_within bytes at within is = omega (arith, mark_fits (drop at bytes) is, length-drop at bytes)

pub goes_on : (bytes : List ℕ) (at : ℕ) → at < length bytes → MayStart at bytes → begins_mark (drop at bytes) ≡ false → MayStart (at + 1) bytes
goes_on bytes at inside may is =
    let cut = drop_more bytes at 0 inside in
    let next : block_end (drop at bytes) ≡ option_map suc (block_end (drop (at + 1) bytes)) =
    ap block_end cut ∙ not_here (get_or bytes at 0) (drop (at + 1) bytes) (ap begins_mark (sym cut) ∙ is) in
    may ∙ ap (option_map (λ n. at + n)) next ∙ map_twice at (block_end (drop (at + 1) bytes))

pub not_found : (bytes : List ℕ) (at : ℕ) → length bytes ≤ at → MayStart at bytes → block_end bytes ≡ None
not_found bytes at past may = may ∙ ap (λ l. option_map (λ n. at + n) (block_end l)) (drop_all at bytes past)

-- a search may start at the front
pub may_start : (bytes : List ℕ) → MayStart 0 bytes
may_start bytes = same (block_end bytes)
  where
    same : (o : Option ℕ) → o ≡ option_map (λ n. 0 + n) o
    same None = refl
    same (Some n) = let e : n ≡ 0 + n = omega arith in ap Some e

-- ---- bytes that follow

begins_same : (bytes more : List ℕ) → 4 ≤ length bytes → begins_mark (bytes ++ more) ≡ begins_mark bytes
begins_same bytes more fits = ap (λ l. bytes_eq mark l) (take-append-le 4 bytes more fits)

suc_of : (o : Option ℕ) (n : ℕ) → option_map suc o ≡ Some n → (m : ℕ) × (o ≡ Some m) × (n ≡ suc m)
suc_of None n e = cc
suc_of (Some m) n e = (m, refl, cc)

-- a place that is found lies within the bytes
pub end_fits : (bytes : List ℕ) (n : ℕ) → block_end bytes ≡ Some n → (4 ≤ n) × (n ≤ length bytes)
end_fits [] n is = cc
end_fits (b ∷ bytes) n is = of (begins_mark (b ∷ bytes)) refl (λ m e. end_fits bytes m e)
  where
    of : (t : Bool) → begins_mark (b ∷ bytes) ≡ t → ((m : ℕ) → block_end bytes ≡ Some m → (4 ≤ m) × (m ≤ length bytes)) → (4 ≤ n) × (n ≤ suc (length bytes))
    of true t rest = let four : Some 4 ≡ Some n = sym (here (b ∷ bytes) t) ∙ is in let same : 4 ≡ n = cc in (omega arith, omega (arith, mark_fits (b ∷ bytes) t))
    of false t rest = let k = suc_of (block_end bytes) n (sym (not_here b bytes t) ∙ is) in let more = rest k.0 k.1 in (omega (arith, more.0, k.2), omega (arith, more.1, k.2))

-- the bytes that follow don't change it
pub end_append : (bytes more : List ℕ) (n : ℕ) → block_end bytes ≡ Some n → block_end (bytes ++ more) ≡ Some n
end_append [] more n is = cc
end_append (b ∷ bytes) more n is = of (begins_mark (b ∷ bytes)) refl (λ m e. end_append bytes more m e)
  where
    fits : 4 ≤ suc (length bytes)
    fits = let within = end_fits (b ∷ bytes) n is in omega (arith, within.0, within.1)

    of : (t : Bool) → begins_mark (b ∷ bytes) ≡ t → ((m : ℕ) → block_end bytes ≡ Some m → block_end (bytes ++ more) ≡ Some m) → block_end (b ∷ (bytes ++ more)) ≡ Some n
    of true t rest = here (b ∷ (bytes ++ more)) (begins_same (b ∷ bytes) more fits ∙ t) ∙ sym (here (b ∷ bytes) t) ∙ is
    of false t rest =
        let k = suc_of (block_end bytes) n (sym (not_here b bytes t) ∙ is) in
        not_here b (bytes ++ more) (begins_same (b ∷ bytes) more fits ∙ t) ∙ ap (option_map suc) (rest k.0 k.1) ∙ ap Some (sym k.2)

not_both : (o : Option ℕ) (n : ℕ) → o ≡ Some n → o ≡ None → ⊥
not_both o n some none = cc

none_of : (o : Option ℕ) → option_map suc o ≡ None → o ≡ None
none_of None e = refl
none_of (Some n) e = cc

map_suc : (k : ℕ) (o : Option ℕ) → option_map suc (option_map (λ n. k + n) o) ≡ option_map (λ n. suc k + n) o
map_suc k None = refl
map_suc k (Some n) = let e : suc (k + n) ≡ suc k + n = omega arith in ap Some e

-- where no mark was found, a search in more bytes may start within the last three
pub may_resume : (bytes more : List ℕ) → block_end bytes ≡ None → MayStart (length bytes - 3) (bytes ++ more)
may_resume [] more none = may_start more
may_resume (b ∷ bytes) more none = of (begins_mark (b ∷ bytes)) refl (λ e. may_resume bytes more e)
  where
    short : length bytes < 3 → suc (length bytes) - 3 ≡ 0
    short few = omega arith

    long : 3 ≤ length bytes → suc (length bytes) - 3 ≡ suc (length bytes - 3)
    long many = omega arith

    of : (t : Bool) → begins_mark (b ∷ bytes) ≡ t → (block_end bytes ≡ None → MayStart (length bytes - 3) (bytes ++ more)) → MayStart (suc (length bytes) - 3) (b ∷ (bytes ++ more))
    of true t rest = absurd (not_both (block_end (b ∷ bytes)) 4 (here (b ∷ bytes) t) none)
    of false t rest =
        let P : ℕ → Type 0 = λ k. MayStart k (b ∷ (bytes ++ more)) in
        elim (cases_lt (length bytes) 3) [
          | inl few ↦ subst P (sym (short few)) (may_start (b ∷ (bytes ++ more)))
          | inr many ↦ subst P (sym (long many))
              (not_here b (bytes ++ more) (begins_same (b ∷ bytes) more (omega arith) ∙ t)
              ∙ ap (option_map suc) (rest (none_of (block_end bytes) (sym (not_here b bytes t) ∙ none)))
              ∙ map_suc (length bytes - 3) (block_end (drop (length bytes - 3) (bytes ++ more))))
        ]

-- ---- the window

window_same : (bytes : List ℕ) → length bytes ≤ MOST_HEAD → window bytes ≡ bytes
unfolding window
window_same bytes few = take_all MOST_HEAD bytes few

window_full : (bytes more : List ℕ) → MOST_HEAD ≤ length bytes → window (bytes ++ more) ≡ window bytes
unfolding window
window_full bytes more full = take-append-le MOST_HEAD bytes more full

window_rest : (bytes more : List ℕ) → length bytes ≤ MOST_HEAD → window (bytes ++ more) ≡ bytes ++ take (MOST_HEAD - length bytes) more
unfolding window
window_rest bytes more few =
    let size : MOST_HEAD ≡ length bytes + (MOST_HEAD - length bytes) = omega arith in
    ap (λ n. take n (bytes ++ more)) size ∙ take-append-add bytes more (MOST_HEAD - length bytes)

-- a block that is found stays, whatever follows
pub end_stays : (bytes : List ℕ) (n : ℕ) → block_end (window bytes) ≡ Some n → (more : List ℕ) → block_end (window (bytes ++ more)) ≡ Some n
end_stays bytes n is more =
    elim (cases_lt (length bytes) MOST_HEAD) [
      | inl few ↦ ap block_end (window_rest bytes more (omega arith)) ∙ end_append bytes (take (MOST_HEAD - length bytes) more) n (ap block_end (sym (window_same bytes (omega arith))) ∙ is)
      | inr full ↦ ap block_end (window_full bytes more full) ∙ is
    ]

-- so does the want of one where the window is full
pub none_stays : (bytes : List ℕ) → block_end (window bytes) ≡ None → MOST_HEAD ≤ length bytes → (more : List ℕ) → (block_end (window (bytes ++ more)) ≡ None) × (MOST_HEAD ≤ length (bytes ++ more))
none_stays bytes none full more = (ap block_end (window_full bytes more full) ∙ none, omega (arith, length-append bytes more))

-- a block that is found lies within the bytes
pub block_within : (bytes : List ℕ) (n : ℕ) → block_end (window bytes) ≡ Some n → (4 ≤ n) × (n ≤ length bytes)
unfolding window
block_within bytes n is = let within = end_fits (window bytes) n is in (within.0, omega (arith, within.1, length-take MOST_HEAD bytes))

-- a search may go on where a window without a block grows
pub window_resumes : (bytes piece now : List ℕ) → now ≡ bytes ++ piece → block_end (window bytes) ≡ None → length bytes < MOST_HEAD → MayStart (length bytes - 3) (window now) × (length bytes - 3 ≤ length (window now))
window_resumes bytes piece now grown none few =
    let wide : window now ≡ bytes ++ take (MOST_HEAD - length bytes) piece = ap window grown ∙ window_rest bytes piece (omega arith) in
    let P : List ℕ → Type 0 = λ l. MayStart (length bytes - 3) l × (length bytes - 3 ≤ length l) in
    subst P (sym wide) (
      may_resume bytes (take (MOST_HEAD - length bytes) piece) (ap block_end (sym (window_same bytes (omega arith))) ∙ none),
      omega (arith, length-append bytes (take (MOST_HEAD - length bytes) piece)),
    )
