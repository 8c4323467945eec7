-- What taking adds.
use Rattle.std.proofs.Common.{◌≡◌, ℕ, suc, ◌+◌, Bool, true, false, ◌||◌, cond, List, [], ◌∷◌, ◌++◌, append_assoc, length, Option, Some, None, IfSome, refl, sym, ap, ◌∙◌, arith}
use Rattle.std.specs.List.{AllByRecursion, fold}
use Rattle.std.proofs.lemmas.List.Folds.{list_any-append}
use Rattle.judge_core.specs.declared.judgement.Judgement.{Judgement}
use Rattle.judge_core.specs.Equality.{same_judgement}
use Rattle.judge_core.proofs.Equal.{judgements_decide}
use Rattle.earl_in.specs.declared.taking.Taken.{Taken}
use Rattle.earl_in.specs.Taking.{stands, with_entry}

abbrev pub taken : List Judgement → Taken → List (Option Judgement) → Taken
taken js t entries = fold (with_entry js) t entries

abbrev pub counted : List Judgement → ℕ → ℕ → Taken
counted added known skipped = record { added = added; known = known; skipped = skipped }

abbrev one_known : Taken → Taken
one_known t = record t { known = t.known + 1 }

abbrev one_added : Taken → Judgement → Taken
one_added t j = record t { added = t.added ++ j ∷ [] }

abbrev pub each_is : (Judgement → Type 0) → List (Option Judgement) → Type 0
each_is P entries = AllByRecursion (λ e. IfSome e P) entries

-- what holds of both is what holds of the one that was chosen
pick : (Q : Taken → Type 0) (b : Bool) (x y : Taken) → (b ≡ true → Q x) → (b ≡ false → Q y) → Q (cond b x y)
pick Q true x y f g = f refl
pick Q false x y f g = g refl

-- ---- what holds of each that may be added

all_push : (P : Judgement → Type 0) (js : List Judgement) (j : Judgement) → AllByRecursion P js → P j → AllByRecursion P (js ++ j ∷ [])
all_push P [] j all here = (here, tt)
all_push P (x ∷ js) j all here = (all.0, all_push P js j all.1 here)

pub all_added : (P : Judgement → Type 0) (js : List Judgement) (t : Taken) (entries : List (Option Judgement)) → AllByRecursion P t.added → each_is P entries
    → AllByRecursion P (taken js t entries).added
all_added P js t [] all each = all
all_added P js t (None ∷ entries) all each = all_added P js (with_entry js t None) entries all each.1
all_added P js t (Some j ∷ entries) all each =
    pick (λ n. AllByRecursion P (taken js n entries).added) (stands j (js ++ t.added)) (one_known t) (one_added t j)
    (λ known. all_added P js (one_known t) entries all each.1) (λ new. all_added P js (one_added t j) entries (all_push P t.added j all each.0) each.1)

-- ---- none stood before

neither : (a b : Bool) → (a || b) ≡ false → a ≡ false
neither true b h = cc
neither false b h = refl

new_among : (j : Judgement) (js added : List Judgement) → stands j (js ++ added) ≡ false → stands j js ≡ false
new_among j js added h = neither (stands j js) (stands j added) (sym (list_any-append (same_judgement j) js added) ∙ h)

pub fresh : (js : List Judgement) (t : Taken) (entries : List (Option Judgement)) → AllByRecursion (λ j. stands j js ≡ false) t.added
    → AllByRecursion (λ j. stands j js ≡ false) (taken js t entries).added
fresh js t [] all = all
fresh js t (None ∷ entries) all = fresh js (with_entry js t None) entries all
fresh js t (Some j ∷ entries) all =
    pick (λ n. AllByRecursion (λ x. stands x js ≡ false) (taken js n entries).added) (stands j (js ++ t.added)) (one_known t) (one_added t j)
    (λ known. fresh js (one_known t) entries all)
    (λ new. fresh js (one_added t j) entries (all_push (λ x. stands x js ≡ false) t.added j all (new_among j js t.added new)))

-- ---- each entry counts

abbrev pub somes : List (Option Judgement) → ℕ
somes [] = 0
somes (None ∷ entries) = somes entries
somes (Some j ∷ entries) = somes entries + 1

abbrev pub nones : List (Option Judgement) → ℕ
nones [] = 0
nones (None ∷ entries) = nones entries + 1
nones (Some j ∷ entries) = nones entries

one_longer : (m n : ℕ) → m ≡ n + 1 → suc m ≡ suc n + 1
one_longer m n h = omega (arith, h)

length_push : (js : List Judgement) (j : Judgement) → length (js ++ j ∷ []) ≡ length js + 1
length_push [] j = refl
length_push (x ∷ js) j = one_longer (length (js ++ j ∷ [])) (length js) (length_push js j)

one_none : (s n l : ℕ) → s + n ≡ l → s + (n + 1) ≡ suc l
one_none s n l h = omega (arith, h)

one_some : (s n l : ℕ) → s + n ≡ l → s + 1 + n ≡ suc l
one_some s n l h = omega (arith, h)

pub all_count : (entries : List (Option Judgement)) → somes entries + nones entries ≡ length entries
all_count [] = refl
all_count (None ∷ entries) = one_none (somes entries) (nones entries) (length entries) (all_count entries)
all_count (Some j ∷ entries) = one_some (somes entries) (nones entries) (length entries) (all_count entries)

and_none : (n : ℕ) → n ≡ n + 0
and_none n = omega arith

after_known : (r k l s : ℕ) → r ≡ k + 1 + l + s → r ≡ k + l + (s + 1)
after_known r k l s h = omega (arith, h)

after_added : (r k l m s : ℕ) → r ≡ k + m + s → m ≡ l + 1 → r ≡ k + l + (s + 1)
after_added r k l m s h e = omega (arith, h, e)

after_skipped : (r k s : ℕ) → r ≡ k + 1 + s → r ≡ k + (s + 1)
after_skipped r k s h = omega (arith, h)

pub taken_count : (js : List Judgement) (t : Taken) (entries : List (Option Judgement)) → (taken js t entries).known + length (taken js t entries).added ≡ t.known + length t.added + somes entries
taken_count js t [] = and_none (t.known + length t.added)
taken_count js t (None ∷ entries) = taken_count js (with_entry js t None) entries
taken_count js t (Some j ∷ entries) =
    pick (λ n. (taken js n entries).known + length (taken js n entries).added ≡ t.known + length t.added + (somes entries + 1)) (stands j (js ++ t.added)) (one_known t) (one_added t j)
    (λ known. after_known ((taken js (one_known t) entries).known + length (taken js (one_known t) entries).added) t.known (length t.added) (somes entries) (taken_count js (one_known t) entries))
    (λ new. after_added ((taken js (one_added t j) entries).known + length (taken js (one_added t j) entries).added) t.known (length t.added) (length (t.added ++ j ∷ [])) (somes entries) (taken_count js (one_added t j) entries) (length_push t.added j))

pub skipped_count : (js : List Judgement) (t : Taken) (entries : List (Option Judgement)) → (taken js t entries).skipped ≡ t.skipped + nones entries
skipped_count js t [] = and_none t.skipped
skipped_count js t (None ∷ entries) = after_skipped (taken js (with_entry js t None) entries).skipped t.skipped (nones entries) (skipped_count js (with_entry js t None) entries)
skipped_count js t (Some j ∷ entries) =
    pick (λ n. (taken js n entries).skipped ≡ t.skipped + nones entries) (stands j (js ++ t.added)) (one_known t) (one_added t j)
    (λ known. skipped_count js (one_known t) entries) (λ new. skipped_count js (one_added t j) entries)

-- ---- each entry stands at last

or_true : (a b : Bool) → a ≡ true → (a || b) ≡ true
or_true true b h = refl
or_true false b h = cc

either_true : (a b : Bool) → b ≡ true → (a || b) ≡ true
either_true true b h = refl
either_true false b h = h

pub still : (x : Judgement) (js more : List Judgement) → stands x js ≡ true → stands x (js ++ more) ≡ true
still x js more h = list_any-append (same_judgement x) js more ∙ or_true (stands x js) (stands x more) h

itself : (j : Judgement) → same_judgement j j ≡ true
itself j = (judgements_decide j j).1 refl

last : (j : Judgement) (js added : List Judgement) → stands j (js ++ (added ++ j ∷ [])) ≡ true
last j js added =
    ap (stands j) (sym (append_assoc js added (j ∷ []))) ∙ list_any-append (same_judgement j) (js ++ added) (j ∷ [])
    ∙ either_true (stands j (js ++ added)) (stands j (j ∷ [])) (or_true (same_judgement j j) false (itself j))

later : (x j : Judgement) (js added : List Judgement) → stands x (js ++ added) ≡ true → stands x (js ++ (added ++ j ∷ [])) ≡ true
later x j js added h = ap (stands x) (sym (append_assoc js added (j ∷ []))) ∙ still x (js ++ added) (j ∷ []) h

goes_on : (x : Judgement) (js : List Judgement) (t : Taken) (entries : List (Option Judgement)) → stands x (js ++ t.added) ≡ true → stands x (js ++ (taken js t entries).added) ≡ true
goes_on x js t [] h = h
goes_on x js t (None ∷ entries) h = goes_on x js (with_entry js t None) entries h
goes_on x js t (Some j ∷ entries) h =
    pick (λ n. stands x (js ++ (taken js n entries).added) ≡ true) (stands j (js ++ t.added)) (one_known t) (one_added t j)
    (λ known. goes_on x js (one_known t) entries h) (λ new. goes_on x js (one_added t j) entries (later x j js t.added h))

pub each_stands : (js : List Judgement) (t : Taken) (entries : List (Option Judgement)) → each_is (λ j. stands j (js ++ (taken js t entries).added) ≡ true) entries
each_stands js t [] = tt
each_stands js t (None ∷ entries) = (tt, each_stands js (with_entry js t None) entries)
each_stands js t (Some j ∷ entries) =
    pick (λ n. (stands j (js ++ (taken js n entries).added) ≡ true) × each_is (λ x. stands x (js ++ (taken js n entries).added) ≡ true) entries) (stands j (js ++ t.added)) (one_known t) (one_added t j)
    (λ known. (goes_on j js (one_known t) entries known, each_stands js (one_known t) entries))
    (λ new. (goes_on j js (one_added t j) entries (last j js t.added), each_stands js (one_added t j) entries))

-- ---- where each stands already, each is known or skipped

abbrev pub none_added : Taken → List (Option Judgement) → Taken
none_added t entries = counted t.added (t.known + somes entries) (t.skipped + nones entries)

unchanged : (t : Taken) (k s : ℕ) → t.known ≡ k → t.skipped ≡ s → t ≡ counted t.added k s
unchanged t k s e f = λ i. record { added = t.added; known = e i; skipped = f i }

moved : (k s : ℕ) → k + 1 + s ≡ k + (s + 1)
moved k s = omega arith

pub all_known : (js : List Judgement) (t : Taken) (entries : List (Option Judgement)) → each_is (λ j. stands j js ≡ true) entries → taken js t entries ≡ none_added t entries
all_known js t [] each = unchanged t (t.known + 0) (t.skipped + 0) (and_none t.known) (and_none t.skipped)
all_known js t (None ∷ entries) each =
    all_known js (with_entry js t None) entries each.1 ∙ ap (counted t.added (t.known + somes entries)) (moved t.skipped (nones entries))
all_known js t (Some j ∷ entries) each =
    ap (λ b. taken js (cond b (one_known t) (one_added t j)) entries) (still j js t.added each.0) ∙ all_known js (one_known t) entries each.1
    ∙ ap (λ k. counted t.added k (t.skipped + nones entries)) (moved t.known (somes entries))
