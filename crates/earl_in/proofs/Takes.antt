-- Entries taken one after another.
use Rattle.std.proofs.Common.{◌≡◌, ℕ, ◌+◌, ◌<◌, List, [], ◌∷◌, ◌++◌, length, take, get_or, Bool, true, false, cond, not, Some, refl, sym, ap, ◌∙◌}
use Rattle.std.specs.List.{fold}
use Rattle.std.proofs.lemmas.List.{take_more}
use Rattle.judge_core.specs.declared.judgement.Judgement.{Judgement}
use Rattle.earl_in.specs.declared.taking.Taken.{Taken}
use Rattle.earl_in.specs.Taking.{stands, with_entry}

-- one item more
fold_push : {A B : Type 0} (f : B → A → B) (a : B) (xs : List A) (x : A) → fold f a (xs ++ x ∷ []) ≡ f (fold f a xs) x
fold_push f a [] x = refl
fold_push f a (y ∷ xs) x = fold_push f (f a y) xs x

pub fold_more : {A B : Type 0} (f : B → A → B) (a : B) (xs : List A) (i : ℕ) (x : A) (before now : B) → i < length xs → x ≡ get_or xs i x
    → before ≡ fold f a (take i xs) → now ≡ f before x → now ≡ fold f a (take (i + 1) xs)
fold_more f a xs i x before now within is so_far step =
    step ∙ ap (λ b. f b x) so_far ∙ ap (f (fold f a (take i xs))) is ∙ sym (fold_push f a (take i xs) (get_or xs i x)) ∙ ap (fold f a) (sym (take_more xs i x within))

-- ---- one entry more

abbrev counted : List Judgement → ℕ → ℕ → Taken
counted added known skipped = record { added = added; known = known; skipped = skipped }

-- what doesn't stand is added
pub one_added : (js added now : List Judgement) (known skipped : ℕ) (j : Judgement) → not (stands j (js ++ added)) ≡ true → now ≡ added ++ j ∷ []
    → counted now known skipped ≡ with_entry js (counted added known skipped) (Some j)
one_added js added now known skipped j new more = ap (λ l. counted l known skipped) more ∙ chosen (stands j (js ++ added)) new
  where
    chosen : (b : Bool) → not b ≡ true → counted (added ++ j ∷ []) known skipped ≡ cond b (counted added (known + 1) skipped) (counted (added ++ j ∷ []) known skipped)
    chosen true h = cc
    chosen false h = refl

-- what stands is known
pub one_known : (js added : List Judgement) (known skipped : ℕ) (j : Judgement) → not (stands j (js ++ added)) ≡ false
    → counted added (known + 1) skipped ≡ with_entry js (counted added known skipped) (Some j)
one_known js added known skipped j there = chosen (stands j (js ++ added)) there
  where
    chosen : (b : Bool) → not b ≡ false → counted added (known + 1) skipped ≡ cond b (counted added (known + 1) skipped) (counted (added ++ j ∷ []) known skipped)
    chosen true h = refl
    chosen false h = cc

pub stands_there : (j : Judgement) (js : List Judgement) → not (stands j js) ≡ false → stands j js ≡ true
stands_there j js h = chosen (stands j js) h
  where
    chosen : (b : Bool) → not b ≡ false → b ≡ true
    chosen true h = refl
    chosen false h = cc
