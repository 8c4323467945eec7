-- The latest of the judgements that pass a test.
use Rattle.std.proofs.Common.{◌≡◌, ℕ, zero, suc, Bool, true, false, cond, List, [], ◌∷◌, ◌++◌, ◌+◌, ◌<◌, IfSome, arith, reverse, length, take, get_or, slice_get, Option, Some, None, is_some, refl, sym, ap, ◌∙◌}
use Rattle.std.specs.Option.{option_or, option_map, option_and_then}
use Rattle.std.specs.List.{find}
use Rattle.std.proofs.lemmas.List.{reverse-append, take_more, length-take-le}
use Rattle.std.proofs.lemmas.List.Folds.{find-append}
use Rattle.snap_tree.specs.declared.row.NodeId.{NodeId}
use Rattle.rule_core.specs.declared.info.RuleNo.{RuleNo}
use Rattle.judge_core.specs.declared.judgement.Judgement.{Judgement}
use Rattle.judge_core.specs.Judgements.{is_of, latest, last_place}

-- the last of two lists: that of the second, else that of the first
pub last-append : {X : Type 0} (p : X → Bool) (xs ys : List X) → find p (reverse (xs ++ ys)) ≡ option_or (find p (reverse ys)) (find p (reverse xs))
last-append p xs ys = ap (find p) (reverse-append xs ys) ∙ find-append p (reverse ys) (reverse xs)

or_none : {X : Type 0} (o : Option X) → option_or o None ≡ o
or_none None = refl
or_none (Some x) = refl

pub last-cons : {X : Type 0} (p : X → Bool) (x : X) (xs : List X) → find p (reverse (x ∷ xs)) ≡ option_or (find p (reverse xs)) (cond (p x) (Some x) None)
last-cons p x xs = last-append p (x ∷ []) xs

-- what doesn't pass changes nothing
passed_over : {X : Type 0} (p : X → Bool) (xs ys : List X) (x : X) → p x ≡ false → find p (reverse (xs ++ x ∷ ys)) ≡ find p (reverse (xs ++ ys))
passed_over p xs ys x fails =
    last-append p xs (x ∷ ys) ∙ ap (λ o. option_or o (find p (reverse xs))) (last-cons p x ys ∙ ap (λ b. option_or (find p (reverse ys)) (cond b (Some x) None)) fails ∙ or_none (find p (reverse ys)))
    ∙ sym (last-append p xs ys)

pub others : (rule : RuleNo) (node : NodeId) (evidence : List ℕ) (before after : List Judgement) (j : Judgement) → is_of rule node evidence j ≡ false →
    latest rule node evidence (before ++ j ∷ after) ≡ latest rule node evidence (before ++ after)
others rule node evidence before after j fails = passed_over (is_of rule node evidence) before after j fails

pub last_of : (rule : RuleNo) (node : NodeId) (evidence : List ℕ) (before : List Judgement) (j : Judgement) → is_of rule node evidence j ≡ true →
    latest rule node evidence (before ++ j ∷ []) ≡ Some j
last_of rule node evidence before j passes =
    let p = is_of rule node evidence in
    last-append p before (j ∷ []) ∙ ap (λ b. option_or (cond b (Some j) None) (find p (reverse before))) passes

-- a last place is one of the list's
pub last_place_within : {X : Type 0} (p : X → Bool) (xs : List X) → IfSome (last_place p xs) (λ i. i < length xs)
last_place_within p [] = tt
last_place_within p (x ∷ xs) = within (last_place p xs) (p x) (last_place_within p xs)
  where
    within : (o : Option ℕ) (b : Bool) → IfSome o (λ i. i < length xs) → IfSome (option_or (option_map suc o) (cond b (Some 0) None)) (λ i. i < length (x ∷ xs))
    within None true h = omega arith
    within None false h = tt
    within (Some i) b h = omega (arith, h)

some_within : {X : Type 0} (xs : List X) (i : ℕ) → i < length xs → is_some (slice_get xs i) ≡ true
some_within [] i within = absurd (omega (arith, within))
some_within (x ∷ xs) zero within = refl
some_within (x ∷ xs) (suc i) within = some_within xs i (omega (arith, within))

found_or : {X : Type 0} (o l : Option X) → is_some l ≡ true → l ≡ option_or l o
found_or o None some = cc
found_or o (Some y) some = refl

later : {X : Type 0} (x : X) (xs : List X) (l : Option X) (o : Option ℕ) (b : Bool) → IfSome o (λ i. i < length xs) → option_and_then (slice_get xs) o ≡ l →
    option_and_then (slice_get (x ∷ xs)) (option_or (option_map suc o) (cond b (Some 0) None)) ≡ option_or l (cond b (Some x) None)
later x xs l None true h e = ap (λ o. option_or o (Some x)) e
later x xs l None false h e = ap (λ o. option_or o None) e
later x xs l (Some i) b h e = found_or (cond b (Some x) None) (slice_get xs i) (some_within xs i h) ∙ ap (λ o. option_or o (cond b (Some x) None)) e

-- the item at the last place that passes is the last that does
place_is_last : {X : Type 0} (p : X → Bool) (xs : List X) → option_and_then (slice_get xs) (last_place p xs) ≡ find p (reverse xs)
place_is_last p [] = refl
place_is_last p (x ∷ xs) = later x xs (find p (reverse xs)) (last_place p xs) (p x) (last_place_within p xs) (place_is_last p xs) ∙ sym (last-cons p x xs)

pub at_last_place : (rule : RuleNo) (node : NodeId) (evidence : List ℕ) (js : List Judgement) →
    option_and_then (slice_get js) (last_place (is_of rule node evidence) js) ≡ latest rule node evidence js
at_last_place rule node evidence js = place_is_last (is_of rule node evidence) js

last_place_more : {X : Type 0} (p : X → Bool) (xs : List X) (x : X) → last_place p (xs ++ x ∷ []) ≡ cond (p x) (Some (length xs)) (last_place p xs)
last_place_more p [] x = refl
last_place_more p (y ∷ xs) x = ap (λ o. option_or (option_map suc o) (cond (p y) (Some 0) None)) (last_place_more p xs x) ∙ chosen (p x)
  where
    chosen : (b : Bool) → option_or (option_map suc (cond b (Some (length xs)) (last_place p xs))) (cond (p y) (Some 0) None) ≡ cond b (Some (length (y ∷ xs))) (last_place p (y ∷ xs))
    chosen true = refl
    chosen false = refl

-- one more item
pub last_place_step : {X : Type 0} (p : X → Bool) (xs : List X) (i : ℕ) (d : X) (before now : Option ℕ) (b : Bool) → i < length xs → before ≡ last_place p (take i xs) →
    b ≡ p (get_or xs i d) → now ≡ cond b (Some i) before → now ≡ last_place p (take (i + 1) xs)
last_place_step p xs i d before now b within so_far test is =
    is ∙ ap (λ c. cond c (Some i) before) test ∙ ap (λ o. cond (p (get_or xs i d)) (Some i) o) so_far
    ∙ ap (λ n. cond (p (get_or xs i d)) (Some n) (last_place p (take i xs))) (sym (length-take-le i xs (omega (arith, within))))
    ∙ sym (last_place_more p (take i xs) (get_or xs i d)) ∙ ap (last_place p) (sym (take_more xs i d within))
