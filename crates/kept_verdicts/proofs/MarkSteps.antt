-- Marks that are made row by row, and the judgements that they stand beside.
use Rattle.std.proofs.Common.{◌≡◌, ℕ, zero, suc, ◌+◌, ◌<◌, ◌||◌, List, [], ◌∷◌, ◌++◌, length, map, take, get_or, slice_get, Bool, true, false, Option, Some, None, option_map, refl, sym, ap, ◌∙◌, arith}
use Rattle.std.specs.Prelude.{replicate}
use Rattle.std.specs.List.{list_any, zip}
use Rattle.std.proofs.lemmas.List.{take_more}
use Rattle.judge_core.specs.declared.judgement.Judgement.{Judgement}
use Rattle.judge_core.specs.declared.outcomes.OutRow.{OutRow}
use Rattle.judge_core.specs.Judgements.{counting_place}
use Rattle.kept_verdicts.specs.Verdicts.{is_place, shows, counts, verdicts_from, HasMarked, AreMarked, verdict_of}

-- nothing is marked
blank : (js : List Judgement) (p : ℕ) → slice_get (replicate (length js) false) p ≡ option_map (λ j. false) (slice_get js p)
blank [] p = refl
blank (j ∷ js) zero = refl
blank (j ∷ js) (suc p) = blank js p

pub none_marked : (js : List Judgement) (marks : List Bool) → marks ≡ replicate (length js) false → AreMarked [] js marks
none_marked js marks are = λ p. ap (λ ms. slice_get ms p) are ∙ blank js p

any_more : (test : OutRow → Bool) (rows : List OutRow) (row : OutRow) → list_any test (rows ++ row ∷ []) ≡ (list_any test rows || test row)
any_more test [] row = of (test row)
  where
    of : (b : Bool) → (b || false) ≡ b
    of true = refl
    of false = refl
any_more test (r ∷ rows) row = ap (λ b. test r || b) (any_more test rows row) ∙ of (test r)
  where
    of : (b : Bool) → (b || (list_any test rows || test row)) ≡ ((b || list_any test rows) || test row)
    of true = refl
    of false = refl

-- one row more
pub marks_step : (rows : List OutRow) (js : List Judgement) (i : ℕ) (d row : OutRow) (place : Option ℕ) (old new : List Bool) → i < length rows → row ≡ get_or rows i d
    → place ≡ counting_place row.auto row.rule row.node row.evidence js → AreMarked (take i rows) js old → HasMarked old place new → AreMarked (take (i + 1) rows) js new
marks_step rows js i d row place old new within is placed are has =
    λ p.
    let more : (counts (take i rows) js p || is_place place p) ≡ counts (take (i + 1) rows) js p =
    ap (λ o. counts (take i rows) js p || is_place o p) placed
    ∙ sym (any_more (shows js p) (take i rows) row)
    ∙ ap (λ r. counts (take i rows ++ r ∷ []) js p) is
    ∙ ap (λ rs. counts rs js p) (sym (take_more rows i d within)) in
    has p ∙ ap (option_map (λ m. m || is_place place p)) (are p) ∙ marked p more (slice_get js p)
  where
    marked : (p : ℕ) → (counts (take i rows) js p || is_place place p) ≡ counts (take (i + 1) rows) js p → (o : Option Judgement)
        → option_map (λ m. m || is_place place p) (option_map (λ j. counts (take i rows) js p) o) ≡ option_map (λ j. counts (take (i + 1) rows) js p) o
    marked p more None = refl
    marked p more (Some j) = ap Some more

-- what is marked is told
zipped : (rows : List OutRow) (all js : List Judgement) (first : ℕ) (marks : List Bool) → ((p : ℕ) → slice_get marks p ≡ option_map (λ j. counts rows all (first + p)) (slice_get js p))
    → map verdict_of (zip js marks) ≡ verdicts_from rows all first js
zipped rows all [] first marks are = refl
zipped rows all (j ∷ js) first [] are = let no : None ≡ Some (counts rows all (first + 0)) = are 0 in absurd (cc)
zipped rows all (j ∷ js) first (m ∷ marks) are =
    let here : Some m ≡ Some (counts rows all (first + 0)) = are 0 in
    let same : m ≡ counts rows all (first + 0) = cc in
    let now : m ≡ counts rows all first = same ∙ ap (counts rows all) (omega arith) in
    let later : (p : ℕ) → slice_get marks p ≡ option_map (λ j. counts rows all (suc first + p)) (slice_get js p) =
    λ p. are (suc p) ∙ ap (λ k. option_map (λ j. counts rows all k) (slice_get js p)) (omega arith) in
    ap (λ b. verdict_of (j, b) ∷ map verdict_of (zip js marks)) now ∙ ap (λ rest. verdict_of (j, counts rows all first) ∷ rest) (zipped rows all js (suc first) marks later)

pub told : (rows : List OutRow) (js : List Judgement) (marks : List Bool) → AreMarked rows js marks → map verdict_of (zip js marks) ≡ verdicts_from rows js 0 js
told rows js marks are = zipped rows js js 0 marks (λ p. are p ∙ ap (λ k. option_map (λ j. counts rows js k) (slice_get js p)) (omega arith))
