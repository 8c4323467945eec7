-- The latest of the places on a node is the last place of the whole list.
use Rattle.std.proofs.Common.{◌≡◌, ℕ, suc, ◌+◌, ◌==◌, ◌<◌, List, [], ◌∷◌, ◌++◌, length, take, get_or, slice_get, Bool, true, false, cond, if◌then◌else◌, Option, Some, None, option_map, refl, sym, ap, ◌∙◌, arith}
use Rattle.std.specs.Option.{option_or, option_map_or}
use Rattle.std.specs.Prelude.{Vec}
use Rattle.std.specs.BTreeMap.{BTreeMap}
use Rattle.std.specs.declared.alloc.Global.{Global}
use Rattle.std.proofs.lemmas.Bool.{and_parts}
use Rattle.std.proofs.lemmas.List.{take_more, length-take-le}
use Rattle.judge_core.specs.declared.judgement.Judgement.{Judgement}
use Rattle.judge_core.specs.declared.outcomes.OutRow.{OutRow}
use Rattle.judge_core.specs.Judgements.{is_of, last_place}
use Rattle.judge_core.proofs.Judging.{last-cons}
use Rattle.kept_verdicts.specs.Places.{ArePlaced, HasPut, at, places_from}
use Rattle.kept_verdicts.specs.Latest.{is_at, latest_of}

-- one more judgement at the end
pub places_more : (n first : ℕ) (xs : List Judgement) (x : Judgement)
    → places_from n first (xs ++ x ∷ []) ≡ (if x.node.0 == n then places_from n first xs ++ (first + length xs) ∷ [] else places_from n first xs)
places_more n first [] x = ap (λ k. if x.node.0 == n then k ∷ [] else []) (omega arith)
places_more n first (y ∷ xs) x =
    ap (λ rest. if y.node.0 == n then first ∷ rest else rest) (places_more n (suc first) xs x)
    ∙ by (y.node.0 == n) (x.node.0 == n)
  where
    by : (b c : Bool) → (if b then first ∷ (if c then places_from n (suc first) xs ++ (suc first + length xs) ∷ [] else places_from n (suc first) xs)
        else (if c then places_from n (suc first) xs ++ (suc first + length xs) ∷ [] else places_from n (suc first) xs))
        ≡ (if c then (if b then first ∷ places_from n (suc first) xs else places_from n (suc first) xs) ++ (first + length (y ∷ xs)) ∷ []
        else (if b then first ∷ places_from n (suc first) xs else places_from n (suc first) xs))
    by true true = ap (λ k. first ∷ (places_from n (suc first) xs ++ k ∷ [])) (omega arith)
    by true false = refl
    by false true = ap (λ k. places_from n (suc first) xs ++ k ∷ []) (omega arith)
    by false false = refl

-- one more judgement was placed
pub places_step : (js : List Judgement) (i : ℕ) (d x : Judgement) (old new : BTreeMap ℕ (Vec ℕ Global)) → i < length js → x ≡ get_or js i d
    → ArePlaced (take i js) old → HasPut old new x.node.0 i → ArePlaced (take (i + 1) js) new
places_step js i d x old new within is are has =
    λ n.
    let count : 0 + length (take i js) ≡ i = omega (arith, length-take-le i js (omega (arith, within))) in
    has n ∙ ap (λ ps. if x.node.0 == n then ps ++ i ∷ [] else ps) (are n)
    ∙ ap (λ k. if x.node.0 == n then places_from n 0 (take i js) ++ k ∷ [] else places_from n 0 (take i js)) (sym count)
    ∙ sym (places_more n 0 (take i js) x)
    ∙ ap (λ y. places_from n 0 (take i js ++ y ∷ [])) is
    ∙ ap (places_from n 0) (sym (take_more js i d within))

-- the last place of a list that begins at a place
shifted : (first : ℕ) (o : Option ℕ) (b : Bool)
    → option_or (option_map (λ i. suc first + i) o) (cond b (Some first) None) ≡ option_map (λ i. first + i) (option_or (option_map suc o) (cond b (Some 0) None))
shifted first None true = ap Some (omega arith)
shifted first None false = refl
shifted first (Some i) b = ap Some (omega arith)

or_none : {X : Type 0} (o : Option X) → option_or o None ≡ o
or_none None = refl
or_none (Some x) = refl

module _ (n : ℕ) (test : Judgement → Bool) (on : (j : Judgement) → test j ≡ true → (j.node.0 == n) ≡ true) (all : List Judgement) where
  -- a judgement on another node doesn't pass
  none_off : (j : Judgement) (b : Bool) → test j ≡ b → (j.node.0 == n) ≡ false → test j ≡ false
  none_off j true is off = let no : true ≡ false = sym (on j is) ∙ off in absurd (cc)
  none_off j false is off = is

  step : (first : ℕ) (j : Judgement) (js : List Judgement) (b : Bool) → (j.node.0 == n) ≡ b → is_at test all first ≡ test j
      → latest_of test all (places_from n (suc first) js) ≡ option_map (λ i. suc first + i) (last_place test js)
      → latest_of test all (if b then first ∷ places_from n (suc first) js else places_from n (suc first) js) ≡ option_map (λ i. first + i) (last_place test (j ∷ js))
  step first j js true is here later =
      last-cons (is_at test all) first (places_from n (suc first) js)
      ∙ ap (λ c. option_or (latest_of test all (places_from n (suc first) js)) (cond c (Some first) None)) here
      ∙ ap (λ o. option_or o (cond (test j) (Some first) None)) later
      ∙ shifted first (last_place test js) (test j)
  step first j js false is here later =
      let off : test j ≡ false = none_off j (test j) refl is in
      later ∙ sym (or_none (option_map (λ i. suc first + i) (last_place test js)))
      ∙ shifted first (last_place test js) false
      ∙ ap (λ c. option_map (λ i. first + i) (option_or (option_map suc (last_place test js)) (cond c (Some 0) None))) (sym off)

  placed_from : (first : ℕ) (js : List Judgement) → ((p : ℕ) → slice_get all (first + p) ≡ slice_get js p)
      → latest_of test all (places_from n first js) ≡ option_map (λ i. first + i) (last_place test js)
  placed_from first [] there = refl
  placed_from first (j ∷ js) there =
      let here : is_at test all first ≡ test j = ap (λ o. option_map_or test o false) (ap (slice_get all) (omega arith) ∙ there 0) in
      let rest : (p : ℕ) → slice_get all (suc first + p) ≡ slice_get js p = λ p. ap (slice_get all) (omega arith) ∙ there (suc p) in
      step first j js (j.node.0 == n) refl here (placed_from (suc first) js rest)

from_zero : (o : Option ℕ) → option_map (λ i. 0 + i) o ≡ o
from_zero None = refl
from_zero (Some i) = ap Some (omega arith)

pub latest_placed : (places : BTreeMap ℕ (Vec ℕ Global)) (js : List Judgement) (row : OutRow) → ArePlaced js places
    → latest_of (is_of row.rule row.node row.evidence) js (at places row.node.0) ≡ last_place (is_of row.rule row.node row.evidence) js
latest_placed places js row are =
    let test = is_of row.rule row.node row.evidence in
    let on : (j : Judgement) → test j ≡ true → (j.node.0 == row.node.0) ≡ true = λ j is. (and_parts _ _ (and_parts _ _ is).0).1 in
    ap (latest_of test js) (are row.node.0) ∙ placed_from row.node.0 test on js 0 js (λ p. ap (slice_get js) (omega arith)) ∙ from_zero (last_place test js)
