-- Which judgements a set has.
use Rattle.std.proofs.Common.{◌≡◌, ◌<◌, ◌+◌, ℕ, length, take, get_or, subst, Bool, true, false, ◌&&◌, ◌||◌, cond, List, [], ◌∷◌, ◌++◌, refl, sym, ap, ◌∙◌}
use Rattle.std.proofs.lemmas.List.Folds.{list_any-append}
use Rattle.std.proofs.lemmas.List.{take_more}
use Rattle.std.proofs.lemmas.Map.Text.{is_eq-slice_cmp}
use Rattle.std.specs.Cmp.{unsigned_tied}
use Rattle.std.specs.Ordering.{is_eq, ordering_then}
use Rattle.std.specs.declared.cmp.Ordering.{Ordering}
use Rattle.std.specs.declared.cmp.Ordering.TheVariants.{Less, Equal, Greater}
use Rattle.std.specs.BTreeSet.{BTreeSet, contains, Updates}
use denote.Enum.Bare.{sameb}
use Rattle.rule_core.specs.contracts.verdict.Auto as auto
use Rattle.judge_core.specs.declared.judgement.Judgement.{Judgement}
use Rattle.judge_core.specs.Equality.{same_judgement}
use Rattle.judge_core.proofs.Equal.{judgements_decide}
use Rattle.earl_in.specs.declared.lent.Lent.{Lent}
use Rattle.earl_in.specs.declared.lent.Rank.{Rank}
use Rattle.earl_in.specs.declared.lent.Rank.TheVariants as rank
use Rattle.earl_in.specs.contracts.lent.RankOrd.TheImpl as ranks
use Rattle.earl_in.specs.contracts.lent.LentOrd.TheImpl as lent
use Rattle.earl_in.specs.Taking.{stands}
use Rattle.earl_in.specs.Standing.{verdict_of, owned, AreStanding}

-- ---- equal in the order is the same

then_eq : (x y : Ordering) (p q : Bool) → is_eq x ≡ p → is_eq y ≡ q → is_eq (ordering_then x y) ≡ (p && q)
then_eq Less y p q a b = ap (λ r. r && q) a
then_eq Equal y p q a b = b ∙ ap (λ r. r && q) a
then_eq Greater y p q a b = ap (λ r. r && q) a

verdicts : (r s : Rank) → is_eq ((ranks.ghosts).cmp r s) ≡ sameb auto.the_type (verdict_of r) (verdict_of s)
verdicts rank.Passed rank.Passed = refl
verdicts rank.Passed rank.Failed = refl
verdicts rank.Passed rank.CantTell = refl
verdicts rank.Failed rank.Passed = refl
verdicts rank.Failed rank.Failed = refl
verdicts rank.Failed rank.CantTell = refl
verdicts rank.CantTell rank.Passed = refl
verdicts rank.CantTell rank.Failed = refl
verdicts rank.CantTell rank.CantTell = refl

pub same_eq : (a b : Lent) → is_eq ((lent.ghosts).cmp a b) ≡ same_judgement (owned a) (owned b)
same_eq a b =
    then_eq _ _ _ _ (unsigned_tied a.rule.0 b.rule.0) (then_eq _ _ _ _ (unsigned_tied a.node.0 b.node.0)
    (then_eq _ _ _ _ (verdicts a.verdict b.verdict) (then_eq _ _ _ _ (is_eq-slice_cmp a.hand.now b.hand.now)
    (then_eq _ _ _ _ (is_eq-slice_cmp a.note.now b.note.now) (is_eq-slice_cmp a.evidence.now b.evidence.now)))))

-- ---- the same either way round

same_bools : (b c : Bool) → (b ≡ true → c ≡ true) → (c ≡ true → b ≡ true) → b ≡ c
same_bools true c f g = sym (f refl)
same_bools false true f g = g refl
same_bools false false f g = refl

flip : (x y : Judgement) → same_judgement x y ≡ same_judgement y x
flip x y =
    same_bools (same_judgement x y) (same_judgement y x)
    (λ h. (judgements_decide y x).1 (sym ((judgements_decide x y).0 h))) (λ h. (judgements_decide x y).1 (sym ((judgements_decide y x).0 h)))

-- ---- one judgement more

or_false : (b : Bool) → b ≡ (b || false)
or_false true = refl
or_false false = refl

stands_more : (x j : Judgement) (js : List Judgement) → stands x (js ++ j ∷ []) ≡ (stands x js || same_judgement x j)
stands_more x j js = list_any-append (same_judgement x) js (j ∷ []) ∙ ap (λ b. stands x js || b) (sym (or_false (same_judgement x j)))

-- one that stands already changes nothing
absorbed : (x j : Judgement) (js : List Judgement) → stands j js ≡ true → stands x js ≡ (stands x js || same_judgement x j)
absorbed x j js there = chosen (same_judgement x j) refl
  where
    or_true : (b : Bool) → b ≡ true → b ≡ (b || true)
    or_true true e = refl
    or_true false e = e

    chosen : (b : Bool) → same_judgement x j ≡ b → stands x js ≡ (stands x js || b)
    chosen true e = or_true (stands x js) (ap (λ y. stands y js) ((judgements_decide x j).0 e) ∙ there)
    chosen false e = or_false (stands x js)

pub stays : (l : Lent) (js : List Judgement) (standing : BTreeSet Lent) → AreStanding standing js → contains (lent.ghosts).cmp standing l ≡ true
    → AreStanding standing (js ++ owned l ∷ [])
stays l js standing are there =
    λ q. are q ∙ absorbed (owned q) (owned l) js (sym (are l) ∙ there) ∙ sym (stands_more (owned q) (owned l) js)

cond_or : (b s : Bool) → cond b true s ≡ (s || b)
cond_or true true = refl
cond_or true false = refl
cond_or false true = refl
cond_or false false = refl

pub grows : (l : Lent) (js : List Judgement) (old new : BTreeSet Lent) → AreStanding old js → Updates (lent.ghosts).cmp old new l true → AreStanding new (js ++ owned l ∷ [])
grows l js old new are more =
    λ q.
    more.0 q ∙ ap (λ b. cond b true (contains (lent.ghosts).cmp old q)) (same_eq l q ∙ flip (owned l) (owned q))
    ∙ ap (cond (same_judgement (owned q) (owned l)) true) (are q) ∙ cond_or (same_judgement (owned q) (owned l)) (stands (owned q) js)
    ∙ sym (stands_more (owned q) (owned l) js)

-- what stands already may be left out
pub left_out : (j : Judgement) (js : List Judgement) (standing : BTreeSet Lent) → stands j js ≡ true → AreStanding standing (js ++ j ∷ []) → AreStanding standing js
left_out j js standing there are = λ q. are q ∙ stands_more (owned q) j js ∙ sym (absorbed (owned q) j js there)

-- one judgement more of a list
pub standing_more : (js : List Judgement) (i : ℕ) (x j : Judgement) (standing : BTreeSet Lent) → i < length js → x ≡ j → j ≡ get_or js i j
    → AreStanding standing (take i js ++ x ∷ []) → AreStanding standing (take (i + 1) js)
standing_more js i x j standing within same is are = subst (AreStanding standing) (ap (λ y. take i js ++ y ∷ []) (same ∙ is) ∙ sym (take_more js i j within)) are
