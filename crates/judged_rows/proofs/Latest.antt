-- The latest of the judgements on one node.
use Rattle.std.proofs.Common.{◌≡◌, ℕ, ◌==◌, Bool, true, false, cond, ◌&&◌, List, [], ◌∷◌, filter, reverse, Option, Some, None, refl, sym, ap, ◌∙◌}
use Rattle.std.specs.List.{find}
use Rattle.std.specs.Option.{option_or}
use Rattle.std.specs.Str.{bytes_eq}
use Rattle.snap_tree.specs.declared.row.NodeId.{NodeId}
use Rattle.rule_core.specs.declared.info.RuleNo.{RuleNo}
use Rattle.judge_core.specs.declared.judgement.Judgement.{Judgement}
use Rattle.judge_core.specs.Judgements.{is_of, latest}
use Rattle.judge_core.proofs.Judging.{last-cons}
use Rattle.judged_rows.specs.ByNode.{on_node}

-- what passes a test that only some can pass is found among those
last_among : {X : Type 0} (p q : X → Bool) → ((x : X) → q x ≡ false → p x ≡ false) → (xs : List X) → find p (reverse (filter q xs)) ≡ find p (reverse xs)
last_among p q only [] = refl
last_among p q only (x ∷ xs) = chosen (q x) refl (last_among p q only xs) ∙ sym (last-cons p x xs)
  where
    or_none : {X : Type 0} (o : Option X) → o ≡ option_or o None
    or_none None = refl
    or_none (Some y) = refl

    chosen : (b : Bool) → q x ≡ b → find p (reverse (filter q xs)) ≡ find p (reverse xs) →
        find p (reverse (cond b (x ∷ filter q xs) (filter q xs))) ≡ option_or (find p (reverse xs)) (cond (p x) (Some x) None)
    chosen true e later = last-cons p x (filter q xs) ∙ ap (λ o. option_or o (cond (p x) (Some x) None)) later
    chosen false e later = later ∙ or_none (find p (reverse xs)) ∙ ap (λ b. option_or (find p (reverse xs)) (cond b (Some x) None)) (sym (only x e))

elsewhere : (rule : RuleNo) (node : NodeId) (evidence : List ℕ) (j : Judgement) → (j.node.0 == node.0) ≡ false → is_of rule node evidence j ≡ false
elsewhere rule node evidence j e = both (j.rule.0 == rule.0) (j.node.0 == node.0) (bytes_eq j.evidence evidence) e
  where
    both : (a b c : Bool) → b ≡ false → ((a && b) && c) ≡ false
    both true b c e = ap (λ b. b && c) e
    both false b c e = refl

pub latest_on_node : (rule : RuleNo) (node : NodeId) (evidence : List ℕ) (js : List Judgement) → latest rule node evidence (on_node node.0 js) ≡ latest rule node evidence js
latest_on_node rule node evidence js = last_among (is_of rule node evidence) (λ j. j.node.0 == node.0) (elsewhere rule node evidence) js
