-- What inputs merge to.
use Rattle.std.proofs.Common.{◌≡◌, Bool, cond, List, [], ◌∷◌, refl, ap, ◌∙◌}
use Rattle.std.specs.List.{list_any}
use Rattle.std.specs.List.Sorted.{IsPermutation}
use Rattle.std.proofs.lemmas.List.Sorted.{list_any-IsPermutation}
use Rattle.rule_core.specs.declared.verdict.Auto.{Auto}
use Rattle.rule_core.specs.declared.verdict.Auto.TheVariants.{Passed, Failed, CantTell}
use Rattle.judge_core.specs.Composites.{merge, is_passed, is_open}

-- the merge of what some pass and some leave open
abbrev by_tests : Bool → Bool → Auto
by_tests some_pass some_open = cond some_pass Passed (cond some_open CantTell Failed)

pub one_alone : (outcome : Auto) → merge (outcome ∷ []) ≡ outcome
one_alone Passed = refl
one_alone Failed = refl
one_alone CantTell = refl

pub any_order : (one other : List Auto) → IsPermutation one other → merge one ≡ merge other
any_order one other same =
    ap (λ b. by_tests b (list_any is_open one)) (list_any-IsPermutation is_passed one other same)
    ∙ ap (λ b. by_tests (list_any is_passed other) b) (list_any-IsPermutation is_open one other same)

pub twice : (outcome : Auto) (others : List Auto) → merge (outcome ∷ outcome ∷ others) ≡ merge (outcome ∷ others)
twice Passed others = refl
twice Failed others = refl
twice CantTell others = refl
