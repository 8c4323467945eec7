-- The id of a rule that is found is a text.
use Rattle.std.proofs.Common.{◌≡◌, ℕ, Bool, true, false, cond, ◌==◌, List, [], ◌∷◌, Option, Some, IfSome, subst}
use Rattle.std.specs.List.{AllByRecursion}
use Rattle.std.specs.Str.{IsUtf8}
use Rattle.std.proofs.lemmas.List.Elements.{recursion_from_All}
use Rattle.rule_core.specs.declared.info.RuleInfo.{RuleInfo}
use Rattle.rule_core.specs.Infos.{info_of}
use Rattle.reports.specs.Ids.{HaveTexts}

found : (infos : List RuleInfo) (n : ℕ) → AllByRecursion (λ i. IsUtf8 i.id) infos → IfSome (info_of infos n) (λ i. IsUtf8 i.id)
found [] n all = tt
found (i ∷ infos) n all = first_or (n == i.no.0) (info_of infos n) all.0 (found infos n all.1)
  where
    first_or : (t : Bool) (later : Option RuleInfo) → IsUtf8 i.id → IfSome later (λ i. IsUtf8 i.id) → IfSome (cond t (Some i) later) (λ i. IsUtf8 i.id)
    first_or true later here there = here
    first_or false later here there = there

pub found_text : (infos : List RuleInfo) (n : ℕ) (i : RuleInfo) → info_of infos n ≡ Some i → HaveTexts infos → IsUtf8 i.id
found_text infos n i is all =
    let P : Option RuleInfo → Type 0 = λ o. IfSome o (λ i. IsUtf8 i.id) in
    subst P is (found infos n (recursion_from_All (λ i. IsUtf8 i.id) infos all))
