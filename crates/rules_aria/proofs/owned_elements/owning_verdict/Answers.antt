use Rattle.std.proofs.Common.{◌≡◌, ◌∙◌, List, IfOk, ap, subst}
use Rattle.aria_tables.specs.declared.role.Role.{Role}
use Rattle.aria_tables.specs.Owning.{looks_through}
use Rattle.acc_tree.specs.declared.owning.OwnedElement.{OwnedElement}
use Rattle.acc_tree.specs.Owning.{owned_by}
use Rattle.acc_tree.specs.Seen.{seen}
use Rattle.acc_tree.specs.Sights.{seen_sight}
use Rattle.rules_aria.specs.OwnedElements.{verdict_on}
use Rattle.rules_aria.proofs.owned_elements.owning_verdict.Goals as goal

pub returns : goal.returns
returns c =
    let owned : List Role → List OwnedElement = λ through. owned_by through (seen c.args.tree.now.trees) 1 (seen_sight c.args.sight) in
    let owns : c.as_slice.result.now ≡ owned (looks_through c.args.role) = c.as_slice.ensures ∙ (c.in_ok-elements.ensures ∙ ap owned c.looks_through.ensures) in
    subst (λ (allowed : List Role). IfOk c.verdict_on.result (λ verdict. verdict ≡ verdict_on allowed (owned (looks_through c.args.role)))) c.allowed_owned.ensures
    (subst (λ (elements : List OwnedElement). IfOk c.verdict_on.result (λ verdict. verdict ≡ verdict_on c.allowed_owned.result.now elements)) owns c.verdict_on.ensures)
