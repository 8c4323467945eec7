-- What an element owns is told by what the class Sub looks at, and so is the verdict on it.
use Rattle.std.proofs.Common.{◌≡◌, List, [], Bool, true, false, if◌then◌else◌, Option, Some, None, option_and_then, refl}
use Rattle.std.specs.Option.{option_map_or}
use Rattle.aria_tables.specs.declared.role.Role.{Role}
use Rattle.aria_tables.specs.Owning.{allowed_owned, looks_through}
use Rattle.snap_tree.specs.Trees.{Trees}
use Rattle.acc_tree.specs.declared.attributes.Attribute.TheVariants as attribute
use Rattle.acc_tree.specs.declared.owning.OwnedElement.{OwnedElement}
use Rattle.acc_tree.specs.Owning.{owned_by}
use Rattle.acc_tree.specs.Roles.{explicit}
use Rattle.acc_tree.specs.Seen.{seen, has}
use Rattle.acc_tree.specs.Sights.{Sight, sight_of}
use Rattle.page_keys.specs.Laws.{owned_elements}
use Rattle.page_keys.proofs.Looking.{elements_look}
use Rattle.rule_core.specs.declared.info.Class.TheVariants.{Sub}
use Rattle.rule_core.specs.declared.verdict.Verdict.{Verdict}
use Rattle.rule_core.specs.Reach.{class_keys}
use Rattle.rule_core.proofs.Targets.{IsKept}
use Rattle.rule_sights.specs.Nodes.{if_row}
use Rattle.rule_sights.specs.Telling.{Tells}
use Rattle.rule_sights.proofs.Resting.{kept, kept_as}
use Rattle.rule_sights.proofs.Told.{sight_told, both_told}
use Rattle.rules_aria.specs.OwnedElements.{verdict_on, is_owner_target, owned_verdict, owns_required_elements}

-- what an element owns, for each list of roles that are looked through
abbrev Owns : Type 0
Owns = List Role → List OwnedElement

elements_told : Tells {A = Owns} Sub (λ t n through. owned_elements through 1 t n)
unfolding class_keys
elements_told old new n wo wn k = λ i through. elements_look through 1 old new n wo wn k i

-- the verdict on a sight, given what it owns
verdict_by : Owns → Sight → Option Verdict
verdict_by owns s =
    option_and_then (λ role. if is_owner_target s.above s.row role then Some (verdict_on (allowed_owned role) (owns (looks_through role))) else None) (explicit s.row)

verdict_rests : Option Sight × Owns → Option Verdict
verdict_rests x = option_and_then (verdict_by x.1) (option_and_then (if_row (has attribute.RoleAttr)) x.0)

verdict_is : (trees : Trees) (o : Option Sight)
    → option_and_then (owned_verdict trees) (option_and_then (if_row (has attribute.RoleAttr)) o) ≡ verdict_rests (o, λ through. option_map_or (owned_by through trees 1) o [])
unfolding verdict_by verdict_rests
verdict_is trees None = refl
verdict_is trees (Some s) = by_test (has attribute.RoleAttr s.row)
  where
    by_test : (b : Bool) → option_and_then (owned_verdict trees) (if b then Some s else None) ≡ option_and_then (verdict_by (λ through. owned_by through trees 1 s)) (if b then Some s else None)
    by_test true = refl
    by_test false = refl

pub owners_kept : IsKept Sub owns_required_elements
owners_kept =
    kept_as Sub owns_required_elements (λ page n. verdict_rests (sight_of (seen page.trees) n, λ through. owned_elements through 1 (seen page.trees) n))
    (λ page n well. verdict_is (seen page.trees) (sight_of (seen page.trees) n))
    (kept Sub (λ t n. (sight_of t n, λ through. owned_elements through 1 t n)) (both_told Sub sight_of (λ t n through. owned_elements through 1 t n) sight_told elements_told) (λ address x. verdict_rests x))
