-- What an element of an explicit role owns.
use Rattle.std.specs.Prelude.{false, ◌&&◌, ◌==◌, not, ℕ, List, [], ◌∷◌, map, codes, length, Bool, if◌then◌else◌, Option, Some, None, option_and_then}
use Rattle.std.specs.List.{list_all, join_with_byte}
use Rattle.snap_tree.specs.declared.row.NodeId.{NodeId}
use Rattle.snap_tree.specs.declared.row.Row.{Row}
use Rattle.snap_tree.specs.Trees.{Trees, Document}
use Rattle.aria_tables.specs.declared.attr.AriaAttr.TheVariants as aria
use Rattle.aria_tables.specs.declared.role.Role.{Role}
use Rattle.aria_tables.specs.Owning.{allowed_owned, looks_through}
use Rattle.aria_tables.specs.Roles.{word_of, is_one_of}
use Rattle.acc_tree.specs.declared.above.Above.{Above}
use Rattle.acc_tree.specs.declared.attributes.Attribute.TheVariants as attribute
use Rattle.acc_tree.specs.declared.owning.OwnedElement.{OwnedElement}
use Rattle.acc_tree.specs.Inclusion.{included}
use Rattle.acc_tree.specs.Owning.{owned_by}
use Rattle.acc_tree.specs.Roles.{explicit}
use Rattle.acc_tree.specs.Seen.{seen, has, is_word_at}
use Rattle.acc_tree.specs.Sights.{Sight}
use Rattle.rule_core.specs.declared.info.RuleInfo.{RuleInfo}
use Rattle.rule_core.specs.declared.info.Class.TheVariants.{SelfOnly, Sub}
use Rattle.rule_core.specs.declared.reason.Reason.TheVariants.{BadOwned, NothingOwned}
use Rattle.rule_core.specs.declared.finding.Finding.{Finding}
use Rattle.rule_core.specs.declared.verdict.Verdict.{Verdict}
use Rattle.rule_core.specs.Infos.{atomic}
use Rattle.rule_core.specs.Findings.{met, failed, cant_tell, verdict_of}
use Rattle.rule_sights.specs.Nodes.{said_below}
use Rattle.std.specs.Option.{option_map_or}

abbrev pub are_allowed : List Role → List OwnedElement → Bool
are_allowed allowed elements = list_all (λ o. is_one_of allowed o.role) elements

-- some are owned, and each of an allowed role
abbrev pub owned_finding : List Role → List OwnedElement → Finding
owned_finding allowed [] = cant_tell NothingOwned
owned_finding allowed (o ∷ elements) = if are_allowed allowed (o ∷ elements) then met else failed BadOwned

-- the words of their roles, with one space between
abbrev pub role_words : List OwnedElement → List ℕ
role_words elements = join_with_byte 32 (map (λ o. word_of o.role) elements)

abbrev pub verdict_on : List Role → List OwnedElement → Verdict
verdict_on allowed elements = verdict_of (owned_finding allowed elements) (role_words elements)

abbrev pub is_owner_target : Above → Row → Role → Bool
is_owner_target above row role =
    not (length (allowed_owned role) == 0) && (not (is_word_at (attribute.Aria aria.Busy) (codes "true") row) && included above row)

-- the target is an included element of an explicit role that is asked what it owns, and that isn't busy; the
-- evidence is the roles of what it owns, with aria-owns followed once
abbrev pub owned_verdict : Trees → Sight → Option Verdict
owned_verdict trees s =
    option_and_then (λ role. if is_owner_target s.above s.row role then Some (verdict_on (allowed_owned role) (owned_by (looks_through role) trees 1 s)) else None) (explicit s.row)

-- ARIA required owned elements
abbrev pub owns_required_elements : Document → NodeId → Option Verdict
owns_required_elements page = said_below (has attribute.RoleAttr) (owned_verdict (seen page.trees)) page

-- the targets of the rule
abbrev pub owns_required_elements_target : Above → Row → Bool
owns_required_elements_target above row = has attribute.RoleAttr row && option_map_or (is_owner_target above row) (explicit row) false

abbrev pub owns_required_elements_info : RuleInfo
owns_required_elements_info = atomic 22 (codes "bc4a75") SelfOnly Sub
