-- Roles that have to stand in others.
use Rattle.std.specs.Prelude.{◌&&◌, ◌==◌, Bool, not, false, ℕ, List, [], ◌∷◌, ◌++◌, length, codes, if◌then◌else◌, Option, Some, None, option_and_then}
use Rattle.std.specs.Option.{option_or, option_map_or}
use Rattle.snap_tree.specs.declared.row.NodeId.{NodeId}
use Rattle.snap_tree.specs.declared.row.Row.{Row}
use Rattle.snap_tree.specs.Trees.{Trees, Document}
use Rattle.aria_tables.specs.declared.role.Role.{Role}
use Rattle.aria_tables.specs.Roles.{word_of, is_one_of}
use Rattle.acc_tree.specs.declared.above.Above.{Above}
use Rattle.acc_tree.specs.declared.attributes.Attribute.TheVariants as attribute
use Rattle.acc_tree.specs.Following.{rows_above}
use Rattle.acc_tree.specs.Frames.{above_of}
use Rattle.acc_tree.specs.Inclusion.{included}
use Rattle.acc_tree.specs.Roles.{explicit, role_at}
use Rattle.acc_tree.specs.Seen.{seen, has, is_blank_at}
use Rattle.acc_tree.specs.Sights.{Sight}
use Rattle.rule_core.specs.declared.info.RuleInfo.{RuleInfo}
use Rattle.rule_core.specs.declared.info.Class.TheVariants.{SelfOnly}
use Rattle.rule_core.specs.declared.reason.Reason.TheVariants.{NoContext, MaybeOwned}
use Rattle.rule_core.specs.declared.finding.Finding.{Finding}
use Rattle.rule_core.specs.declared.verdict.Verdict.{Verdict}
use Rattle.rule_core.specs.Findings.{met, failed, cant_tell, verdict_of}
use Rattle.rule_core.specs.Infos.{atomic}
use Rattle.rule_sights.specs.Nodes.{said_below}
use Rattle.rules_names.specs.RoleAndName.{role_word}
use Rattle.rules_more.specs.RoleContexts.{context_roles, passed_roles}

-- ---- the context

-- a role that isn't passed over
abbrev pub counting : List Role → Option Role → Option Role
counting passed None = None
counting passed (Some r) = if is_one_of passed r then None else Some r

-- the role of the nearest of these nodes, the nearest first, that has a role which isn't passed over
abbrev pub nearest : List Role → List Row → Option Role
nearest passed [] = None
nearest passed (row ∷ rows) = option_or (counting passed (role_at (above_of rows) row)) (nearest passed rows)

-- the context of an element of this role, by the nodes above it
abbrev pub context : Role → List Row → Option Role
context r rows = nearest (passed_roles r) rows

-- ---- the rule

-- the context is one in which an element of this role may stand
abbrev pub is_allowed : Role → Option Role → Bool
is_allowed r context = option_map_or (is_one_of (context_roles r)) context false

-- it fails where it isn't; where the element has an id, another one may own it by aria-owns, and a person has to judge
abbrev pub context_finding : Row → Role → Option Role → Finding
context_finding row r context =
    if is_allowed r context then met
    else (if is_blank_at attribute.Id row then failed NoContext else cant_tell MaybeOwned)

-- the role, a space, and the context's role, or `-` where there is no context
abbrev pub context_words : Role → Option Role → List ℕ
context_words r context = word_of r ++ 32 ∷ role_word context

abbrev pub context_verdict : Row → Role → Option Role → Verdict
context_verdict row r context = verdict_of (context_finding row r context) (context_words r context)

-- the target is an included element of an explicit role that has to stand in another
abbrev pub is_context_target : Above → Row → Role → Bool
is_context_target above row r = not (length (context_roles r) == 0) && included above row

-- what is said of a row with this above it, by its context
abbrev pub said_by_context : (Role → Option Role) → Above → Row → Option Verdict
said_by_context context above row =
    option_and_then (λ r. if is_context_target above row r then Some (context_verdict row r (context r)) else None) (explicit row)

abbrev pub said_in_context : Trees → Sight → Option Verdict
said_in_context trees s = said_by_context (λ r. context r (rows_above trees s.row.parent)) s.above s.row

-- ARIA required context role
abbrev pub stands_in_context : Document → NodeId → Option Verdict
stands_in_context page = said_below (has attribute.RoleAttr) (said_in_context (seen page.trees)) page

-- the targets of the rule
abbrev pub stands_in_context_target : Above → Row → Bool
stands_in_context_target above row = has attribute.RoleAttr row && option_map_or (is_context_target above row) (explicit row) false

abbrev pub stands_in_context_info : RuleInfo
stands_in_context_info = atomic 37 (codes "ff89c9") SelfOnly SelfOnly
