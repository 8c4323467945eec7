-- States and properties on roles that don't permit them.
use Rattle.std.specs.Prelude.{◌&&◌, ◌==◌, Bool, not, false, List, length, codes, if◌then◌else◌, Option, Some, None}
use Rattle.std.specs.List.{list_any}
use Rattle.std.specs.Option.{option_map_or}
use Rattle.snap_tree.specs.declared.row.NodeId.{NodeId}
use Rattle.snap_tree.specs.declared.row.Attr.{Attr}
use Rattle.snap_tree.specs.declared.row.Row.{Row}
use Rattle.snap_tree.specs.Trees.{Document}
use Rattle.aria_tables.specs.declared.attr.AriaAttr.{AriaAttr}
use Rattle.aria_tables.specs.declared.role.Role.{Role}
use Rattle.aria_tables.specs.Roles.{is_one_of}
use Rattle.acc_tree.specs.declared.above.Above.{Above}
use Rattle.acc_tree.specs.Inclusion.{included}
use Rattle.acc_tree.specs.Roles.{role_at}
use Rattle.acc_tree.specs.Seen.{aria_attrs}
use Rattle.rule_core.specs.declared.info.RuleInfo.{RuleInfo}
use Rattle.rule_core.specs.declared.info.Class.TheVariants.{SelfOnly}
use Rattle.rule_core.specs.declared.reason.Reason.TheVariants.{NotPermitted, NoRole}
use Rattle.rule_core.specs.declared.finding.Finding.{Finding}
use Rattle.rule_core.specs.declared.verdict.Verdict.{Verdict}
use Rattle.rule_core.specs.Findings.{met, failed, cant_tell, verdict_of}
use Rattle.rule_core.specs.Infos.{atomic}
use Rattle.rule_sights.specs.Nodes.{said_where}
use Rattle.rules_aria.specs.AriaLines.{aria_lines}
use Rattle.rules_aria.specs.AriaValue.{filled_attr}
use Rattle.rules_more.specs.RoleAttributes.{permitted_roles}

-- the attribute is permitted on some roles alone
abbrev pub is_limited : AriaAttr → Bool
is_limited known = not (length (permitted_roles known) == 0)

-- it is such an attribute, and isn't blank
abbrev pub is_limited_attr : Attr → Bool
is_limited_attr a = option_map_or is_limited (filled_attr a) false

abbrev pub has_limited : Row → Bool
has_limited row = list_any is_limited_attr (aria_attrs row)

-- it is such an attribute, isn't blank, and this role isn't one of those
abbrev pub is_barred : Role → Attr → Bool
is_barred r a = option_map_or (λ known. is_limited known && not (is_one_of (permitted_roles known) r)) (filled_attr a) false

-- each is permitted on the role; where there is none, a person has to judge
abbrev pub permitted_finding : Option Role → List Attr → Finding
permitted_finding None attrs = cant_tell NoRole
permitted_finding (Some r) attrs = if list_any (is_barred r) attrs then failed NotPermitted else met

-- the target is an included element with such an attribute that isn't blank; the evidence is the lines of all its ARIA
-- attributes
abbrev pub permitted_verdict : Above → Row → Option Verdict
permitted_verdict above row =
    if included above row then Some (verdict_of (permitted_finding (role_at above row) (aria_attrs row)) (aria_lines row)) else None

-- ARIA state or property is permitted
abbrev pub state_is_permitted : Document → NodeId → Option Verdict
state_is_permitted = said_where has_limited permitted_verdict

-- the targets of the rule
abbrev pub state_is_permitted_target : Above → Row → Bool
state_is_permitted_target above row = has_limited row && included above row

abbrev pub state_is_permitted_info : RuleInfo
state_is_permitted_info = atomic 36 (codes "5c01ea") SelfOnly SelfOnly
