-- The states and properties that an explicit role requires.
use Rattle.std.specs.Prelude.{◌&&◌, ◌||◌, ◌==◌, not, List, codes, length, Bool, true, false, if◌then◌else◌, Option, Some, None, option_and_then}
use Rattle.std.specs.Option.{option_map_or}
use Rattle.std.specs.List.{list_any}
use Rattle.snap_tree.specs.declared.row.NodeId.{NodeId}
use Rattle.snap_tree.specs.declared.row.Row.{Row}
use Rattle.snap_tree.specs.Trees.{Document}
use Rattle.aria_tables.specs.declared.attr.AriaAttr.{AriaAttr}
use Rattle.aria_tables.specs.declared.role.Role.{Role}
use Rattle.aria_tables.specs.Roles.{same_role}
use Rattle.aria_tables.specs.States.{required_states}
use Rattle.acc_tree.specs.declared.above.Above.{Above}
use Rattle.acc_tree.specs.declared.attributes.Attribute.TheVariants as attribute
use Rattle.acc_tree.specs.declared.inputs.InputType.{InputType}
use Rattle.acc_tree.specs.declared.inputs.InputType.TheVariants as type
use Rattle.acc_tree.specs.declared.tags.Tag.{Tag}
use Rattle.acc_tree.specs.declared.tags.Tag.TheVariants as tag
use Rattle.acc_tree.specs.Inclusion.{included}
use Rattle.acc_tree.specs.Inputs.{input_type}
use Rattle.acc_tree.specs.Roles.{explicit, implicit}
use Rattle.acc_tree.specs.Seen.{has, is_blank_at}
use Rattle.acc_tree.specs.Tags.{html_tag}
use Rattle.rule_core.specs.declared.info.RuleInfo.{RuleInfo}
use Rattle.rule_core.specs.declared.info.Class.TheVariants.{SelfOnly}
use Rattle.rule_core.specs.declared.reason.Reason.TheVariants.{MissingState}
use Rattle.rule_core.specs.declared.finding.Finding.{Finding}
use Rattle.rule_core.specs.declared.verdict.Verdict.{Verdict}
use Rattle.rule_core.specs.Infos.{atomic}
use Rattle.rule_core.specs.Findings.{met, failed, verdict_of}
use Rattle.rules_aria.specs.AriaLines.{aria_lines}
use Rattle.rule_sights.specs.Nodes.{said_where}

-- an `input` that the browser checks by itself
abbrev pub is_checked_by_type : InputType → Bool
is_checked_by_type type.Checkbox = true
is_checked_by_type type.Radio = true
is_checked_by_type _ = false

abbrev pub is_check_input : Row → Option Tag → Bool
is_check_input row (Some tag.Input) = is_checked_by_type (input_type row)
is_check_input row _ = false

-- the browser tells the states: the role is the element's own, or it is an `input` of type checkbox or radio
abbrev pub is_exempt : Above → Row → Role → Bool
is_exempt above row role = option_map_or (same_role role) (implicit above row) false || is_check_input row (html_tag row)

abbrev pub lacks_one : Row → List AriaAttr → Bool
lacks_one row states = list_any (λ state. is_blank_at (attribute.Aria state) row) states

abbrev pub states_finding : Row → Role → Finding
states_finding row role = if lacks_one row (required_states role) then failed MissingState else met

abbrev pub is_states_target : Above → Row → Role → Bool
is_states_target above row role =
    not (length (required_states role) == 0) && (not (is_exempt above row role) && included above row)

-- the target is an included element of an explicit role that requires states which the browser doesn't
-- tell; the evidence is the lines of its ARIA attributes
abbrev pub states_verdict : Above → Row → Option Verdict
states_verdict above row =
    option_and_then (λ role. if is_states_target above row role then Some (verdict_of (states_finding row role) (aria_lines row)) else None) (explicit row)

-- element with role attribute has required states and properties
abbrev pub has_required_states : Document → NodeId → Option Verdict
has_required_states = said_where (has attribute.RoleAttr) states_verdict

-- the targets of the rule
abbrev pub has_required_states_target : Above → Row → Bool
has_required_states_target above row = has attribute.RoleAttr row && option_map_or (is_states_target above row) (explicit row) false

abbrev pub has_required_states_info : RuleInfo
has_required_states_info = atomic 21 (codes "4e8ab6") SelfOnly SelfOnly
