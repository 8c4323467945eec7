-- Elements that are marked as decorative.
use Rattle.std.specs.Prelude.{◌&&◌, ◌||◌, Bool, codes, if◌then◌else◌, Option, Some}
use Rattle.snap_tree.specs.declared.row.NodeId.{NodeId}
use Rattle.snap_tree.specs.declared.row.Row.{Row}
use Rattle.snap_tree.specs.Trees.{Document}
use Rattle.acc_tree.specs.declared.above.Above.{Above}
use Rattle.acc_tree.specs.declared.attributes.Attribute.TheVariants as attribute
use Rattle.acc_tree.specs.Inclusion.{exposed}
use Rattle.acc_tree.specs.Roles.{named_role, is_decoration, is_focusable, has_global, is_empty_text, role_at}
use Rattle.acc_tree.specs.Seen.{attr, is_blank_at}
use Rattle.rule_core.specs.declared.info.RuleInfo.{RuleInfo}
use Rattle.rule_core.specs.declared.info.Class.TheVariants.{SelfOnly}
use Rattle.rule_core.specs.declared.reason.Reason.TheVariants.{MarkedExposed}
use Rattle.rule_core.specs.declared.finding.Finding.{Finding}
use Rattle.rule_core.specs.declared.verdict.Verdict.{Verdict}
use Rattle.rule_core.specs.Findings.{met, failed, verdict_of}
use Rattle.rule_core.specs.Infos.{atomic}
use Rattle.rule_sights.specs.Nodes.{said_where}
use Rattle.rules_names.specs.Elements.{is_html_element, is_img}
use Rattle.rules_names.specs.RoleAndName.{role_word}

-- an HTML element of which the first known role that its attribute `role` names is none or presentation
abbrev pub is_marked_by_role : Row → Bool
is_marked_by_role row = is_html_element row && is_decoration (named_role row)

-- an HTML `img` whose `role` is blank, and whose `alt` is there and has no character
abbrev pub is_marked_image : Row → Bool
is_marked_image row = is_img row && (is_blank_at attribute.RoleAttr row && is_empty_text (attr attribute.Alt row))

abbrev pub is_marked : Row → Bool
is_marked row = is_marked_by_role row || is_marked_image row

-- the element is of use to someone: it is focusable, or has a global attribute
abbrev pub is_of_use : Row → Bool
is_of_use row = is_focusable row.facts || has_global row

abbrev pub marked_finding : Above → Row → Finding
marked_finding above row = if exposed above row && is_of_use row then failed MarkedExposed else met

-- the evidence is the role that it has all the same, or `-`
abbrev pub marked_verdict : Above → Row → Option Verdict
marked_verdict above row = Some (verdict_of (marked_finding above row) (role_word (role_at above row)))

-- element marked as decorative is not exposed
abbrev pub decorative_is_not_exposed : Document → NodeId → Option Verdict
decorative_is_not_exposed = said_where is_marked marked_verdict

-- the targets of the rule
abbrev pub decorative_is_not_exposed_target : Above → Row → Bool
decorative_is_not_exposed_target above row = is_marked row

abbrev pub decorative_is_not_exposed_info : RuleInfo
decorative_is_not_exposed_info = atomic 38 (codes "46ca7f") SelfOnly SelfOnly
