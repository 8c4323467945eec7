-- Which ARIA attributes are defined.
use Rattle.std.specs.Prelude.{◌&&◌, not, List, [], ◌∷◌, codes, Bool, if◌then◌else◌, Option, Some, None, true, false}
use Rattle.std.specs.Option.{is_none}
use Rattle.std.specs.List.{list_any}
use Rattle.snap_tree.specs.declared.row.NodeId.{NodeId}
use Rattle.snap_tree.specs.declared.row.Attr.{Attr}
use Rattle.snap_tree.specs.declared.row.Row.{Row}
use Rattle.snap_tree.specs.Trees.{Document}
use Rattle.aria_tables.specs.Attributes.{attr_of, is_later}
use Rattle.acc_tree.specs.Seen.{aria_attrs}
use Rattle.rule_core.specs.declared.info.RuleInfo.{RuleInfo}
use Rattle.rule_core.specs.declared.info.Class.TheVariants.{SelfOnly}
use Rattle.rule_core.specs.declared.reason.Reason.TheVariants.{UnknownAttr, LaterAttr}
use Rattle.rule_core.specs.declared.finding.Finding.{Finding}
use Rattle.rule_core.specs.declared.verdict.Verdict.{Verdict}
use Rattle.rule_core.specs.Infos.{atomic}
use Rattle.rule_core.specs.Findings.{met, failed, cant_tell, verdict_of}
use Rattle.rules_aria.specs.AriaLines.{aria_lines}
use Rattle.rule_sights.specs.Nodes.{said_alone}
use Rattle.acc_tree.specs.declared.above.Above.{Above}

-- in neither list: not known, and not of a later edition
abbrev pub is_unknown : Attr → Bool
is_unknown a = is_none (attr_of a.name) && not (is_later a.name)

abbrev pub attribute_finding : List Attr → Finding
attribute_finding attrs =
    if list_any is_unknown attrs then failed UnknownAttr
    else (if list_any (λ a. is_later a.name) attrs then cant_tell LaterAttr else met)

-- the target is an element with an attribute whose name begins `aria-`; the evidence is the lines of those
abbrev pub attribute_verdict : Row → Option Verdict
attribute_verdict row = by_attributes (aria_attrs row)
  where
    by_attributes : List Attr → Option Verdict
    by_attributes [] = None
    by_attributes (a ∷ attrs) = Some (verdict_of (attribute_finding (aria_attrs row)) (aria_lines row))

-- ARIA attribute is defined in WAI-ARIA
abbrev pub aria_attribute_is_defined : Document → NodeId → Option Verdict
aria_attribute_is_defined = said_alone attribute_verdict

abbrev pub has_some : List Attr → Bool
has_some [] = false
has_some (a ∷ attrs) = true

-- the targets of the rule
abbrev pub aria_attribute_is_defined_target : Above → Row → Bool
aria_attribute_is_defined_target above row = has_some (aria_attrs row)

abbrev pub aria_attribute_is_defined_info : RuleInfo
aria_attribute_is_defined_info = atomic 19 (codes "5f99a7") SelfOnly SelfOnly
