-- Which values ARIA attributes may have, and what their references find.
use Rattle.std.specs.Prelude.{◌&&◌, ◌==◌, not, ℕ, List, codes, length, Bool, false, if◌then◌else◌, Option, Some, None}
use Rattle.std.specs.Option.{is_some, option_map_or}
use Rattle.std.specs.List.{list_any}
use Rattle.snap_tree.specs.declared.row.NodeId.{NodeId}
use Rattle.snap_tree.specs.declared.row.Attr.{Attr}
use Rattle.snap_tree.specs.declared.row.Row.{Row}
use Rattle.snap_tree.specs.Trees.{Document}
use Rattle.texts.specs.Words.{blank, words}
use Rattle.aria_tables.specs.declared.attr.AriaAttr.{AriaAttr}
use Rattle.aria_tables.specs.Attributes.{attr_of, is_reference}
use Rattle.aria_tables.specs.Values.{value_ok}
use Rattle.acc_tree.specs.declared.above.Above.{Above}
use Rattle.acc_tree.specs.Inclusion.{exposed}
use Rattle.acc_tree.specs.References.{found}
use Rattle.acc_tree.specs.Seen.{seen, aria_attrs}
use Rattle.rule_core.specs.declared.info.RuleInfo.{RuleInfo}
use Rattle.rule_core.specs.declared.info.Class.TheVariants.{SelfOnly, Sub}
use Rattle.rule_core.specs.declared.reason.Reason.TheVariants.{BadValue, DeadReference}
use Rattle.rule_core.specs.declared.finding.Finding.{Finding}
use Rattle.rule_core.specs.declared.verdict.Verdict.{Verdict}
use Rattle.rule_core.specs.Infos.{atomic}
use Rattle.rule_core.specs.Findings.{met, failed, verdict_of}
use Rattle.rules_aria.specs.AriaLines.{aria_lines}
use Rattle.rule_sights.specs.Nodes.{said_where}

-- the known attribute that an attribute is, where its value isn't blank
abbrev pub filled_attr : Attr → Option AriaAttr
filled_attr a = if blank a.value then None else attr_of a.name

-- the value isn't of its attribute's kind
abbrev pub is_bad : Attr → Bool
is_bad a = option_map_or (λ known. not (value_ok known a.value)) (filled_attr a) false

-- the attribute refers to elements, and no token of its value is the id of one; what words find is given
abbrev pub is_dead : (List (List ℕ) → List NodeId) → Attr → Bool
is_dead finds a = option_map_or (λ known. is_reference known && length (finds (words a.value)) == 0) (filled_attr a) false

-- it fails where a value isn't of its kind, or a reference is dead
abbrev pub value_finding : (List (List ℕ) → List NodeId) → List Attr → Finding
value_finding finds attrs =
    if list_any is_bad attrs then failed BadValue
    else (if list_any (is_dead finds) attrs then failed DeadReference else met)

abbrev pub has_filled : Row → Bool
has_filled row = list_any (λ a. is_some (filled_attr a)) (aria_attrs row)

-- the target is an exposed element with a known attribute that isn't blank; the evidence is the lines of all
-- its ARIA attributes
abbrev pub value_verdict : (List (List ℕ) → List NodeId) → Above → Row → Option Verdict
value_verdict finds above row =
    if exposed above row then Some (verdict_of (value_finding finds (aria_attrs row)) (aria_lines row)) else None

-- ARIA state or property has valid value
abbrev pub aria_value_is_valid : Document → NodeId → Option Verdict
aria_value_is_valid page = said_where has_filled (value_verdict (found (seen page.trees))) page

-- the targets of the rule
abbrev pub aria_value_is_valid_target : Above → Row → Bool
aria_value_is_valid_target above row = has_filled row && exposed above row

abbrev pub aria_value_is_valid_info : RuleInfo
aria_value_is_valid_info = atomic 20 (codes "6a7281") SelfOnly Sub
