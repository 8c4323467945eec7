-- What stands inside an element with aria-hidden.
use Rattle.std.specs.Prelude.{◌&&◌, Bool, ℕ, List, [], ◌∷◌, map, filter, codes, decimal, if◌then◌else◌, Option, Some, None}
use Rattle.std.specs.List.{join_with_byte}
use Rattle.snap_tree.specs.declared.row.NodeId.{NodeId}
use Rattle.snap_tree.specs.declared.row.Row.{Row}
use Rattle.snap_tree.specs.Trees.{Document, rows_of}
use Rattle.aria_tables.specs.declared.attr.AriaAttr.TheVariants as aria
use Rattle.acc_tree.specs.declared.attributes.Attribute.TheVariants as attribute
use Rattle.acc_tree.specs.Inclusion.{is_hidden}
use Rattle.acc_tree.specs.Seen.{has}
use Rattle.acc_tree.specs.Sights.{Sight}
use Rattle.rule_core.specs.declared.info.RuleInfo.{RuleInfo}
use Rattle.rule_core.specs.declared.info.Class.TheVariants.{SelfOnly, Sub}
use Rattle.rule_core.specs.declared.reason.Reason.TheVariants.{FocusableInside}
use Rattle.rule_core.specs.declared.finding.Finding.{Finding}
use Rattle.rule_core.specs.declared.verdict.Verdict.{Verdict}
use Rattle.rule_core.specs.Infos.{atomic}
use Rattle.rule_core.specs.Findings.{met, failed, verdict_of}
use Rattle.rule_sights.specs.Nodes.{said_below}
use Rattle.acc_tree.specs.declared.above.Above.{Above}

-- the node and those below it at which the Tab key stops, in document order
abbrev pub stops_among : List Row → List NodeId
stops_among rows = map (λ row. row.id) (filter (λ row. row.facts.tabbable) rows)

abbrev pub stops : Sight → List NodeId
stops s = stops_among (s.row ∷ rows_of s.below)

abbrev pub focus_finding : List NodeId → Finding
focus_finding [] = met
focus_finding (n ∷ nodes) = failed FocusableInside

-- numbers in decimal, with one space between
abbrev pub number_words : List NodeId → List ℕ
number_words nodes = join_with_byte 32 (map (λ n. decimal n.0) nodes)

-- the target is an element with aria-hidden `true`; the evidence is the numbers of the nodes that the Tab
-- key reaches in it
abbrev pub hidden_verdict : Sight → Option Verdict
hidden_verdict s = if is_hidden s.row then Some (verdict_of (focus_finding (stops s)) (number_words (stops s))) else None

-- element with aria-hidden has no content in sequential focus navigation
abbrev pub hidden_holds_no_focus : Document → NodeId → Option Verdict
hidden_holds_no_focus = said_below (has (attribute.Aria aria.Hidden)) hidden_verdict

-- the targets of the rule
abbrev pub hidden_holds_no_focus_target : Above → Row → Bool
hidden_holds_no_focus_target above row = has (attribute.Aria aria.Hidden) row && is_hidden row

abbrev pub hidden_holds_no_focus_info : RuleInfo
hidden_holds_no_focus_info = atomic 23 (codes "6cfa84") SelfOnly Sub
