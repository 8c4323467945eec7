-- What stands inside an element whose role makes its children presentational (WAI-ARIA 1.2, "Presentational Children").
use Rattle.std.specs.Prelude.{◌&&◌, Bool, List, [], ◌∷◌, codes, if◌then◌else◌, Option, Some, None, option_and_then}
use Rattle.snap_tree.specs.declared.row.NodeId.{NodeId}
use Rattle.snap_tree.specs.declared.row.Row.{Row}
use Rattle.snap_tree.specs.Trees.{Trees, Document, rows_of}
use Rattle.aria_tables.specs.declared.role.Role.{Role}
use Rattle.aria_tables.specs.declared.role.Role.TheVariants as role
use Rattle.acc_tree.specs.declared.above.Above.{Above}
use Rattle.acc_tree.specs.Inclusion.{included}
use Rattle.acc_tree.specs.Seen.{seen}
use Rattle.acc_tree.specs.Sights.{Sight}
use Rattle.rule_core.specs.declared.info.RuleInfo.{RuleInfo}
use Rattle.rule_core.specs.declared.info.Class.TheVariants.{SelfOnly, Sub}
use Rattle.rule_core.specs.declared.verdict.Verdict.{Verdict}
use Rattle.rule_core.specs.Findings.{verdict_of}
use Rattle.rule_core.specs.Infos.{atomic}
use Rattle.rule_sights.specs.Nodes.{sight_as}
use Rattle.rule_sights.specs.Targets.{is_as}
use Rattle.rules_aria.specs.AriaHidden.{stops_among, focus_finding, number_words}

-- the roles whose children are presentational
abbrev pub presentational_roles : List Role
presentational_roles =
    role.Button ∷ role.Checkbox ∷ role.Img ∷ role.Menuitemcheckbox ∷ role.Menuitemradio ∷ role.Meter ∷ role.OptionRole ∷
    role.Progressbar ∷ role.Radio ∷ role.Scrollbar ∷ role.Separator ∷ role.Slider ∷ role.Switch ∷ role.Tab ∷ []

-- the nodes below at which the Tab key stops, in document order
abbrev pub stops_below : Trees → List NodeId
stops_below trees = stops_among (rows_of trees)

-- the target is included; the evidence is the numbers of the nodes that the Tab key reaches below it
abbrev pub holder_verdict : Sight → Option Verdict
holder_verdict s =
    if included s.above s.row then Some (verdict_of (focus_finding (stops_below s.below)) (number_words (stops_below s.below))) else None

-- element with presentational children has no focusable content: the targets are of such a role
abbrev pub presentational_holds_no_focus : Document → NodeId → Option Verdict
presentational_holds_no_focus page n = option_and_then holder_verdict (sight_as presentational_roles (seen page.trees) n)

-- the targets of the rule
abbrev pub presentational_holds_no_focus_target : Above → Row → Bool
presentational_holds_no_focus_target above row = is_as presentational_roles above row && included above row

abbrev pub presentational_holds_no_focus_info : RuleInfo
presentational_holds_no_focus_info = atomic 39 (codes "307n5z") SelfOnly Sub
