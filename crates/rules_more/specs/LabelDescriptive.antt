-- What the labels of form fields say.
use Rattle.std.specs.Prelude.{◌&&◌, Bool, true, false, ℕ, List, codes, if◌then◌else◌, Option, None}
use Rattle.snap_tree.specs.declared.row.NodeId.{NodeId}
use Rattle.snap_tree.specs.declared.row.Row.{Row}
use Rattle.snap_tree.specs.Trees.{Document}
use Rattle.aria_tables.specs.declared.role.Role.{Role}
use Rattle.acc_tree.specs.declared.above.Above.{Above}
use Rattle.acc_tree.specs.Inclusion.{included}
use Rattle.acc_tree.specs.Seen.{seen}
use Rattle.acc_name.specs.declared.named.Name.{Name}
use Rattle.acc_name.specs.declared.named.NameSource.{NameSource}
use Rattle.acc_name.specs.declared.named.NameSource.TheVariants as source
use Rattle.acc_name.specs.Names.{name_of}
use Rattle.rule_core.specs.declared.info.RuleInfo.{RuleInfo}
use Rattle.rule_core.specs.declared.info.Class.TheVariants.{Sub}
use Rattle.rule_core.specs.declared.reason.Reason.TheVariants.{JudgeLabel}
use Rattle.rule_core.specs.declared.verdict.Verdict.{Verdict}
use Rattle.rule_core.specs.Infos.{atomic}
use Rattle.rule_sights.specs.Targets.{is_as}
use Rattle.rules_names.specs.FormField.{form_fields}
use Rattle.rules_names.specs.Named.{asks_a_person, says_something, said_of_roles}

-- the name is of what aria-labelledby names, or of labels of HTML
abbrev pub is_of_label : NameSource → Bool
is_of_label source.LabelledBy = true
is_of_label source.HostLabel = true
is_of_label _ = false

-- a person has to judge a label that is there
abbrev pub label_verdict : NameSource → Option Role → List ℕ → Option Verdict
label_verdict source role name = if is_of_label source then asks_a_person JudgeLabel role name else None

-- form field label is descriptive: the targets are included, of a form field's role, and named by a label
abbrev pub label_is_descriptive : Document → NodeId → Option Verdict
label_is_descriptive page n = said_of_roles form_fields included (label_verdict (name_of (seen page.trees) n).source) page n

-- the targets of the rule, where the node has this name
abbrev pub label_is_descriptive_target : Name → Above → Row → Bool
label_is_descriptive_target name above row =
    is_as form_fields above row && (included above row && (is_of_label name.source && says_something name.text))

abbrev pub label_is_descriptive_info : RuleInfo
label_is_descriptive_info = atomic 33 (codes "cc0f0a") Sub Sub
