-- What headings say.
use Rattle.std.specs.Prelude.{◌&&◌, Bool, ℕ, List, [], ◌∷◌, codes, Option}
use Rattle.snap_tree.specs.declared.row.NodeId.{NodeId}
use Rattle.snap_tree.specs.Trees.{Document}
use Rattle.aria_tables.specs.declared.role.Role.TheVariants as role
use Rattle.acc_tree.specs.Inclusion.{included}
use Rattle.rule_core.specs.declared.info.RuleInfo.{RuleInfo}
use Rattle.rule_core.specs.declared.info.Class.TheVariants.{Sub}
use Rattle.rule_core.specs.declared.reason.Reason.TheVariants.{JudgeHeading}
use Rattle.rule_core.specs.declared.verdict.Verdict.{Verdict}
use Rattle.rule_core.specs.Infos.{atomic}
use Rattle.rules_names.specs.Named.{asks_a_person, says_something, said_of_roles}
use Rattle.acc_tree.specs.declared.above.Above.{Above}
use Rattle.snap_tree.specs.declared.row.Row.{Row}
use Rattle.rule_sights.specs.Targets.{is_as}

-- heading is descriptive: the targets are included, of role heading, and have a name, which a person has to judge
abbrev pub heading_is_descriptive : Document → NodeId → Option Verdict
heading_is_descriptive = said_of_roles (role.Heading ∷ []) included (asks_a_person JudgeHeading)

-- the targets of the rule, where the node has this name
abbrev pub heading_is_descriptive_target : List ℕ → Above → Row → Bool
heading_is_descriptive_target name above row = is_as (role.Heading ∷ []) above row && (included above row && says_something name)

abbrev pub heading_is_descriptive_info : RuleInfo
heading_is_descriptive_info = atomic 16 (codes "b49b2e") Sub Sub
