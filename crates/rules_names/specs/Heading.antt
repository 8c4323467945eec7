-- Names of headings.
use Rattle.std.specs.Prelude.{◌&&◌, Bool, [], ◌∷◌, codes, Option}
use Rattle.snap_tree.specs.declared.row.NodeId.{NodeId}
use Rattle.snap_tree.specs.Trees.{Document}
use Rattle.aria_tables.specs.declared.role.Role.TheVariants as role
use Rattle.acc_tree.specs.Inclusion.{included}
use Rattle.rule_core.specs.declared.info.RuleInfo.{RuleInfo}
use Rattle.rule_core.specs.declared.info.Class.TheVariants.{SelfOnly, Sub}
use Rattle.rule_core.specs.declared.verdict.Verdict.{Verdict}
use Rattle.rule_core.specs.Infos.{atomic}
use Rattle.rules_names.specs.Named.{wants_name, said_of_roles}
use Rattle.acc_tree.specs.declared.above.Above.{Above}
use Rattle.snap_tree.specs.declared.row.Row.{Row}
use Rattle.rule_sights.specs.Targets.{is_as}

-- heading has non-empty accessible name: the targets are included, and of role heading
abbrev pub heading_has_name : Document → NodeId → Option Verdict
heading_has_name = said_of_roles (role.Heading ∷ []) included wants_name

-- the targets of the rule
abbrev pub heading_has_name_target : Above → Row → Bool
heading_has_name_target above row = is_as (role.Heading ∷ []) above row && included above row

abbrev pub heading_has_name_info : RuleInfo
heading_has_name_info = atomic 14 (codes "ffd0e9") SelfOnly Sub
