-- Names of menu items.
use Rattle.std.specs.Prelude.{◌&&◌, Bool, [], ◌∷◌, codes, Option}
use Rattle.snap_tree.specs.declared.row.NodeId.{NodeId}
use Rattle.snap_tree.specs.declared.row.Row.{Row}
use Rattle.snap_tree.specs.Trees.{Document}
use Rattle.aria_tables.specs.declared.role.Role.TheVariants as role
use Rattle.acc_tree.specs.declared.above.Above.{Above}
use Rattle.acc_tree.specs.Inclusion.{included}
use Rattle.rule_core.specs.declared.info.RuleInfo.{RuleInfo}
use Rattle.rule_core.specs.declared.info.Class.TheVariants.{SelfOnly, Sub}
use Rattle.rule_core.specs.declared.verdict.Verdict.{Verdict}
use Rattle.rule_core.specs.Infos.{atomic}
use Rattle.rule_sights.specs.Targets.{is_as}
use Rattle.rules_names.specs.Named.{wants_name, said_of_roles}

-- menuitem has non-empty accessible name: the targets are included, and of role menuitem
abbrev pub menuitem_has_name : Document → NodeId → Option Verdict
menuitem_has_name = said_of_roles (role.Menuitem ∷ []) included wants_name

-- the targets of the rule
abbrev pub menuitem_has_name_target : Above → Row → Bool
menuitem_has_name_target above row = is_as (role.Menuitem ∷ []) above row && included above row

abbrev pub menuitem_has_name_info : RuleInfo
menuitem_has_name_info = atomic 35 (codes "m6b1q3") SelfOnly Sub
