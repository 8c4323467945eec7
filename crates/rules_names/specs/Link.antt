-- Names of links.
use Rattle.std.specs.Prelude.{◌&&◌, [], ◌∷◌, codes, Bool, Option}
use Rattle.snap_tree.specs.declared.row.NodeId.{NodeId}
use Rattle.snap_tree.specs.declared.row.Row.{Row}
use Rattle.snap_tree.specs.Trees.{Document}
use Rattle.aria_tables.specs.declared.role.Role.TheVariants as role
use Rattle.acc_tree.specs.declared.above.Above.{Above}
use Rattle.acc_tree.specs.Inclusion.{included}
use Rattle.rule_core.specs.declared.info.RuleInfo.{RuleInfo}
use Rattle.rule_core.specs.declared.info.Class.TheVariants.{SelfOnly, Sub}
use Rattle.rule_core.specs.declared.verdict.Verdict.{Verdict}
use Rattle.rule_core.specs.Infos.{atomic}
use Rattle.rules_names.specs.Elements.{is_html_element}
use Rattle.rules_names.specs.Named.{wants_name, said_of_roles}
use Rattle.rule_sights.specs.Targets.{is_as}

-- an included HTML element
abbrev pub is_link_target : Above → Row → Bool
is_link_target above row = is_html_element row && included above row

-- link has non-empty accessible name: the targets are of role link
abbrev pub link_has_name : Document → NodeId → Option Verdict
link_has_name = said_of_roles (role.Link ∷ []) is_link_target wants_name

-- the targets of the rule
abbrev pub link_has_name_target : Above → Row → Bool
link_has_name_target above row = is_as (role.Link ∷ []) above row && is_link_target above row

abbrev pub link_has_name_info : RuleInfo
link_has_name_info = atomic 9 (codes "c487ae") SelfOnly Sub
