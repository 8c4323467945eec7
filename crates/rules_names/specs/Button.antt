-- Names of buttons.
use Rattle.std.specs.Prelude.{◌&&◌, not, [], ◌∷◌, codes, Bool, Option}
use Rattle.snap_tree.specs.declared.row.NodeId.{NodeId}
use Rattle.snap_tree.specs.declared.row.Row.{Row}
use Rattle.snap_tree.specs.Trees.{Document}
use Rattle.aria_tables.specs.declared.role.Role.TheVariants as role
use Rattle.acc_tree.specs.declared.above.Above.{Above}
use Rattle.acc_tree.specs.Inclusion.{included}
use Rattle.rule_core.specs.declared.info.RuleInfo.{RuleInfo}
use Rattle.rule_core.specs.declared.info.Class.TheVariants.{SelfOnly, Sub}
use Rattle.rule_core.specs.declared.verdict.Verdict.{Verdict}
use Rattle.rule_core.specs.Infos.{atomic}
use Rattle.rules_names.specs.Elements.{is_image_input}
use Rattle.rules_names.specs.Named.{wants_name, said_of_roles}
use Rattle.rule_sights.specs.Targets.{is_as}

-- included, and no `input` of type image, of which another rule speaks
abbrev pub is_button_target : Above → Row → Bool
is_button_target above row = not (is_image_input row) && included above row

-- button has non-empty accessible name: the targets are of role button
abbrev pub button_has_name : Document → NodeId → Option Verdict
button_has_name = said_of_roles (role.Button ∷ []) is_button_target wants_name

-- the targets of the rule
abbrev pub button_has_name_target : Above → Row → Bool
button_has_name_target above row = is_as (role.Button ∷ []) above row && is_button_target above row

abbrev pub button_has_name_info : RuleInfo
button_has_name_info = atomic 8 (codes "97a4e1") SelfOnly Sub
