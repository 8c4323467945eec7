-- Names of form fields.
use Rattle.std.specs.Prelude.{◌&&◌, Bool, List, [], ◌∷◌, codes, Option}
use Rattle.snap_tree.specs.declared.row.NodeId.{NodeId}
use Rattle.snap_tree.specs.Trees.{Document}
use Rattle.aria_tables.specs.declared.role.Role.{Role}
use Rattle.aria_tables.specs.declared.role.Role.TheVariants as role
use Rattle.acc_tree.specs.Inclusion.{included}
use Rattle.rule_core.specs.declared.info.RuleInfo.{RuleInfo}
use Rattle.rule_core.specs.declared.info.Class.TheVariants.{SelfOnly, Sub}
use Rattle.rule_core.specs.declared.verdict.Verdict.{Verdict}
use Rattle.rule_core.specs.Infos.{atomic}
use Rattle.rules_names.specs.Named.{wants_name, said_of_roles}
use Rattle.acc_tree.specs.declared.above.Above.{Above}
use Rattle.snap_tree.specs.declared.row.Row.{Row}
use Rattle.rule_sights.specs.Targets.{is_as}

-- the roles of form fields
abbrev pub form_fields : List Role
form_fields =
    role.Checkbox ∷ role.Combobox ∷ role.Listbox ∷ role.Menuitemcheckbox ∷ role.Menuitemradio ∷ role.Radio ∷
    role.Searchbox ∷ role.Slider ∷ role.Spinbutton ∷ role.Switch ∷ role.Textbox ∷ []

-- form field has non-empty accessible name: the targets are included
abbrev pub form_field_has_name : Document → NodeId → Option Verdict
form_field_has_name = said_of_roles form_fields included wants_name

-- the targets of the rule
abbrev pub form_field_has_name_target : Above → Row → Bool
form_field_has_name_target above row = is_as form_fields above row && included above row

abbrev pub form_field_has_name_info : RuleInfo
form_field_has_name_info = atomic 12 (codes "e086e5") SelfOnly Sub
