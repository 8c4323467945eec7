-- Names of image buttons.
use Rattle.std.specs.Prelude.{◌&&◌, codes, Bool, Option}
use Rattle.snap_tree.specs.declared.row.NodeId.{NodeId}
use Rattle.snap_tree.specs.declared.row.Row.{Row}
use Rattle.snap_tree.specs.Trees.{Document}
use Rattle.acc_tree.specs.declared.above.Above.{Above}
use Rattle.acc_tree.specs.declared.attributes.Attribute.TheVariants as attribute
use Rattle.acc_tree.specs.Inclusion.{included}
use Rattle.acc_tree.specs.Seen.{has}
use Rattle.rule_core.specs.declared.info.RuleInfo.{RuleInfo}
use Rattle.rule_core.specs.declared.info.Class.TheVariants.{SelfOnly, Sub}
use Rattle.rule_core.specs.declared.verdict.Verdict.{Verdict}
use Rattle.rule_core.specs.Infos.{atomic}
use Rattle.rules_names.specs.Elements.{is_image_input}
use Rattle.rules_names.specs.Named.{wants_name, said_of_rows}

-- an included `input` of type image
abbrev pub is_image_button_target : Above → Row → Bool
is_image_button_target above row = is_image_input row && included above row

-- image button has non-empty accessible name: the targets have a type
abbrev pub image_button_has_name : Document → NodeId → Option Verdict
image_button_has_name = said_of_rows (has attribute.TypeAttr) is_image_button_target wants_name

-- the targets of the rule
abbrev pub image_button_has_name_target : Above → Row → Bool
image_button_has_name_target above row = has attribute.TypeAttr row && is_image_button_target above row

abbrev pub image_button_has_name_info : RuleInfo
image_button_has_name_info = atomic 11 (codes "59796f") SelfOnly Sub
