-- Names of images in SVG.
use Rattle.std.specs.Prelude.{◌&&◌, codes, Bool, true, false, Option, Some}
use Rattle.snap_tree.specs.declared.row.NodeId.{NodeId}
use Rattle.snap_tree.specs.declared.row.Row.{Row}
use Rattle.snap_tree.specs.Trees.{Document}
use Rattle.aria_tables.specs.declared.role.Role.{Role}
use Rattle.aria_tables.specs.declared.role.Role.TheVariants as role
use Rattle.acc_tree.specs.declared.above.Above.{Above}
use Rattle.acc_tree.specs.declared.attributes.Attribute.TheVariants as attribute
use Rattle.acc_tree.specs.Inclusion.{included}
use Rattle.acc_tree.specs.Roles.{explicit}
use Rattle.acc_tree.specs.Seen.{has}
use Rattle.rule_core.specs.declared.info.RuleInfo.{RuleInfo}
use Rattle.rule_core.specs.declared.info.Class.TheVariants.{SelfOnly, Sub}
use Rattle.rule_core.specs.declared.verdict.Verdict.{Verdict}
use Rattle.rule_core.specs.Infos.{atomic}
use Rattle.rules_names.specs.Elements.{is_svg_element}
use Rattle.rules_names.specs.Named.{wants_name, said_of_rows}

abbrev pub is_image_role : Option Role → Bool
is_image_role (Some role.Img) = true
is_image_role _ = false

-- an included element of SVG whose explicit role is img
abbrev pub is_svg_image_target : Above → Row → Bool
is_svg_image_target above row = is_svg_element row && (is_image_role (explicit row) && included above row)

-- svg element with explicit role has non-empty accessible name: the targets have a role attribute
abbrev pub svg_image_has_name : Document → NodeId → Option Verdict
svg_image_has_name = said_of_rows (has attribute.RoleAttr) is_svg_image_target wants_name

-- the targets of the rule
abbrev pub svg_image_has_name_target : Above → Row → Bool
svg_image_has_name_target above row = has attribute.RoleAttr row && is_svg_image_target above row

abbrev pub svg_image_has_name_info : RuleInfo
svg_image_has_name_info = atomic 15 (codes "7d6734") SelfOnly Sub
