-- What the names of images say.
use Rattle.std.specs.Prelude.{◌&&◌, Bool, ℕ, List, [], ◌∷◌, codes, Option}
use Rattle.snap_tree.specs.declared.row.NodeId.{NodeId}
use Rattle.snap_tree.specs.declared.row.Row.{Row}
use Rattle.snap_tree.specs.Trees.{Document}
use Rattle.aria_tables.specs.declared.role.Role.TheVariants as role
use Rattle.acc_tree.specs.declared.above.Above.{Above}
use Rattle.rule_core.specs.declared.info.RuleInfo.{RuleInfo}
use Rattle.rule_core.specs.declared.info.Class.TheVariants.{Sub}
use Rattle.rule_core.specs.declared.reason.Reason.TheVariants.{JudgeImage}
use Rattle.rule_core.specs.declared.verdict.Verdict.{Verdict}
use Rattle.rule_core.specs.Infos.{atomic}
use Rattle.rule_sights.specs.Targets.{is_as}
use Rattle.rules_names.specs.Image.{is_included_image}
use Rattle.rules_names.specs.Named.{asks_a_person, says_something, said_of_roles}

-- image accessible name is descriptive: the targets are included HTML elements of role img that have a name, which a
-- person has to judge
abbrev pub image_is_descriptive : Document → NodeId → Option Verdict
image_is_descriptive = said_of_roles (role.Img ∷ []) is_included_image (asks_a_person JudgeImage)

-- the targets of the rule, where the node has this name
abbrev pub image_is_descriptive_target : List ℕ → Above → Row → Bool
image_is_descriptive_target name above row = is_as (role.Img ∷ []) above row && (is_included_image above row && says_something name)

abbrev pub image_is_descriptive_info : RuleInfo
image_is_descriptive_info = atomic 34 (codes "qt1vmo") Sub Sub
