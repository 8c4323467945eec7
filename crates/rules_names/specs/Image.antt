-- Names of images.
use Rattle.std.specs.Prelude.{◌&&◌, ◌||◌, ℕ, List, [], ◌∷◌, codes, Bool, if◌then◌else◌, Option, Some}
use Rattle.snap_tree.specs.declared.row.NodeId.{NodeId}
use Rattle.snap_tree.specs.declared.row.Row.{Row}
use Rattle.snap_tree.specs.Trees.{Document}
use Rattle.aria_tables.specs.declared.role.Role.{Role}
use Rattle.aria_tables.specs.declared.role.Role.TheVariants as role
use Rattle.acc_tree.specs.declared.above.Above.{Above}
use Rattle.acc_tree.specs.Inclusion.{exposed, included}
use Rattle.acc_tree.specs.Roles.{decorative, is_decoration}
use Rattle.rule_core.specs.declared.info.RuleInfo.{RuleInfo}
use Rattle.rule_core.specs.declared.info.Class.TheVariants.{SelfOnly, Sub}
use Rattle.rule_core.specs.declared.reason.Reason.TheVariants.{Decorative}
use Rattle.rule_core.specs.declared.finding.Finding.{Finding}
use Rattle.rule_core.specs.declared.verdict.Verdict.{Verdict}
use Rattle.rule_core.specs.Findings.{passed}
use Rattle.rule_core.specs.Infos.{atomic}
use Rattle.rules_names.specs.Elements.{is_html_element, is_img}
use Rattle.rules_names.specs.Named.{named_verdict, name_finding, said_of_roles}
use Rattle.rule_sights.specs.Targets.{is_as}

-- an HTML element in the accessibility tree: one of role img then, since no other of these is included
abbrev pub is_included_image : Above → Row → Bool
is_included_image above row = is_html_element row && included above row

-- an `img` of role none or presentation that is exposed all the same
abbrev pub is_decorative_image : Above → Row → Bool
is_decorative_image above row = is_img row && (exposed above row && decorative above row)

abbrev pub is_image_target : Above → Row → Bool
is_image_target above row = is_included_image above row || is_decorative_image above row

-- a decorative image wants no name
abbrev pub image_finding : Option Role → List ℕ → Finding
image_finding role name = if is_decoration role then passed Decorative else name_finding name

abbrev pub image_verdict : Option Role → List ℕ → Option Verdict
image_verdict role name = Some (named_verdict (image_finding role name) role name)

-- image has non-empty accessible name: the targets are of role img, none or presentation
abbrev pub image_has_name : Document → NodeId → Option Verdict
image_has_name = said_of_roles (role.Img ∷ role.NoneRole ∷ role.Presentation ∷ []) is_image_target image_verdict

-- the targets of the rule
abbrev pub image_has_name_target : Above → Row → Bool
image_has_name_target above row = is_as (role.Img ∷ role.NoneRole ∷ role.Presentation ∷ []) above row && is_image_target above row

abbrev pub image_has_name_info : RuleInfo
image_has_name_info = atomic 10 (codes "23a2a8") SelfOnly Sub
