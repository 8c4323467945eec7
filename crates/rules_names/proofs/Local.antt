-- Each rule on names has a verdict exactly where the node is a target, and is local.
use Rattle.std.proofs.Common.{◌≡◌, ◌&&◌, ℕ, List, [], ◌∷◌, Bool, true, false, cond, codes, Option, Some, None, refl, ap, ◌∙◌}
use Rattle.std.specs.Option.{is_some}
use Rattle.aria_tables.specs.declared.role.Role.{Role}
use Rattle.aria_tables.specs.declared.role.Role.TheVariants as role
use Rattle.snap_tree.specs.declared.row.NodeId.{NodeId}
use Rattle.snap_tree.specs.declared.row.Row.{Row}
use Rattle.snap_tree.specs.Rows.{is_html}
use Rattle.snap_tree.specs.Trees.{Document}
use Rattle.acc_tree.specs.declared.above.Above.{Above}
use Rattle.acc_tree.specs.declared.attributes.Attribute.TheVariants as attribute
use Rattle.acc_tree.specs.Inclusion.{included}
use Rattle.acc_tree.specs.Roles.{role_at}
use Rattle.acc_tree.specs.Seen.{seen, has}
use Rattle.acc_tree.specs.Sights.{Sight}
use Rattle.acc_name.specs.Names.{name_of}
use Rattle.rule_core.specs.declared.reason.Reason.{Reason}
use Rattle.rule_core.specs.declared.reason.Reason.TheVariants.{JudgeHeading}
use Rattle.rule_core.specs.declared.verdict.Verdict.{Verdict}
use Rattle.rule_core.specs.Local.{IsLocal}
use Rattle.rule_sights.specs.Targets.{is_as, JudgesRows}
use Rattle.rule_sights.proofs.Judging.{judged_of_rows, judged_of_roles}
use Rattle.rules_names.specs.Named.{wants_name, asks_a_person, says_something, of_target, said_of_roles, said_of_rows}
use Rattle.rules_names.specs.Button.{is_button_target, button_has_name, button_has_name_target, button_has_name_info}
use Rattle.rules_names.specs.Link.{is_link_target, link_has_name, link_has_name_target, link_has_name_info}
use Rattle.rules_names.specs.Image.{is_image_target, image_verdict, image_has_name, image_has_name_target, image_has_name_info}
use Rattle.rules_names.specs.ImageButton.{is_image_button_target, image_button_has_name, image_button_has_name_target, image_button_has_name_info}
use Rattle.rules_names.specs.FormField.{form_fields, form_field_has_name, form_field_has_name_target, form_field_has_name_info}
use Rattle.rules_names.specs.Iframe.{iframe_has_name, iframe_has_name_target, iframe_has_name_info}
use Rattle.rules_names.specs.Heading.{heading_has_name, heading_has_name_target, heading_has_name_info}
use Rattle.rules_names.specs.SvgImage.{is_svg_image_target, svg_image_has_name, svg_image_has_name_target, svg_image_has_name_info}
use Rattle.rules_names.specs.HeadingDescriptive.{heading_is_descriptive, heading_is_descriptive_target, heading_is_descriptive_info}
use Rattle.rules_names.proofs.Naming.{of_roles, of_rows, named_local, named_within}

-- a target that is said something of
pub said_if : (b c : Bool) (o : Option Verdict) → is_some o ≡ c → is_some (cond b o None) ≡ b && c
said_if true c o e = e
said_if false c o e = refl

-- the same, where something is said of every target
said_always : (b : Bool) (o : Option Verdict) → is_some o ≡ true → is_some (cond b o None) ≡ b
said_always true o e = e
said_always false o e = refl

pub judges_roles : (those : List Role) (is_target : Above → Row → Bool) (says : Option Role → List ℕ → Option Verdict) → ((r : Option Role) (name : List ℕ) → is_some (says r name) ≡ true)
    → (page : Document) (n : NodeId) → JudgesRows (said_of_roles those is_target says) (λ above row. is_as those above row && is_target above row) page n
judges_roles those is_target says told page n =
    judged_of_roles those (of_target is_target says (name_of (seen page.trees) n).text) (λ s. is_as those s.above s.row && is_target s.above s.row)
    (λ s. ap (λ b. is_as those s.above s.row && b) (said_always (is_target s.above s.row) (says (role_at s.above s.row) (name_of (seen page.trees) n).text) (told (role_at s.above s.row) (name_of (seen page.trees) n).text)))
    page.trees n

judges_rows : (passes : Row → Bool) (is_target : Above → Row → Bool) (says : Option Role → List ℕ → Option Verdict) → ((r : Option Role) (name : List ℕ) → is_some (says r name) ≡ true)
    → (page : Document) (n : NodeId) → JudgesRows (said_of_rows passes is_target says) (λ above row. passes row && is_target above row) page n
judges_rows passes is_target says told page n =
    judged_of_rows passes (of_target is_target says (name_of (seen page.trees) n).text) (λ s. passes s.row && is_target s.above s.row)
    (λ s. ap (λ b. passes s.row && b) (said_always (is_target s.above s.row) (says (role_at s.above s.row) (name_of (seen page.trees) n).text) (told (role_at s.above s.row) (name_of (seen page.trees) n).text)))
    page.trees n

pub buttons : (page : Document) (n : NodeId) → JudgesRows button_has_name button_has_name_target page n
buttons page n = judges_roles (role.Button ∷ []) is_button_target wants_name (λ r name. refl) page n

pub links : (page : Document) (n : NodeId) → JudgesRows link_has_name link_has_name_target page n
links page n = judges_roles (role.Link ∷ []) is_link_target wants_name (λ r name. refl) page n

pub images : (page : Document) (n : NodeId) → JudgesRows image_has_name image_has_name_target page n
images page n = judges_roles (role.Img ∷ role.NoneRole ∷ role.Presentation ∷ []) is_image_target image_verdict (λ r name. refl) page n

pub image_buttons : (page : Document) (n : NodeId) → JudgesRows image_button_has_name image_button_has_name_target page n
image_buttons page n = judges_rows (has attribute.TypeAttr) is_image_button_target wants_name (λ r name. refl) page n

pub fields : (page : Document) (n : NodeId) → JudgesRows form_field_has_name form_field_has_name_target page n
fields page n = judges_roles form_fields included wants_name (λ r name. refl) page n

pub iframes : (page : Document) (n : NodeId) → JudgesRows iframe_has_name iframe_has_name_target page n
iframes page n = judges_rows (is_html (codes "iframe")) included wants_name (λ r name. refl) page n

pub headings : (page : Document) (n : NodeId) → JudgesRows heading_has_name heading_has_name_target page n
headings page n = judges_roles (role.Heading ∷ []) included wants_name (λ r name. refl) page n

pub svg_images : (page : Document) (n : NodeId) → JudgesRows svg_image_has_name svg_image_has_name_target page n
svg_images page n = judges_rows (has attribute.RoleAttr) is_svg_image_target wants_name (λ r name. refl) page n

-- of an element that has a name a person is asked
pub asked : (reason : Reason) (r : Option Role) (name : List ℕ) → is_some (asks_a_person reason r name) ≡ says_something name
asked reason r [] = refl
asked reason r (b ∷ name) = refl

named : (name : List ℕ) (s : Sight) → is_as (role.Heading ∷ []) s.above s.row && is_some (of_target included (asks_a_person JudgeHeading) name s) ≡ heading_is_descriptive_target name s.above s.row
named name s =
    ap (λ b. is_as (role.Heading ∷ []) s.above s.row && b) (said_if (included s.above s.row) (says_something name) (asks_a_person JudgeHeading (role_at s.above s.row) name) (asked JudgeHeading (role_at s.above s.row) name))

pub descriptive : (page : Document) (n : NodeId) → JudgesRows heading_is_descriptive (heading_is_descriptive_target (name_of (seen page.trees) n).text) page n
descriptive page n =
    judged_of_roles (role.Heading ∷ []) (of_target included (asks_a_person JudgeHeading) (name_of (seen page.trees) n).text) (λ s. heading_is_descriptive_target (name_of (seen page.trees) n).text s.above s.row)
    (named (name_of (seen page.trees) n).text) page.trees n

-- ---- locality

pub button_local : IsLocal button_has_name_info button_has_name
button_local = named_local button_has_name_info refl refl (of_roles (role.Button ∷ []) is_button_target wants_name) button_has_name_target buttons

pub link_local : IsLocal link_has_name_info link_has_name
link_local = named_local link_has_name_info refl refl (of_roles (role.Link ∷ []) is_link_target wants_name) link_has_name_target links

pub image_local : IsLocal image_has_name_info image_has_name
image_local =
    named_local image_has_name_info refl refl (of_roles (role.Img ∷ role.NoneRole ∷ role.Presentation ∷ []) is_image_target image_verdict) image_has_name_target images

pub image_button_local : IsLocal image_button_has_name_info image_button_has_name
image_button_local =
    named_local image_button_has_name_info refl refl (of_rows (has attribute.TypeAttr) is_image_button_target wants_name) image_button_has_name_target image_buttons

pub form_field_local : IsLocal form_field_has_name_info form_field_has_name
form_field_local = named_local form_field_has_name_info refl refl (of_roles form_fields included wants_name) form_field_has_name_target fields

pub iframe_local : IsLocal iframe_has_name_info iframe_has_name
iframe_local = named_local iframe_has_name_info refl refl (of_rows (is_html (codes "iframe")) included wants_name) iframe_has_name_target iframes

pub heading_local : IsLocal heading_has_name_info heading_has_name
heading_local = named_local heading_has_name_info refl refl (of_roles (role.Heading ∷ []) included wants_name) heading_has_name_target headings

pub svg_image_local : IsLocal svg_image_has_name_info svg_image_has_name
svg_image_local =
    named_local svg_image_has_name_info refl refl (of_rows (has attribute.RoleAttr) is_svg_image_target wants_name) svg_image_has_name_target svg_images

pub descriptive_local : IsLocal heading_is_descriptive_info heading_is_descriptive
descriptive_local = named_within heading_is_descriptive_info refl refl (of_roles (role.Heading ∷ []) included (asks_a_person JudgeHeading))
