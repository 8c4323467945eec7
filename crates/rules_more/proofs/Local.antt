-- Each rule of the further ten has a verdict exactly where the node is a target, and is local.
use Rattle.std.proofs.Common.{◌≡◌, ◌&&◌, ℕ, List, [], ◌∷◌, Bool, true, false, refl, ap, option_and_then}
use Rattle.std.specs.Option.{is_some}
use Rattle.aria_tables.specs.declared.role.Role.TheVariants as role
use Rattle.snap_tree.specs.declared.row.NodeId.{NodeId}
use Rattle.snap_tree.specs.Trees.{Trees, Document, rows_of}
use Rattle.acc_tree.specs.declared.attributes.Attribute.TheVariants as attribute
use Rattle.acc_tree.specs.Following.{rows_above}
use Rattle.acc_tree.specs.Inclusion.{included}
use Rattle.acc_tree.specs.Roles.{explicit, role_at}
use Rattle.acc_tree.specs.Seen.{seen, has, text_at, aria_attrs}
use Rattle.acc_tree.specs.Sights.{Sight, sight_of}
use Rattle.acc_name.specs.declared.named.Name.{Name}
use Rattle.acc_name.specs.Names.{name_of}
use Rattle.rule_core.specs.declared.reason.Reason.TheVariants.{JudgeLabel, JudgeImage}
use Rattle.rule_core.specs.Findings.{verdict_of}
use Rattle.rule_core.specs.declared.info.Class.TheVariants.{SelfOnly, Sub}
use Rattle.rule_core.specs.Local.{IsLocal}
use Rattle.rule_sights.specs.Pages.{is_page_root}
use Rattle.rule_sights.specs.Targets.{is_as, JudgesRows, JudgesSights}
use Rattle.rule_sights.proofs.Judging.{verdict_if, verdict_of_some, judged_of_roles, judged_where, judged_below, judged_root}
use Rattle.rule_sights.specs.Nodes.{if_role}
use Rattle.rule_sights.proofs.Told.{sight_told}
use Rattle.rule_sights.proofs.Resting.{kept, kept_of_root, kept_where, by_applicability, by_rows}
use Rattle.rules_page.specs.Refresh.{page_has_no_delay_target}
use Rattle.rules_page.proofs.Local.{refreshing_by, refresh_kept}
use Rattle.rules_names.specs.FormField.{form_fields}
use Rattle.rules_names.specs.Image.{is_included_image}
use Rattle.rules_names.specs.Named.{wants_name, asks_a_person, says_something, of_target}
use Rattle.rules_names.proofs.Local.{said_if, asked, judges_roles}
use Rattle.rules_aria.specs.AriaHidden.{focus_finding, number_words}
use Rattle.rules_aria.specs.AriaLines.{aria_lines}
use Rattle.rules_more.specs.LanguagesMatch.{match_verdict, has_both, root_verdict, languages_match, languages_match_target, languages_match_info}
use Rattle.rules_more.specs.DelayAtAll.{delay_finding, page_never_delays, page_never_delays_info}
use Rattle.rules_more.specs.LabelDescriptive.{is_of_label, label_verdict, label_is_descriptive, label_is_descriptive_target, label_is_descriptive_info}
use Rattle.rules_more.specs.ImageDescriptive.{image_is_descriptive, image_is_descriptive_target, image_is_descriptive_info}
use Rattle.rules_more.specs.Menuitem.{menuitem_has_name, menuitem_has_name_target, menuitem_has_name_info}
use Rattle.rules_more.specs.PermittedState.{has_limited, permitted_finding, permitted_verdict, state_is_permitted, state_is_permitted_target, state_is_permitted_info}
use Rattle.rules_more.specs.RequiredContext.{context, context_verdict, is_context_target, said_in_context, stands_in_context, stands_in_context_target, stands_in_context_info}
use Rattle.rules_more.specs.MarkedDecorative.{is_marked, marked_verdict, decorative_is_not_exposed, decorative_is_not_exposed_target, decorative_is_not_exposed_info}
use Rattle.rules_more.specs.Presentational.{presentational_roles, stops_below, holder_verdict, presentational_holds_no_focus, presentational_holds_no_focus_target, presentational_holds_no_focus_info}
use Rattle.rules_more.specs.ShownText.{shown_text}
use Rattle.rules_more.specs.LabelInName.{label_verdict as label_in_name_verdict, labelled_roles, is_label_target, said_of_label, name_has_label, name_has_label_target, name_has_label_info}
use Rattle.rules_names.proofs.Naming.{of_roles, named_local, named_within}
use Rattle.rules_more.proofs.Trailing.{context_kept}

pub languages : (page : Document) (n : NodeId) → JudgesRows languages_match languages_match_target page n
languages page n =
    judged_root root_verdict (λ row. is_page_root row && has_both row)
    (λ row. ap (λ b. is_page_root row && b) (verdict_if (has_both row) (match_verdict (text_at attribute.Lang row) (text_at attribute.XmlLang row)))) page n

pub delays : (page : Document) (n : NodeId) → JudgesRows page_never_delays (page_has_no_delay_target (rows_of (seen page.trees))) page n
delays = refreshing_by delay_finding

-- ---- names

label_told : (name : Name) (s : Sight) → is_as form_fields s.above s.row && is_some (of_target included (label_verdict name.source) name.text s) ≡ label_is_descriptive_target name s.above s.row
label_told name s =
    let r = role_at s.above s.row in
    ap (λ b. is_as form_fields s.above s.row && b)
    (said_if (included s.above s.row) (is_of_label name.source && says_something name.text) (label_verdict name.source r name.text)
    (said_if (is_of_label name.source) (says_something name.text) (asks_a_person JudgeLabel r name.text) (asked JudgeLabel r name.text)))

pub labels : (page : Document) (n : NodeId) → JudgesRows label_is_descriptive (label_is_descriptive_target (name_of (seen page.trees) n)) page n
labels page n =
    let name = name_of (seen page.trees) n in
    judged_of_roles form_fields (of_target included (label_verdict name.source) name.text) (λ s. label_is_descriptive_target name s.above s.row) (label_told name) page.trees n

image_told : (name : List ℕ) (s : Sight) → is_as (role.Img ∷ []) s.above s.row && is_some (of_target is_included_image (asks_a_person JudgeImage) name s) ≡ image_is_descriptive_target name s.above s.row
image_told name s =
    ap (λ b. is_as (role.Img ∷ []) s.above s.row && b)
    (said_if (is_included_image s.above s.row) (says_something name) (asks_a_person JudgeImage (role_at s.above s.row) name) (asked JudgeImage (role_at s.above s.row) name))

pub images : (page : Document) (n : NodeId) → JudgesRows image_is_descriptive (image_is_descriptive_target (name_of (seen page.trees) n).text) page n
images page n =
    let name = (name_of (seen page.trees) n).text in
    judged_of_roles (role.Img ∷ []) (of_target is_included_image (asks_a_person JudgeImage) name) (λ s. image_is_descriptive_target name s.above s.row) (image_told name) page.trees n

pub menuitems : (page : Document) (n : NodeId) → JudgesRows menuitem_has_name menuitem_has_name_target page n
menuitems page n = judges_roles (role.Menuitem ∷ []) included wants_name (λ r name. refl) page n

-- ---- ARIA

pub states : (page : Document) (n : NodeId) → JudgesRows state_is_permitted state_is_permitted_target page n
states page n =
    judged_where has_limited permitted_verdict state_is_permitted_target
    (λ above row. ap (λ b. has_limited row && b) (verdict_if (included above row) (verdict_of (permitted_finding (role_at above row) (aria_attrs row)) (aria_lines row)))) page n

context_told : (trees : Trees) (s : Sight) → has attribute.RoleAttr s.row && is_some (said_in_context trees s) ≡ stands_in_context_target s.above s.row
context_told trees s =
    ap (λ b. has attribute.RoleAttr s.row && b)
    (verdict_of_some (explicit s.row) (is_context_target s.above s.row) (λ r. context_verdict s.row r (context r (rows_above trees s.row.parent))))

pub contexts : (page : Document) (n : NodeId) → JudgesRows stands_in_context stands_in_context_target page n
contexts page n =
    judged_below (has attribute.RoleAttr) (said_in_context (seen page.trees)) (λ s. stands_in_context_target s.above s.row) (context_told (seen page.trees)) page n

and_true : (b : Bool) → b && true ≡ b
and_true true = refl
and_true false = refl

pub decorative : (page : Document) (n : NodeId) → JudgesRows decorative_is_not_exposed decorative_is_not_exposed_target page n
decorative page n = judged_where is_marked marked_verdict decorative_is_not_exposed_target (λ above row. and_true (is_marked row)) page n

pub holders : (page : Document) (n : NodeId) → JudgesRows presentational_holds_no_focus presentational_holds_no_focus_target page n
holders page n =
    judged_of_roles presentational_roles holder_verdict (λ s. presentational_holds_no_focus_target s.above s.row)
    (λ s. ap (λ b. is_as presentational_roles s.above s.row && b) (verdict_if (included s.above s.row) (verdict_of (focus_finding (stops_below s.below)) (number_words (stops_below s.below))))) page.trees n

-- ---- labels in names

pub named : (page : Document) (n : NodeId) → JudgesSights name_has_label name_has_label_target page n
named page n =
    let name = (name_of (seen page.trees) n).text in
    judged_of_roles labelled_roles (said_of_label name) name_has_label_target
    (λ s. ap (λ b. is_as labelled_roles s.above s.row && b) (verdict_if (is_label_target s) (label_in_name_verdict (shown_text s.below) name))) page.trees n

-- ---- locality

pub languages_local : IsLocal languages_match_info languages_match
languages_local = by_applicability languages_match_info languages_match (kept_of_root SelfOnly root_verdict)

pub delay_local : IsLocal page_never_delays_info page_never_delays
delay_local = by_applicability page_never_delays_info page_never_delays (refresh_kept delay_finding)

pub label_local : IsLocal label_is_descriptive_info label_is_descriptive
label_local = named_within label_is_descriptive_info refl refl (λ name sight. of_roles form_fields included (label_verdict name.source) name sight)

pub image_local : IsLocal image_is_descriptive_info image_is_descriptive
image_local = named_within image_is_descriptive_info refl refl (of_roles (role.Img ∷ []) is_included_image (asks_a_person JudgeImage))

pub menuitem_local : IsLocal menuitem_has_name_info menuitem_has_name
menuitem_local = named_local menuitem_has_name_info refl refl (of_roles (role.Menuitem ∷ []) included wants_name) menuitem_has_name_target menuitems

pub permitted_local : IsLocal state_is_permitted_info state_is_permitted
permitted_local = by_applicability state_is_permitted_info state_is_permitted (kept_where SelfOnly has_limited permitted_verdict)

pub context_local : IsLocal stands_in_context_info stands_in_context
context_local = by_applicability stands_in_context_info stands_in_context context_kept

pub decorative_local : IsLocal decorative_is_not_exposed_info decorative_is_not_exposed
decorative_local = by_applicability decorative_is_not_exposed_info decorative_is_not_exposed (kept_where SelfOnly is_marked marked_verdict)

pub presentational_local : IsLocal presentational_holds_no_focus_info presentational_holds_no_focus
presentational_local =
    by_rows presentational_holds_no_focus_info presentational_holds_no_focus refl presentational_holds_no_focus_target (λ page n well. holders page n)
    (kept Sub sight_of sight_told (λ address o. option_and_then holder_verdict (option_and_then (if_role presentational_roles) o)))

pub label_in_name_local : IsLocal name_has_label_info name_has_label
label_in_name_local =
    named_within name_has_label_info refl refl (λ name sight. option_and_then (said_of_label name.text) (option_and_then (if_role labelled_roles) sight))
