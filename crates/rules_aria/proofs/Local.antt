-- Each rule on ARIA and autocomplete has a verdict exactly where the node is a target, and is local.
use Rattle.std.proofs.Common.{◌≡◌, ◌&&◌, ℕ, List, [], ◌∷◌, Bool, true, false, Option, Some, None, refl, ap, ◌∙◌, option_and_then}
use Rattle.std.specs.Option.{is_some, option_map_or}
use Rattle.aria_tables.specs.declared.attr.AriaAttr.TheVariants as aria
use Rattle.aria_tables.specs.declared.role.Role.{Role}
use Rattle.aria_tables.specs.Owning.{allowed_owned, looks_through}
use Rattle.snap_tree.specs.declared.row.Attr.{Attr}
use Rattle.snap_tree.specs.declared.row.NodeId.{NodeId}
use Rattle.snap_tree.specs.declared.row.Row.{Row}
use Rattle.snap_tree.specs.Trees.{Trees, Document}
use Rattle.acc_tree.specs.declared.above.Above.{Above}
use Rattle.acc_tree.specs.declared.attributes.Attribute.TheVariants as attribute
use Rattle.acc_tree.specs.Inclusion.{exposed, is_hidden}
use Rattle.acc_tree.specs.Owning.{owned_by}
use Rattle.acc_tree.specs.References.{found}
use Rattle.acc_tree.specs.Roles.{explicit}
use Rattle.acc_tree.specs.Seen.{seen, attr, has, aria_attrs}
use Rattle.acc_tree.specs.Sights.{Sight, sight_of}
use Rattle.rule_core.specs.Findings.{verdict_of}
use Rattle.rule_core.specs.declared.info.Class.TheVariants.{SelfOnly, Sub}
use Rattle.rule_core.specs.Local.{IsLocal}
use Rattle.rule_sights.specs.Targets.{JudgesRows}
use Rattle.rule_sights.proofs.Judging.{verdict_if, verdict_of_some, there_and, judged_where, judged_below, judged_alone}
use Rattle.rule_sights.specs.Nodes.{if_row}
use Rattle.rule_sights.proofs.Told.{sight_told}
use Rattle.rule_sights.proofs.Resting.{kept, kept_alone, kept_where, by_applicability, by_rows}
use Rattle.rules_aria.specs.AriaAttribute.{attribute_finding, attribute_verdict, has_some, aria_attribute_is_defined, aria_attribute_is_defined_target, aria_attribute_is_defined_info}
use Rattle.rules_aria.specs.AriaHidden.{hidden_verdict, focus_finding, number_words, stops, hidden_holds_no_focus, hidden_holds_no_focus_target, hidden_holds_no_focus_info}
use Rattle.rules_aria.specs.AriaLines.{aria_lines}
use Rattle.rules_aria.specs.AriaValue.{value_verdict, value_finding, has_filled, aria_value_is_valid, aria_value_is_valid_target, aria_value_is_valid_info}
use Rattle.rules_aria.specs.Autocomplete.{autocomplete_finding, is_autocomplete_target, autocomplete_verdict, autocomplete_is_valid, autocomplete_is_valid_target, autocomplete_is_valid_info}
use Rattle.rules_aria.specs.OwnedElements.{verdict_on, is_owner_target, owned_verdict, owns_required_elements, owns_required_elements_target, owns_required_elements_info}
use Rattle.rules_aria.specs.RequiredStates.{states_finding, is_states_target, states_verdict, has_required_states, has_required_states_target, has_required_states_info}
use Rattle.rules_aria.specs.Role.{role_finding, is_role_target, role_verdict, role_is_valid, role_is_valid_target, role_is_valid_info}
use Rattle.rules_aria.proofs.OwnersTold.{owners_kept}
use Rattle.rules_aria.proofs.ReferencesTold.{values_kept}

autocomplete_told : (above : Above) (row : Row) → has attribute.Autocomplete row && is_some (autocomplete_verdict above row) ≡ autocomplete_is_valid_target above row
autocomplete_told above row =
    ap (λ b. has attribute.Autocomplete row && b) (verdict_of_some (attr attribute.Autocomplete row) (is_autocomplete_target above row) (λ text. verdict_of (autocomplete_finding text) text))
    ∙ there_and (attr attribute.Autocomplete row) (is_autocomplete_target above row)

pub fields : (page : Document) (n : NodeId) → JudgesRows autocomplete_is_valid autocomplete_is_valid_target page n
fields page n = judged_where (has attribute.Autocomplete) autocomplete_verdict autocomplete_is_valid_target autocomplete_told page n

role_told : (above : Above) (row : Row) → has attribute.RoleAttr row && is_some (role_verdict above row) ≡ role_is_valid_target above row
role_told above row =
    ap (λ b. has attribute.RoleAttr row && b) (verdict_of_some (attr attribute.RoleAttr row) (is_role_target above row) (λ text. verdict_of (role_finding text) text))
    ∙ there_and (attr attribute.RoleAttr row) (is_role_target above row)

pub roles : (page : Document) (n : NodeId) → JudgesRows role_is_valid role_is_valid_target page n
roles page n = judged_where (has attribute.RoleAttr) role_verdict role_is_valid_target role_told page n

attribute_told : (row : Row) → is_some (attribute_verdict row) ≡ has_some (aria_attrs row)
attribute_told row = by_attrs (aria_attrs row) refl
  where
    by_attrs : (attrs : List Attr) → aria_attrs row ≡ attrs → is_some (attribute_verdict row) ≡ has_some attrs
    by_attrs [] e = rw e refl
    by_attrs (a ∷ attrs) e = rw e refl

pub attributes : (page : Document) (n : NodeId) → JudgesRows aria_attribute_is_defined aria_attribute_is_defined_target page n
attributes page n = judged_alone attribute_verdict (λ row. has_some (aria_attrs row)) attribute_told page n

pub values : (page : Document) (n : NodeId) → JudgesRows aria_value_is_valid aria_value_is_valid_target page n
values page n =
    judged_where has_filled (value_verdict (found (seen page.trees))) aria_value_is_valid_target
    (λ above row. ap (λ b. has_filled row && b) (verdict_if (exposed above row) (verdict_of (value_finding (found (seen page.trees)) (aria_attrs row)) (aria_lines row)))) page n

states_told : (above : Above) (row : Row) → has attribute.RoleAttr row && is_some (states_verdict above row) ≡ has_required_states_target above row
states_told above row =
    ap (λ b. has attribute.RoleAttr row && b) (verdict_of_some (explicit row) (is_states_target above row) (λ r. verdict_of (states_finding row r) (aria_lines row)))

pub states : (page : Document) (n : NodeId) → JudgesRows has_required_states has_required_states_target page n
states page n = judged_where (has attribute.RoleAttr) states_verdict has_required_states_target states_told page n

owner_told : (trees : Trees) (s : Sight) → has attribute.RoleAttr s.row && is_some (owned_verdict trees s) ≡ owns_required_elements_target s.above s.row
owner_told trees s =
    ap (λ b. has attribute.RoleAttr s.row && b) (verdict_of_some (explicit s.row) (is_owner_target s.above s.row) (λ r. verdict_on (allowed_owned r) (owned_by (looks_through r) trees 1 s)))

pub owners : (page : Document) (n : NodeId) → JudgesRows owns_required_elements owns_required_elements_target page n
owners page n =
    judged_below (has attribute.RoleAttr) (owned_verdict (seen page.trees)) (λ s. owns_required_elements_target s.above s.row) (owner_told (seen page.trees)) page n

pub hidden : (page : Document) (n : NodeId) → JudgesRows hidden_holds_no_focus hidden_holds_no_focus_target page n
hidden page n =
    judged_below (has (attribute.Aria aria.Hidden)) hidden_verdict (λ s. hidden_holds_no_focus_target s.above s.row)
    (λ s. ap (λ b. has (attribute.Aria aria.Hidden) s.row && b) (verdict_if (is_hidden s.row) (verdict_of (focus_finding (stops s)) (number_words (stops s))))) page n

-- ---- locality

pub autocomplete_local : IsLocal autocomplete_is_valid_info autocomplete_is_valid
autocomplete_local =
    by_applicability autocomplete_is_valid_info autocomplete_is_valid (kept_where SelfOnly (has attribute.Autocomplete) autocomplete_verdict)

pub role_local : IsLocal role_is_valid_info role_is_valid
role_local = by_applicability role_is_valid_info role_is_valid (kept_where SelfOnly (has attribute.RoleAttr) role_verdict)

pub attribute_local : IsLocal aria_attribute_is_defined_info aria_attribute_is_defined
attribute_local = by_applicability aria_attribute_is_defined_info aria_attribute_is_defined (kept_alone SelfOnly attribute_verdict)

pub value_local : IsLocal aria_value_is_valid_info aria_value_is_valid
value_local = by_rows aria_value_is_valid_info aria_value_is_valid refl aria_value_is_valid_target (λ page n well. values page n) values_kept

pub states_local : IsLocal has_required_states_info has_required_states
states_local = by_applicability has_required_states_info has_required_states (kept_where SelfOnly (has attribute.RoleAttr) states_verdict)

pub owned_local : IsLocal owns_required_elements_info owns_required_elements
owned_local =
    by_rows owns_required_elements_info owns_required_elements refl owns_required_elements_target (λ page n well. owners page n) owners_kept

pub hidden_local : IsLocal hidden_holds_no_focus_info hidden_holds_no_focus
hidden_local =
    by_rows hidden_holds_no_focus_info hidden_holds_no_focus refl hidden_holds_no_focus_target (λ page n well. hidden page n)
    (kept Sub sight_of sight_told (λ address o. option_and_then hidden_verdict (option_and_then (if_row (has (attribute.Aria aria.Hidden))) o)))
