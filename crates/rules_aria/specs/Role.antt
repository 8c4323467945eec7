-- What the attribute `role` may say.
use Rattle.std.specs.Prelude.{false, ◌&&◌, ◌||◌, not, ℕ, List, codes, Bool, if◌then◌else◌, Option, Some, None, option_and_then}
use Rattle.std.specs.Option.{option_map_or, is_some}
use Rattle.std.specs.List.{list_any}
use Rattle.snap_tree.specs.declared.row.NodeId.{NodeId}
use Rattle.snap_tree.specs.declared.row.Row.{Row}
use Rattle.snap_tree.specs.Trees.{Document}
use Rattle.texts.specs.Words.{blank, words}
use Rattle.aria_tables.specs.Roles.{role_of}
use Rattle.acc_tree.specs.declared.above.Above.{Above}
use Rattle.acc_tree.specs.declared.attributes.Attribute.TheVariants as attribute
use Rattle.acc_tree.specs.Inclusion.{exposed}
use Rattle.acc_tree.specs.Seen.{attr, has}
use Rattle.rule_core.specs.declared.info.RuleInfo.{RuleInfo}
use Rattle.rule_core.specs.declared.info.Class.TheVariants.{SelfOnly}
use Rattle.rule_core.specs.declared.reason.Reason.TheVariants.{NoKnownRole, OutsideRole}
use Rattle.rule_core.specs.declared.finding.Finding.{Finding}
use Rattle.rule_core.specs.declared.verdict.Verdict.{Verdict}
use Rattle.rule_core.specs.Infos.{atomic}
use Rattle.rule_core.specs.Findings.{met, failed, cant_tell, verdict_of}
use Rattle.rule_sights.specs.Nodes.{said_where}
use Rattle.rules_aria.specs.Token.{begins}

-- some token is a known role
abbrev pub names_known : List ℕ → Bool
names_known text = list_any (λ token. is_some (role_of token)) (words text)

-- the token is of a module outside WAI-ARIA: those of publishing, or of graphics
abbrev pub is_outside : List ℕ → Bool
is_outside token = begins (codes "doc-") token || begins (codes "graphics-") token

abbrev pub names_outside : List ℕ → Bool
names_outside text = list_any is_outside (words text)

abbrev pub role_finding : List ℕ → Finding
role_finding text =
    if not (names_known text) && not (names_outside text) then failed NoKnownRole
    else (if not (names_known text) then cant_tell OutsideRole else met)

abbrev pub is_role_target : Above → Row → List ℕ → Bool
is_role_target above row text = not (blank text) && exposed above row

-- the target is an exposed element with a role that isn't blank; the evidence is that
abbrev pub role_verdict : Above → Row → Option Verdict
role_verdict above row =
    option_and_then (λ text. if is_role_target above row text then Some (verdict_of (role_finding text) text) else None) (attr attribute.RoleAttr row)

-- role attribute has valid value
abbrev pub role_is_valid : Document → NodeId → Option Verdict
role_is_valid = said_where (has attribute.RoleAttr) role_verdict

-- the targets of the rule
abbrev pub role_is_valid_target : Above → Row → Bool
role_is_valid_target above row = option_map_or (is_role_target above row) (attr attribute.RoleAttr row) false

abbrev pub role_is_valid_info : RuleInfo
role_is_valid_info = atomic 18 (codes "674b10") SelfOnly SelfOnly
