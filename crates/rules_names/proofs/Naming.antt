-- What the laws of the rules on names come of: what such a rule says of a node is a function of its name and of its
-- sight.
use Rattle.std.proofs.Common.{◌≡◌, ℕ, List, true, Bool, Option, option_and_then, ap, sym, ◌∙◌}
use Rattle.std.specs.Option.{is_some}
use Rattle.aria_tables.specs.declared.role.Role.{Role}
use Rattle.snap_tree.specs.declared.row.NodeId.{NodeId}
use Rattle.snap_tree.specs.declared.row.Row.{Row}
use Rattle.snap_tree.specs.Trees.{Document}
use Rattle.acc_tree.specs.declared.above.Above.{Above}
use Rattle.acc_tree.specs.Seen.{seen}
use Rattle.acc_tree.specs.Sights.{Sight, sight_of}
use Rattle.acc_name.specs.declared.named.Name.{Name}
use Rattle.acc_name.specs.Names.{name_of}
use Rattle.acc_name.proofs.NamedAgain.{name_looks}
use Rattle.rule_core.specs.declared.info.Class.{Class}
use Rattle.rule_core.specs.declared.info.Class.TheVariants.{SelfOnly, Sub}
use Rattle.rule_core.specs.declared.info.RuleInfo.{RuleInfo}
use Rattle.rule_core.specs.declared.verdict.Verdict.{Verdict}
use Rattle.rule_sights.specs.Nodes.{if_row, if_role}
use Rattle.rule_sights.specs.Targets.{JudgesRows}
use Rattle.rules_names.specs.Named.{of_target}
use Rattle.page_keys.specs.Same.{all_same}
use Rattle.page_keys.specs.Classes.{sub_keys}
use Rattle.page_keys.proofs.Again.{looks}
use Rattle.page_keys.proofs.Classes.{sub_sight}
use Rattle.rule_core.specs.Reach.{Says, class_keys}
use Rattle.rule_core.specs.Local.{IsLocal}
use Rattle.rule_core.proofs.Targets.{IsKept, on_nodes, by_classes, by_target}

-- ---- rules as functions of a name and a sight

abbrev pub Rests : Type 0
Rests = Name → Option Sight → Option Verdict

-- what a rule says of a node that rests on its name and its sight so
abbrev pub by_name : Rests → Says
by_name rests page n = rests (name_of (seen page.trees) n) (sight_of (seen page.trees) n)

-- the targets are of these roles
abbrev pub of_roles : List Role → (Above → Row → Bool) → (Option Role → List ℕ → Option Verdict) → Rests
of_roles those is_target says name sight = option_and_then (of_target is_target says name.text) (option_and_then (if_role those) sight)

-- the rows of the targets pass this test
abbrev pub of_rows : (Row → Bool) → (Above → Row → Bool) → (Option Role → List ℕ → Option Verdict) → Rests
of_rows passes is_target says name sight = option_and_then (of_target is_target says name.text) (option_and_then (if_row passes) sight)

-- ---- their laws

-- what rests on a name and a sight looks at what the class Sub does
pub kept_by_name : (class : Class) → class ≡ Sub → (rests : Rests) → IsKept class (by_name rests)
unfolding class_keys
kept_by_name class sub rests old new n versions k =
    let keys : all_same (seen old.trees) (seen new.trees) (sub_keys (seen old.trees) n) ≡ true =
    ap (λ class. all_same (seen old.trees) (seen new.trees) (class_keys class (seen old.trees) n)) (sym sub) ∙ on_nodes class old new n k in
    let name = name_looks old.trees new.trees n versions.old_well versions.new_well keys in
    let sight = looks sight_of sub_keys sub_sight old.trees new.trees n versions.old_well versions.new_well keys in
    λ i. rests (name i) (sight i)

-- the law, where a row and what is above it tell the targets
pub named_local : (info : RuleInfo) → info.applies ≡ SelfOnly → info.expects ≡ Sub → (rests : Rests) (target : Above → Row → Bool)
    → ((page : Document) (n : NodeId) → JudgesRows (by_name rests) target page n) → IsLocal info (by_name rests)
named_local info self sub rests target is_target = by_target info (by_name rests) self target is_target (kept_by_name info.expects sub rests)

-- the law, where the name tells them too
pub named_within : (info : RuleInfo) → info.applies ≡ Sub → info.expects ≡ Sub → (rests : Rests) → IsLocal info (by_name rests)
named_within info applies expects rests =
    by_classes info (by_name rests) (λ old new n versions k. ap is_some (kept_by_name info.applies applies rests old new n versions k))
    (kept_by_name info.expects expects rests)
