-- What the rules on names have in common. Each has its target by a row and what is above it, and what it
-- says of a target by its role and its name.
use Rattle.std.specs.Prelude.{ℕ, List, [], ◌∷◌, Bool, true, false, if◌then◌else◌, Option, Some, None, option_and_then}
use Rattle.snap_tree.specs.declared.row.NodeId.{NodeId}
use Rattle.snap_tree.specs.declared.row.Row.{Row}
use Rattle.snap_tree.specs.Trees.{Document}
use Rattle.aria_tables.specs.declared.role.Role.{Role}
use Rattle.acc_tree.specs.declared.above.Above.{Above}
use Rattle.acc_tree.specs.Roles.{role_at}
use Rattle.acc_tree.specs.Seen.{seen}
use Rattle.acc_tree.specs.Sights.{Sight}
use Rattle.acc_name.specs.Names.{name_of}
use Rattle.rule_core.specs.declared.reason.Reason.{Reason}
use Rattle.rule_core.specs.declared.reason.Reason.TheVariants.{NoName}
use Rattle.rule_core.specs.declared.finding.Finding.{Finding}
use Rattle.rule_core.specs.declared.verdict.Verdict.{Verdict}
use Rattle.rule_core.specs.Findings.{met, failed, cant_tell, verdict_of}
use Rattle.rule_sights.specs.Nodes.{sight_as, sight_where}
use Rattle.rules_names.specs.RoleAndName.{role_and_name}

-- ---- what is said of a target

-- the finding with the role and the name for its evidence
abbrev pub named_verdict : Finding → Option Role → List ℕ → Verdict
named_verdict finding role name = verdict_of finding (role_and_name role name)

-- an empty name fails
abbrev pub name_finding : List ℕ → Finding
name_finding [] = failed NoName
name_finding (b ∷ name) = met

-- what is said of a target that wants a name
abbrev pub wants_name : Option Role → List ℕ → Option Verdict
wants_name role name = Some (named_verdict (name_finding name) role name)

-- an element without a name is no target, and of any other a person has to judge, for this reason
abbrev pub asks_a_person : Reason → Option Role → List ℕ → Option Verdict
asks_a_person reason role [] = None
asks_a_person reason role (b ∷ name) = Some (named_verdict (cant_tell reason) role (b ∷ name))

abbrev pub says_something : List ℕ → Bool
says_something [] = false
says_something (b ∷ name) = true

-- ---- of a node

-- of a target: what is said of its role and name
abbrev pub of_target : (Above → Row → Bool) → (Option Role → List ℕ → Option Verdict) → List ℕ → Sight → Option Verdict
of_target is_target says name s = if is_target s.above s.row then says (role_at s.above s.row) name else None

-- the targets are those of the nodes of these roles that pass the test
abbrev pub said_of_roles : List Role → (Above → Row → Bool) → (Option Role → List ℕ → Option Verdict) → Document → NodeId → Option Verdict
said_of_roles those is_target says page n =
    option_and_then (of_target is_target says (name_of (seen page.trees) n).text) (sight_as those (seen page.trees) n)

-- the targets are those of the nodes of such a row that pass the test
abbrev pub said_of_rows : (Row → Bool) → (Above → Row → Bool) → (Option Role → List ℕ → Option Verdict) → Document → NodeId → Option Verdict
said_of_rows passes is_target says page n =
    option_and_then (of_target is_target says (name_of (seen page.trees) n).text) (sight_where passes (seen page.trees) n)
