-- The targets of a rule: what its applicability says of a node, by what it looks at.
use Rattle.std.specs.Prelude.{◌≡◌, List, Bool, false, Option}
use Rattle.std.specs.Option.{is_some, option_map_or}
use Rattle.aria_tables.specs.declared.role.Role.{Role}
use Rattle.aria_tables.specs.Roles.{is_one_of}
use Rattle.snap_tree.specs.declared.row.NodeId.{NodeId}
use Rattle.snap_tree.specs.declared.row.Row.{Row}
use Rattle.snap_tree.specs.Trees.{Trees, Document}
use Rattle.acc_tree.specs.declared.above.Above.{Above}
use Rattle.acc_tree.specs.Roles.{role_at}
use Rattle.acc_tree.specs.Seen.{seen}
use Rattle.acc_tree.specs.Sights.{Sight, sight_of}
use Rattle.rule_core.specs.declared.verdict.Verdict.{Verdict}

-- the role is one of these
abbrev pub is_as : List Role → Above → Row → Bool
is_as those above row = option_map_or (is_one_of those) (role_at above row) false

-- the node is in the page, and what is seen of it passes the test
abbrev pub is_target : (Sight → Bool) → Trees → NodeId → Bool
is_target target t n = option_map_or target (sight_of (seen t) n) false

-- of what is said of nodes: a verdict is given exactly where the node is a target by what is above it and its row
abbrev pub JudgesRows : (Document → NodeId → Option Verdict) → (Above → Row → Bool) → Document → NodeId → Type 0
JudgesRows says target page n = is_some (says page n) ≡ is_target (λ s. target s.above s.row) page.trees n

-- exactly where it is a target by its sight, by which what is below it is known too
abbrev pub JudgesSights : (Document → NodeId → Option Verdict) → (Sight → Bool) → Document → NodeId → Type 0
JudgesSights says target page n = is_some (says page n) ≡ is_target target page.trees n
