-- What a rule says of a node, by what it looks at.
use Rattle.std.specs.Prelude.{List, Bool, false, if◌then◌else◌, Option, Some, None, option_map, option_and_then}
use Rattle.std.specs.Option.{option_map_or}
use Rattle.aria_tables.specs.declared.role.Role.{Role}
use Rattle.aria_tables.specs.Roles.{is_one_of}
use Rattle.snap_tree.specs.declared.row.NodeId.{NodeId}
use Rattle.snap_tree.specs.declared.row.Row.{Row}
use Rattle.snap_tree.specs.Trees.{Trees, Document}
use Rattle.acc_tree.specs.declared.above.Above.{Above}
use Rattle.acc_tree.specs.Roles.{role_at}
use Rattle.acc_tree.specs.Seen.{seen}
use Rattle.acc_tree.specs.Sights.{Sight, sight_of}
use Rattle.rule_core.specs.declared.verdict.Verdict.{Verdict}

abbrev pub if_row : (Row → Bool) → Sight → Option Sight
if_row passes s = if passes s.row then Some s else None

-- the sight of a node whose row passes this test
abbrev pub sight_where : (Row → Bool) → Trees → NodeId → Option Sight
sight_where passes trees n = option_and_then (if_row passes) (sight_of trees n)

-- the role of a node is one of these
abbrev pub if_role : List Role → Sight → Option Sight
if_role those s = if option_map_or (is_one_of those) (role_at s.above s.row) false then Some s else None

-- the sight of a node whose role is one of these
abbrev pub sight_as : List Role → Trees → NodeId → Option Sight
sight_as those trees n = option_and_then (if_role those) (sight_of trees n)

-- of a node whose row passes the test: what is said of its row and what is above it
abbrev pub said_where : (Row → Bool) → (Above → Row → Option Verdict) → Document → NodeId → Option Verdict
said_where passes says page n = option_and_then (λ s. says s.above s.row) (sight_where passes (seen page.trees) n)

-- the same, of such a node and what is below it too
abbrev pub said_below : (Row → Bool) → (Sight → Option Verdict) → Document → NodeId → Option Verdict
said_below passes says page n = option_and_then says (sight_where passes (seen page.trees) n)

-- what is seen of the row of a number
abbrev pub row_of : Trees → NodeId → Option Row
row_of trees n = option_map (λ s. s.row) (sight_of (seen trees) n)

-- of any node: what is said of its row alone
abbrev pub said_alone : (Row → Option Verdict) → Document → NodeId → Option Verdict
said_alone says page n = option_and_then says (row_of page.trees n)
