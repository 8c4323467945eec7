-- The table that a cell belongs to.
use Rattle.std.specs.Prelude.{Bool, true, false, Option, Some, option_map, option_and_then}
use Rattle.std.specs.Option.{option_map_or}
use Rattle.aria_tables.specs.declared.role.Role.{Role}
use Rattle.aria_tables.specs.declared.role.Role.TheVariants as role
use Rattle.snap_tree.specs.declared.row.NodeId.{NodeId}
use Rattle.snap_tree.specs.declared.row.Row.{Row}
use Rattle.snap_tree.specs.Trees.{Trees, Document}
use Rattle.acc_tree.specs.declared.above.Above.{Above}
use Rattle.acc_tree.specs.Seen.{seen}
use Rattle.acc_tree.specs.Sights.{sight_of}
use Rattle.rule_core.specs.declared.verdict.Verdict.{Verdict}
use Rattle.rule_sights.specs.Nodes.{sight_where}

abbrev pub is_table_role : Option Role → Bool
is_table_role (Some role.TableRole) = true
is_table_role (Some role.Grid) = true
is_table_role _ = false

-- the nearest table has the role table or grid
abbrev pub in_table : Above → Bool
in_table above = option_map_or (λ t. is_table_role t.role) above.table false

-- what is below a number
abbrev pub below : Trees → NodeId → Option Trees
below trees n = option_map (λ s. s.below) (sight_of trees n)

-- what is below the nearest table
abbrev pub below_table : Trees → Above → Option Trees
below_table trees above = option_and_then (λ t. below trees t.node) above.table

-- of a node whose row passes the test: what is said of what is above it, its row, and what is below the
-- nearest table
abbrev pub said_in_table : (Row → Bool) → (Above → Row → Trees → Option Verdict) → Document → NodeId → Option Verdict
said_in_table passes says page n =
    option_and_then (λ s. option_and_then (says s.above s.row) (below_table (seen page.trees) s.above)) (sight_where passes (seen page.trees) n)
