use Rattle.std.proofs.Common.{◌≡◌, ◌+◌, ◌≤◌}
use Rattle.snap_tree.specs.Trees.{count}
use Rattle.acc_tree.specs.Seen.{seen}
use Rattle.rules_tables.specs.TableRows.{neighbours}
use Rattle.rules_tables.proofs.Seeing.{lent}
use Rattle.rules_tables.proofs.table_rows.neighbours.Given as goal

abbrev pub invariant-loop-next : goal.invariant-loop-next
invariant-loop-next l = (l.rows + neighbours (seen (lent l.next)) ≡ neighbours (seen l.table)) × (l.rows + count (lent l.next) ≤ count l.table)

abbrev pub decreases-loop-next : goal.decreases-loop-next
decreases-loop-next l = count (lent l.next)
