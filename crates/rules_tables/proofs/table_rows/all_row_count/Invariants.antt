use Rattle.std.proofs.Common.{◌≡◌, ◌+◌, ◌≤◌}
use Rattle.snap_tree.specs.Trees.{count}
use Rattle.acc_tree.specs.Seen.{seen}
use Rattle.rules_tables.specs.Survey.{all_row_count}
use Rattle.rules_tables.proofs.Seeing.{lent}
use Rattle.rules_tables.proofs.table_rows.all_row_count.Given as goal

abbrev pub invariant-loop-next : goal.invariant-loop-next
invariant-loop-next l = (l.rows + all_row_count (seen (lent l.next)) ≡ all_row_count (seen l.table)) × (l.rows + count (lent l.next) ≤ count l.table)

abbrev pub decreases-loop-next : goal.decreases-loop-next
decreases-loop-next l = count (lent l.next)
