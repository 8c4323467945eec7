use Rattle.std.proofs.Common.{◌≡◌, ◌+◌, ◌<◌, ◌≤◌}
use Rattle.snap_tree.specs.Trees.{count}
use Rattle.acc_tree.specs.Seen.{seen}
use Rattle.rules_tables.specs.Survey.{noted, after_rows}
use Rattle.rules_tables.specs.TableRows.{neighbours, table_rows}
use Rattle.rules_tables.proofs.Seeing.{lent}
use Rattle.rules_tables.proofs.survey.Survey.see_table.Given as goal

abbrev pub invariant-loop-next : goal.invariant-loop-next
invariant-loop-next l =
    (after_rows l.most l.number (noted l.self) (table_rows l.number (seen (lent l.next))) ≡ after_rows l.most 0 (noted l.fn.self) (table_rows 0 (seen l.table)))
    × (l.number + count (lent l.next) ≤ count l.table)
    × (l.number < l.end → l.end ≡ l.number + neighbours (seen (lent l.next)))

abbrev pub decreases-loop-next : goal.decreases-loop-next
decreases-loop-next l = count (lent l.next)
