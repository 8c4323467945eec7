use Rattle.std.proofs.Common.{◌≡◌, ◌+◌}
use Rattle.snap_tree.specs.Trees.{count}
use Rattle.acc_tree.specs.Seen.{seen}
use Rattle.rules_tables.specs.Survey.{noted, after_rows}
use Rattle.rules_tables.specs.TableRows.{row_count, group_rows}
use Rattle.rules_tables.proofs.survey.Survey.see_group.Given as goal

abbrev pub invariant-loop-row : goal.invariant-loop-row
invariant-loop-row l =
    (after_rows l.most l.number (noted l.self) (group_rows l.end (seen l.rest)) ≡ after_rows l.most l.first (noted l.fn.self) (group_rows l.end (seen l.fn.group)))
    × (l.number + row_count (seen l.rest) ≡ l.end)

abbrev pub decreases-loop-row : goal.decreases-loop-row
decreases-loop-row l = count l.rest
