use Rattle.std.proofs.Common.{◌≡◌}
use Rattle.snap_tree.specs.Trees.{count}
use Rattle.acc_tree.specs.Seen.{seen}
use Rattle.rules_tables.specs.Survey.{noted, after_cells, after_row}
use Rattle.rules_tables.specs.TableRows.{cells_in}
use Rattle.rules_tables.proofs.survey.Survey.see_row.Given as goal

abbrev pub invariant-loop-branch : goal.invariant-loop-branch
invariant-loop-branch l =
    after_cells l.most l.row l.end (noted l.self) (cells_in (seen l.rest)) ≡ after_row l.most l.row l.end (noted l.fn.self) (cells_in (seen l.fn.kids))

abbrev pub decreases-loop-branch : goal.decreases-loop-branch
decreases-loop-branch l = count l.rest
