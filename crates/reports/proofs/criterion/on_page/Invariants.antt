use Rattle.std.proofs.Common.{◌≡◌, take}
use Rattle.reports.specs.Walking.{result_in}
use Rattle.reports.proofs.criterion.on_page.Given as goal

abbrev pub invariant-loop-row : goal.invariant-loop-row
invariant-loop-row l = l.found ≡ result_in l.c (take l.row-index l.rows)
