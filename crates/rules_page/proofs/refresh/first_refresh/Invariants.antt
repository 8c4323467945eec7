use Rattle.std.proofs.Common.{◌≡◌, drop, map}
use Rattle.acc_tree.specs.Seen.{seen_row}
use Rattle.rules_page.specs.Refresh.{first_refresh}
use Rattle.rules_page.proofs.refresh.first_refresh.Given as goal

abbrev pub invariant-loop-row : goal.invariant-loop-row
invariant-loop-row l = first_refresh (map seen_row (drop l.row-index l.rows)) ≡ first_refresh (map seen_row l.rows)
