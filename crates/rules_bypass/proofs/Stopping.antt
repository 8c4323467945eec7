-- The Tab key stops somewhere in a page just where it does in what is seen of it.
use Rattle.std.proofs.Common.{◌≡◌, List, [], ◌∷◌, map, ◌||◌, refl, ap, ◌∙◌}
use Rattle.snap_tree.specs.declared.row.Row.{Row}
use Rattle.snap_tree.specs.Trees.{Trees, rows_of}
use Rattle.acc_tree.specs.Seen.{seen_row, seen}
use Rattle.acc_tree.proofs.Finding.{rows_seen}
use Rattle.rules_bypass.specs.Bypass.{has_stop}

stops_seen : (rows : List Row) → has_stop (map seen_row rows) ≡ has_stop rows
stops_seen [] = refl
stops_seen (row ∷ rows) = ap (λ later. row.facts.tabbable || later) (stops_seen rows)

pub stop_seen : (t : Trees) → has_stop (rows_of (seen t)) ≡ has_stop (rows_of t)
stop_seen t = ap has_stop (rows_seen t) ∙ stops_seen (rows_of t)
