-- The nodes at which the Tab key stops, among rows and among what is seen of them.
use Rattle.std.proofs.Common.{◌≡◌, Bool, true, false, cond, List, [], ◌∷◌, map, filter, refl, ap, ◌∙◌}
use Rattle.snap_tree.specs.declared.row.Row.{Row}
use Rattle.snap_tree.specs.Trees.{Trees, rows_of}
use Rattle.acc_tree.specs.Seen.{seen_row, seen}
use Rattle.acc_tree.proofs.Finding.{rows_seen}
use Rattle.rules_aria.specs.AriaHidden.{stops_among}

among_seen : (rows : List Row) → stops_among (map seen_row rows) ≡ stops_among rows
among_seen [] = refl
among_seen (row ∷ rows) = by_stop row.facts.tabbable (among_seen rows)
  where
    by_stop : (b : Bool) → stops_among (map seen_row rows) ≡ stops_among rows → map (λ r. r.id) (cond b (seen_row row ∷ filter (λ r. r.facts.tabbable) (map seen_row rows)) (filter (λ r. r.facts.tabbable) (map seen_row rows))) ≡ map (λ r. r.id) (cond b (row ∷ filter (λ r. r.facts.tabbable) rows) (filter (λ r. r.facts.tabbable) rows))
    by_stop true later = ap (λ nodes. row.id ∷ nodes) later
    by_stop false later = later

pub stops_seen : (t : Trees) → stops_among (rows_of (seen t)) ≡ stops_among (rows_of t)
stops_seen t = ap stops_among (rows_seen t) ∙ among_seen (rows_of t)
