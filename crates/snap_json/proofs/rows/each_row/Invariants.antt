use Rattle.std.proofs.Common.{◌≡◌, drop}
use Rattle.serde_json.specs.View.{items_view}
use Rattle.snap_json.specs.Pages.{rows_of}
use Rattle.snap_json.proofs.RowLoop.{after}
use Rattle.snap_json.proofs.rows.each_row.Given as goal

abbrev pub invariant-loop-row : goal.invariant-loop-row
invariant-loop-row l = after l.found.items (rows_of l.place (items_view (drop l.row-index l.rows))) ≡ rows_of 1 (items_view l.rows)
