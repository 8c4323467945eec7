use Rattle.std.proofs.Common.{◌≡◌, [], ◌∷◌, take, map, cond}
use Rattle.std.specs.List.{flat_map}
use Rattle.serde_json.specs.View.{view}
use Rattle.reports.specs.TextReport.{is_known}
use Rattle.http_replies.specs.Shown.{row_data}
use Rattle.http_replies.proofs.outcomes.rows_value.Given as goal

abbrev pub invariant-loop-row : goal.invariant-loop-row
invariant-loop-row l = map view l.values.items ≡ flat_map (λ row. cond (is_known l.infos row) (row_data l.infos row ∷ []) []) (take l.row-index l.rows)
