use Rattle.std.proofs.Common.{◌≡◌, [], ◌∷◌, take, map, cond}
use Rattle.std.specs.List.{flat_map}
use Rattle.serde_json.specs.Data.{string}
use Rattle.serde_json.specs.View.{view}
use Rattle.reports.specs.TextReport.{is_inapplicable}
use Rattle.http_replies.proofs.outcomes.ids_value.Given as goal

abbrev pub invariant-loop-info : goal.invariant-loop-info
invariant-loop-info l = map view l.ids.items ≡ flat_map (λ info. cond (is_inapplicable l.rows info) (string info.id ∷ []) []) (take l.info-index l.infos)
