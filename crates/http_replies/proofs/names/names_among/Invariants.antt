use Rattle.std.proofs.Common.{◌≡◌, [], ◌∷◌, take, map, cond}
use Rattle.std.specs.List.{flat_map}
use Rattle.serde_json.specs.View.{view}
use Rattle.http_replies.specs.NameList.{is_listed, name_data}
use Rattle.http_replies.proofs.names.names_among.Given as goal

abbrev pub invariant-loop-row : goal.invariant-loop-row
invariant-loop-row l = map view l.names.items ≡ flat_map (λ row. cond (is_listed l.tree.trees row.id) (name_data l.tree.trees row.id ∷ []) []) (take l.row-index l.rows)
