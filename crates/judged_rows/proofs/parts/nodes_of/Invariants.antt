use Rattle.std.proofs.Common.{◌≡◌, map, take}
use Rattle.judged_rows.proofs.parts.nodes_of.Given as goal

abbrev pub invariant-loop-row : goal.invariant-loop-row
invariant-loop-row l = l.nodes.items ≡ map (λ row. row.id) (take l.row-index l.row-items)
