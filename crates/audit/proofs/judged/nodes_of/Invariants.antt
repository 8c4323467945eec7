use Rattle.std.proofs.Common.{◌≡◌, map, take}
use Rattle.audit.proofs.judged.nodes_of.Given as goal

abbrev pub invariant-loop-row : goal.invariant-loop-row
invariant-loop-row l = l.nodes.items ≡ map (λ row. row.node) (take l.row-index l.rows)
