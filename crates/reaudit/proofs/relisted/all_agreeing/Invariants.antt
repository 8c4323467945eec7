use Rattle.std.proofs.Common.{◌≡◌, map, take}
use Rattle.reaudit.specs.Relisted.{agreeing}
use Rattle.reaudit.proofs.relisted.all_agreeing.Given as goal

abbrev pub invariant-loop-row : goal.invariant-loop-row
invariant-loop-row l = l.flags.items ≡ map (λ row. agreeing row.id) (take l.row-index l.rows)
