use Rattle.std.proofs.Common.{◌≡◌, map, take}
use Rattle.reaudit.specs.ByNumber.{placed_by}
use Rattle.reaudit.proofs.known.place_all.Given as goal

abbrev pub invariant-loop-row : goal.invariant-loop-row
invariant-loop-row l = l.placed.items ≡ map (λ row. placed_by l.by_number l.langs row.id) (take l.row-index l.rows)
