use Rattle.std.proofs.Common.{◌≡◌, suc, take, Some}
use Rattle.store_tables.specs.Judgements.{judgements_shown}
use Rattle.store_tables.proofs.judgements.read_judgements.Given as goal

abbrev pub invariant-loop-row : goal.invariant-loop-row
invariant-loop-row l = (judgements_shown (take l.row-index l.rows) ≡ Some l.judgements.items) × (l.place ≡ suc l.row-index)
