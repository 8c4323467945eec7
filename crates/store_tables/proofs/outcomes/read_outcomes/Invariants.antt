use Rattle.std.proofs.Common.{◌≡◌, suc, take, Some}
use Rattle.store_tables.specs.Reading.{read_counted}
use Rattle.store_tables.specs.Outcomes.{outcome_from}
use Rattle.store_tables.proofs.outcomes.read_outcomes.Given as goal

abbrev pub invariant-loop-row : goal.invariant-loop-row
invariant-loop-row l = (read_counted outcome_from 1 (take l.row-index l.rows) ≡ Some l.outcomes.items) × (l.place ≡ suc l.row-index)
