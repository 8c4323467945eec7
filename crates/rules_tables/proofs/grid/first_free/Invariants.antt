use Rattle.std.proofs.Common.{◌≡◌, ◌-◌, length, drop}
use Rattle.rules_tables.specs.Survey.{free_from}
use Rattle.rules_tables.proofs.grid.first_free.Given as goal

abbrev pub invariant-loop-column : goal.invariant-loop-column
invariant-loop-column l = free_from (drop l.column l.columns) l.row l.column ≡ free_from (drop l.from l.columns) l.row l.from

abbrev pub decreases-loop-column : goal.decreases-loop-column
decreases-loop-column l = length l.columns - l.column
