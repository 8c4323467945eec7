use Rattle.std.proofs.Common.{◌≡◌, ◌-◌}
use Rattle.rules_tables.specs.Survey.{raised_all}
use Rattle.rules_tables.proofs.grid.cover.Given as goal

abbrev pub invariant-loop-column : goal.invariant-loop-column
invariant-loop-column l =
    raised_all l.columns.items l.column (l.area.right - l.column) l.area.bottom ≡ raised_all l.fn.columns.items l.area.left (l.area.right - l.area.left) l.area.bottom
