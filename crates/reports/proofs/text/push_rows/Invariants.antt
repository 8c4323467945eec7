use Rattle.std.proofs.Common.{◌≡◌, [], ◌++◌, take, cond}
use Rattle.std.specs.List.{flat_map}
use Rattle.reports.specs.TextReport.{is_of, row_line}
use Rattle.reports.proofs.text.push_rows.Given as goal

abbrev pub invariant-loop-row : goal.invariant-loop-row
invariant-loop-row l = l.report.items ≡ l.initial.report.items ++ flat_map (λ row. cond (is_of l.info row) (l.info.id ++ row_line row) []) (take l.row-index l.rows)
