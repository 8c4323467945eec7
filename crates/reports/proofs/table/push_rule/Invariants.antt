use Rattle.std.proofs.Common.{take, cond, []}
use Rattle.std.specs.List.{flat_map}
use Rattle.csv.specs.Writing.{row_text, default_writer}
use Rattle.reports.specs.TextReport.{is_of}
use Rattle.reports.specs.Table.{record_of}
use Rattle.reports.specs.Writing.{Adds}
use Rattle.reports.proofs.table.push_rule.Given as goal

abbrev pub invariant-loop-row : goal.invariant-loop-row
invariant-loop-row g l =
    Adds g.W.Write.contents l.initial.writer l.writer (flat_map (λ row. cond (is_of l.info row) (row_text default_writer (record_of l.site l.page l.info row)) []) (take l.row-index l.row-items))
