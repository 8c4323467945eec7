use Rattle.std.proofs.Common.{◌≡◌, ◌++◌, take, cond, []}
use Rattle.std.specs.List.{flat_map}
use Rattle.reports.specs.TextReport.{is_of}
use Rattle.reports.specs.Earl.{row_assertion}
use Rattle.reports.specs.Writing.{tokens_of}
use Rattle.reports.proofs.assertions.push_rows.Given as goal

abbrev pub invariant-loop-row : goal.invariant-loop-row
invariant-loop-row l =
    (l.writer.before ≡ l.initial.writer.before)
    × (l.writer.tokens ≡ l.initial.writer.tokens ++ flat_map (λ row. cond (is_of l.info row) (tokens_of (row_assertion l.page l.info row)) []) (take l.row-index l.row-items))
