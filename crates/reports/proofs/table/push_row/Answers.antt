use Rattle.std.proofs.Common.{◌∙◌, sym}
use Rattle.reports.proofs.table.push_row.Goals as goal

pub returns-then-is_of : goal.returns-then-is_of
returns-then-is_of g c = rw (sym c.is_of.ensures ∙ c.if-is_of.true) c.push_row_of.ensures
