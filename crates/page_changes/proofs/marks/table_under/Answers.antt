use Rattle.std.proofs.Common.{sym, ◌∙◌}
use Rattle.acc_tree.specs.Seen.{seen_row}
use Rattle.page_changes.proofs.Tables.{table_tagged}
use Rattle.page_changes.proofs.Twins.{table_here, table_past}
use Rattle.page_changes.proofs.marks.table_under.Goals as goal

pub returns-then-is_html : goal.returns-then-is_html
returns-then-is_html c = λ above known. table_here above (seen_row c.args.row.now) (table_tagged (seen_row c.args.row.now) ∙ sym c.is_html.ensures ∙ c.if-is_html.true)

pub returns-else-is_html : goal.returns-else-is_html
returns-else-is_html c = λ above known. known ∙ table_past above (seen_row c.args.row.now) (table_tagged (seen_row c.args.row.now) ∙ sym c.is_html.ensures ∙ c.if-is_html.false)
