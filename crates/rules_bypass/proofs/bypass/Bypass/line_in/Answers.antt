use Rattle.std.proofs.Common.{sym, ◌∙◌}
use Rattle.acc_tree.specs.Seen.{seen_row, seen}
use Rattle.rules_bypass.proofs.ByRows.{passed_over}
use Rattle.rules_bypass.proofs.bypass.Bypass.line_in.Goals as goal

pub returns-else-may_count : goal.returns-else-may_count
returns-else-may_count c = passed_over c.args.self (seen c.args.tree.now.trees) (seen_row c.args.row.now) (sym c.may_count.ensures ∙ c.if-may_count.false)
