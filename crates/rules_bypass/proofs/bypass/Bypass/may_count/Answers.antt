use Rattle.std.proofs.Common.{sym, ◌∙◌}
use Rattle.acc_tree.specs.Seen.{seen_row, seen}
use Rattle.rules_bypass.proofs.AtAGlance.{ruled_out}
use Rattle.rules_bypass.proofs.bypass.Bypass.may_count.Goals as goal

pub returns-else-seems : goal.returns-else-seems
returns-else-seems c = c.if-seems.false ∙ ruled_out c.args.self (seen c.args.tree.now.trees) (seen_row c.args.row.now) (sym c.seems.ensures ∙ c.if-seems.false)
