use Rattle.std.proofs.Common.{refl, sym, ◌∙◌}
use Rattle.acc_tree.specs.Seen.{seen_row}
use Rattle.rules_tables.proofs.Asking.{open_data}
use Rattle.rules_tables.proofs.heads.Cells.add_data.Goals as goal

pub returns-in_ok-push : goal.returns-in_ok-push
returns-in_ok-push c =
    open_data c.args.self.now _ (record { cell = seen_row c.args.cell.now; area = c.args.area }) refl refl c.in_ok-push.ensures.items (sym c.is_blank_at.ensures ∙ c.if-is_blank_at.true)
