use Rattle.acc_tree.specs.Seen.{seen}
use Rattle.rules_tables.proofs.Asking.{of_number}
use Rattle.rules_tables.proofs.header_has_cells.verdict_in.Goals as goal

pub verdict-requires : goal.verdict-requires
verdict-requires c =
    of_number (seen c.args.tree.now.trees) c.args.tables.now c.args.table c.in-Some-heads_among.heads (seen c.in-Some.inside) c.in-Some-heads_among.ensures c.requires c.in-Some.ensures
