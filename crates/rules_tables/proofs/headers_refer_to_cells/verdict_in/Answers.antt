use Rattle.acc_tree.specs.Seen.{seen}
use Rattle.rules_tables.proofs.Asking.{ids_of_number}
use Rattle.rules_tables.proofs.headers_refer_to_cells.verdict_in.Goals as goal

pub verdict-requires : goal.verdict-requires
verdict-requires c =
    ids_of_number (seen c.args.tree.now.trees) c.args.tables.now c.args.table c.in-Some-ids_among.known (seen c.in-Some.inside) c.in-Some-ids_among.ensures c.requires c.in-Some.ensures
