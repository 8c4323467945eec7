use Rattle.std.proofs.Common.{◌∙◌, sym}
use Rattle.acc_tree.specs.Seen.{seen_row, seen}
use Rattle.rules_tables.proofs.Deciding.{large_found, some_found, none_found}
use Rattle.rules_tables.proofs.header_has_cells.finding.Goals as goal

pub returns-then-heads : goal.returns-then-heads
returns-then-heads c =
    c.cant_tell.ensures ∙ large_found c.args.above.now (seen_row c.args.header.now) (seen c.args.table.now) c.args.heads.now c.requires c.if-heads.true

pub returns-then-finds : goal.returns-then-finds
returns-then-finds c =
    c.met.ensures ∙ some_found c.args.above.now (seen_row c.args.header.now) (seen c.args.table.now) c.args.heads.now c.requires c.if-heads.false (sym c.if-finds.true ∙ c.finds.ensures)

pub returns-else-finds : goal.returns-else-finds
returns-else-finds c =
    c.failed.ensures ∙ none_found c.args.above.now (seen_row c.args.header.now) (seen c.args.table.now) c.args.heads.now c.requires c.if-heads.false (sym c.if-finds.false ∙ c.finds.ensures)
