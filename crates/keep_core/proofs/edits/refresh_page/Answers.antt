use Rattle.std.proofs.Common.{refl}
use Rattle.named_rows.proofs.Changing.{changed_there}
use Rattle.named_rows.proofs.Order.{in_order_with_row}
use Rattle.keep_core.specs.declared.tables.KeptPage.{KeptPage}
use Rattle.keep_core.specs.Tables.{page_name}
use Rattle.keep_core.specs.Changes.{having}
use Rattle.keep_core.proofs.edits.refresh_page.Goals as goal

pub returns-in-Found-clause-refreshed : goal.returns-in-Found-clause-refreshed
returns-in-Found-clause-refreshed c =
    let old : KeptPage = c.at_mut.result.now in
    changed_there page_name c.args.one.page c.args.pages.now c.in-Found.i c.in-Found.ensures (having c.args.one.outcomes) old
    (record old { outcomes = c.args.one.outcomes }) c.at_mut.ensures.value refl
