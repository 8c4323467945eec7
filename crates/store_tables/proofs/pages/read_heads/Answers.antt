use Rattle.sqlite_value.specs.Order.{column}
use Rattle.sql_rows.specs.Tables.{name_at}
use Rattle.store_tables.specs.Pages.{head_from}
use Rattle.store_tables.proofs.Each.{each_stepped}
use Rattle.store_tables.proofs.pages.read_heads.Goals as goal

pub loop-row-preserved : goal.loop-row-preserved
loop-row-preserved c =
    each_stepped (λ c. head_from (name_at 0 c) (column c 1) (column c 2)) c.args.rows.now c.loop-row.row-index c.row-item.result c.loop-row.heads.items c.push.new.self.items c.in_ok-head.field-0
    c.loop-row-test.true c.row-item.is c.loop-row.invariant c.in_ok-head.ensures.reads c.in_ok-push.ensures.items
