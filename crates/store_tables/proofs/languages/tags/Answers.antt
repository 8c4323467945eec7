use Rattle.std.proofs.Common.{arith}
use Rattle.store_tables.specs.Languages.{language_from}
use Rattle.store_tables.proofs.Counted.{counted_stepped}
use Rattle.store_tables.proofs.languages.tags.Goals as goal

pub loop-row-preserved : goal.loop-row-preserved
loop-row-preserved c = (
  counted_stepped language_from 1 c.loop-row.place c.args.rows.now c.loop-row.row-index c.row-item.result c.loop-row.tags.items c.push.new.self.items c.in_ok-language.field-0
      c.loop-row-test.true c.row-item.is (omega (arith, c.loop-row.invariant.1)) c.loop-row.invariant.0 c.in_ok-language.ensures c.in_ok-push.ensures.items,
  omega (arith, c.loop-row.invariant.1),
)
