use Rattle.std.proofs.Common.{subst, All}
use Rattle.std.proofs.lemmas.List.Elements.{All-more}
use Rattle.keep_core.specs.declared.page.PagePut.{PagePut}
use Rattle.store_tables.specs.Numbers.{HasNumbers}
use Rattle.store_tables.proofs.numbers.see_pages.Goals as goal

pub loop-put-preserved : goal.loop-put-preserved
loop-put-preserved c =
    let P : PagePut → Type 0 = λ p. All HasNumbers p.outcomes.rows in
    All-more P c.args.puts.now c.loop-put.put-index c.put-item.result c.loop-put-test.true c.loop-put.invariant (subst P c.put-item.is (subst (All HasNumbers) c.as_slice.ensures c.see_rows.ensures))
