use Rattle.std.proofs.Common.{subst, All}
use Rattle.std.proofs.lemmas.List.Elements.{All-more}
use Rattle.keep_core.specs.declared.page.PageOutcomes.{PageOutcomes}
use Rattle.store_tables.specs.Numbers.{HasNumbers}
use Rattle.store_tables.proofs.numbers.see_outcomes.Goals as goal

pub loop-page-preserved : goal.loop-page-preserved
loop-page-preserved c =
    let P : PageOutcomes → Type 0 = λ p. All HasNumbers p.outcomes.rows in
    All-more P c.args.pages.now c.loop-page.page-index c.page-item.result c.loop-page-test.true c.loop-page.invariant (subst P c.page-item.is (subst (All HasNumbers) c.as_slice.ensures c.see_rows.ensures))
