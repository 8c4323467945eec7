use Rattle.std.proofs.Common.{take, All}
use Rattle.keep_core.specs.declared.page.PageOutcomes.{PageOutcomes}
use Rattle.store_tables.specs.Numbers.{HasNumbers}
use Rattle.store_tables.proofs.numbers.see_outcomes.Given as goal

abbrev pub invariant-loop-page : goal.invariant-loop-page
invariant-loop-page l = All (λ (o : PageOutcomes). All HasNumbers o.outcomes.rows) (take l.page-index l.pages)
