use Rattle.std.proofs.Common.{take, All}
use Rattle.keep_core.specs.declared.page.PagePut.{PagePut}
use Rattle.store_tables.specs.Numbers.{HasNumbers}
use Rattle.store_tables.proofs.numbers.see_pages.Given as goal

abbrev pub invariant-loop-put : goal.invariant-loop-put
invariant-loop-put l = All (λ (p : PagePut). All HasNumbers p.outcomes.rows) (take l.put-index l.puts)
