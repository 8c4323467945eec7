use Rattle.std.proofs.Common.{◌≡◌}
use Rattle.made_pages.specs.Pages.{rows_before}
use Rattle.made_pages.proofs.page.rows.Given as goal

abbrev pub invariant-loop-part : goal.invariant-loop-part
invariant-loop-part l = l.rows.items ≡ rows_before l.number l.page l.part
