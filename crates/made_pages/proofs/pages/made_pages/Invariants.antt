use Rattle.std.proofs.Common.{◌≡◌}
use Rattle.made_pages.specs.Pages.{made_pages}
use Rattle.made_pages.proofs.pages.made_pages.Given as goal

abbrev pub invariant-loop-earlier : goal.invariant-loop-earlier
invariant-loop-earlier l = l.trees.items ≡ made_pages l.number l.earlier
