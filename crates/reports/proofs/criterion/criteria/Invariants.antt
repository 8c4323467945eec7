use Rattle.std.proofs.Common.{◌≡◌, take}
use Rattle.reports.specs.Criteria.{criteria}
use Rattle.reports.proofs.criterion.criteria.Given as goal

abbrev pub invariant-loop-page : goal.invariant-loop-page
invariant-loop-page l = l.found ≡ criteria (take l.page-index l.pages) l.c
