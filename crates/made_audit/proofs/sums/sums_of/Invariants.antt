use Rattle.std.proofs.Common.{◌≡◌, take}
use Rattle.made_audit.specs.Line.{sums_of}
use Rattle.made_audit.proofs.sums.sums_of.Given as goal

abbrev pub invariant-loop-page : goal.invariant-loop-page
invariant-loop-page l = l.sums ≡ sums_of l.infos (take l.page-index l.pages)
