use Rattle.std.proofs.Common.{length}
use denote.Text.{Utf8}
use denote.Shadow.{shadow}
use Rattle.test_locality.proofs.cases.relisted.Given as goal

abbrev pub invariant-loop-lang : goal.invariant-loop-lang
invariant-loop-lang l = shadow (Utf8 l.rest)

abbrev pub decreases-loop-lang : goal.decreases-loop-lang
decreases-loop-lang l = length l.rest
