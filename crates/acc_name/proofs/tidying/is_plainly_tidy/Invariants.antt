use Rattle.std.proofs.Common.{◌≡◌, ◌==◌, ◌&&◌, length, true}
use Rattle.acc_name.proofs.Plain.{goes_on}
use Rattle.acc_name.proofs.tidying.is_plainly_tidy.Given as goal

abbrev pub invariant-loop-rest : goal.invariant-loop-rest
invariant-loop-rest l = (l.plain && goes_on (l.before == 32) l.rest) ≡ goes_on true l.text

abbrev pub decreases-loop-rest : goal.decreases-loop-rest
decreases-loop-rest l = length l.rest
