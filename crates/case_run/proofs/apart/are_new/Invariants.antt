use Rattle.std.proofs.Common.{◌≡◌, [], length}
use Rattle.case_run.specs.Apart.{all_new}
use Rattle.case_run.proofs.apart.are_new.Given as goal

abbrev pub invariant-loop-last : goal.invariant-loop-last
invariant-loop-last l = all_new [] l.rest ≡ all_new [] l.cases

abbrev pub decreases-loop-last : goal.decreases-loop-last
decreases-loop-last l = length l.rest
