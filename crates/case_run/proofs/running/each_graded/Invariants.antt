use Rattle.std.proofs.Common.{◌≡◌, map}
use Rattle.case_run.specs.Grades.{graded_by}
use Rattle.case_run.proofs.running.each_graded.Given as goal

abbrev pub invariant-loop-case : goal.invariant-loop-case
invariant-loop-case l = l.graded.items ≡ map (λ p. graded_by p.0.now p.1.now.rows) l.yielded
