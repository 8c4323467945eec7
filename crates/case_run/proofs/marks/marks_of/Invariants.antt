use Rattle.std.proofs.Common.{◌≡◌, map}
use Rattle.case_run.specs.Judged.{mark_of}
use Rattle.case_run.proofs.marks.marks_of.Given as goal

abbrev pub invariant-loop-case : goal.invariant-loop-case
invariant-loop-case l = l.marks.items ≡ map (λ p. mark_of p.0.now p.1.now) l.yielded
