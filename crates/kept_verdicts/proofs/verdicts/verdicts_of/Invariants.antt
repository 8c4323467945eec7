use Rattle.std.proofs.Common.{◌≡◌, map}
use Rattle.kept_verdicts.specs.Verdicts.{verdict_of}
use Rattle.kept_verdicts.proofs.verdicts.verdicts_of.Given as goal

abbrev pub invariant-loop-judgement : goal.invariant-loop-judgement
invariant-loop-judgement l = l.verdicts.items ≡ map verdict_of l.yielded
