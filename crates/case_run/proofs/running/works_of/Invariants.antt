use Rattle.std.proofs.Common.{◌≡◌, map, take}
use Rattle.case_run.specs.Works.{work_of}
use Rattle.case_run.proofs.running.works_of.Given as goal

abbrev pub invariant-loop-case : goal.invariant-loop-case
invariant-loop-case l = l.works.items ≡ map work_of (take l.case-index l.cases)
