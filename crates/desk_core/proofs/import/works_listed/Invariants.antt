use Rattle.std.proofs.Common.{◌≡◌, map, take}
use Rattle.desk_core.specs.Placing.{work_listed}
use Rattle.desk_core.proofs.import.works_listed.Given as goal

abbrev pub invariant-loop-work : goal.invariant-loop-work
invariant-loop-work l = l.all.items ≡ map (work_listed l.languages) (take l.work-index l.works)
