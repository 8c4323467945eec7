use Rattle.std.proofs.Common.{◌≡◌, map}
use Rattle.desk_core.specs.Refreshing.{work_of}
use Rattle.desk_core.proofs.editions.works_of.Given as goal

-- the pages so far have their works
abbrev pub invariant-loop-page : goal.invariant-loop-page
invariant-loop-page l = l.works.items ≡ map work_of l.yielded
