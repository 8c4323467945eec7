use Rattle.std.proofs.Common.{◌≡◌, map}
use Rattle.desk_core.specs.Relisting.{relisting}
use Rattle.desk_core.proofs.languages.works_of.Given as goal

abbrev pub invariant-loop-page : goal.invariant-loop-page
invariant-loop-page l = l.works.items ≡ map (relisting l.languages) l.yielded
