use Rattle.std.proofs.Common.{◌≡◌, map}
use Rattle.desk_core.specs.Relisting.{outcomes_named}
use Rattle.desk_core.proofs.languages.name_all.Given as goal

abbrev pub invariant-loop-head : goal.invariant-loop-head
invariant-loop-head l = l.all.items ≡ map (λ p. outcomes_named (p.0.now, p.1)) l.yielded
