use Rattle.std.proofs.Common.{◌≡◌, ◌≤◌, length}
use Rattle.rules_page.specs.Digits.{number_on, number_at_start}
use Rattle.rules_page.proofs.digits.number_at_start.Given as goal

abbrev pub invariant-loop-rest : goal.invariant-loop-rest
invariant-loop-rest l = (number_on l.number l.rest ≡ number_at_start l.text) × (l.number ≤ 1000000000)

abbrev pub decreases-loop-rest : goal.decreases-loop-rest
decreases-loop-rest l = length l.rest
