use Rattle.std.proofs.Common.{◌≡◌, length}
use Rattle.aria_tables.specs.Numbers.{after_digits}
use Rattle.rules_page.proofs.digits.after_digits.Given as goal

abbrev pub invariant-loop-rest : goal.invariant-loop-rest
invariant-loop-rest l = after_digits l.rest ≡ after_digits l.text

abbrev pub decreases-loop-rest : goal.decreases-loop-rest
decreases-loop-rest l = length l.rest
