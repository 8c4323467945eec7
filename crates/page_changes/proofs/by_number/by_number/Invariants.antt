use Rattle.std.proofs.Common.{◌≡◌, ℕ, length}
use Rattle.std.specs.Option.{option_or}
use Rattle.number_tables.specs.Tables.{at}
use Rattle.page_changes.specs.ByNumber.{first_agreed}
use Rattle.page_changes.proofs.by_number.by_number.Given as goal

abbrev pub invariant-loop-marks : goal.invariant-loop-marks
invariant-loop-marks l = (n : ℕ) → option_or (at l.table n) (first_agreed n l.rest) ≡ first_agreed n l.fn.each

abbrev pub decreases-loop-marks : goal.decreases-loop-marks
decreases-loop-marks l = length l.rest
