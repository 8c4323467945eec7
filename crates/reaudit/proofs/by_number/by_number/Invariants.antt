use Rattle.std.proofs.Common.{◌≡◌, ◌+◌, ℕ, length}
use Rattle.std.specs.Option.{option_or}
use Rattle.number_tables.specs.Tables.{at}
use Rattle.reaudit.specs.Known.{first_known}
use Rattle.reaudit.proofs.by_number.by_number.Given as goal

abbrev pub invariant-loop-flags : goal.invariant-loop-flags
invariant-loop-flags l = record {
  placed : l.place + length l.rest ≡ length l.fn.list;
  each : (n : ℕ) → option_or (at l.table n) (first_known l.place n l.rest) ≡ first_known 0 n l.fn.list;
}

abbrev pub decreases-loop-flags : goal.decreases-loop-flags
decreases-loop-flags l = length l.rest
