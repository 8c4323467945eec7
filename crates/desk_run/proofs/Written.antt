-- What was written of what was to be written: all of it where no sink met a fault.
use Rattle.std.proofs.Common.{◌≡◌, ℕ, ◌⊎◌, inl, inr, List, sym, subst}
use Rattle.counts.specs.Counts.{StoodStill, Rose}
use Rattle.counts.proofs.CountLaws.{next_rose, still_not_risen}
use Rattle.audit_run.specs.declared.status.Status.{Status}
use Rattle.audit_run.specs.declared.status.Status.TheVariants.{WriteFault}
use Rattle.streams.specs.Told.{Output, Outside}
use Rattle.streams.specs.Streams.{NoFaults, BrokeOff}
use Rattle.audit_run.specs.Telling.{Writing, IsWritten, Tells}

pub no_break : (old new : Output) (bytes : List ℕ) → StoodStill old.faults new.faults → BrokeOff old new bytes → ⊥
no_break old new bytes still broke = still_not_risen old.faults new.faults still (subst (Rose old.faults) (sym broke.fault) (next_rose old.faults))

pub all_written : (old new : Outside) (planned status : Status) (writing : Writing) → NoFaults old new → Tells planned writing old.out new.out old.err new.err status → (status ≡ planned) × IsWritten writing old.out new.out old.err new.err
all_written old new planned status writing none (inl whole) = whole
all_written old new planned status writing none (inr (is, inl cut)) = absurd (no_break old.out new.out writing.output none.out cut.out_broke)
all_written old new planned status writing none (inr (is, inr cut)) = absurd (no_break old.err new.err writing.line none.err cut.err_broke)

-- the status of a cause, or that of a write fault
pub ends_in : (planned status : Status) (writing : Writing) (out out' err err' : Output) → Tells planned writing out out' err err' status → (status ≡ planned) ⊎ (status ≡ WriteFault)
ends_in planned status writing out out' err err' (inl whole) = inl whole.0
ends_in planned status writing out out' err err' (inr cut) = inr cut.0
