-- What a run writes of what it has found, and what the sinks hold then.
use Rattle.std.specs.Prelude.{◌≡◌, ℕ, List, [], ◌⊎◌, if◌then◌else◌}
use Rattle.audit_run.specs.declared.found.Found.{Found}
use Rattle.audit_run.specs.declared.found.Found.TheVariants.{Finished, Served, Usage, ReadFault, NotSnapshot, StoreFault, ListenFault, NoMemory}
use Rattle.audit_run.specs.declared.status.Status.{Status}
use Rattle.audit_run.specs.declared.status.Status.TheVariants as status
use Rattle.audit_run.specs.Status.{status_line}
use Rattle.streams.specs.Told.{Output, Outside}
use Rattle.streams.specs.Streams.{Took, BrokeOff, TookOrBroke}

-- what a run is to write, on standard output and on standard error
pub record Writing : Type 0 where
  pub output : List ℕ
  pub line : List ℕ

abbrev pub output_alone : List ℕ → Writing
output_alone output = record { output = output; line = [] }

abbrev pub nothing : Writing
nothing = record { output = []; line = [] }

abbrev pub line_alone : List ℕ → Writing
line_alone line = record { output = []; line = line }

-- the status where all can be written
abbrev pub status_of : Found → Status
status_of (Finished output failed) = if failed then status.SomeFailed else status.Done
status_of Served = status.Done
status_of Usage = status.UsageFault
status_of ReadFault = status.ReadFault
status_of (NotSnapshot line) = status.SnapshotFault
status_of StoreFault = status.StoreFault
status_of ListenFault = status.ListenFault
status_of NoMemory = status.NoMemory

-- what is to be written of it
abbrev pub writing_of : Found → Writing
writing_of (Finished output failed) = output_alone output
writing_of Served = nothing
writing_of (NotSnapshot line) = line_alone line
writing_of found = line_alone (status_line (status_of found))

-- these bytes alone were written, and all is done
pub record IsDone (bytes : List ℕ) (old new : Outside) (ended : Status) : Type 0 where
  pub status_is : ended ≡ status.Done
  pub out : Took old.out new.out bytes
  pub err : Took old.err new.err []

-- all was written
pub record IsWritten (writing : Writing) (out out' err err' : Output) : Type 0 where
  pub out_took : Took out out' writing.output
  pub err_took : Took err err' writing.line

-- the output broke off, which standard error tells where it can
pub record IsOutputCut (writing : Writing) (out out' err err' : Output) : Type 0 where
  pub out_broke : BrokeOff out out' writing.output
  pub err_told : TookOrBroke err err' (status_line status.WriteFault)

-- the line broke off
pub record IsLineCut (writing : Writing) (out out' err err' : Output) : Type 0 where
  pub out_took : Took out out' writing.output
  pub err_broke : BrokeOff err err' writing.line

-- A run that is to end with a status ends so where all is written, and else with that of a write fault.
abbrev pub Tells : Status → Writing → Output → Output → Output → Output → Status → Type 0
Tells planned writing out out' err err' ended =
    ((ended ≡ planned) × IsWritten writing out out' err err')
    ⊎ ((ended ≡ status.WriteFault) × (IsOutputCut writing out out' err err' ⊎ IsLineCut writing out out' err err'))
