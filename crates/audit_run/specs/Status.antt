-- How the program ends: the number of each status, and its line on standard error.
use Rattle.std.specs.Prelude.{◌≡◌, ℕ, ◌⊎◌, List, [], ◌∷◌, codes}
use Rattle.audit_run.specs.declared.status.Status.{Status}
use Rattle.audit_run.specs.declared.status.Status.TheVariants.{Done, SomeFailed, UsageFault, ReadFault, WriteFault, SnapshotFault, StoreFault, ListenFault, NoMemory}

abbrev pub status_number : Status → ℕ
status_number Done = 0
status_number SomeFailed = 1
status_number UsageFault = 2
status_number ReadFault = 3
status_number WriteFault = 4
status_number SnapshotFault = 5
status_number StoreFault = 6
status_number ListenFault = 7
status_number NoMemory = 8

-- the line that is the same each time; a snapshot's fault has a line of its own
abbrev pub status_line : Status → List ℕ
status_line Done = []
status_line SomeFailed = []
status_line UsageFault = codes "usage fault\n"
status_line ReadFault = codes "read fault\n"
status_line WriteFault = codes "write fault\n"
status_line SnapshotFault = []
status_line StoreFault = codes "store fault\n"
status_line ListenFault = codes "listen fault\n"
status_line NoMemory = codes "no memory\n"

abbrev pub OneOf : List Status → Status → Type 0
OneOf [] status = ⊥
OneOf (s ∷ others) status = (status ≡ s) ⊎ OneOf others status
