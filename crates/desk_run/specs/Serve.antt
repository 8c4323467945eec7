-- The command `serve`: why it ends with each status, and what it writes then.
use Rattle.std.specs.Prelude.{◌≡◌, ◌<◌, ◌≤◌, ◌⊎◌, List, [], ◌∷◌, length, Option, Ok, Err}
use Rattle.counts.specs.Counts.{Rose, StoodStill}
use Rattle.links.specs.declared.door.Heard.{Heard}
use Rattle.links.specs.Doors.{Doorway, Stays, Opened, KeepsLog}
use Rattle.rule_core.specs.Books.{Book}
use Rattle.desk_http.specs.Serving.{KeepsSound}
use Rattle.desk_http.specs.Doors.{ServesDoor}
use Rattle.desk_words.specs.declared.command.Serving.{Serving}
use Rattle.audit_run.specs.declared.status.Status.{Status}
use Rattle.audit_run.specs.declared.status.Status.TheVariants.{Done, UsageFault, WriteFault, StoreFault, ListenFault, NoMemory}
use Rattle.audit_run.specs.Status.{status_line, OneOf}
use Rattle.keep_core.specs.declared.fault.KeepFault.{KeepFault}
use Rattle.keep_core.specs.declared.fault.KeepFault.TheVariants.{Failed, OutOfMemory}
use Rattle.desk_http.specs.Desk.{Desk, beside_door}
use Rattle.desk_run.specs.Desk.{with_first, SameDoor, Spares}
use Rattle.desk_run.specs.Refreshed.{Refreshed}
use Rattle.audit_run.specs.Telling.{Writing, nothing, line_alone}

-- what it listens at
abbrev pub heard_of : Serving → Heard
heard_of serving = record { port = serving.port; count = serving.connections }

-- the door couldn't listen, and nothing but its faults has changed
pub record IsDeaf {L : Type 0} (serving : Serving) (old new : Desk L) : Type 0 where
  pub enough : serving.workers ≤ length old.calls
  pub door : Stays old.door new.door
  pub log : KeepsLog old.log new.log
  pub tables : new.tables ≡ old.tables
  pub faults : new.faults ≡ old.faults
  pub calls : new.calls ≡ old.calls

-- The door listened without a fault, at this port and for so many connections, and was then served by the first
-- books: the links in its log, as many as the number of connections still allowed went down, were served one after
-- another, by the machine of the book, within the bound on judgings. The door and its log in between are those
-- after `listen`. What was sound stays so.
pub record IsServed {L : Type 0} (book : Book) (serving : Serving) (old new : Desk L) : Type 0 where
  pub door : Doorway
  pub log : Option (List L)
  pub opened : Opened old.door door (heard_of serving)
  pub no_fault : door.faults ≡ old.door.faults
  pub kept : KeepsLog old.log log
  pub enough : serving.workers ≤ length old.calls
  pub heard : new.door.heard ≡ door.heard
  pub given_back : new.door.out ≡ door.out
  pub served : ServesDoor book (with_first serving.workers (record old { door = door; log = log })) (with_first serving.workers new)
  pub sound : KeepsSound book old.tables new.tables
  pub spares : Spares serving.workers old.calls new.calls

-- why it ends so once what is kept was refreshed
abbrev pub FreshCause : {L : Type 0} → Book → Serving → Desk L → Desk L → Status → Writing → Type 0
FreshCause book serving begun new Done writing = IsServed book serving begun new × (new.door.allowed ≡ 0) × (writing ≡ nothing)
FreshCause book serving begun new ListenFault writing =
    Rose begun.door.faults new.door.faults × (IsDeaf serving begun new ⊎ IsServed book serving begun new) × (writing ≡ line_alone (status_line ListenFault))
FreshCause book serving begun new other writing = ⊥

-- a serve began so: what is kept was refreshed by the books that are to serve, and the door is as it was
pub record Begins {L : Type 0} (book : Book) (serving : Serving) (old new : Desk L) : Type 0 where
  pub enough : serving.workers ≤ length old.calls
  pub same : SameDoor old new
  pub refreshed : Refreshed {A = Unit {0}} book serving.workers (Ok tt) (beside_door old) (beside_door new)

-- or it couldn't
pub record BreaksOff {L : Type 0} (book : Book) (serving : Serving) (fault : KeepFault) (old new : Desk L) : Type 0 where
  pub enough : serving.workers ≤ length old.calls
  pub same : SameDoor old new
  pub refreshed : Refreshed {A = Unit {0}} book serving.workers (Err fault) (beside_door old) (beside_door new)

-- why a serve ends with a status; with others it never does
abbrev pub ServeCause : {L : Type 0} → Book → Serving → Desk L → Desk L → Status → Writing → Type 0
ServeCause book serving old new Done writing = (begun : Desk _) × Begins book serving old begun × FreshCause book serving begun new Done writing
ServeCause book serving old new ListenFault writing =
    (begun : Desk _) × Begins book serving old begun × FreshCause book serving begun new ListenFault writing
ServeCause book serving old new StoreFault writing = BreaksOff book serving Failed old new × (writing ≡ line_alone (status_line StoreFault))
ServeCause book serving old new NoMemory writing = BreaksOff book serving OutOfMemory old new × (writing ≡ line_alone (status_line NoMemory))
ServeCause book serving old new UsageFault writing = (length old.calls < serving.workers) × (new ≡ old) × (writing ≡ line_alone (status_line UsageFault))
ServeCause book serving old new other writing = ⊥

-- ---- which statuses can come of it

-- whatever the objects outside do: more workers than there are books are refused
abbrev pub ServeBound : {L : Type 0} → Serving → Desk L → Status → Type 0
ServeBound serving old status = length old.calls < serving.workers → OneOf (UsageFault ∷ WriteFault ∷ NoMemory ∷ []) status

-- without faults of the door and of the keeper: no more workers than books serve to the end
abbrev pub ServeComplete : {L : Type 0} → Serving → Desk L → Desk L → Status → Type 0
ServeComplete serving old new status =
    StoodStill old.door.faults new.door.faults → StoodStill old.faults new.faults → serving.workers ≤ length old.calls → OneOf (Done ∷ NoMemory ∷ []) status
