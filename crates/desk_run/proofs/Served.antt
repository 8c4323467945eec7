-- That a door was served, from what `listen` and the service of its links did.
use Rattle.std.proofs.Common.{◌≡◌, ◌≤◌, length, List, Option}
use Rattle.links.specs.Doors.{Doorway, Opened, KeepsLog}
use Rattle.rule_core.specs.Books.{Book}
use Rattle.desk_http.specs.Serving.{KeepsSound}
use Rattle.desk_http.specs.Doors.{ServesDoor}
use Rattle.desk_words.specs.declared.command.Serving.{Serving}
use Rattle.desk_http.specs.Desk.{Desk}
use Rattle.desk_run.specs.Desk.{with_first, Spares}
use Rattle.audit_run.specs.declared.status.Status.{Status}
use Rattle.audit_run.specs.declared.status.Status.TheVariants.{Done, SomeFailed, UsageFault, ReadFault, WriteFault, SnapshotFault, StoreFault, ListenFault, NoMemory}
use Rattle.audit_run.specs.Telling.{Writing}
use Rattle.desk_run.specs.Serve.{heard_of, IsServed, Begins, FreshCause, ServeCause}

pub served : {L : Type 0} (book : Book) (serving : Serving) (old new : Desk L) (door : Doorway) (log : Option (List L)) → serving.workers ≤ length old.calls → Opened old.door door (heard_of serving) → KeepsLog old.log log →
    door.faults ≡ old.door.faults → new.door.heard ≡ door.heard → new.door.out ≡ door.out →
    ServesDoor book (with_first serving.workers (record old { door = door; log = log })) (with_first serving.workers new) →
    KeepsSound book old.tables new.tables → Spares serving.workers old.calls new.calls → IsServed book serving old new
served book serving old new door log enough opened kept no_fault heard given_back serves sound spares =
    record { door = door; log = log; opened = opened; no_fault = no_fault; kept = kept; enough = enough; heard = heard; given_back = given_back; served = serves; sound = sound; spares = spares }

-- what ends a serve once what is kept was refreshed is why it ends
pub fresh_serves : {L : Type 0} (book : Book) (serving : Serving) (old begun new : Desk L) (status : Status) (writing : Writing) → Begins book serving old begun → FreshCause book serving begun new status writing →
    ServeCause book serving old new status writing
fresh_serves book serving old begun new Done writing begins cause = (begun, begins, cause)
fresh_serves book serving old begun new ListenFault writing begins cause = (begun, begins, cause)
fresh_serves book serving old begun new SomeFailed writing begins cause = absurd cause
fresh_serves book serving old begun new UsageFault writing begins cause = absurd cause
fresh_serves book serving old begun new ReadFault writing begins cause = absurd cause
fresh_serves book serving old begun new WriteFault writing begins cause = absurd cause
fresh_serves book serving old begun new SnapshotFault writing begins cause = absurd cause
fresh_serves book serving old begun new StoreFault writing begins cause = absurd cause
fresh_serves book serving old begun new NoMemory writing begins cause = absurd cause
