-- The command `audit`: why it ends with each status, and what it writes then.
use Rattle.std.specs.Prelude.{◌≡◌, ℕ, List, [], ◌∷◌, ◌⊎◌, Bool, true, false, if◌then◌else◌, Some, IfSome, Ok, Err}
use Rattle.std.specs.List.{list_any}
use Rattle.std.specs.Io.KnownBytes.{IsAtEnd}
use Rattle.counts.specs.Counts.{Rose}
use Rattle.snap_tree.specs.Trees.{Document}
use Rattle.snap_json.specs.declared.fault.SnapFault.{SnapFault}
use Rattle.snap_json.specs.Pages.{sent_tree}
use Rattle.rule_core.specs.declared.verdict.Auto.TheVariants.{Failed}
use Rattle.rule_core.specs.Books.{Book}
use Rattle.judge_core.specs.declared.outcomes.OutRow.{OutRow}
use Rattle.judge_core.specs.Outcomes.{outcomes}
use Rattle.audit_run.specs.declared.auditing.TheConstants.{MOST_READ}
use Rattle.audit_run.specs.declared.found.Found.{Found}
use Rattle.audit_run.specs.declared.found.Found.TheVariants as found
use Rattle.audit_run.specs.declared.status.Status.{Status}
use Rattle.audit_run.specs.declared.status.Status.TheVariants.{Done, SomeFailed, ReadFault, WriteFault, SnapshotFault, NoMemory}
use Rattle.audit_run.specs.Status.{status_line, OneOf}
use Rattle.streams.specs.Told.{Input, Outside}
use Rattle.streams.specs.Streams.{IsReadTo, Took}
use Rattle.audit_run.specs.Telling.{Writing, output_alone, line_alone}
use Rattle.reports.specs.TextReport.{text_report, is_outcome}
use Rattle.audit_run.specs.FaultLine.{fault_line}

-- the text report of a page's outcomes by a book, of which nothing was judged
abbrev pub report_of : Book → Document → List ℕ
report_of book page = text_report page.address book.infos (outcomes book page [])

-- some final outcome is failed
abbrev pub has_failed : List OutRow → Bool
has_failed rows = list_any (λ row. is_outcome Failed row.last) rows

abbrev pub fails : Book → Document → Bool
fails book page = has_failed (outcomes book page [])

-- What an audit finds in bytes: the report of a page, and whether some outcome is failed; or the line of
-- the fault that they have; or want of memory.
abbrev pub IsFoundIn : Book → List ℕ → Found → Type 0
IsFoundIn book bytes (found.Finished report failed) =
    (page : Document) × (sent_tree bytes ≡ Ok page) × (report ≡ report_of book page) × (failed ≡ fails book page)
IsFoundIn book bytes (found.NotSnapshot line) = (fault : SnapFault) × (sent_tree bytes ≡ Err fault) × (line ≡ fault_line fault)
IsFoundIn book bytes found.NoMemory = Unit {0}
IsFoundIn book bytes other = ⊥

-- ---- why an audit ends

-- The source was read to its end: where it tells its bytes, these are all that were left, and nothing is
-- left now.
pub record GaveAll (old new : Input) (bytes : List ℕ) : Type 0 where
  pub all : IfSome old.left (λ left. left ≡ bytes)
  pub end : IfSome old.left (λ _. IsAtEnd new.left)

-- the input was read to its end and is a snapshot of a page, whose report is to be written
pub record Reports (book : Book) (old new : Input) (failed : Bool) (writing : Writing) : Type 0 where
  pub bytes : List ℕ
  pub page : Document
  pub gave : GaveAll old new bytes
  pub is_snapshot : sent_tree bytes ≡ Ok page
  pub failed_is : failed ≡ fails book page
  pub writes : writing ≡ output_alone (report_of book page)

-- The input was read to its end, or to 8,388,609 bytes, and isn't a snapshot but has this first fault,
-- whose line is to be written.
pub record Refuses (old new : Input) (writing : Writing) : Type 0 where
  pub bytes : List ℕ
  pub fault : SnapFault
  pub gave : IsReadTo MOST_READ old new bytes
  pub is_refused : sent_tree bytes ≡ Err fault
  pub writes : writing ≡ line_alone (fault_line fault)

-- why an audit ends with a status; with others it never does
abbrev pub AuditCause : Book → Input → Input → Status → Writing → Type 0
AuditCause book old new Done writing = Reports book old new false writing
AuditCause book old new SomeFailed writing = Reports book old new true writing
AuditCause book old new ReadFault writing = Rose old.faults new.faults × (writing ≡ line_alone (status_line ReadFault))
AuditCause book old new SnapshotFault writing = Refuses old new writing
AuditCause book old new NoMemory writing = writing ≡ line_alone (status_line NoMemory)
AuditCause book old new other writing = ⊥

-- ---- which statuses can come of what a source tells

-- the source tells a snapshot of this page
pub record TellsPage (old : Input) (page : Document) : Type 0 where
  pub bytes : List ℕ
  pub left : old.left ≡ Some bytes
  pub is_snapshot : sent_tree bytes ≡ Ok page

-- the source tells what is no snapshot
pub record TellsFault (old : Input) : Type 0 where
  pub bytes : List ℕ
  pub fault : SnapFault
  pub left : old.left ≡ Some bytes
  pub is_refused : sent_tree bytes ≡ Err fault

-- whatever the source and the sinks do
abbrev pub AuditBound : Input → Status → Type 0
AuditBound old status = TellsFault old → OneOf (ReadFault ∷ WriteFault ∷ SnapshotFault ∷ NoMemory ∷ []) status

-- the report of a page alone was written, and the status is by its outcomes
pub record IsReported (book : Book) (old new : Outside) (page : Document) (status : Status) : Type 0 where
  pub out : Took old.out new.out (report_of book page)
  pub err : Took old.err new.err []
  pub status_is : status ≡ (if fails book page then SomeFailed else Done)

-- without faults
pub record AuditComplete (book : Book) (old new : Outside) (status : Status) : Type 0 where
  pub snapshot : (page : Document) → TellsPage old.input page → IsReported book old new page status ⊎ (status ≡ NoMemory)
  pub no_snapshot : TellsFault old.input → OneOf (SnapshotFault ∷ NoMemory ∷ []) status
