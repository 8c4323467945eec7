-- Why an audit ends, from what it read and what it found in that, and which statuses can come of it.
use Rattle.std.proofs.Common.{◌≡◌, ℕ, ◌<◌, inl, inr, Bool, true, false, List, [], ◌∷◌, length, Err, refl, ap, arith}
use Rattle.std.proofs.lemmas.Bool.{lt-leb}
use Rattle.snap_tree.specs.Trees.{Document}
use Rattle.snap_json.specs.declared.fault.SnapFault.{SnapFault}
use Rattle.snap_json.specs.declared.fault.SnapFault.TheVariants.{TooLong}
use Rattle.snap_json.specs.declared.limits.TheConstants.{MOST_SNAPSHOT_BYTES}
use Rattle.snap_json.specs.Pages.{sent_tree, tree_in, page_in}
use Rattle.rule_core.specs.Books.{Book}
use Rattle.audit_run.specs.declared.auditing.TheConstants.{MOST_READ}
use Rattle.audit_run.specs.declared.found.Found.{Found}
use Rattle.audit_run.specs.declared.found.Found.TheVariants as found
use Rattle.audit_run.specs.declared.status.Status.{Status}
use Rattle.audit_run.specs.declared.status.Status.TheVariants.{Done, SomeFailed, UsageFault, ReadFault, WriteFault, SnapshotFault, StoreFault, ListenFault, NoMemory}
use Rattle.audit_run.specs.Status.{OneOf}
use Rattle.streams.specs.Told.{Input}
use Rattle.streams.specs.Streams.{IsReadTo}
use Rattle.audit_run.specs.Telling.{Writing, output_alone, line_alone, status_of, writing_of}
use Rattle.audit_run.specs.Audit.{IsFoundIn, Reports, AuditCause, TellsPage, TellsFault}
use Rattle.audit_run.proofs.Meant.{IsLimited, gave_all, all_refused, same_meaning, no_fault}

-- ---- bytes that are a snapshot are within the limit

too_long : (bytes : List ℕ) → MOST_SNAPSHOT_BYTES < length bytes → sent_tree bytes ≡ Err TooLong
unfolding tree_in page_in
too_long bytes h = rw (lt-leb (length bytes) MOST_SNAPSHOT_BYTES h) refl

limited : IsLimited sent_tree
limited = record { fault = TooLong; beyond = λ bytes h. too_long bytes (omega (arith, h)) }

-- ---- why an audit ends

reports : (book : Book) (old new : Input) (bytes report : List ℕ) (failed : Bool) → IsReadTo MOST_READ old new bytes → IsFoundIn book bytes (found.Finished report failed) → Reports book old new failed (output_alone report)
reports book old new bytes report failed gave f =
    record { bytes = bytes; page = f.0; gave = gave_all sent_tree limited old new bytes f.0 f.1 gave; is_snapshot = f.1; failed_is = f.3; writes = ap output_alone f.2 }

pub audited : (book : Book) (old new : Input) (bytes : List ℕ) (f : Found) → IsReadTo MOST_READ old new bytes → IsFoundIn book bytes f → AuditCause book old new (status_of f) (writing_of f)
audited book old new bytes (found.Finished report true) gave f = reports book old new bytes report true gave f
audited book old new bytes (found.Finished report false) gave f = reports book old new bytes report false gave f
audited book old new bytes (found.NotSnapshot line) gave f = record { bytes = bytes; fault = f.0; gave = gave; is_refused = f.1; writes = ap line_alone f.2 }
audited book old new bytes found.NoMemory gave f = refl
audited book old new bytes found.Usage gave f = absurd f
audited book old new bytes found.ReadFault gave f = absurd f
audited book old new bytes found.StoreFault gave f = absurd f
audited book old new bytes found.ListenFault gave f = absurd f
audited book old new bytes found.Served gave f = absurd f

-- ---- which statuses can come of what a source tells

-- what was read of what a source tells is the page that it tells
pub same_page : (book : Book) (old new : Input) (failed : Bool) (writing : Writing) (page : Document) → (r : Reports book old new failed writing) → TellsPage old page → r.page ≡ page
same_page book old new failed writing page r tells = same_meaning sent_tree old new tells.bytes r.bytes page r.page tells.left r.gave tells.is_snapshot r.is_snapshot

no_page : (book : Book) (old new : Input) (failed : Bool) (writing : Writing) → Reports book old new failed writing → TellsFault old → ⊥
no_page book old new failed writing r tells = no_fault sent_tree old new tells.bytes r.bytes r.page tells.fault tells.left r.gave tells.is_refused r.is_snapshot

pub refused : (old new : Input) (bytes : List ℕ) (fault : SnapFault) (page : Document) → IsReadTo MOST_READ old new bytes → sent_tree bytes ≡ Err fault → TellsPage old page → ⊥
refused old new bytes fault page gave is tells = all_refused sent_tree limited old new tells.bytes bytes page fault tells.left gave is tells.is_snapshot

pub of_no_snapshot : (book : Book) (old new : Input) (status : Status) (writing : Writing) → AuditCause book old new status writing → TellsFault old → OneOf (ReadFault ∷ SnapshotFault ∷ NoMemory ∷ []) status
of_no_snapshot book old new Done writing cause tells = absurd (no_page book old new false writing cause tells)
of_no_snapshot book old new SomeFailed writing cause tells = absurd (no_page book old new true writing cause tells)
of_no_snapshot book old new ReadFault writing cause tells = inl refl
of_no_snapshot book old new SnapshotFault writing cause tells = inr (inl refl)
of_no_snapshot book old new NoMemory writing cause tells = inr (inr (inl refl))
of_no_snapshot book old new UsageFault writing cause tells = absurd cause
of_no_snapshot book old new WriteFault writing cause tells = absurd cause
of_no_snapshot book old new StoreFault writing cause tells = absurd cause
of_no_snapshot book old new ListenFault writing cause tells = absurd cause
