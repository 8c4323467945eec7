-- The command `cases`: why it ends with each status, and what it writes then.
use Rattle.std.specs.Prelude.{◌≡◌, ℕ, ◌+◌, ◌≤◌, List, [], ◌∷◌, ◌⊎◌, Bool, true, false, if◌then◌else◌, Some, Result, Ok, Err}
use Rattle.counts.specs.Counts.{Rose}
use Rattle.rule_core.specs.Books.{Book}
use Rattle.case_run.specs.declared.case.Case.{Case}
use Rattle.case_run.specs.declared.fault.CasesFault.{CasesFault}
use Rattle.case_run.specs.Faults.{cases_line}
use Rattle.case_run.specs.Cases.{cases_in}
use Rattle.case_run.specs.Grades.{all_graded, cases_judgings, has_wrong}
use Rattle.case_run.specs.Table.{case_table}
use Rattle.audit_run.specs.declared.auditing.TheConstants.{MOST_READ}
use Rattle.audit_run.specs.declared.found.Found.{Found}
use Rattle.audit_run.specs.declared.found.Found.TheVariants as found
use Rattle.audit_run.specs.declared.status.Status.{Status}
use Rattle.audit_run.specs.declared.status.Status.TheVariants.{Done, SomeFailed, ReadFault, WriteFault, SnapshotFault, NoMemory}
use Rattle.audit_run.specs.Status.{status_line, OneOf}
use Rattle.audit_run.specs.Audit.{GaveAll}
use Rattle.audit_run.specs.Telling.{Writing, output_alone, line_alone}
use Rattle.streams.specs.Told.{Input, Outside}
use Rattle.streams.specs.Streams.{Gave, IsReadTo, Took}
use Rattle.desk_http.specs.Desk.{Desk}

-- the cases that bytes are, for the rules of a book; or the first fault
abbrev pub cases_by : Book → List ℕ → Result (List Case) CasesFault
cases_by book bytes = cases_in book.infos bytes

-- the table of what a book finds of cases
abbrev pub table_of : Book → List Case → List ℕ
table_of book cases = case_table book.infos cases (all_graded book cases)

-- some outcome is another than was expected
abbrev pub finds_wrong : Book → List Case → Bool
finds_wrong book cases = has_wrong (all_graded book cases)

-- the judgings of what was read: of the cases that it is, the atomic rules times the nodes of each; else none
abbrev pub read_judgings : Book → Result (List Case) CasesFault → ℕ
read_judgings book (Ok cases) = cases_judgings book cases
read_judgings book (Err fault) = 0

-- What is found in bytes: the table of the cases that they are, and whether some outcome is another than was expected; or the
-- line of their fault; or want of memory.
abbrev pub IsFoundIn : Book → List ℕ → Found → Type 0
IsFoundIn book bytes (found.Finished table wrong) =
    (cases : List Case) × (cases_by book bytes ≡ Ok cases) × (table ≡ table_of book cases) × (wrong ≡ finds_wrong book cases)
IsFoundIn book bytes (found.NotSnapshot line) = (fault : CasesFault) × (cases_by book bytes ≡ Err fault) × (line ≡ cases_line fault)
IsFoundIn book bytes found.NoMemory = Unit {0}
IsFoundIn book bytes other = ⊥

-- ---- why it ends

-- the input was read to its end and is a list of cases, whose table is to be written
pub record IsTabled (book : Book) (old new : Input) (bytes : List ℕ) (wrong : Bool) (writing : Writing) : Type 0 where
  pub cases : List Case
  pub gave : GaveAll old new bytes
  pub are_cases : cases_by book bytes ≡ Ok cases
  pub wrong_is : wrong ≡ finds_wrong book cases
  pub writes : writing ≡ output_alone (table_of book cases)

-- The input was read to its end, or to 8,388,609 bytes, and isn't such a list but has this first fault, whose line is to be
-- written.
pub record IsRefused (book : Book) (old new : Input) (bytes : List ℕ) (writing : Writing) : Type 0 where
  pub fault : CasesFault
  pub gave : IsReadTo MOST_READ old new bytes
  pub is_refused : cases_by book bytes ≡ Err fault
  pub writes : writing ≡ line_alone (cases_line fault)

-- why it ends with a status, having read these bytes; with others it never does
abbrev pub EndsBy : Book → Input → Input → List ℕ → Status → Writing → Type 0
EndsBy book old new bytes Done writing = IsTabled book old new bytes false writing
EndsBy book old new bytes SomeFailed writing = IsTabled book old new bytes true writing
EndsBy book old new bytes ReadFault writing = Rose old.faults new.faults × (writing ≡ line_alone (status_line ReadFault))
EndsBy book old new bytes SnapshotFault writing = IsRefused book old new bytes writing
EndsBy book old new bytes NoMemory writing = writing ≡ line_alone (status_line NoMemory)
EndsBy book old new bytes other writing = ⊥

-- Why it ends with a status, and how often the books judged: whatever comes, no more than the cases ask for that were read.
pub record CasesCause (book : Book) (old new : Input) (before now : ℕ) (status : Status) (writing : Writing) : Type 0 where
  pub bytes : List ℕ
  pub gave : Gave bytes old new
  pub ends : EndsBy book old new bytes status writing
  pub within : now ≤ before + read_judgings book (cases_by book bytes)

-- of the desk the books alone were used
pub record OnlyTried {L : Type 0} (old new : Desk L) : Type 0 where
  pub door : new.door ≡ old.door
  pub log : new.log ≡ old.log
  pub tables : new.tables ≡ old.tables
  pub faults : new.faults ≡ old.faults

-- ---- which statuses can come of what a source tells

-- the source tells a list of these cases
pub record TellsCases (book : Book) (old : Input) (cases : List Case) : Type 0 where
  pub bytes : List ℕ
  pub left : old.left ≡ Some bytes
  pub are_cases : cases_by book bytes ≡ Ok cases

-- the source tells what is no such list
pub record TellsOther (book : Book) (old : Input) : Type 0 where
  pub bytes : List ℕ
  pub fault : CasesFault
  pub left : old.left ≡ Some bytes
  pub is_refused : cases_by book bytes ≡ Err fault

-- whatever the source and the sinks do
abbrev pub CasesBound : Book → Input → Status → Type 0
CasesBound book old status = TellsOther book old → OneOf (ReadFault ∷ WriteFault ∷ SnapshotFault ∷ NoMemory ∷ []) status

-- the table of the cases alone was written, and the status is by their grades
pub record AreTabled (book : Book) (old new : Outside) (cases : List Case) (status : Status) : Type 0 where
  pub out : Took old.out new.out (table_of book cases)
  pub err : Took old.err new.err []
  pub status_is : status ≡ (if finds_wrong book cases then SomeFailed else Done)

-- without faults
pub record CasesComplete (book : Book) (old new : Outside) (status : Status) : Type 0 where
  pub cases : (cases : List Case) → TellsCases book old.input cases → AreTabled book old new cases status ⊎ (status ≡ NoMemory)
  pub other : TellsOther book old.input → OneOf (SnapshotFault ∷ NoMemory ∷ []) status
