-- What a run does, whatever its words are.
use Rattle.std.specs.Prelude.{◌≡◌, ℕ, ◌≤◌, List, [], ◌∷◌, length, ◌⊎◌, Some, None}
use Rattle.rule_core.specs.Books.{Book}
use Rattle.audit_run.specs.declared.auditing.TheConstants.{MOST_READ}
use Rattle.desk_words.specs.Words.{command_in}
use Rattle.desk_words.specs.declared.command.ProgramCommand.{ProgramCommand}
use Rattle.audit_run.specs.declared.status.Status.{Status}
use Rattle.audit_run.specs.declared.status.Status.TheVariants.{UsageFault, WriteFault, NoMemory}
use Rattle.audit_run.specs.Status.{status_number, status_line, OneOf}
use Rattle.streams.specs.declared.source.Source as sources
use Rattle.streams.specs.declared.sink.Sink as sinks
use Rattle.streams.specs.Told.{Input, Outside}
use Rattle.streams.specs.Streams.{ReadsAtMost, NoFaults}
use Rattle.audit_run.specs.Telling.{Writing, line_alone, Tells}
use Rattle.desk_http.specs.Desk.{Desk}
use Rattle.desk_run.specs.Commands.{CommandCause, CommandBound, CommandComplete}

-- all that a run meets, of a source and two sinks
abbrev pub outside_of : {I O E : Type 0} → sources.Ghosts I → sinks.Ghosts O → sinks.Ghosts E → I → O → E → Outside
outside_of source out err i o e = record { input = source.told i; out = out.told o; err = err.told e }

-- nothing was read, and nothing changed
pub record NothingDone {L : Type 0} (old new : Input) (before now : Desk L) : Type 0 where
  pub input : new ≡ old
  pub desk : now ≡ before

-- the words are no command
pub record HasOtherWords {L : Type 0} (words : List (List ℕ)) (old new : Input) (before now : Desk L) (status : Status) (writing : Writing) : Type 0 where
  pub no_command : command_in words ≡ None
  pub nothing_done : NothingDone old new before now
  pub status_is : status ≡ UsageFault
  pub writes : writing ≡ line_alone (status_line UsageFault)

-- there was no memory to read the words
pub record WantsMemory {L : Type 0} (old new : Input) (before now : Desk L) (status : Status) (writing : Writing) : Type 0 where
  pub nothing_done : NothingDone old new before now
  pub status_is : status ≡ NoMemory
  pub writes : writing ≡ line_alone (status_line NoMemory)

-- the words are a command, which has its cause
pub record HasCommand {L : Type 0} (book : Book) (words : List (List ℕ)) (old new : Input) (before now : Desk L) (status : Status) (writing : Writing) : Type 0 where
  pub command : ProgramCommand
  pub words_are : command_in words ≡ Some command
  pub cause : CommandCause command book old new before now status writing

-- why a run ends with a status, and what it writes then
abbrev pub Cause : {L : Type 0} → Book → List (List ℕ) → Input → Input → Desk L → Desk L → Status → Writing → Type 0
Cause book words old new before now status writing =
    HasOtherWords words old new before now status writing ⊎ (WantsMemory old new before now status writing ⊎ HasCommand book words old new before now status writing)

-- which statuses can come, whatever the objects outside do
pub record IsBounded {L : Type 0} (book : Book) (words : List (List ℕ)) (old : Outside) (before : Desk L) (status : Status) : Type 0 where
  pub other_words : command_in words ≡ None → OneOf (UsageFault ∷ WriteFault ∷ NoMemory ∷ []) status
  pub command : (command : ProgramCommand) → command_in words ≡ Some command → CommandBound command book old before status

-- which statuses can come without faults
pub record IsComplete {L : Type 0} (book : Book) (words : List (List ℕ)) (old new : Outside) (before now : Desk L) (status : Status) : Type 0 where
  pub other_words : command_in words ≡ None → NoFaults old new → OneOf (UsageFault ∷ NoMemory ∷ []) status
  pub command : (command : ProgramCommand) → command_in words ≡ Some command → CommandComplete command book old new before now status

-- What a run with books of one type and these words does to the outside and to the desk, and what the number
-- says that it gives. It was to end with a status that has its cause, and ends so where all could be written,
-- and else with that of a write fault. Whatever comes, it stops reading after 8,388,609 bytes, and there are as
-- many books as before.
pub record Runs {L : Type 0} (book : Book) (words : List (List ℕ)) (old new : Outside) (before now : Desk L) (number : ℕ) : Type 0 where
  pub status : Status
  pub number_is : number ≡ status_number status
  pub planned : Status
  pub writing : Writing
  pub cause : Cause book words old.input new.input before now planned writing
  pub told : Tells planned writing old.out new.out old.err new.err status
  pub never_falls : old.input.faults ≤ new.input.faults
  pub same_books : length now.calls ≡ length before.calls
  pub stops : ReadsAtMost MOST_READ old.input new.input
  pub bounded : IsBounded book words old before status
  pub complete : IsComplete book words old new before now status
