-- The commands: for each why it ends, and which statuses can come of it.
use Rattle.std.specs.Prelude.{◌≡◌, sum}
use Rattle.counts.specs.Counts.{StoodStill}
use Rattle.rule_core.specs.Books.{Book}
use Rattle.desk_words.specs.declared.command.ProgramCommand.{ProgramCommand}
use Rattle.desk_words.specs.declared.command.ProgramCommand.TheVariants.{Audit, Serve, Generate, Cases, Show}
use Rattle.audit_run.specs.declared.status.Status.{Status}
use Rattle.streams.specs.Told.{Input, Outside}
use Rattle.streams.specs.Streams.{NoFaults}
use Rattle.desk_http.specs.Desk.{Desk, beside_door}
use Rattle.desk_run.specs.Desk.{SameDoor, OnlyJudged}
use Rattle.audit_run.specs.Telling.{Writing}
use Rattle.audit_run.specs.Audit.{AuditCause, AuditBound, AuditComplete}
use Rattle.desk_run.specs.Serve.{ServeCause, ServeBound, ServeComplete}
use Rattle.desk_run.specs.Generate.{OnlyMade, GenerateCause, GenerateBound, GenerateComplete}
use Rattle.desk_run.specs.Cases.{CasesCause, CasesBound, CasesComplete, OnlyTried}
use Rattle.desk_run.specs.Show.{ShowCause, ShowBound, ShowComplete}

-- Why a command ends with a status, and what it writes then. An audit uses the first book and nothing else of
-- the desk, and cases use the books alone. The others don't read the input: a serve uses all of the desk, a generate its
-- books, and a site is shown from the tables, which are refreshed before.
abbrev pub CommandCause : {L : Type 0} → ProgramCommand → Book → Input → Input → Desk L → Desk L → Status → Writing → Type 0
CommandCause Audit book old new before now status writing = AuditCause book old new status writing × OnlyJudged 1 before now
CommandCause (Serve serving) book old new before now status writing = (new ≡ old) × ServeCause book serving before now status writing
CommandCause (Generate g) book old new before now status writing = (new ≡ old) × (GenerateCause book g status writing × OnlyMade book g before now)
CommandCause Cases book old new before now status writing = CasesCause book old new (sum before.calls) (sum now.calls) status writing × OnlyTried before now
CommandCause (Show s) book old new before now status writing =
    (new ≡ old) × (ShowCause book s (beside_door before) (beside_door now) status writing × SameDoor before now)

-- the statuses that can come of it whatever the objects outside do, and those that can come without faults
abbrev pub CommandBound : {L : Type 0} → ProgramCommand → Book → Outside → Desk L → Status → Type 0
CommandBound Audit book old before status = AuditBound old.input status
CommandBound (Serve serving) book old before status = ServeBound serving before status
CommandBound (Generate g) book old before status = GenerateBound status
CommandBound Cases book old before status = CasesBound book old.input status
CommandBound (Show s) book old before status = ShowBound status

abbrev pub CommandComplete : {L : Type 0} → ProgramCommand → Book → Outside → Outside → Desk L → Desk L → Status → Type 0
CommandComplete Audit book old new before now status = NoFaults old new → AuditComplete book old new status
CommandComplete (Serve serving) book old new before now status = StoodStill old.err.faults new.err.faults → ServeComplete serving before now status
CommandComplete (Generate g) book old new before now status = NoFaults old new → GenerateComplete book g old new status
CommandComplete Cases book old new before now status = NoFaults old new → CasesComplete book old new status
CommandComplete (Show s) book old new before now status = NoFaults old new → ShowComplete book s old new before now status
