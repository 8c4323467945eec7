-- What a run does, from why it was to end and what it has written.
use Rattle.std.proofs.Common.{◌≡◌, ℕ, ◌<◌, ◌≤◌, ◌⊎◌, inl, inr, Bool, true, false, if◌then◌else◌, List, [], ◌∷◌, length, sum, Some, None, refl, sym, ap, ◌∙◌, subst, arith}
use Rattle.std.proofs.lemmas.Option.{none-some, same_Some}
use Rattle.counts.specs.Counts.{Rose, StoodStill}
use Rattle.counts.proofs.CountLaws.{still_not_risen}
use Rattle.snap_tree.specs.Trees.{Document}
use Rattle.rule_core.specs.Books.{Book}
use Rattle.audit_run.specs.declared.auditing.TheConstants.{MOST_READ}
use Rattle.desk_words.specs.Words.{command_in}
use Rattle.desk_words.specs.declared.command.ProgramCommand.{ProgramCommand}
use Rattle.desk_words.specs.declared.command.ProgramCommand.TheVariants.{Audit, Serve, Generate, Cases, Show}
use Rattle.desk_words.specs.declared.command.Serving.{Serving}
use Rattle.desk_words.specs.declared.command.Generating.{Generating}
use Rattle.desk_words.specs.declared.command.Showing.{Showing}
use Rattle.audit_run.specs.declared.status.Status.{Status}
use Rattle.audit_run.specs.declared.status.Status.TheVariants.{Done, SomeFailed, UsageFault, ReadFault, WriteFault, SnapshotFault, StoreFault, ListenFault, NoMemory}
use Rattle.audit_run.specs.Status.{status_number, OneOf}
use Rattle.streams.specs.Told.{Outside}
use Rattle.streams.specs.Streams.{ReadsAtMost, NoFaults, BrokeOff}
use Rattle.audit_run.specs.Telling.{Writing, IsWritten, Tells}
use Rattle.audit_run.specs.Audit.{Reports, AuditCause, AuditComplete, TellsPage, TellsFault, IsReported}
use Rattle.links.specs.Doors.{Doorway}
use Rattle.desk_http.specs.Desk.{Desk, beside_door}
use Rattle.desk_run.specs.Serve.{ServeCause, ServeComplete}
use Rattle.desk_run.specs.Generate.{GenerateCause}
use Rattle.desk_run.specs.Cases.{CasesCause}
use Rattle.desk_run.specs.Show.{ShowCause}
use Rattle.desk_run.specs.Commands.{CommandCause, CommandBound, CommandComplete}
use Rattle.desk_run.specs.Run.{Cause, Runs}
use Rattle.audit_run.proofs.Causes.{same_page, refused, of_no_snapshot}
use Rattle.desk_run.proofs.Written.{no_break, all_written, ends_in}
use Rattle.desk_run.proofs.CaseCauses.{cases_bound, cases_complete}
use Rattle.desk_run.proofs.Outputs.{generate_bound, generate_complete, show_bound, show_complete}

-- ---- which statuses can come

-- why it ends for words that are no command, and for those of a command
usage : {L : Type 0} (book : Book) (words : List (List ℕ)) (old new : Outside) (before now : Desk L) (planned : Status) (writing : Writing) → Cause book words old.input new.input before now planned writing → command_in words ≡ None →
    OneOf (UsageFault ∷ NoMemory ∷ []) planned
usage book words old new before now planned writing (inl other) none = inl other.status_is
usage book words old new before now planned writing (inr (inl memory)) none = inr (inl memory.status_is)
usage book words old new before now planned writing (inr (inr has)) none = absurd (none-some has.command (sym none ∙ has.words_are))

cause_of : {L : Type 0} (book : Book) (words : List (List ℕ)) (old new : Outside) (before now : Desk L) (planned : Status) (writing : Writing) → Cause book words old.input new.input before now planned writing →
    (command : ProgramCommand) → command_in words ≡ Some command → (planned ≡ NoMemory) ⊎ CommandCause command book old.input new.input before now planned writing
cause_of book words old new before now planned writing (inl other) command is = absurd (none-some command (sym other.no_command ∙ is))
cause_of book words old new before now planned writing (inr (inl memory)) command is = inl memory.status_is
cause_of book words old new before now planned writing (inr (inr has)) command is =
    inr (subst (λ (c : ProgramCommand). CommandCause c book old.input new.input before now planned writing) (same_Some has.command command (sym has.words_are ∙ is)) has.cause)

bound_words : (planned status : Status) → OneOf (UsageFault ∷ NoMemory ∷ []) planned → (status ≡ planned) ⊎ (status ≡ WriteFault) → OneOf (UsageFault ∷ WriteFault ∷ NoMemory ∷ []) status
bound_words planned status one (inr cut) = inr (inl cut)
bound_words planned status (inl is) (inl same) = inl (same ∙ is)
bound_words planned status (inr (inl is)) (inl same) = inr (inr (inl (same ∙ is)))
bound_words planned status (inr (inr none)) (inl same) = absurd none

same_words : (planned status : Status) → OneOf (UsageFault ∷ NoMemory ∷ []) planned → status ≡ planned → OneOf (UsageFault ∷ NoMemory ∷ []) status
same_words planned status one same = subst (OneOf (UsageFault ∷ NoMemory ∷ [])) (sym same) one

bound_refusal : (planned status : Status) → OneOf (ReadFault ∷ SnapshotFault ∷ NoMemory ∷ []) planned → (status ≡ planned) ⊎ (status ≡ WriteFault) → OneOf (ReadFault ∷ WriteFault ∷ SnapshotFault ∷ NoMemory ∷ []) status
bound_refusal planned status one (inr cut) = inr (inl cut)
bound_refusal planned status (inl is) (inl same) = inl (same ∙ is)
bound_refusal planned status (inr (inl is)) (inl same) = inr (inr (inl (same ∙ is)))
bound_refusal planned status (inr (inr (inl is))) (inl same) = inr (inr (inr (inl (same ∙ is))))
bound_refusal planned status (inr (inr (inr none))) (inl same) = absurd none

-- ---- an audit

reported : (book : Book) (old new : Outside) (status : Status) (failed : Bool) (writing : Writing) (page : Document) → (r : Reports book old.input new.input failed writing) → TellsPage old.input page →
    status ≡ (if failed then SomeFailed else Done) → IsWritten writing old.out new.out old.err new.err → IsReported book old new page status
reported book old new status failed writing page r tells is written =
    let whole = subst (λ w. IsWritten w old.out new.out old.err new.err) r.writes written in
    subst (λ p. IsReported book old new p status) (same_page book old.input new.input failed writing page r tells)
    (record { out = whole.out_took; err = whole.err_took; status_is = is ∙ ap (λ b. if b then SomeFailed else Done) r.failed_is })

complete_page : (book : Book) (old new : Outside) (planned status : Status) (writing : Writing) (page : Document) → AuditCause book old.input new.input planned writing → NoFaults old new → TellsPage old.input page →
    status ≡ planned → IsWritten writing old.out new.out old.err new.err → IsReported book old new page status ⊎ (status ≡ NoMemory)
complete_page book old new Done status writing page cause none tells is written = inl (reported book old new status false writing page cause tells is written)
complete_page book old new SomeFailed status writing page cause none tells is written = inl (reported book old new status true writing page cause tells is written)
complete_page book old new ReadFault status writing page cause none tells is written = absurd (still_not_risen old.input.faults new.input.faults none.input cause.0)
complete_page book old new SnapshotFault status writing page cause none tells is written = absurd (refused old.input new.input cause.bytes cause.fault page cause.gave cause.is_refused tells)
complete_page book old new NoMemory status writing page cause none tells is written = inr is
complete_page book old new UsageFault status writing page cause none tells is written = absurd cause
complete_page book old new WriteFault status writing page cause none tells is written = absurd cause
complete_page book old new StoreFault status writing page cause none tells is written = absurd cause
complete_page book old new ListenFault status writing page cause none tells is written = absurd cause

complete_refusal : (book : Book) (old new : Outside) (planned status : Status) (writing : Writing) → AuditCause book old.input new.input planned writing → NoFaults old new →
    OneOf (ReadFault ∷ SnapshotFault ∷ NoMemory ∷ []) planned → status ≡ planned → OneOf (SnapshotFault ∷ NoMemory ∷ []) status
complete_refusal book old new planned status writing cause none (inl read) is =
    absurd (still_not_risen old.input.faults new.input.faults none.input (subst (λ s. AuditCause book old.input new.input s writing) read cause).0)
complete_refusal book old new planned status writing cause none (inr (inl refusal)) is = inl (is ∙ refusal)
complete_refusal book old new planned status writing cause none (inr (inr (inl memory))) is = inr (inl (is ∙ memory))
complete_refusal book old new planned status writing cause none (inr (inr (inr nothing))) is = absurd nothing

-- what of an audit's cause, or of want of memory, can come
audit_bound : (book : Book) (old new : Outside) (planned : Status) (writing : Writing) → (planned ≡ NoMemory) ⊎ AuditCause book old.input new.input planned writing → TellsFault old.input → OneOf (ReadFault ∷ SnapshotFault ∷ NoMemory ∷ []) planned
audit_bound book old new planned writing (inl memory) tells = inr (inr (inl memory))
audit_bound book old new planned writing (inr cause) tells = of_no_snapshot book old.input new.input planned writing cause tells

audit_complete : (book : Book) (old new : Outside) (planned status : Status) (writing : Writing) → (planned ≡ NoMemory) ⊎ AuditCause book old.input new.input planned writing → NoFaults old new →
    status ≡ planned → IsWritten writing old.out new.out old.err new.err → AuditComplete book old new status
audit_complete book old new planned status writing (inl memory) none is written = record { snapshot = λ page tells. inr (is ∙ memory); no_snapshot = λ tells. inr (inl (is ∙ memory)) }
audit_complete book old new planned status writing (inr cause) none is written =
    record {
      snapshot = λ page tells. complete_page book old new planned status writing page cause none tells is written;
      no_snapshot = λ tells. complete_refusal book old new planned status writing cause none (of_no_snapshot book old.input new.input planned writing cause tells) is;
    }

-- ---- a serve

-- it writes nothing on standard output
no_output : {L : Type 0} (book : Book) (serving : Serving) (before now : Desk L) (planned : Status) (writing : Writing) → ServeCause book serving before now planned writing → writing.output ≡ []
no_output book serving before now Done writing cause = ap (λ (w : Writing). w.output) cause.2.2
no_output book serving before now ListenFault writing cause = ap (λ (w : Writing). w.output) cause.2.2
no_output book serving before now StoreFault writing cause = ap (λ (w : Writing). w.output) cause.1
no_output book serving before now NoMemory writing cause = ap (λ (w : Writing). w.output) cause.1
no_output book serving before now UsageFault writing cause = ap (λ (w : Writing). w.output) cause.2
no_output book serving before now SomeFailed writing cause = absurd cause
no_output book serving before now ReadFault writing cause = absurd cause
no_output book serving before now WriteFault writing cause = absurd cause
no_output book serving before now SnapshotFault writing cause = absurd cause

-- so it ends as planned where standard error meets no fault
as_planned : (old new : Outside) (planned status : Status) (writing : Writing) → writing.output ≡ [] → StoodStill old.err.faults new.err.faults → Tells planned writing old.out new.out old.err new.err status → status ≡ planned
as_planned old new planned status writing none still (inl whole) = whole.0
as_planned old new planned status writing none still (inr (is, inl cut)) =
    absurd (cut_none cut.out_broke)
  where
    cut_none : BrokeOff old.out new.out writing.output → ⊥
    cut_none broke = omega (arith, broke.wrote.1, ap length none)
as_planned old new planned status writing none still (inr (is, inr cut)) = absurd (no_break old.err new.err writing.line still cut.err_broke)

too_many : {L : Type 0} (book : Book) (serving : Serving) (before now : Desk L) (planned : Status) (writing : Writing) → ServeCause book serving before now planned writing → length before.calls < serving.workers → planned ≡ UsageFault
too_many book serving before now Done writing cause many = absurd (omega (arith, cause.1.enough))
too_many book serving before now ListenFault writing cause many = absurd (omega (arith, cause.1.enough))
too_many book serving before now StoreFault writing cause many = absurd (omega (arith, cause.0.enough))
too_many book serving before now NoMemory writing cause many = absurd (omega (arith, cause.0.enough))
too_many book serving before now UsageFault writing cause many = refl
too_many book serving before now SomeFailed writing cause many = absurd cause
too_many book serving before now ReadFault writing cause many = absurd cause
too_many book serving before now WriteFault writing cause many = absurd cause
too_many book serving before now SnapshotFault writing cause many = absurd cause

to_the_end : {L : Type 0} (book : Book) (serving : Serving) (before now : Desk L) (planned : Status) (writing : Writing) → ServeCause book serving before now planned writing → StoodStill before.door.faults now.door.faults → StoodStill before.faults now.faults →
    serving.workers ≤ length before.calls → OneOf (Done ∷ NoMemory ∷ []) planned
to_the_end book serving before now Done writing cause still kept few = inl refl
to_the_end book serving before now NoMemory writing cause still kept few = inr (inl refl)
to_the_end book serving before now ListenFault writing cause still kept few =
    let same : cause.0.door.faults ≡ before.door.faults = ap (λ (d : Doorway). d.faults) cause.1.same.door in
    absurd (still_not_risen before.door.faults now.door.faults still (subst (λ n. Rose n now.door.faults) same cause.2.0))
to_the_end book serving before now StoreFault writing cause still kept few = absurd (still_not_risen before.faults now.faults kept (cause.0.refreshed.faults.failed refl))
to_the_end book serving before now UsageFault writing cause still kept few = absurd (omega (arith, cause.0))
to_the_end book serving before now SomeFailed writing cause still kept few = absurd cause
to_the_end book serving before now ReadFault writing cause still kept few = absurd cause
to_the_end book serving before now WriteFault writing cause still kept few = absurd cause
to_the_end book serving before now SnapshotFault writing cause still kept few = absurd cause

serve_bound : {L : Type 0} (book : Book) (serving : Serving) (before now : Desk L) (planned : Status) (writing : Writing) → (planned ≡ NoMemory) ⊎ ServeCause book serving before now planned writing → length before.calls < serving.workers →
    OneOf (UsageFault ∷ NoMemory ∷ []) planned
serve_bound book serving before now planned writing (inl memory) many = inr (inl memory)
serve_bound book serving before now planned writing (inr cause) many = inl (too_many book serving before now planned writing cause many)

serve_complete : {L : Type 0} (book : Book) (serving : Serving) (old new : Outside) (before now : Desk L) (planned status : Status) (writing : Writing) → (planned ≡ NoMemory) ⊎ ServeCause book serving before now planned writing → writing.output ≡ [] →
    StoodStill old.err.faults new.err.faults → Tells planned writing old.out new.out old.err new.err status → ServeComplete serving before now status
serve_complete book serving old new before now planned status writing (inl memory) none err told still kept few = inr (inl (as_planned old new planned status writing none err told ∙ memory))
serve_complete book serving old new before now planned status writing (inr cause) none err told still kept few =
    subst (OneOf (Done ∷ NoMemory ∷ [])) (sym (as_planned old new planned status writing none err told)) (to_the_end book serving before now planned writing cause still kept few)

-- ---- a run

-- what is found before a command is known writes nothing on standard output
outputs_none : {L : Type 0} (book : Book) (words : List (List ℕ)) (old new : Outside) (before now : Desk L) (planned : Status) (writing : Writing) → Cause book words old.input new.input before now planned writing →
    (serving : Serving) → command_in words ≡ Some (Serve serving) → writing.output ≡ []
outputs_none book words old new before now planned writing (inl other) serving is = ap (λ (w : Writing). w.output) other.writes
outputs_none book words old new before now planned writing (inr (inl memory)) serving is = ap (λ (w : Writing). w.output) memory.writes
outputs_none book words old new before now planned writing (inr (inr has)) serving is =
    let cause = subst (λ (c : ProgramCommand). CommandCause c book old.input new.input before now planned writing) (same_Some has.command (Serve serving) (sym has.words_are ∙ is)) has.cause in
    no_output book serving before now planned writing cause.1

audits : {L : Type 0} (book : Book) (old new : Outside) (before now : Desk L) (planned : Status) (writing : Writing) → (planned ≡ NoMemory) ⊎ CommandCause Audit book old.input new.input before now planned writing →
    (planned ≡ NoMemory) ⊎ AuditCause book old.input new.input planned writing
audits book old new before now planned writing (inl memory) = inl memory
audits book old new before now planned writing (inr cause) = inr cause.0

serves : {L : Type 0} (book : Book) (serving : Serving) (old new : Outside) (before now : Desk L) (planned : Status) (writing : Writing) → (planned ≡ NoMemory) ⊎ CommandCause (Serve serving) book old.input new.input before now planned writing →
    (planned ≡ NoMemory) ⊎ ServeCause book serving before now planned writing
serves book serving old new before now planned writing (inl memory) = inl memory
serves book serving old new before now planned writing (inr cause) = inr cause.1

generates : {L : Type 0} (book : Book) (g : Generating) (old new : Outside) (before now : Desk L) (planned : Status) (writing : Writing) → (planned ≡ NoMemory) ⊎ CommandCause (Generate g) book old.input new.input before now planned writing →
    (planned ≡ NoMemory) ⊎ GenerateCause book g planned writing
generates book g old new before now planned writing (inl memory) = inl memory
generates book g old new before now planned writing (inr cause) = inr cause.1.0

tries : {L : Type 0} (book : Book) (old new : Outside) (before now : Desk L) (planned : Status) (writing : Writing) → (planned ≡ NoMemory) ⊎ CommandCause Cases book old.input new.input before now planned writing →
    (planned ≡ NoMemory) ⊎ CasesCause book old.input new.input (sum before.calls) (sum now.calls) planned writing
tries book old new before now planned writing (inl memory) = inl memory
tries book old new before now planned writing (inr cause) = inr cause.0

shows : {L : Type 0} (book : Book) (s : Showing) (old new : Outside) (before now : Desk L) (planned : Status) (writing : Writing) → (planned ≡ NoMemory) ⊎ CommandCause (Show s) book old.input new.input before now planned writing →
    (planned ≡ NoMemory) ⊎ ShowCause book s (beside_door before) (beside_door now) planned writing
shows book s old new before now planned writing (inl memory) = inl memory
shows book s old new before now planned writing (inr cause) = inr cause.1.0

command_bound : {L : Type 0} (book : Book) (words : List (List ℕ)) (old new : Outside) (before now : Desk L) (planned status : Status) (writing : Writing) → Cause book words old.input new.input before now planned writing →
    (status ≡ planned) ⊎ (status ≡ WriteFault) → (command : ProgramCommand) → command_in words ≡ Some command → CommandBound command book old before status
command_bound book words old new before now planned status writing cause in_ Audit is =
    λ tells. bound_refusal planned status (audit_bound book old new planned writing (audits book old new before now planned writing (cause_of book words old new before now planned writing cause Audit is)) tells) in_
command_bound book words old new before now planned status writing cause in_ (Serve serving) is =
    λ many. bound_words planned status (serve_bound book serving before now planned writing (serves book serving old new before now planned writing (cause_of book words old new before now planned writing cause (Serve serving) is)) many) in_
command_bound book words old new before now planned status writing cause in_ (Generate g) is =
    generate_bound book g planned status writing (generates book g old new before now planned writing (cause_of book words old new before now planned writing cause (Generate g) is)) in_
command_bound book words old new before now planned status writing cause in_ Cases is =
    cases_bound book old.input new.input (sum before.calls) (sum now.calls) planned status writing (tries book old new before now planned writing (cause_of book words old new before now planned writing cause Cases is)) in_
command_bound book words old new before now planned status writing cause in_ (Show s) is =
    show_bound book s (beside_door before) (beside_door now) planned status writing (shows book s old new before now planned writing (cause_of book words old new before now planned writing cause (Show s) is)) in_

command_complete : {L : Type 0} (book : Book) (words : List (List ℕ)) (old new : Outside) (before now : Desk L) (planned status : Status) (writing : Writing) → Cause book words old.input new.input before now planned writing →
    Tells planned writing old.out new.out old.err new.err status → (command : ProgramCommand) → command_in words ≡ Some command → CommandComplete command book old new before now status
command_complete book words old new before now planned status writing cause told Audit is =
    λ none. let written = all_written old new planned status writing none told in
    audit_complete book old new planned status writing (audits book old new before now planned writing (cause_of book words old new before now planned writing cause Audit is)) none written.0 written.1
command_complete book words old new before now planned status writing cause told (Serve serving) is =
    λ err. serve_complete book serving old new before now planned status writing (serves book serving old new before now planned writing (cause_of book words old new before now planned writing cause (Serve serving) is))
    (outputs_none book words old new before now planned writing cause serving is) err told
command_complete book words old new before now planned status writing cause told (Generate g) is =
    λ none. let written = all_written old new planned status writing none told in
    generate_complete book g old new planned status writing (generates book g old new before now planned writing (cause_of book words old new before now planned writing cause (Generate g) is)) written.0 written.1
command_complete book words old new before now planned status writing cause told Cases is =
    λ none. let written = all_written old new planned status writing none told in
    cases_complete book old new (sum before.calls) (sum now.calls) planned status writing (tries book old new before now planned writing (cause_of book words old new before now planned writing cause Cases is)) none written.0 written.1
command_complete book words old new before now planned status writing cause told (Show s) is =
    λ none still t has. let written = all_written old new planned status writing none told in
    show_complete book s (beside_door before) (beside_door now) t has still old new planned status writing (shows book s old new before now planned writing (cause_of book words old new before now planned writing cause (Show s) is)) written.0 written.1

pub runs : {L : Type 0} (book : Book) (words : List (List ℕ)) (old new : Outside) (before now : Desk L) (planned status : Status) (writing : Writing) (number : ℕ) → Cause book words old.input new.input before now planned writing →
    old.input.faults ≤ new.input.faults → length now.calls ≡ length before.calls → ReadsAtMost MOST_READ old.input new.input → Tells planned writing old.out new.out old.err new.err status → number ≡ status_number status → Runs book words old new before now number
runs book words old new before now planned status writing number cause falls same_books stops told is =
    let in_ = ends_in planned status writing old.out new.out old.err new.err told in
    record {
      status = status;
      number_is = is;
      planned = planned;
      writing = writing;
      cause = cause;
      told = told;
      never_falls = falls;
      same_books = same_books;
      stops = stops;
      bounded = record {
        other_words = λ other. bound_words planned status (usage book words old new before now planned writing cause other) in_;
        command = command_bound book words old new before now planned status writing cause in_;
      };
      complete = record {
        other_words = λ other none. same_words planned status (usage book words old new before now planned writing cause other) (all_written old new planned status writing none told).0;
        command = command_complete book words old new before now planned status writing cause told;
      };
    }
