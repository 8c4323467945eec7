-- Why cases end, from what was read and what was found in that, and which statuses can come of it.
use Rattle.std.proofs.Common.{◌≡◌, ℕ, ◌+◌, ◌<◌, ◌≤◌, ◌⊎◌, inl, inr, Bool, true, false, if◌then◌else◌, List, [], ◌∷◌, length, Err, refl, ap, ◌∙◌, subst, arith}
use Rattle.std.proofs.lemmas.Bool.{lt-leb}
use Rattle.counts.specs.Counts.{Rose}
use Rattle.counts.proofs.CountLaws.{still_not_risen}
use Rattle.rule_core.specs.Books.{Book}
use Rattle.case_run.specs.declared.case.Case.{Case}
use Rattle.case_run.specs.declared.fault.CasesFault.TheVariants.{TooLong}
use Rattle.case_run.specs.declared.limits.TheConstants.{MOST_CASES_BYTES}
use Rattle.case_run.specs.Cases.{cases_in}
use Rattle.audit_run.specs.declared.auditing.TheConstants.{MOST_READ}
use Rattle.audit_run.specs.declared.found.Found.{Found}
use Rattle.audit_run.specs.declared.found.Found.TheVariants as found
use Rattle.audit_run.specs.declared.status.Status.{Status}
use Rattle.audit_run.specs.declared.status.Status.TheVariants.{Done, SomeFailed, UsageFault, ReadFault, WriteFault, SnapshotFault, StoreFault, ListenFault, NoMemory}
use Rattle.audit_run.specs.Status.{status_line, OneOf}
use Rattle.audit_run.specs.Telling.{Writing, output_alone, line_alone, status_of, writing_of, IsWritten}
use Rattle.audit_run.proofs.Meant.{IsLimited, gave_all, all_refused, same_meaning, no_fault}
use Rattle.streams.specs.Told.{Input, Outside}
use Rattle.streams.specs.Streams.{IsReadTo, ReadsAtMost, NoFaults}
use Rattle.desk_run.specs.Cases.{cases_by, read_judgings, IsFoundIn, IsTabled, EndsBy, CasesCause, TellsCases, TellsOther, CasesBound, AreTabled, CasesComplete}

-- ---- bytes that are cases are within the limit

too_long : (book : Book) (bytes : List ℕ) → MOST_CASES_BYTES < length bytes → cases_by book bytes ≡ Err TooLong
unfolding cases_in
too_long book bytes h = rw (lt-leb (length bytes) MOST_CASES_BYTES h) refl

limited : (book : Book) → IsLimited (cases_by book)
limited book = record { fault = TooLong; beyond = λ bytes h. too_long book bytes (omega (arith, h)) }

-- ---- why it ends

tabled : (book : Book) (old new : Input) (bytes table : List ℕ) (wrong : Bool) → IsReadTo MOST_READ old new bytes → IsFoundIn book bytes (found.Finished table wrong) → IsTabled book old new bytes wrong (output_alone table)
tabled book old new bytes table wrong gave f =
    record { cases = f.0; gave = gave_all (cases_by book) (limited book) old new bytes f.0 f.1 gave; are_cases = f.1; wrong_is = f.3; writes = ap output_alone f.2 }

ends : (book : Book) (old new : Input) (bytes : List ℕ) (f : Found) → IsReadTo MOST_READ old new bytes → IsFoundIn book bytes f → EndsBy book old new bytes (status_of f) (writing_of f)
ends book old new bytes (found.Finished table true) gave f = tabled book old new bytes table true gave f
ends book old new bytes (found.Finished table false) gave f = tabled book old new bytes table false gave f
ends book old new bytes (found.NotSnapshot line) gave f = record { fault = f.0; gave = gave; is_refused = f.1; writes = ap line_alone f.2 }
ends book old new bytes found.NoMemory gave f = refl
ends book old new bytes found.Usage gave f = absurd f
ends book old new bytes found.ReadFault gave f = absurd f
ends book old new bytes found.StoreFault gave f = absurd f
ends book old new bytes found.ListenFault gave f = absurd f
ends book old new bytes found.Served gave f = absurd f

-- all was read
pub caused : (book : Book) (old new : Input) (before now : ℕ) (bytes : List ℕ) (f : Found) → IsReadTo MOST_READ old new bytes → IsFoundIn book bytes f → now ≤ before + read_judgings book (cases_by book bytes)
    → CasesCause book old new before now (status_of f) (writing_of f)
caused book old new before now bytes f gave is within = record { bytes = bytes; gave = gave.front; ends = ends book old new bytes f gave is; within = within }

-- reading failed, so nothing was judged
pub unread : (book : Book) (old new : Input) (calls : ℕ) → ReadsAtMost MOST_READ old new → Rose old.faults new.faults → CasesCause book old new calls calls ReadFault (line_alone (status_line ReadFault))
unread book old new calls reads rose = record { bytes = reads.0; gave = reads.2; ends = (rose, refl); within = omega arith }

-- there was no memory to read
pub no_room : (book : Book) (old new : Input) (calls : ℕ) → ReadsAtMost MOST_READ old new → CasesCause book old new calls calls NoMemory (line_alone (status_line NoMemory))
no_room book old new calls reads = record { bytes = reads.0; gave = reads.2; ends = refl; within = omega arith }

-- ---- which statuses can come of what a source tells

no_table : (book : Book) (old new : Input) (bytes : List ℕ) (wrong : Bool) (writing : Writing) → IsTabled book old new bytes wrong writing → TellsOther book old → ⊥
no_table book old new bytes wrong writing r tells = no_fault (cases_by book) old new tells.bytes bytes r.cases tells.fault tells.left r.gave tells.is_refused r.are_cases

of_other : (book : Book) (old new : Input) (bytes : List ℕ) (status : Status) (writing : Writing) → EndsBy book old new bytes status writing → TellsOther book old → OneOf (ReadFault ∷ SnapshotFault ∷ NoMemory ∷ []) status
of_other book old new bytes Done writing cause tells = absurd (no_table book old new bytes false writing cause tells)
of_other book old new bytes SomeFailed writing cause tells = absurd (no_table book old new bytes true writing cause tells)
of_other book old new bytes ReadFault writing cause tells = inl refl
of_other book old new bytes SnapshotFault writing cause tells = inr (inl refl)
of_other book old new bytes NoMemory writing cause tells = inr (inr (inl refl))
of_other book old new bytes UsageFault writing cause tells = absurd cause
of_other book old new bytes WriteFault writing cause tells = absurd cause
of_other book old new bytes StoreFault writing cause tells = absurd cause
of_other book old new bytes ListenFault writing cause tells = absurd cause

or_memory : (book : Book) (old new : Input) (before now : ℕ) (planned : Status) (writing : Writing) → (planned ≡ NoMemory) ⊎ CasesCause book old new before now planned writing → TellsOther book old → OneOf (ReadFault ∷ SnapshotFault ∷ NoMemory ∷ []) planned
or_memory book old new before now planned writing (inl memory) tells = inr (inr (inl memory))
or_memory book old new before now planned writing (inr cause) tells = of_other book old new cause.bytes planned writing cause.ends tells

or_cut : (planned status : Status) → OneOf (ReadFault ∷ SnapshotFault ∷ NoMemory ∷ []) planned → (status ≡ planned) ⊎ (status ≡ WriteFault) → OneOf (ReadFault ∷ WriteFault ∷ SnapshotFault ∷ NoMemory ∷ []) status
or_cut planned status one (inr cut) = inr (inl cut)
or_cut planned status (inl is) (inl same) = inl (same ∙ is)
or_cut planned status (inr (inl is)) (inl same) = inr (inr (inl (same ∙ is)))
or_cut planned status (inr (inr (inl is))) (inl same) = inr (inr (inr (inl (same ∙ is))))
or_cut planned status (inr (inr (inr none))) (inl same) = absurd none

pub cases_bound : (book : Book) (old new : Input) (before now : ℕ) (planned status : Status) (writing : Writing) → (planned ≡ NoMemory) ⊎ CasesCause book old new before now planned writing → (status ≡ planned) ⊎ (status ≡ WriteFault) → CasesBound book old status
cases_bound book old new before now planned status writing cause in_ tells = or_cut planned status (or_memory book old new before now planned writing cause tells) in_

-- ---- without faults

-- the table of the cases that the source tells
are_tabled : (book : Book) (old new : Outside) (status : Status) (bytes : List ℕ) (wrong : Bool) (writing : Writing) (cases : List Case) → (r : IsTabled book old.input new.input bytes wrong writing) → TellsCases book old.input cases →
    status ≡ (if wrong then SomeFailed else Done) → IsWritten writing old.out new.out old.err new.err → AreTabled book old new cases status
are_tabled book old new status bytes wrong writing cases r tells is written =
    let whole = subst (λ w. IsWritten w old.out new.out old.err new.err) r.writes written in
    subst (λ cs. AreTabled book old new cs status) (same_meaning (cases_by book) old.input new.input tells.bytes bytes cases r.cases tells.left r.gave tells.are_cases r.are_cases)
    (record { out = whole.out_took; err = whole.err_took; status_is = is ∙ ap (λ b. if b then SomeFailed else Done) r.wrong_is })

with_cases : (book : Book) (old new : Outside) (bytes : List ℕ) (planned status : Status) (writing : Writing) (cases : List Case) → EndsBy book old.input new.input bytes planned writing → NoFaults old new → TellsCases book old.input cases →
    status ≡ planned → IsWritten writing old.out new.out old.err new.err → AreTabled book old new cases status ⊎ (status ≡ NoMemory)
with_cases book old new bytes Done status writing cases cause none tells is written = inl (are_tabled book old new status bytes false writing cases cause tells is written)
with_cases book old new bytes SomeFailed status writing cases cause none tells is written = inl (are_tabled book old new status bytes true writing cases cause tells is written)
with_cases book old new bytes ReadFault status writing cases cause none tells is written = absurd (still_not_risen old.input.faults new.input.faults none.input cause.0)
with_cases book old new bytes SnapshotFault status writing cases cause none tells is written =
    absurd (all_refused (cases_by book) (limited book) old.input new.input tells.bytes bytes cases cause.fault tells.left cause.gave cause.is_refused tells.are_cases)
with_cases book old new bytes NoMemory status writing cases cause none tells is written = inr is
with_cases book old new bytes UsageFault status writing cases cause none tells is written = absurd cause
with_cases book old new bytes WriteFault status writing cases cause none tells is written = absurd cause
with_cases book old new bytes StoreFault status writing cases cause none tells is written = absurd cause
with_cases book old new bytes ListenFault status writing cases cause none tells is written = absurd cause

with_other : (book : Book) (old new : Outside) (bytes : List ℕ) (planned status : Status) (writing : Writing) → EndsBy book old.input new.input bytes planned writing → NoFaults old new →
    OneOf (ReadFault ∷ SnapshotFault ∷ NoMemory ∷ []) planned → status ≡ planned → OneOf (SnapshotFault ∷ NoMemory ∷ []) status
with_other book old new bytes planned status writing cause none (inl read) is =
    absurd (still_not_risen old.input.faults new.input.faults none.input (subst (λ s. EndsBy book old.input new.input bytes s writing) read cause).0)
with_other book old new bytes planned status writing cause none (inr (inl refusal)) is = inl (is ∙ refusal)
with_other book old new bytes planned status writing cause none (inr (inr (inl memory))) is = inr (inl (is ∙ memory))
with_other book old new bytes planned status writing cause none (inr (inr (inr nothing))) is = absurd nothing

pub cases_complete : (book : Book) (old new : Outside) (before now : ℕ) (planned status : Status) (writing : Writing) → (planned ≡ NoMemory) ⊎ CasesCause book old.input new.input before now planned writing → NoFaults old new →
    status ≡ planned → IsWritten writing old.out new.out old.err new.err → CasesComplete book old new status
cases_complete book old new before now planned status writing (inl memory) none is written = record { cases = λ cases tells. inr (is ∙ memory); other = λ tells. inr (inl (is ∙ memory)) }
cases_complete book old new before now planned status writing (inr cause) none is written =
    record {
      cases = λ cases tells. with_cases book old new cause.bytes planned status writing cases cause.ends none tells is written;
      other = λ tells. with_other book old new cause.bytes planned status writing cause.ends none (of_other book old.input new.input cause.bytes planned writing cause.ends tells) is;
    }
