-- Which statuses can come of a command that writes its output and is done.
use Rattle.std.proofs.Common.{◌≡◌, ℕ, ◌⊎◌, inl, inr, List, [], ◌∷◌, Option, Some, None, refl, sym, ap, ◌∙◌, subst}
use Rattle.counts.specs.Counts.{StoodStill}
use Rattle.counts.proofs.CountLaws.{still_not_risen}
use Rattle.rule_core.specs.Books.{Book}
use Rattle.keep_core.specs.declared.tables.Tables.{Tables}
use Rattle.desk_http.specs.Desk.{Moment}
use Rattle.desk_words.specs.declared.command.Generating.{Generating}
use Rattle.desk_words.specs.declared.command.Showing.{Showing}
use Rattle.audit_run.specs.declared.status.Status.{Status}
use Rattle.audit_run.specs.declared.status.Status.TheVariants.{Done, SomeFailed, UsageFault, ReadFault, WriteFault, SnapshotFault, StoreFault, ListenFault, NoMemory}
use Rattle.audit_run.specs.Status.{OneOf}
use Rattle.streams.specs.Told.{Outside}
use Rattle.streams.specs.Streams.{Took}
use Rattle.audit_run.specs.Telling.{Writing, IsWritten, IsDone}
use Rattle.desk_run.specs.Generate.{line_of, GenerateCause, GenerateBound, GenerateComplete}
use Rattle.desk_run.specs.Show.{shown_in, ShowCause, ShowBound, ShowsAll}

-- one of some statuses, or that of a write fault
or_cut : (some : List Status) (planned status : Status) → OneOf some planned → (status ≡ planned) ⊎ (status ≡ WriteFault) → OneOf (WriteFault ∷ some) status
or_cut some planned status one (inr cut) = inl cut
or_cut some planned status one (inl same) = inr (subst (OneOf some) (sym same) one)

-- all is written of a command that is done
done_by : (bytes : List ℕ) (old new : Outside) (status : Status) (writing : Writing) → writing.output ≡ bytes → writing.line ≡ [] → status ≡ Done → IsWritten writing old.out new.out old.err new.err → IsDone bytes old new status
done_by bytes old new status writing output line is written = record {
  status_is = is;
  out = subst (Took old.out new.out) output written.out_took;
  err = subst (Took old.err new.err) line written.err_took;
}

-- ---- generate

made_among : (book : Book) (g : Generating) (planned : Status) (writing : Writing) → (planned ≡ NoMemory) ⊎ GenerateCause book g planned writing → OneOf (Done ∷ NoMemory ∷ []) planned
made_among book g planned writing (inl memory) = inr (inl memory)
made_among book g Done writing (inr cause) = inl refl
made_among book g NoMemory writing (inr cause) = inr (inl refl)
made_among book g SomeFailed writing (inr cause) = absurd cause
made_among book g UsageFault writing (inr cause) = absurd cause
made_among book g ReadFault writing (inr cause) = absurd cause
made_among book g WriteFault writing (inr cause) = absurd cause
made_among book g SnapshotFault writing (inr cause) = absurd cause
made_among book g StoreFault writing (inr cause) = absurd cause
made_among book g ListenFault writing (inr cause) = absurd cause

pub generate_bound : (book : Book) (g : Generating) (planned status : Status) (writing : Writing) → (planned ≡ NoMemory) ⊎ GenerateCause book g planned writing → (status ≡ planned) ⊎ (status ≡ WriteFault) → GenerateBound status
generate_bound book g planned status writing cause in_ = or_cut (Done ∷ NoMemory ∷ []) planned status (made_among book g planned writing cause) in_

pub generate_complete : (book : Book) (g : Generating) (old new : Outside) (planned status : Status) (writing : Writing) → (planned ≡ NoMemory) ⊎ GenerateCause book g planned writing →
    status ≡ planned → IsWritten writing old.out new.out old.err new.err → GenerateComplete book g old new status
generate_complete book g old new planned status writing (inl memory) is written = inr (is ∙ memory)
generate_complete book g old new Done status writing (inr cause) is written =
    inl (done_by (line_of book g) old new status writing (ap (λ (w : Writing). w.output) cause) (ap (λ (w : Writing). w.line) cause) is written)
generate_complete book g old new NoMemory status writing (inr cause) is written = inr is
generate_complete book g old new SomeFailed status writing (inr cause) is written = absurd cause
generate_complete book g old new UsageFault status writing (inr cause) is written = absurd cause
generate_complete book g old new ReadFault status writing (inr cause) is written = absurd cause
generate_complete book g old new WriteFault status writing (inr cause) is written = absurd cause
generate_complete book g old new SnapshotFault status writing (inr cause) is written = absurd cause
generate_complete book g old new StoreFault status writing (inr cause) is written = absurd cause
generate_complete book g old new ListenFault status writing (inr cause) is written = absurd cause

-- ---- report, earl, csv

shown_among : (book : Book) (s : Showing) (before now : Moment) (planned : Status) (writing : Writing) → (planned ≡ NoMemory) ⊎ ShowCause book s before now planned writing →
    OneOf (Done ∷ UsageFault ∷ StoreFault ∷ NoMemory ∷ []) planned
shown_among book s before now planned writing (inl memory) = inr (inr (inr (inl memory)))
shown_among book s before now Done writing (inr cause) = inl refl
shown_among book s before now UsageFault writing (inr cause) = inr (inl refl)
shown_among book s before now StoreFault writing (inr cause) = inr (inr (inl refl))
shown_among book s before now NoMemory writing (inr cause) = inr (inr (inr (inl refl)))
shown_among book s before now SomeFailed writing (inr cause) = absurd cause
shown_among book s before now ReadFault writing (inr cause) = absurd cause
shown_among book s before now WriteFault writing (inr cause) = absurd cause
shown_among book s before now SnapshotFault writing (inr cause) = absurd cause
shown_among book s before now ListenFault writing (inr cause) = absurd cause

pub show_bound : (book : Book) (s : Showing) (before now : Moment) (planned status : Status) (writing : Writing) → (planned ≡ NoMemory) ⊎ ShowCause book s before now planned writing →
    (status ≡ planned) ⊎ (status ≡ WriteFault) → ShowBound status
show_bound book s before now planned status writing cause in_ =
    or_cut (Done ∷ UsageFault ∷ StoreFault ∷ NoMemory ∷ []) planned status (shown_among book s before now planned writing cause) in_

-- there was no memory, whatever was to be written
no_memory : (shown : Option (List ℕ)) (old new : Outside) (status : Status) → status ≡ NoMemory → ShowsAll shown old new status
no_memory (Some bytes) old new status is = inr is
no_memory None old new status is = inr (inl is)

module _ (book : Book) (s : Showing) (before now : Moment) (t : Tables) (told : now.tables ≡ Some t) (still : StoodStill before.faults now.faults) (old new : Outside) where
  pub show_complete : (planned status : Status) (writing : Writing) → (planned ≡ NoMemory) ⊎ ShowCause book s before now planned writing →
      status ≡ planned → IsWritten writing old.out new.out old.err new.err → ShowsAll (shown_in book s t) old new status
  show_complete planned status writing (inl memory) is written = no_memory (shown_in book s t) old new status (is ∙ memory)
  show_complete Done status writing (inr cause) is written =
      subst (λ o. ShowsAll o old new status) (sym (cause.1.output t told)) (inl (done_by writing.output old new status writing refl cause.1.line is written))
  show_complete UsageFault status writing (inr cause) is written = subst (λ o. ShowsAll o old new status) (sym (cause.1.none t told)) (inl is)
  show_complete StoreFault status writing (inr cause) is written = absurd (still_not_risen before.faults now.faults still cause.1)
  show_complete NoMemory status writing (inr cause) is written = no_memory (shown_in book s t) old new status is
  show_complete SomeFailed status writing (inr cause) is written = absurd cause
  show_complete ReadFault status writing (inr cause) is written = absurd cause
  show_complete WriteFault status writing (inr cause) is written = absurd cause
  show_complete SnapshotFault status writing (inr cause) is written = absurd cause
  show_complete ListenFault status writing (inr cause) is written = absurd cause
