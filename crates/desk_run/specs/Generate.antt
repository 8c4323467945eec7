-- The command `generate`: why it ends with each status, and what it writes then.
use Rattle.std.specs.Prelude.{◌≡◌, ℕ, ◌+◌, ◌≤◌, List, [], ◌∷◌, ◌⊎◌, sum}
use Rattle.rule_core.specs.Books.{Book}
use Rattle.audit.specs.Pages.{pages_judgings}
use Rattle.made_audit.specs.Line.{made_line, made_works}
use Rattle.desk_words.specs.declared.command.Generating.{Generating}
use Rattle.audit_run.specs.declared.status.Status.{Status}
use Rattle.audit_run.specs.declared.status.Status.TheVariants.{Done, WriteFault, NoMemory}
use Rattle.audit_run.specs.Status.{status_line, OneOf}
use Rattle.streams.specs.Told.{Outside}
use Rattle.desk_http.specs.Desk.{Desk}
use Rattle.audit_run.specs.Telling.{Writing, output_alone, line_alone, IsDone}

-- the line of the pages that are made, and the judgings of all of them
abbrev pub line_of : Book → Generating → List ℕ
line_of book g = made_line book g.number g.pages

abbrev pub made_judgings : Book → Generating → ℕ
made_judgings book g = pages_judgings book (made_works g.number g.pages)

-- of the desk the books alone were used, within the judgings of the pages
pub record OnlyMade {L : Type 0} (book : Book) (g : Generating) (old new : Desk L) : Type 0 where
  pub door : new.door ≡ old.door
  pub log : new.log ≡ old.log
  pub tables : new.tables ≡ old.tables
  pub faults : new.faults ≡ old.faults
  pub within : sum new.calls ≤ sum old.calls + made_judgings book g

-- why it ends with a status; with others it never does
abbrev pub GenerateCause : Book → Generating → Status → Writing → Type 0
GenerateCause book g Done writing = writing ≡ output_alone (line_of book g)
GenerateCause book g NoMemory writing = writing ≡ line_alone (status_line NoMemory)
GenerateCause book g other writing = ⊥

-- whatever the sinks do, and without faults
abbrev pub GenerateBound : Status → Type 0
GenerateBound status = OneOf (WriteFault ∷ Done ∷ NoMemory ∷ []) status

abbrev pub GenerateComplete : Book → Generating → Outside → Outside → Status → Type 0
GenerateComplete book g old new status = IsDone (line_of book g) old new status ⊎ (status ≡ NoMemory)
