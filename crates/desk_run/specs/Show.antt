-- The commands `report`, `earl` and `csv`: why they end with each status, and what they write then.
use Rattle.std.specs.Prelude.{◌≡◌, ◌≤◌, ℕ, List, [], ◌∷◌, length, ◌⊎◌, Option, Some, None, option_map, Result, Ok, Err, IfOk, IfErr, IsErrOf}
use Rattle.counts.specs.Counts.{Rose, StoodStill}
use Rattle.rule_core.specs.Books.{Book}
use Rattle.rule_core.specs.declared.info.RuleInfo.{RuleInfo}
use Rattle.keep_core.specs.declared.page.SitePage.{SitePage}
use Rattle.keep_core.specs.declared.tables.Tables.{Tables}
use Rattle.keep_core.specs.Tables.{kept_site}
use Rattle.keep_core.specs.declared.fault.KeepFault.{KeepFault}
use Rattle.keep_core.specs.declared.fault.KeepFault.TheVariants.{Failed, OutOfMemory}
use Rattle.keep_core.specs.Keeping.{Stays}
use Rattle.kept_pages.specs.KeptPages.{site_pages}
use Rattle.reports.specs.SiteReport.{site_report}
use Rattle.reports.specs.Earl.{earl}
use Rattle.reports.specs.Table.{csv_rows}
use Rattle.desk_words.specs.declared.command.Showing.{Showing}
use Rattle.desk_words.specs.declared.command.SiteForm.{SiteForm}
use Rattle.desk_words.specs.declared.command.SiteForm.TheVariants as form
use Rattle.audit_run.specs.declared.status.Status.{Status}
use Rattle.audit_run.specs.declared.status.Status.TheVariants.{Done, UsageFault, WriteFault, StoreFault, NoMemory}
use Rattle.audit_run.specs.Status.{status_line, OneOf}
use Rattle.streams.specs.Told.{Outside}
use Rattle.desk_http.specs.Desk.{Desk, Moment}
use Rattle.desk_run.specs.Refreshed.{Refreshed}
use Rattle.audit_run.specs.Telling.{Writing, line_alone, IsDone}

-- the pages of a site in a form
abbrev pub form_bytes : SiteForm → List ℕ → List RuleInfo → List SitePage → List ℕ
form_bytes form.Report site infos pages = site_report site infos pages
form_bytes form.Earl site infos pages = earl infos pages
form_bytes form.Csv site infos pages = csv_rows site infos pages

-- what is to be written of a site, as the tables have it; none of a strange site
abbrev pub shown_in : Book → Showing → Tables → Option (List ℕ)
shown_in book s t = option_map (λ _. form_bytes s.form s.site book.infos (site_pages s.site t)) (kept_site s.site t)

-- what is kept was refreshed by all books, and the tables alone were read then
pub record OnlyRead (book : Book) (old new : Moment) : Type 0 where
  pub begun : Moment
  pub refreshed : Refreshed {A = Unit {0}} book (length old.calls) (Ok tt) old begun
  pub tables : Stays begun.tables new.tables
  pub never_falls : begun.faults ≤ new.faults
  pub calls : new.calls ≡ begun.calls

-- or it couldn't be refreshed
abbrev pub EndsEarly : Book → KeepFault → Moment → Moment → Type 0
EndsEarly book fault old new = Refreshed {A = Unit {0}} book (length old.calls) (Err fault) old new

-- the site is kept, and is written as the tables have it
pub record IsShown (book : Book) (s : Showing) (tables : Option Tables) (writing : Writing) : Type 0 where
  pub output : (t : Tables) → tables ≡ Some t → shown_in book s t ≡ Some writing.output
  pub line : writing.line ≡ []

-- the site isn't kept
pub record IsStrange (book : Book) (s : Showing) (tables : Option Tables) (writing : Writing) : Type 0 where
  pub none : (t : Tables) → tables ≡ Some t → shown_in book s t ≡ None
  pub writes : writing ≡ line_alone (status_line UsageFault)

-- why such a command ends with a status; with others it never does
abbrev pub ShowCause : Book → Showing → Moment → Moment → Status → Writing → Type 0
ShowCause book s old new Done writing = OnlyRead book old new × IsShown book s new.tables writing
ShowCause book s old new UsageFault writing = OnlyRead book old new × IsStrange book s new.tables writing
ShowCause book s old new StoreFault writing =
    (EndsEarly book Failed old new ⊎ OnlyRead book old new) × Rose old.faults new.faults × (writing ≡ line_alone (status_line StoreFault))
ShowCause book s old new NoMemory writing =
    (EndsEarly book OutOfMemory old new ⊎ OnlyRead book old new) × (writing ≡ line_alone (status_line NoMemory))
ShowCause book s old new other writing = ⊥

-- what is to be written, or why there is nothing
pub record ShowsFresh (book : Book) (s : Showing) (old new : Moment) (result : Result (Option (List ℕ)) KeepFault) : Type 0 where
  pub shown : IfOk result (λ output. OnlyRead book old new × ((t : Tables) → new.tables ≡ Some t → output ≡ shown_in book s t))
  pub refused : IfErr result (λ fault. EndsEarly book fault old new ⊎ OnlyRead book old new)
  pub failed : IsErrOf result Failed → Rose old.faults new.faults

-- whatever the keeper and the sinks do
abbrev pub ShowBound : Status → Type 0
ShowBound status = OneOf (WriteFault ∷ Done ∷ UsageFault ∷ StoreFault ∷ NoMemory ∷ []) status

-- what a command ends with that is to write this, or has nothing to write
abbrev pub ShowsAll : Option (List ℕ) → Outside → Outside → Status → Type 0
ShowsAll (Some bytes) old new status = IsDone bytes old new status ⊎ (status ≡ NoMemory)
ShowsAll None old new status = OneOf (UsageFault ∷ NoMemory ∷ []) status

-- without faults: what the tables have, where the keeper tells them
abbrev pub ShowComplete : {L : Type 0} → Book → Showing → Outside → Outside → Desk L → Desk L → Status → Type 0
ShowComplete book s old new before now status =
    StoodStill before.faults now.faults → (t : Tables) → now.tables ≡ Some t → ShowsAll (shown_in book s t) old new status
