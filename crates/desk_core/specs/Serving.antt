-- What is owed on the way through a request, over a keeper that may tell its tables: what is told at the end was told
-- at the start, a refusal is the first one, and the keeper's fault is given only where its count rose.
use Rattle.std.specs.Prelude.{◌≡◌, ℕ, ◌≤◌, List, [], length, true, false, Option, Some, None, option_map, ◌⊎◌, Result, Ok, Err, IfSome, IfOk, IfErr, IsErrOf}
use Rattle.counts.specs.Counts.{Rose}
use Rattle.rule_core.specs.Books.{Book}
use Rattle.judge_core.specs.declared.judgement.Judgement.{Judgement}
use Rattle.judge_core.specs.declared.outcomes.Outcomes.{Outcomes}
use Rattle.judge_core.specs.Outcomes.{outcomes}
use Rattle.keep_core.specs.declared.site.Site.{Site}
use Rattle.keep_core.specs.declared.page.Page.{Page}
use Rattle.keep_core.specs.declared.page.SitePage.{SitePage}
use Rattle.keep_core.specs.declared.tables.KeptPage.{KeptPage}
use Rattle.keep_core.specs.declared.tables.Tables.{Tables}
use Rattle.keep_core.specs.Tables.{kept_site, languages_of, site_of, kept_page, pages_of, outcomes_of}
use Rattle.keep_core.specs.Fits.{Fits, FitsSite, FitsPage, IsThere}
use Rattle.keep_core.specs.Keeping.{Stays, Turns}
use Rattle.keep_core.specs.declared.change.Change.{Change}
use Rattle.keep_core.specs.declared.change.Change.TheVariants.{PutPages, SetEdition}
use Rattle.desk_core.specs.declared.decided.Decided.{Decided}
use Rattle.desk_core.specs.declared.refusal.Needed.{Needed}
use Rattle.desk_core.specs.declared.refusal.Needed.TheVariants.{Editor}
use Rattle.desk_core.specs.declared.look.Survey.{Survey}
use Rattle.desk_core.specs.declared.refusal.Refusal.{Refusal}
use Rattle.desk_core.specs.declared.refusal.Refusal.TheVariants.{NotAllowed, KeeperFault, OutOfMemory}
use Rattle.desk_core.specs.declared.reply.Reply.{Reply}
use Rattle.desk_core.specs.declared.reply.Reply.TheVariants.{Judged, Taken, Stored, Languages, Refused}
use Rattle.desk_core.specs.Refusals.{Decision}
use Rattle.desk_core.specs.State.{PageState, SiteState, page_state, listed, kept_listed, state_of, site_at}
use Rattle.desk_core.specs.Rights.{may, role_of, entering, on_page}
use Rattle.desk_core.specs.Steps as steps
use Rattle.desk_core.specs.Steps.{Request, asked_by, read_page, decided}
use Rattle.desk_core.specs.Judging.{AddsTo}
use Rattle.desk_core.specs.Pages.{revision_in, judged}
use Rattle.desk_core.specs.Reading.{answered, site_page}
use Rattle.desk_core.specs.Soundness as soundness
use Rattle.desk_core.specs.Soundness.{IsSound}
use Rattle.desk_core.specs.Runs.{Fails, Answers}
use Rattle.desk_core.specs.Told.{Told}
use Rattle.desk_core.specs.declared.command.Command.{Command}
use Rattle.desk_core.specs.declared.command.Command.TheVariants.{EditPage}

-- a refusal is what is decided, unless there was no memory, or the keeper met a fault where one may be met
abbrev pub Stands : Type 0 → Refusal → Decision → Type 0
Stands fault KeeperFault decision = fault
Stands fault OutOfMemory decision = Unit {0}
Stands fault refusal decision = decision ≡ Err refusal

-- an answer is what is decided, unless it fails
abbrev pub Agrees : Type 0 → Result Decided Refusal → Decision → Type 0
Agrees fault (Ok d) decision = decision ≡ Ok d
Agrees fault (Err refusal) decision = Stands fault refusal decision

-- a reply that isn't a refusal, and an answer that has such a one
abbrev pub IsAccepted : Reply → Type 0
IsAccepted (Refused refusal) = ⊥
IsAccepted other = Unit {0}

abbrev pub Accepts : Result Decided Refusal → Type 0
Accepts result = IfOk result (λ d. IsAccepted d.reply)

-- the reply to a judgement or to claims, and an answer that has no other
abbrev pub IsJudged : Reply → Type 0
IsJudged (Judged rule node outcome) = Unit {0}
IsJudged (Taken added known skipped) = Unit {0}
IsJudged other = ⊥

abbrev pub Judges : Result Decided Refusal → Type 0
Judges result = IfOk result (λ d. IsJudged d.reply)

-- the reply to a page of this name that was put or edited
abbrev pub IsStored : List ℕ → Reply → Type 0
IsStored page (Stored stored) = stored.page ≡ page
IsStored page other = ⊥

-- the reply to an edit that was carried out
abbrev pub IsEdited : Command → Reply → Type 0
IsEdited (EditPage site page rev edits) reply = IsStored page reply
IsEdited other reply = ⊥

-- the reply to a list of languages
abbrev pub IsRelisted : Reply → Type 0
IsRelisted (Languages languages pages) = Unit {0}
IsRelisted other = ⊥

-- the reply to a judgement, to claims, to an edit or to a list of languages, which are decided by the outcomes that are kept
abbrev pub RestsOnKept : Request → Reply → Type 0
RestsOnKept request reply = IsJudged reply ⊎ (IsEdited request.command reply ⊎ IsRelisted reply)

-- a change leaves the edition
abbrev pub KeepsEdition : Change → Type 0
KeepsEdition (SetEdition number) = ⊥
KeepsEdition other = Unit {0}

-- a change puts pages into this site
abbrev pub PutsInto : List ℕ → Change → Type 0
PutsInto site (PutPages s counter pages) = s ≡ site
PutsInto site other = ⊥

-- an edit of a page of this site is answered, whatever outcomes are kept: by no fault of the keeper's, and with a change that fits
abbrev pub Edits : List ℕ → List ℕ → Result Decided Refusal → Type 0
Edits site page (Ok d) = IfSome d.change (λ change. Fits change × PutsInto site change) × IsStored page d.reply
Edits site page (Err refusal) = refusal ≡ KeeperFault → ⊥

-- a judgement of a page, or claims on it, are answered, whatever outcomes are kept: by no fault of the keeper's, with a change that adds
-- to this page, and with the reply to judgements
pub record JudgesOn (site page : List ℕ) (result : Result Decided Refusal) : Type 0 where
  pub no_fault : IsErrOf result KeeperFault → ⊥
  pub adds : IfOk result (λ d. IfSome d.change (AddsTo site page))
  pub accepted : Accepts result
  pub judged : Judges result

-- What is decided of tables, sound or not: no change, or judgements, an edit or a list of languages, or what the definition decides of
-- them.
abbrev pub IsFirm : Book → Request → Option Tables → Decided → Type 0
IsFirm book request tables d =
    (d.change ≡ None) ⊎ (RestsOnKept request d.reply ⊎ ((t : Tables) → tables ≡ Some t → decided book request (state_of t) ≡ Ok d))

-- tables are only read, and a keeper's fault is one that was counted
pub record OnlyReads {A : Type 0} (old new : Told) (result : Result A Refusal) : Type 0 where
  pub stays : Stays old.tables new.tables
  pub never_falls : old.faults ≤ new.faults
  pub failed : IsErrOf result KeeperFault → Rose old.faults new.faults

-- the caller has this leave in the site, whose row this is
pub record IsIn (leave : Needed) (caller name : List ℕ) (site : Site) (tables : Tables) : Type 0 where
  pub kept : site_of name tables ≡ Some site
  pub may_do : may leave (role_of caller site.members) ≡ true

-- the row of a site is given on where the caller has this leave in it
abbrev pub Admits : Needed → List ℕ → Site → Result Site Refusal → Type 0
Admits leave caller site (Ok given) = (site ≡ given) × (may leave (role_of caller given.members) ≡ true)
Admits leave caller site (Err refusal) = (refusal ≡ NotAllowed leave) × (may leave (role_of caller site.members) ≡ false)

-- a page with its judgements, of a site whose languages these are
abbrev pub page_with : List (List ℕ) → List ℕ → List ℕ → Tables → Option PageState
page_with langs site page tables = option_map (λ p. page_state (kept_listed langs p)) (kept_page site page tables)

-- and with the languages that the site has
abbrev pub page_in : List ℕ → List ℕ → Tables → Option PageState
page_in site page tables = page_with (languages_of site tables) site page tables

-- a page fits as it is kept: without languages
abbrev pub FitsListed : Page → Type 0
FitsListed page = FitsPage (listed [] page)

-- a refusal for a fault of the keeper or for want of memory alone
abbrev pub FailsOnly : {A : Type 0} → Result A Refusal → Type 0
FailsOnly result = IfErr result (λ refusal. (decision : Decision) → Stands (Unit {0}) refusal decision)

-- a refusal before a site was entered in which the caller has this leave
abbrev pub RefusesSite : {A : Type 0} → Needed → List ℕ → List ℕ → Told → Result A Refusal → Type 0
RefusesSite leave caller name new result =
    IfErr result (λ refusal.
    (t : Tables) → new.tables ≡ Some t → (next : SiteState → Decision) → Stands (Unit {0}) refusal (entering leave caller (site_at name (state_of t)) next))

-- a refusal before a page of a site was found in which the caller has this leave
abbrev pub RefusesPage : {A : Type 0} → Needed → List ℕ → List ℕ → List ℕ → Told → Result A Refusal → Type 0
RefusesPage leave caller site page new result =
    IfErr result (λ refusal.
    (t : Tables) → new.tables ≡ Some t → (next : SiteState → PageState → Decision)
    → Stands (Unit {0}) refusal (entering leave caller (site_at site (state_of t)) (λ s. on_page page s (next s))))

-- the row of a site in which the caller has a leave is looked up
pub record Enters (leave : Needed) (caller name : List ℕ) (old new : Told) (result : Result Site Refusal) : Type 0 where
  pub reads : OnlyReads old new result
  pub fits : IfOk result FitsSite
  pub found : IfOk result (λ site. (t : Tables) → new.tables ≡ Some t → IsIn leave caller name site t)
  pub refused : RefusesSite leave caller name new result

-- a page with its judgements is looked up, where it is there, in a site whose languages these are
pub record Looks (langs : List (List ℕ)) (site page : List ℕ) (old new : Told) (result : Result (Option PageState) Refusal) : Type 0 where
  pub reads : OnlyReads old new result
  pub fits : IfOk result (λ found. IfSome found (λ p. FitsListed p.page))
  pub found : IfOk result (λ found. (t : Tables) → new.tables ≡ Some t → found ≡ page_with langs site page t)
  pub refused : FailsOnly result

-- a page of a site in which the caller has a leave
pub record Finds (leave : Needed) (caller site page : List ℕ) (old new : Told) (result : Result (Site × PageState) Refusal) : Type 0 where
  pub reads : OnlyReads old new result
  pub fits : IfOk result (λ found. FitsSite found.0 × FitsListed found.1.page)
  pub found : IfOk result (λ found. (t : Tables) → new.tables ≡ Some t → IsIn leave caller site found.0 t × (page_in site page t ≡ Some found.1))
  pub refused : RefusesPage leave caller site page new result

-- the site into which a page is to be put, the revision of the page that is there with its judgements, and the number of its pages
pub record Surveys (caller site page : List ℕ) (old new : Told) (result : Result Survey Refusal) : Type 0 where
  pub reads : OnlyReads old new result
  pub fits : IfOk result (λ s. FitsSite s.site)
  pub found :
      IfOk result (λ s.
      (t : Tables) → new.tables ≡ Some t
      → IsIn Editor caller site s.site t × (revision_in (page_in site page t) ≡ s.current) × (judged (page_in site page t) ≡ s.judgements)
      × (length (pages_of site t) ≡ s.pages))
  pub refused : RefusesSite Editor caller site new result

-- a page of a site in which the caller has a leave, whatever its judgements are
pub record FindsPage (leave : Needed) (caller site page : List ℕ) (old new : Told) (result : Result Page Refusal) : Type 0 where
  pub reads : OnlyReads old new result
  pub found :
      IfOk result (λ found.
      (t : Tables) → new.tables ≡ Some t
      → (s : Site) × (js : List Judgement) × IsIn leave caller site s t × (page_in site page t ≡ Some (record { page = found; judgements = js })))
  pub refused : RefusesPage leave caller site page new result

-- the same with its outcomes
pub record FindsShown (leave : Needed) (caller site page : List ℕ) (old new : Told) (result : Result (Page × Outcomes) Refusal) : Type 0 where
  pub reads : OnlyReads old new result
  pub found :
      IfOk result (λ found.
      (t : Tables) → new.tables ≡ Some t
      → (s : Site) × (js : List Judgement) × IsIn leave caller site s t × (page_in site page t ≡ Some (record { page = found.0; judgements = js }))
      × (outcomes_of site page t ≡ found.1))
  pub refused : RefusesPage leave caller site page new result

-- the same with its judgements and its outcomes
pub record FindsKept (leave : Needed) (caller site page : List ℕ) (old new : Told) (result : Result KeptPage Refusal) : Type 0 where
  pub reads : OnlyReads old new result
  pub found :
      IfOk result (λ kept.
      (t : Tables) → new.tables ≡ Some t
      → (s : Site) × IsIn leave caller site s t × (page_in site page t ≡ Some (page_state kept)) × (outcomes_of site page t ≡ kept.outcomes))
  pub refused : RefusesPage leave caller site page new result

-- the same with the site's row
pub record FindsWhole (leave : Needed) (caller site page : List ℕ) (old new : Told) (result : Result (Site × KeptPage) Refusal) : Type 0 where
  pub reads : OnlyReads old new result
  pub fits : IfOk result (λ found. FitsListed found.1.page)
  pub found :
      IfOk result (λ found.
      (t : Tables) → new.tables ≡ Some t
      → IsIn leave caller site found.0 t × (page_in site page t ≡ Some (page_state found.1)) × (outcomes_of site page t ≡ found.1.outcomes))
  pub refused : RefusesPage leave caller site page new result

-- the outcomes that are kept of a page are those of its tree and judgements
abbrev pub IsTrueTo : Book → KeptPage → Type 0
IsTrueTo book kept = kept.outcomes.rows ≡ outcomes book kept.page.tree kept.judgements

-- what was read, as a page with its outcomes, is shown by any reply that is made of it
abbrev pub Shows : {A : Type 0} → ((A → Reply) → Decision) → Result A Refusal → Type 0
Shows {A} decision (Ok shown) = (reply : A → Reply) → decision reply ≡ answered (reply shown)
Shows {A} decision (Err refusal) = (reply : A → Reply) → Stands (Unit {0}) refusal (decision reply)

-- a page with its outcomes is read, by any member
pub record ReadsPage (book : Book) (caller site page : List ℕ) (old new : Told) (result : Result SitePage Refusal) : Type 0 where
  pub reads : OnlyReads old new result
  pub shows :
      (t : Tables) → new.tables ≡ Some t → IsSound book t
      → Shows (λ reply. read_page caller page (site_at site (state_of t)) (λ p. reply (site_page book p))) result

-- a request is decided: by its definition, where the tables are told and sound
pub record Decides (book : Book) (request : Request) (old new : Told) (result : Result Decided Refusal) : Type 0 where
  pub reads : OnlyReads old new result
  pub agrees : (t : Tables) → new.tables ≡ Some t → IsSound book t → Agrees (Unit {0}) result (decided book request (state_of t))
  pub fits : IfOk result (λ d. IfSome d.change Fits)
  pub there : IfOk result (λ d. IfSome d.change (λ change. IfSome new.tables (IsThere change)))
  pub accepted : Accepts result
  pub edition : IfOk result (λ d. IfSome d.change KeepsEdition)
  pub firm : IfOk result (IsFirm book request new.tables)

-- a command that is decided the same by any book
abbrev pub DecidesByAny : List ℕ → Command → Told → Told → Result Decided Refusal → Type 0
DecidesByAny caller command old new result = (book : Book) → Decides book (asked_by caller command) old new result

-- the rows of all sites but one stay
abbrev pub OthersStay : List ℕ → Tables → Tables → Type 0
OthersStay site old new = (n : List ℕ) → (n ≡ site → ⊥) → kept_site n new ≡ kept_site n old

-- what the definition decides of these tables was made of them and answered
pub record IsDone (book : Book) (request : Request) (reply : Reply) (s t : Tables) : Type 0 where
  pub d : Decided
  pub is_decided : decided book request (state_of s) ≡ Ok d
  pub answered : reply ≡ d.reply
  pub became : t ≡ soundness.made d.change s

-- A request is served: where the tables that are told were sound, they are sound, the reply is the machine's, and the rows of all
-- other sites stay. Sound or not, the edition stays, a request that is refused leaves the tables, and they change only by judgements, by
-- an edit, by a list of languages or by what the definition decides. Whether they are told or not, the keeper's fault is answered only
-- where it was counted.
pub record Serves (book : Book) (request : Request) (old new : Told) (reply : Reply) : Type 0 where
  pub told :
      (t : Tables) → new.tables ≡ Some t → (s : Tables) × (old.tables ≡ Some s) × (IsSound book s → IsSound book t × Answers book (state_of s) request reply (state_of t) old.faults new.faults)
  pub others : (s t : Tables) → old.tables ≡ Some s → new.tables ≡ Some t → IsSound book s → OthersStay (steps.site_of request.command) s t
  pub edition : (s t : Tables) → old.tables ≡ Some s → new.tables ≡ Some t → t.edition ≡ s.edition
  pub refused : (refusal : Refusal) → reply ≡ Refused refusal → Stays old.tables new.tables
  pub changed : (s t : Tables) → old.tables ≡ Some s → new.tables ≡ Some t → (t ≡ s) ⊎ (RestsOnKept request reply ⊎ IsDone book request reply s t)
  pub never_falls : old.faults ≤ new.faults
  pub failed : reply ≡ Refused KeeperFault → Rose old.faults new.faults

-- the tables after a change, or as they were without one
abbrev pub TurnsBy : Option Change → Option Tables → Option Tables → Type 0
TurnsBy None old new = Stays old new
TurnsBy (Some change) old new = Turns change old new

-- what was decided is made of the tables and answered, or it fails and the tables stay
pub record Commits (d : Decided) (old new : Told) (reply : Reply) : Type 0 where
  pub never_falls : old.faults ≤ new.faults
  pub made : ((reply ≡ d.reply) × TurnsBy d.change old.tables new.tables) ⊎ (Fails reply old.faults new.faults × Stays old.tables new.tables)
