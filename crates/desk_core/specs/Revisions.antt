-- Revisions: how a site's counter and its pages' revisions go on, and which revision a request carries.
use Rattle.std.specs.Prelude.{◌≡◌, ℕ, ◌<◌, ◌≤◌, ◌⊎◌, List, [], ◌∷◌, Option, Some, None}
use Rattle.desk_core.specs.declared.command.Command.{Command}
use Rattle.desk_core.specs.declared.command.Command.TheVariants as command
use Rattle.desk_core.specs.declared.command.Entry.{Entry}
use Rattle.desk_core.specs.State.{SiteState, page_at}
use Rattle.desk_core.specs.Pages.{rev_of}

-- the counter of a site, and the revision of a page in it: 0 for what isn't there
abbrev pub counter_of : Option SiteState → ℕ
counter_of None = 0
counter_of (Some s) = s.site.counter

abbrev pub revision_of : List ℕ → Option SiteState → ℕ
revision_of page None = 0
revision_of page (Some s) = rev_of (page_at page s.pages)

-- a revision stays, or its page goes, or it becomes one above the counter
abbrev pub Moves : ℕ → ℕ → ℕ → Type 0
Moves counter old new = (new ≡ old) ⊎ ((new ≡ 0) ⊎ (counter < new))

-- the counter never falls, and a page gets no revision but a new one
pub record Rises (page : List ℕ) (old new : Option SiteState) : Type 0 where
  pub counter : counter_of old ≤ counter_of new
  pub revision : Moves (counter_of old) (revision_of page old) (revision_of page new)

-- an import has an entry of this page with this revision
abbrev pub HasEntry : List ℕ → ℕ → List Entry → Type 0
HasEntry page rev [] = ⊥
HasEntry page rev (e ∷ entries) = ((e.page ≡ page) × (e.rev ≡ rev)) ⊎ HasEntry page rev entries

-- a request to put, edit or drop a page carries this revision of it
abbrev pub Carries : List ℕ → ℕ → Command → Type 0
Carries page rev (command.PutSite site) = ⊥
Carries page rev (command.PutMember site user held) = ⊥
Carries page rev (command.PutLanguages site langs) = ⊥
Carries page rev (command.PutPage site p r raw) = (p ≡ page) × (r ≡ rev)
Carries page rev (command.GetPage site p) = ⊥
Carries page rev (command.DropPage site p r) = (p ≡ page) × (r ≡ rev)
Carries page rev (command.Import site entries) = HasEntry page rev entries
Carries page rev (command.EditPage site p r edits) = (p ≡ page) × (r ≡ rev)
Carries page rev (command.Judge site p rule node verdict seen note) = ⊥
Carries page rev (command.TakeEarl site p claims) = ⊥
Carries page rev (command.GetOutcomes site p) = ⊥
Carries page rev (command.GetReport site p) = ⊥
Carries page rev (command.GetEarl site p) = ⊥
Carries page rev (command.GetNames site p) = ⊥
Carries page rev (command.SiteReport site) = ⊥
Carries page rev (command.SiteEarl site) = ⊥
Carries page rev (command.SiteCsv site) = ⊥
Carries page rev (command.GetVerdicts site p) = ⊥
Carries page rev (command.GetMembers site) = ⊥
Carries page rev command.GetMemberships = ⊥

-- and of these all but dropping put the page
abbrev pub Puts : List ℕ → ℕ → Command → Type 0
Puts page rev (command.DropPage site p r) = ⊥
Puts page rev c = Carries page rev c
