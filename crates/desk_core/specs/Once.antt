-- Which requests are accepted once, and what they are refused with where they are sent again.
use Rattle.std.specs.Prelude.{◌≡◌, Ok, Err}
use Rattle.desk_core.specs.declared.command.Command.{Command}
use Rattle.desk_core.specs.declared.command.Command.TheVariants as command
use Rattle.desk_core.specs.declared.refusal.Limit.TheVariants as limit
use Rattle.desk_core.specs.declared.refusal.Refusal.{Refusal}
use Rattle.desk_core.specs.declared.refusal.Refusal.TheVariants as refusal
use Rattle.desk_core.specs.Refusals.{Decision}

-- a request that makes a site, or puts, edits or drops pages: it is accepted once
abbrev pub IsOnce : Command → Type 0
IsOnce (command.PutSite site) = Unit {0}
IsOnce (command.PutMember site user held) = ⊥
IsOnce (command.PutLanguages site langs) = ⊥
IsOnce (command.PutPage site page rev raw) = Unit {0}
IsOnce (command.GetPage site page) = ⊥
IsOnce (command.DropPage site page rev) = Unit {0}
IsOnce (command.Import site entries) = Unit {0}
IsOnce (command.EditPage site page rev edits) = Unit {0}
IsOnce (command.Judge site page rule node verdict seen note) = ⊥
IsOnce (command.TakeEarl site page claims) = ⊥
IsOnce (command.GetOutcomes site page) = ⊥
IsOnce (command.GetReport site page) = ⊥
IsOnce (command.GetEarl site page) = ⊥
IsOnce (command.GetNames site page) = ⊥
IsOnce (command.SiteReport site) = ⊥
IsOnce (command.SiteEarl site) = ⊥
IsOnce (command.SiteCsv site) = ⊥
IsOnce (command.GetVerdicts site page) = ⊥
IsOnce (command.GetMembers site) = ⊥
IsOnce command.GetMemberships = ⊥

-- a request is refused
abbrev pub IsRefused : Decision → Type 0
IsRefused (Ok d) = ⊥
IsRefused (Err refusal) = Unit {0}

-- what a request is refused with, and nothing else
abbrev pub Refuses : (Refusal → Type 0) → Decision → Type 0
Refuses With (Ok d) = ⊥
Refuses With (Err refusal) = With refusal

-- the revision isn't the page's any more, or the site can give no revision more
abbrev pub IsBehind : Refusal → Type 0
IsBehind (refusal.StaleRevision current page) = Unit {0}
IsBehind (refusal.PageLimit limit.Revisions) = Unit {0}
IsBehind other = ⊥

-- what a request is refused with that was accepted before
abbrev pub IsFor : Command → Refusal → Type 0
IsFor (command.PutSite site) r = r ≡ refusal.SiteExists
IsFor (command.PutPage site page rev raw) r = IsBehind r
IsFor (command.DropPage site page rev) r = r ≡ refusal.NoPage
IsFor (command.Import site entries) r = IsBehind r
IsFor (command.EditPage site page rev edits) r = IsBehind r
IsFor c r = ⊥
