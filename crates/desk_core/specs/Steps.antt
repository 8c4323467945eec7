-- The machine: one request is one step, from what is kept to what is kept after it, with a reply.
use Rattle.std.specs.Prelude.{ℕ, List, [], length, Option, Ok, Err}
use Rattle.rule_core.specs.Books.{Book}
use Rattle.desk_core.specs.declared.command.Command.{Command}
use Rattle.desk_core.specs.declared.command.Command.TheVariants as command
use Rattle.desk_core.specs.declared.refusal.Needed.TheVariants as needed
use Rattle.keep_core.specs.declared.member.Membership.{Membership}
use Rattle.desk_core.specs.declared.reply.Reply.{Reply}
use Rattle.desk_core.specs.declared.reply.Reply.TheVariants as reply
use Rattle.desk_core.specs.Refusals.{Decision}
use Rattle.desk_core.specs.State.{State, PageState, SiteState, page_at, site_at}
use Rattle.desk_core.specs.Rights.{entering, on_page}
use Rattle.desk_core.specs.Members.{put_site, put_member}
use Rattle.desk_core.specs.Languages.{put_languages}
use Rattle.desk_core.specs.Pages.{revision_in, judged, put_page, edit_page, drop_page}
use Rattle.desk_core.specs.Imports.{import}
use Rattle.desk_core.specs.Judging.{judge}
use Rattle.desk_core.specs.Claiming.{take_earl}
use Rattle.desk_core.specs.Reading.{answered, site_page, sheet}
use Rattle.desk_core.specs.Verdicts.{page_verdicts}
use Rattle.desk_core.specs.Memberships.{memberships}
use Rattle.desk_core.specs.Changes.{after}

-- a request: who asks, and what
pub record Request : Type 0 where
  pub caller : List ℕ
  pub command : Command

abbrev pub asked_by : List ℕ → Command → Request
asked_by caller command = record { caller = caller; command = command }

-- the site of a command: the empty text, which is no name, where it names none
abbrev pub site_of : Command → List ℕ
site_of (command.PutSite site) = site
site_of (command.PutMember site user held) = site
site_of (command.PutLanguages site langs) = site
site_of (command.PutPage site page rev raw) = site
site_of (command.GetPage site page) = site
site_of (command.DropPage site page rev) = site
site_of (command.Import site entries) = site
site_of (command.EditPage site page rev edits) = site
site_of (command.Judge site page rule node verdict seen note) = site
site_of (command.TakeEarl site page claims) = site
site_of (command.GetOutcomes site page) = site
site_of (command.GetReport site page) = site
site_of (command.GetEarl site page) = site
site_of (command.GetNames site page) = site
site_of (command.SiteReport site) = site
site_of (command.SiteEarl site) = site
site_of (command.SiteCsv site) = site
site_of (command.GetVerdicts site page) = site
site_of (command.GetMembers site) = site
site_of command.GetMemberships = []

-- a command names a site
abbrev pub OfSite : Command → Type 0
OfSite command.GetMemberships = ⊥
OfSite c = Unit {0}

-- what any member may: to ask for a page, and for a site
abbrev pub read_page : List ℕ → List ℕ → Option SiteState → (PageState → Reply) → Decision
read_page caller page kept reply = entering needed.Reader caller kept (λ s. on_page page s (λ p. answered (reply p)))

abbrev pub read_site : List ℕ → Option SiteState → (SiteState → Reply) → Decision
read_site caller kept reply = entering needed.Reader caller kept (λ s. answered (reply s))

-- what is decided on a command in the site that it names, where that is kept, by a caller with these memberships
abbrev pub decision : Book → List ℕ → Command → Option SiteState → List Membership → Decision
decision book caller (command.PutSite site) kept own = put_site site caller kept
decision book caller (command.PutMember site user held) kept own =
    entering needed.Owner caller kept (λ s. put_member site caller user held s.site)
decision book caller (command.PutLanguages site langs) kept own = entering needed.Owner caller kept (put_languages book site langs)
decision book caller (command.PutPage site page rev raw) kept own =
    entering needed.Editor caller kept (λ s.
    put_page book site caller page rev raw s.site (revision_in (page_at page s.pages)) (judged (page_at page s.pages)) (length s.pages))
decision book caller (command.DropPage site page rev) kept own =
    entering needed.Editor caller kept (λ s. on_page page s (λ p. drop_page site page rev p.page))
decision book caller (command.Import site entries) kept own = entering needed.Editor caller kept (import book site caller entries)
decision book caller (command.EditPage site page rev edits) kept own =
    entering needed.Editor caller kept (λ s. on_page page s (edit_page book site caller page rev edits s.site))
decision book caller (command.Judge site page rule node verdict seen note) kept own =
    entering needed.Judge caller kept (λ s. on_page page s (judge book site caller page rule node verdict seen note))
decision book caller (command.TakeEarl site page claims) kept own =
    entering needed.Judge caller kept (λ s. on_page page s (take_earl book site caller page claims))
decision book caller (command.GetPage site page) kept own = read_page caller page kept (λ p. reply.Page p.page)
decision book caller (command.GetOutcomes site page) kept own = read_page caller page kept (λ p. reply.Outcomes (site_page book p))
decision book caller (command.GetReport site page) kept own = read_page caller page kept (λ p. reply.Report (site_page book p))
decision book caller (command.GetEarl site page) kept own = read_page caller page kept (λ p. reply.Earl (site_page book p))
decision book caller (command.GetNames site page) kept own = read_page caller page kept (λ p. reply.Names p.page.tree)
decision book caller (command.SiteReport site) kept own = read_site caller kept (λ s. reply.SiteReport (sheet book site s))
decision book caller (command.SiteEarl site) kept own = read_site caller kept (λ s. reply.SiteEarl (sheet book site s))
decision book caller (command.SiteCsv site) kept own = read_site caller kept (λ s. reply.SiteCsv (sheet book site s))
decision book caller (command.GetVerdicts site page) kept own = read_page caller page kept (λ p. reply.Verdicts (page_verdicts book p))
decision book caller (command.GetMembers site) kept own = read_site caller kept (λ s. reply.Members s.site.members)
decision book caller command.GetMemberships kept own = answered (reply.Memberships own)

-- what is decided on a request in a state: it depends on the rows of the named site alone, and on the caller's memberships where they are asked for
abbrev pub decided : Book → Request → State → Decision
decided book request state =
    decision book request.caller request.command (site_at (site_of request.command) state) (memberships request.caller state)

-- the state after what was decided, and the reply
abbrev pub stepped : State → Decision → State × Reply
stepped state (Ok d) = (after d.change state, d.reply)
stepped state (Err refusal) = (state, reply.Refused refusal)

abbrev pub step : Book → State → Request → State × Reply
step book state request = stepped state (decided book request state)
