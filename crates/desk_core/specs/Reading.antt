-- Reading: what is answered where a page or a site is asked for.
use Rattle.std.specs.Prelude.{ℕ, List, map, None, Ok}
use Rattle.rule_core.specs.Books.{Book}
use Rattle.judge_core.specs.Outcomes.{outcomes}
use Rattle.keep_core.specs.declared.page.SitePage.{SitePage}
use Rattle.desk_core.specs.declared.command.Command.{Command}
use Rattle.desk_core.specs.declared.command.Command.TheVariants as command
use Rattle.desk_core.specs.declared.reads.PageForm.{PageForm}
use Rattle.desk_core.specs.declared.reads.PageForm.TheVariants as showing
use Rattle.desk_core.specs.declared.reply.Reply.{Reply}
use Rattle.desk_core.specs.declared.reply.Reply.TheVariants as reply
use Rattle.desk_core.specs.declared.reply.Sheet.{Sheet}
use Rattle.desk_core.specs.Refusals.{Decision}
use Rattle.desk_core.specs.State.{PageState, SiteState}

-- a page with its outcomes
abbrev pub site_page : Book → PageState → SitePage
site_page book kept = record {
  head = kept.page.head;
  address = kept.page.tree.address;
  outcomes = record { rows = outcomes book kept.page.tree kept.judgements };
}

-- a site's pages, each with its outcomes
abbrev pub sheet : Book → List ℕ → SiteState → Sheet
sheet book site s = record { site = site; pages = map (site_page book) s.pages }

-- a reply, and no change
abbrev pub answered : Reply → Decision
answered reply = Ok (record { change = None; reply = reply })

-- a page is shown with its outcomes as it was asked for
abbrev pub asked_as : PageForm → List ℕ → List ℕ → Command
asked_as showing.Outcomes site page = command.GetOutcomes site page
asked_as showing.Report site page = command.GetReport site page
asked_as showing.Earl site page = command.GetEarl site page

abbrev pub shown_as : PageForm → SitePage → Reply
shown_as showing.Outcomes shown = reply.Outcomes shown
shown_as showing.Report shown = reply.Report shown
shown_as showing.Earl shown = reply.Earl shown
