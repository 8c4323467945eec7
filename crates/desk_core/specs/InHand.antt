-- Commands and decisions by what the code has in hand: a page as it was named, a judgement as it was said, and what was found where
-- they go.
use Rattle.std.specs.Prelude.{ℕ, List, []}
use Rattle.snap_tree.specs.declared.row.Raw.{Raw}
use Rattle.snap_tree.specs.Trees.{Document, with_langs}
use Rattle.snap_edit.specs.declared.edit.Edit.{Edit}
use Rattle.rule_core.specs.Books.{Book}
use Rattle.judge_core.specs.declared.judgement.Judgement.{Judgement}
use Rattle.judge_core.specs.declared.outcomes.Outcomes.{Outcomes}
use Rattle.judge_core.specs.declared.outcomes.OutRow.{OutRow}
use Rattle.keep_core.specs.declared.page.Page.{Page}
use Rattle.keep_core.specs.declared.site.Site.{Site}
use Rattle.keep_core.specs.declared.tables.KeptPage.{KeptPage}
use Rattle.desk_core.specs.declared.arrival.Arrival.{Arrival}
use Rattle.desk_core.specs.declared.command.Command.{Command}
use Rattle.desk_core.specs.declared.command.Command.TheVariants as command
use Rattle.desk_core.specs.declared.judge.Said.{Said}
use Rattle.desk_core.specs.declared.look.Survey.{Survey}
use Rattle.desk_core.specs.declared.sent.SentPage.{SentPage}
use Rattle.desk_core.specs.Refusals.{Decision}
use Rattle.desk_core.specs.State.{page_state}
use Rattle.desk_core.specs.Pages.{put_page, edit_page}
use Rattle.desk_core.specs.Judging.{judged_row, judge}
use Rattle.desk_core.specs.Placing.{import_placed}

-- ---- a page

-- with its new revision and who sent it, as it is kept
abbrev pub new_page : List ℕ → ℕ → List ℕ → Document → Page
new_page page rev hand tree = record { head = record { page = page; rev = rev; hand = hand }; tree = with_langs tree [] }

abbrev pub putting : SentPage → Raw → Command
putting sent raw = command.PutPage sent.site sent.page sent.rev raw

abbrev pub dropping : SentPage → Command
dropping sent = command.DropPage sent.site sent.page sent.rev

abbrev pub editing : SentPage → List Edit → Command
editing sent edits = command.EditPage sent.site sent.page sent.rev edits

-- a page is put into the site that was surveyed
abbrev pub put_into : Book → List ℕ → SentPage → Raw → Survey → Decision
put_into book caller sent raw at = put_page book sent.site caller sent.page sent.rev raw at.site at.current at.judgements at.pages

-- the page that was found is edited
abbrev pub edit_kept : Book → List ℕ → SentPage → List Edit → Site → KeptPage → Decision
edit_kept book caller sent edits site kept = edit_page book sent.site caller sent.page sent.rev edits site (page_state kept)

-- ---- pages of an import, where they arrived

abbrev pub import_arrived : Book → List ℕ → List ℕ → Arrival → Decision
import_arrived book site caller at = import_placed book site at.languages caller at.counter at.pages at.placed

-- ---- a judgement

abbrev pub judging : List ℕ → List ℕ → Said → Command
judging site page said = command.Judge site page said.rule said.node said.verdict said.digest said.note

-- what follows with the row that it is about
abbrev pub said_of_row : Outcomes → List ℕ → List ℕ → Said → (OutRow → Decision) → Decision
said_of_row found hand caller said next = judged_row found.rows hand caller said.rule said.node said.digest next

-- it is made of the evidence that the row has
abbrev pub judgement_of : List ℕ → Said → OutRow → Judgement
judgement_of caller said row = record {
  rule = said.rule;
  node = said.node;
  verdict = said.verdict;
  hand = caller;
  note = said.note;
  evidence = row.evidence;
}

-- the page that was found is judged
abbrev pub judge_kept : Book → List ℕ → List ℕ → List ℕ → Said → KeptPage → Decision
judge_kept book site caller page said kept = judge book site caller page said.rule said.node said.verdict said.digest said.note (page_state kept)
