-- Pages of a site: what is decided on putting, editing and dropping one.
use Rattle.std.specs.Prelude.{ℕ, ◌+◌, List, [], ◌∷◌, ◌==◌, Bool, nat_le, if◌then◌else◌, Option, Some, None, is_none, option_map, Result, Ok, Err}
use Rattle.std.specs.Option.{option_map_or}
use Rattle.snap_tree.specs.declared.row.Raw.{Raw}
use Rattle.snap_tree.specs.Trees.{Trees, Document, with_trees, with_langs}
use Rattle.snap_tree.specs.Grown.{page_of}
use Rattle.snap_tree.specs.Faults.{tree_fault}
use Rattle.snap_edit.specs.declared.edit.Edit.{Edit}
use Rattle.snap_edit.specs.declared.fault.EditFault.{EditFault}
use Rattle.snap_edit.specs.declared.fault.EditFault.TheVariants as edit
use Rattle.snap_edit.specs.Edits.{edited_all}
use Rattle.rule_core.specs.declared.info.RuleInfo.{RuleInfo}
use Rattle.rule_core.specs.Books.{Book}
use Rattle.judge_core.specs.declared.judgement.Judgement.{Judgement}
use Rattle.judge_core.specs.Outcomes.{outcomes}
use Rattle.keep_core.specs.declared.limits.TheConstants.{MOST_REVISION}
use Rattle.keep_core.specs.declared.site.Site.{Site}
use Rattle.keep_core.specs.declared.page.Page.{Page}
use Rattle.keep_core.specs.declared.page.PagePut.{PagePut}
use Rattle.keep_core.specs.declared.change.Change.TheVariants.{PutPages, DropPage}
use Rattle.desk_core.specs.declared.limits.TheConstants.{MOST_PAGES}
use Rattle.desk_core.specs.declared.refusal.Limit.TheVariants as limit
use Rattle.desk_core.specs.declared.refusal.Refusal.TheVariants as refusal
use Rattle.desk_core.specs.declared.reply.Stored.{Stored}
use Rattle.desk_core.specs.declared.reply.Reply.TheVariants as reply
use Rattle.desk_core.specs.Refusals.{Decision, unless, unless_refused}
use Rattle.desk_core.specs.State.{PageState}
use Rattle.desk_core.specs.Summaries.{summary}

-- the current revision of a page that is there
abbrev pub revision_in : Option PageState → Option ℕ
revision_in kept = option_map (λ p. p.page.head.rev) kept

-- the revision that is to be sent with a page: 0 where none is there
abbrev pub due : Option ℕ → ℕ
due there = option_map_or (λ rev. rev) there 0

abbrev pub rev_of : Option PageState → ℕ
rev_of kept = due (revision_in kept)

-- a page's judgements: none for one that isn't there
abbrev pub judged : Option PageState → List Judgement
judged kept = option_map_or (λ p. p.judgements) kept []

-- a site with so many pages has room for so many new ones
abbrev pub has_room_for : ℕ → ℕ → Bool
has_room_for new pages = nat_le (pages + new) MOST_PAGES

-- a site with so many pages has room for a page, which is new where no revision of it is there
abbrev pub has_room : Option ℕ → ℕ → Bool
has_room there pages = has_room_for (if is_none there then 1 else 0) pages

-- a site with this counter can give so many revisions more
abbrev pub has_revisions : ℕ → ℕ → Bool
has_revisions counter more = nat_le (counter + more) MOST_REVISION

-- a page as it is put: with its new revision, who sent it, and its outcomes under its judgements; it is kept without languages
abbrev pub page_put : Book → List ℕ → ℕ → List ℕ → Document → List Judgement → PagePut
page_put book page rev hand tree js = record {
  page = record { head = record { page = page; rev = rev; hand = hand }; tree = with_langs tree [] };
  outcomes = record { rows = outcomes book tree js };
}

-- what is said of a page that is put, by the rules of these infos, and by those of a book
abbrev pub stored_by : List RuleInfo → PagePut → Stored
stored_by infos put = record { page = put.page.head.page; rev = put.page.head.rev; summary = summary infos put.outcomes.rows }

abbrev pub stored : Book → PagePut → Stored
stored book put = stored_by book.infos put

-- a page is put into a site, by the next revision
abbrev pub storing : Book → List ℕ → ℕ → PagePut → Decision
storing book site rev put = Ok (record { change = Some (PutPages site rev (put ∷ [])); reply = reply.Stored (stored book put) })

-- the new page of this tree under the judgements that the kept one has
abbrev pub renewed : Book → List ℕ → List ℕ → List ℕ → ℕ → List Judgement → Document → Decision
renewed book site caller page counter js tree = storing book site (counter + 1) (page_put book page (counter + 1) caller tree js)

-- rows that make a tree, and else their first fault
abbrev pub built : Option (List ℕ) → Raw → (Document → Decision) → Decision
built page raw next = unless_refused (option_map_or (λ fault. Some (refusal.TreeFault fault page)) (tree_fault raw.rows) None) (next (page_of raw))

-- the revision sent is the page's
abbrev pub current : ℕ → ℕ → Decision → Decision
current rev now next = unless (rev == now) (refusal.StaleRevision now None) next

-- a page is put in the place of the one that the sender saw, of which this revision is there, under these judgements: into a site
-- with so many pages
abbrev pub put_page : Book → List ℕ → List ℕ → List ℕ → ℕ → Raw → Site → Option ℕ → List Judgement → ℕ → Decision
put_page book site caller page rev raw s there js pages =
    unless (has_room there pages) (refusal.PageLimit limit.Pages) (
    unless (has_revisions s.counter 1) (refusal.PageLimit limit.Revisions) (
    current rev (due there) (
    built None raw (λ tree. renewed book site caller page s.counter js (with_langs tree s.languages)))))

-- the edited page, or the first fault of the edits
abbrev pub edited : Document → Result Trees EditFault → (Document → Decision) → Decision
edited tree (Ok t) next = next (with_trees tree t)
edited tree (Err (edit.At index kind)) next = Err (refusal.EditFault index kind)
edited tree (Err edit.OutOfMemory) next = Err refusal.OutOfMemory

-- the page that the sender saw is edited
abbrev pub edit_page : Book → List ℕ → List ℕ → List ℕ → ℕ → List Edit → Site → PageState → Decision
edit_page book site caller page rev edits s kept =
    unless (has_revisions s.counter 1) (refusal.PageLimit limit.Revisions) (
    current rev kept.page.head.rev (
    edited kept.page.tree (edited_all kept.page.tree.trees edits) (renewed book site caller page s.counter kept.judgements)))

-- the page that the sender saw is dropped
abbrev pub drop_page : List ℕ → List ℕ → ℕ → Page → Decision
drop_page site page rev kept =
    current rev kept.head.rev (
    Ok (record { change = Some (DropPage site page); reply = reply.Dropped page }))
