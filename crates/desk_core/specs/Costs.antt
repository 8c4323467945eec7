-- How many judgings a request may cost: those of the pages that it audits.
use Rattle.std.specs.Prelude.{◌≡◌, ℕ, ◌+◌, ◌≤◌, List, length, sum_by, drop, Option, Some, None, Result, Ok, Err}
use Rattle.std.specs.Option.{option_map_or}
use Rattle.snap_tree.specs.declared.row.Raw.{Raw}
use Rattle.snap_tree.specs.Trees.{Trees, Document, with_trees, with_langs}
use Rattle.snap_tree.specs.Grown.{page_of}
use Rattle.snap_tree.specs.Faults.{tree_fault}
use Rattle.snap_edit.specs.declared.edit.Edit.{Edit}
use Rattle.snap_edit.specs.declared.fault.EditFault.{EditFault}
use Rattle.snap_edit.specs.Edits.{edited_all}
use Rattle.rule_core.specs.Books.{Book}
use Rattle.rule_core.specs.Reach.{affected}
use Rattle.judge_core.specs.Outcomes.{judgings}
use Rattle.keep_core.specs.declared.tables.Tables.{Tables}
use Rattle.desk_core.specs.declared.command.Entry.{Entry}
use Rattle.desk_core.specs.declared.command.Command.{Command}
use Rattle.desk_core.specs.declared.command.Command.TheVariants as command
use Rattle.desk_core.specs.Imports.{first_fault}
use Rattle.desk_core.specs.State.{PageState, SiteState, state_of, page_at, site_at}
use Rattle.desk_core.specs.Steps.{site_of}
use Rattle.desk_core.specs.Soundness.{IsSound}

-- a page that is put is audited where its rows make a tree
abbrev pub put_judgings : Book → Raw → ℕ
put_judgings book raw = option_map_or (λ fault. 0) (tree_fault raw.rows) (judgings book (page_of raw))

-- pages of an import are audited where the rows of each make one
abbrev pub import_judgings : Book → List Entry → ℕ
import_judgings book entries = option_map_or (λ refusal. 0) (first_fault entries) (sum_by (λ e. judgings book (page_of e.raw)) entries)

-- an edit costs the pairs of an atomic rule and a node that it affects, where the edits can be carried out
abbrev pub edited_pairs : Book → Document → Result Trees EditFault → ℕ
edited_pairs book page (Ok t) = length (affected book page (with_trees page t))
edited_pairs book page (Err fault) = 0

abbrev pub edit_pairs : Book → List Edit → PageState → ℕ
edit_pairs book edits p = edited_pairs book p.page.tree (edited_all p.page.tree.trees edits)

-- and whatever outcomes are kept, no more than the edited page
abbrev pub edited_judgings : Book → Document → Result Trees EditFault → ℕ
edited_judgings book page (Ok t) = judgings book (with_trees page t)
edited_judgings book page (Err fault) = 0

abbrev pub edit_judgings : Book → List Edit → PageState → ℕ
edit_judgings book edits p = edited_judgings book p.page.tree (edited_all p.page.tree.trees edits)

-- a list of languages costs the pairs that each page has between the old list and the new one, and never more than all pages
abbrev pub relisted_pairs : Book → List (List ℕ) → Option SiteState → ℕ
relisted_pairs book langs kept =
    option_map_or (λ s. sum_by (λ p. length (affected book p.page.tree (with_langs p.page.tree langs))) s.pages) kept 0

abbrev pub relisted_judgings : Book → Option SiteState → ℕ
relisted_judgings book kept = option_map_or (λ s. sum_by (λ p. judgings book p.page.tree) s.pages) kept 0

abbrev pub at_page : List ℕ → Option SiteState → (PageState → ℕ) → ℕ
at_page page None f = 0
at_page page (Some s) f = option_map_or f (page_at page s.pages) 0

-- the judgings of a command in the site that it names, where it is sound
abbrev pub command_judgings : Book → Command → Option SiteState → ℕ
command_judgings book (command.PutPage site page rev raw) kept = put_judgings book raw
command_judgings book (command.Import site entries) kept = import_judgings book entries
command_judgings book (command.EditPage site page rev edits) kept = at_page page kept (edit_pairs book edits)
command_judgings book (command.PutLanguages site langs) kept = relisted_pairs book langs kept
command_judgings book other kept = 0

-- and in any site
abbrev pub most_judgings : Book → Command → Option SiteState → ℕ
most_judgings book (command.PutPage site page rev raw) kept = put_judgings book raw
most_judgings book (command.Import site entries) kept = import_judgings book entries
most_judgings book (command.EditPage site page rev edits) kept = at_page page kept (edit_judgings book edits)
most_judgings book (command.PutLanguages site langs) kept = relisted_judgings book kept
most_judgings book other kept = 0

-- many pages are audited at once
abbrev pub IsOfMany : Command → Type 0
IsOfMany (command.Import site entries) = Unit {0}
IsOfMany (command.PutLanguages site langs) = Unit {0}
IsOfMany other = ⊥

-- kept pages are audited anew
abbrev pub IsOfKept : Command → Type 0
IsOfKept (command.EditPage site page rev edits) = Unit {0}
IsOfKept (command.PutLanguages site langs) = Unit {0}
IsOfKept other = ⊥

-- a request judges no more than its command may: in the site as it was kept, where the tables are told at its end, sound or not; and
-- wherever that doesn't depend on what is kept
pub record Costs (book : Book) (command : Command) (old new : Option Tables) (from to : ℕ) : Type 0 where
  pub told : (s t : Tables) → old ≡ Some s → new ≡ Some t → IsSound book s → to ≤ from + command_judgings book command (site_at (site_of command) (state_of s))
  pub most : (s t : Tables) → old ≡ Some s → new ≡ Some t → to ≤ from + most_judgings book command (site_at (site_of command) (state_of s))
  pub untold : (IsOfKept command → ⊥) → to ≤ from + command_judgings book command None

-- books judge so often at the most
abbrev pub JudgeAtMost : {B : Type 0} → (B → ℕ) → ℕ → List B → List B → Type 0
JudgeAtMost calls most old new = sum_by calls new ≤ sum_by calls old + most

-- the first book judges so often at the most, and the others stay as they were
pub record FirstJudges {B : Type 0} (calls : B → ℕ) (most : ℕ) (old new : List B) : Type 0 where
  pub counted : sum_by calls new ≤ sum_by calls old + most
  pub others : drop 1 new ≡ drop 1 old

-- the first book judges less often where something holds, and in any case so often at the most; and the others stay as they were
pub record FirstJudgesLess {B : Type 0} (calls : B → ℕ) (Holds : Type 0) (fewer most : ℕ) (old new : List B) : Type 0 where
  pub counted : Holds → sum_by calls new ≤ sum_by calls old + fewer
  pub at_most : sum_by calls new ≤ sum_by calls old + most
  pub others : drop 1 new ≡ drop 1 old

-- every command but one of many pages uses the first book alone: the others stay as they were
abbrev pub UsesFirst : {B : Type 0} → Command → List B → List B → Type 0
UsesFirst command old new = (IsOfMany command → ⊥) → drop 1 new ≡ drop 1 old
