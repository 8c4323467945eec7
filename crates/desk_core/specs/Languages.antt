-- A site's list of languages: what is decided on putting one.
use Rattle.std.specs.Prelude.{ℕ, List, length, map, Some, Ok}
use Rattle.snap_tree.specs.Trees.{with_langs}
use Rattle.rule_core.specs.Books.{Book}
use Rattle.judge_core.specs.Outcomes.{outcomes}
use Rattle.keep_core.specs.declared.page.PageOutcomes.{PageOutcomes}
use Rattle.keep_core.specs.declared.change.Change.TheVariants.{PutLanguages}
use Rattle.desk_core.specs.declared.reply.Reply.TheVariants as reply
use Rattle.desk_core.specs.Refusals.{Decision}
use Rattle.desk_core.specs.State.{PageState, SiteState, page_name}
use Rattle.desk_core.specs.Summaries.{told}

-- the outcomes of a page under a list of languages
abbrev pub relisted : Book → List (List ℕ) → PageState → PageOutcomes
relisted book langs p = record { page = page_name p; outcomes = record { rows = outcomes book (with_langs p.page.tree langs) p.judgements } }

-- the list takes the place of the site's, and every page's outcomes become those under it
abbrev pub put_languages : Book → List ℕ → List (List ℕ) → SiteState → Decision
put_languages book site langs s = Ok (record {
  change = Some (PutLanguages site langs (map (relisted book langs) s.pages));
  reply = reply.Languages (told (length langs)) (told (length s.pages));
})
