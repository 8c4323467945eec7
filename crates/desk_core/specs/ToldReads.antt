-- What is owed on the way to a page's judgements.
use Rattle.std.specs.Prelude.{◌≡◌, ℕ, List, Some, Result}
use Rattle.rule_core.specs.Books.{Book}
use Rattle.keep_core.specs.declared.tables.Tables.{Tables}
use Rattle.desk_core.specs.declared.refusal.Refusal.{Refusal}
use Rattle.desk_core.specs.declared.reply.PageVerdicts.{PageVerdicts}
use Rattle.desk_core.specs.State.{state_of, site_at}
use Rattle.desk_core.specs.Steps.{read_page}
use Rattle.desk_core.specs.Verdicts.{page_verdicts}
use Rattle.desk_core.specs.Soundness.{IsSound}
use Rattle.desk_core.specs.Told.{Told}
use Rattle.desk_core.specs.Serving.{OnlyReads, Shows}

-- they are read, by any member
pub record ReadsVerdicts (book : Book) (caller site page : List ℕ) (old new : Told) (result : Result PageVerdicts Refusal) : Type 0 where
  pub reads : OnlyReads old new result
  pub shows :
      (t : Tables) → new.tables ≡ Some t → IsSound book t
      → Shows (λ reply. read_page caller page (site_at site (state_of t)) (λ p. reply (page_verdicts book p))) result
