-- Pages with the languages of their site as their list. They are kept without.
use Rattle.std.specs.Prelude.{ℕ, List}
use Rattle.snap_tree.specs.Trees.{with_langs}
use Rattle.keep_core.specs.declared.page.Page.{Page}
use Rattle.keep_core.specs.declared.tables.KeptPage.{KeptPage}

abbrev pub listed : List (List ℕ) → Page → Page
listed langs page = record { head = page.head; tree = with_langs page.tree langs }

-- the same with what is kept of it
abbrev pub kept_listed : List (List ℕ) → KeptPage → KeptPage
kept_listed langs kept = record kept { page = listed langs kept.page }
