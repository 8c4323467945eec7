-- New outcomes of pages, given one after another.
use Rattle.std.proofs.Common.{◌≡◌, List, [], ◌∷◌, ◌++◌, refl}
use Rattle.named_rows.specs.ByName.{with_row}
use Rattle.keep_core.specs.declared.page.PageOutcomes.{PageOutcomes}
use Rattle.keep_core.specs.declared.tables.KeptPage.{KeptPage}
use Rattle.keep_core.specs.Tables.{page_name}
use Rattle.keep_core.specs.Changes.{having, with_outcomes}

pub one_more : (some : List PageOutcomes) (o : PageOutcomes) (pages : List KeptPage)
    → with_outcomes (some ++ o ∷ []) pages ≡ with_row page_name o.page (having o.outcomes) (with_outcomes some pages)
one_more [] o pages = refl
one_more (first ∷ some) o pages = one_more some o (with_row page_name first.page (having first.outcomes) pages)
