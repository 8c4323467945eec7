-- The title of a page, by the subtrees of its `title` elements.
use Rattle.std.specs.Prelude.{ℕ, List, [], ◌∷◌, Option, Some, None, option_map}
use Rattle.snap_tree.specs.declared.row.Row.{Row}
use Rattle.snap_tree.specs.Trees.{Trees}
use Rattle.texts.specs.Words.{tidy}
use Rattle.rules_page.specs.PageTitle.{texts}

-- what is below the first of them that is there
abbrev pub first_below : List (Option (Row × Trees)) → Option Trees
first_below [] = None
first_below (None ∷ titles) = first_below titles
first_below (Some x ∷ titles) = Some x.1

-- the page title
abbrev pub title_among : List (Option (Row × Trees)) → Option (List ℕ)
title_among titles = option_map (λ kids. tidy (texts kids)) (first_below titles)
