-- The table of pages: a site, a page's name, its revision, who sent it, and its snapshot.
use Rattle.std.specs.Prelude.{ℕ, pos, List, [], ◌∷◌, Option, Some, None, option_map}
use Rattle.sqlite_value.specs.declared.value.Value.{Value}
use Rattle.sqlite_value.specs.declared.value.Value.TheVariants.{Int, Text, Blob}
use Rattle.sqlite_value.specs.Order.{Row, column}
use Rattle.keep_core.specs.declared.limits.TheConstants.{MOST_REVISION}
use Rattle.keep_core.specs.declared.page.PageHead.{PageHead}
use Rattle.keep_core.specs.declared.page.Page.{Page}
use Rattle.sql_rows.specs.Tables.{name_at}
use Rattle.store_tables.specs.Reading.{◌>>=◌, read_each}
use Rattle.store_tables.specs.Cells.{number_in, text_in, named, tree_in}

-- as it is written, with the bytes of its snapshot
abbrev pub page_cells : List ℕ → Page → List ℕ → Row
page_cells site p bytes = Text site ∷ Text p.head.page ∷ Int (pos p.head.rev) ∷ Text p.head.hand ∷ Blob bytes ∷ []

-- as it is read, by its name; of a head no snapshot is shown
unfoldable pub head_from : List ℕ → Value → Value → Option PageHead
head_from page rev hand = do
  page ← named page
  rev ← number_in MOST_REVISION rev
  hand ← text_in hand
  Some (record { page = page; rev = rev; hand = hand })

unfoldable pub page_from : List ℕ → Value → Value → Value → Option Page
page_from page rev hand snapshot = do
  head ← head_from page rev hand
  tree ← tree_in snapshot
  Some (record { head = head; tree = tree })

-- the page of a name, by what is shown of its row, if there is one
abbrev pub page_shown : List ℕ → List Row → Option (Option Page)
page_shown page [] = Some None
page_shown page (c ∷ cs) = option_map Some (page_from page (column c 0) (column c 1) (column c 2))

abbrev pub heads_shown : List Row → Option (List PageHead)
heads_shown rows = read_each (λ c. head_from (name_at 0 c) (column c 1) (column c 2)) rows
