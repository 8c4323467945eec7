-- The table of languages: a site, a place in its list, and a tag.
use Rattle.std.specs.Prelude.{ℕ, suc, pos, List, [], ◌∷◌, Option, Some, is_none, if◌then◌else◌, None}
use Rattle.sqlite_value.specs.declared.value.Value.TheVariants.{Int, Text}
use Rattle.sqlite_value.specs.Order.{Row, column}
use Rattle.snap_tree.specs.Langs.{langs_fault}
use Rattle.named_rows.specs.ByName.{put_rows}
use Rattle.sql_rows.specs.Tables.{name_at}
use Rattle.store_tables.specs.Reading.{◌>>=◌, read_counted}
use Rattle.store_tables.specs.Cells.{place_in, text_in}

-- as it is written at a place
abbrev pub language_cells : List ℕ → ℕ → List ℕ → Row
language_cells site place tag = Text site ∷ Int (pos place) ∷ Text tag ∷ []

-- languages, the first at this place
abbrev pub languages_cells : List ℕ → ℕ → List (List ℕ) → List Row
languages_cells site place [] = []
languages_cells site place (tag ∷ tags) = language_cells site place tag ∷ languages_cells site (suc place) tags

-- the rows of a site's languages, counted from 1
abbrev pub language_rows : List ℕ → List (List ℕ) → List Row
language_rows site langs = put_rows (name_at 1) (languages_cells site 1 langs) []

-- as it is read at a place, where all but the site is shown
unfoldable pub language_from : ℕ → Row → Option (List ℕ)
language_from place c = do
  seq ← place_in place (column c 0)
  text_in (column c 1)

-- a list of the form, whose places are counted from 1
abbrev pub of_form : List (List ℕ) → Option (List (List ℕ))
of_form langs = if is_none (langs_fault langs) then Some langs else None

abbrev pub languages_shown : List Row → Option (List (List ℕ))
languages_shown rows = read_counted language_from 1 rows >>= of_form
