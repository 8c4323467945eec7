-- The table of sites: a name and a counter. A site is read with its members and its languages, which have tables of their own.
use Rattle.std.specs.Prelude.{ℕ, pos, List, [], ◌∷◌, Option, Some, None, option_map}
use Rattle.sqlite_value.specs.declared.value.Value.{Value}
use Rattle.sqlite_value.specs.declared.value.Value.TheVariants.{Int, Text}
use Rattle.sqlite_value.specs.Order.{Row, column}
use Rattle.keep_core.specs.declared.limits.TheConstants.{MOST_REVISION}
use Rattle.keep_core.specs.declared.site.Site.{Site}
use Rattle.sql_rows.specs.Tables.{name_at}
use Rattle.store_tables.specs.Reading.{◌>>=◌, read_each}
use Rattle.store_tables.specs.Cells.{number_in, named}
use Rattle.store_tables.specs.Members.{member_from}
use Rattle.store_tables.specs.Languages.{languages_shown}

-- as it is written
abbrev pub site_cells : Site → Row
site_cells site = Text site.name ∷ Int (pos site.counter) ∷ []

-- as it is read with its members and its languages, where the counter is shown
unfoldable pub site_from : List ℕ → Value → List Row → List Row → Option Site
site_from name counter members languages = do
  name ← named name
  counter ← number_in MOST_REVISION counter
  members ← read_each member_from members
  languages ← languages_shown languages
  Some (record { name = name; counter = counter; members = members; languages = languages })

-- the site of a name, by what is shown of its row, if there is one, of its members and of its languages
abbrev pub site_shown : List ℕ → List Row → List Row → List Row → Option (Option Site)
site_shown site [] members languages = Some None
site_shown site (c ∷ cs) members languages = option_map Some (site_from site (column c 0) members languages)

-- the names of all sites
abbrev pub names_shown : List Row → Option (List (List ℕ))
names_shown rows = read_each (λ c. named (name_at 0 c)) rows
