-- What the store's tables hold: the rows of each, without their rowids.
use Rattle.std.specs.Prelude.{ℕ, List, [], ◌∷◌, map, filter, option_map}
use Rattle.std.specs.Option.{option_to_list}
use Rattle.sqlite_value.specs.Order.{Row, column}
use Rattle.sqlite_trees.specs.Tree.{Trees}
use Rattle.named_rows.specs.ByName.{at}
use Rattle.sql_rows.specs.InOrder.{in_order}
use Rattle.sql_rows.specs.Tables.{kept, name_at, leads, rows_of}

pub record Stored : Type 0 where
  pub sites : List Row
  pub members : List Row
  pub pages : List Row
  pub judgements : List Row
  pub outcomes : List Row
  pub editions : List Row
  pub languages : List Row

abbrev pub stored : Trees → Stored
stored db = record { sites = kept (db 0); members = kept (db 2); pages = kept (db 4); judgements = kept (db 6); outcomes = kept (db 8); editions = kept (db 10); languages = kept (db 12) }

-- ---- the rows, in order of their keys

abbrev pub sites_in : Stored → List Row
sites_in s = rows_of [] s.sites

abbrev pub members_of : List ℕ → Stored → List Row
members_of site s = rows_of (site ∷ []) s.members

-- those of a user, in order of their sites
abbrev pub memberships_of : List ℕ → Stored → List Row
memberships_of user s = in_order (name_at 0) (filter (leads 1 (user ∷ [])) s.members)

abbrev pub pages_of : List ℕ → Stored → List Row
pages_of site s = rows_of (site ∷ []) s.pages

abbrev pub judgements_of : List ℕ → List ℕ → Stored → List Row
judgements_of site page s = rows_of (site ∷ page ∷ []) s.judgements

abbrev pub outcomes_of : List ℕ → List ℕ → Stored → List Row
outcomes_of site page s = rows_of (site ∷ page ∷ []) s.outcomes

abbrev pub editions_in : Stored → List Row
editions_in s = rows_of [] s.editions

abbrev pub languages_of : List ℕ → Stored → List Row
languages_of site s = rows_of (site ∷ []) s.languages

-- ---- what each reading text shows of them

-- each site's name
abbrev pub names_at : Stored → List Row
names_at s = map (λ r. column r 0 ∷ []) (sites_in s)

-- the site's counter, or no row
abbrev pub site_at : List ℕ → Stored → List Row
site_at site s = option_to_list (option_map (λ r. column r 1 ∷ []) (at (name_at 0) site (sites_in s)))

-- each member's user and role
abbrev pub members_at : List ℕ → Stored → List Row
members_at site s = map (λ r. column r 1 ∷ column r 2 ∷ []) (members_of site s)

-- each site of which the user is a member, and the role there
abbrev pub memberships_at : List ℕ → Stored → List Row
memberships_at user s = map (λ r. column r 0 ∷ column r 2 ∷ []) (memberships_of user s)

-- the page's revision, hand and snapshot, or no row
abbrev pub page_at : List ℕ → List ℕ → Stored → List Row
page_at site page s = option_to_list (option_map (λ r. column r 2 ∷ column r 3 ∷ column r 4 ∷ []) (at (name_at 1) page (pages_of site s)))

-- each page's name, revision and hand
abbrev pub heads_at : List ℕ → Stored → List Row
heads_at site s = map (λ r. column r 1 ∷ column r 2 ∷ column r 3 ∷ []) (pages_of site s)

-- each judgement's seq, rule, node, verdict, hand, note and evidence
abbrev pub judgements_at : List ℕ → List ℕ → Stored → List Row
judgements_at site page s = map (λ r. column r 2 ∷ column r 3 ∷ column r 4 ∷ column r 5 ∷ column r 6 ∷ column r 7 ∷ column r 8 ∷ []) (judgements_of site page s)

-- each outcome's seq, rule, node, auto, reason, evidence, last and hand
abbrev pub outcomes_at : List ℕ → List ℕ → Stored → List Row
outcomes_at site page s = map (λ r. column r 2 ∷ column r 3 ∷ column r 4 ∷ column r 5 ∷ column r 6 ∷ column r 7 ∷ column r 8 ∷ column r 9 ∷ []) (outcomes_of site page s)

-- each edition's number
abbrev pub editions_at : Stored → List Row
editions_at s = map (λ r. column r 0 ∷ []) (editions_in s)

-- each language's seq and tag
abbrev pub languages_at : List ℕ → Stored → List Row
languages_at site s = map (λ r. column r 1 ∷ column r 2 ∷ []) (languages_of site s)
