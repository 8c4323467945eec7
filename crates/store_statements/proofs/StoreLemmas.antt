-- A change of one table is a change of what the store holds.
use Rattle.std.proofs.Common.{ℕ, List, [], ◌∷◌, refl}
use Rattle.sqlite_value.specs.Order.{Row}
use Rattle.sqlite.specs.State.{State}
use Rattle.sql_rows.specs.Stores.{Alters}
use Rattle.store_statements.specs.Schema.{the_schema, sites_table, members_table, pages_table, judgements_table, outcomes_table, edition_table, languages_table}
use Rattle.store_statements.specs.Changes.{Makes, ChangesSites, ChangesMembers, ChangesPages, ChangesJudgements, ChangesOutcomes, ChangesEditions, ChangesLanguages}

pub made_sites : (change : List Row → List Row) (old new : State) → Alters the_schema sites_table ([]) change old new → Makes (ChangesSites change) old new
made_sites change old new h = record { ready = h.ready; change = (rw (h.others.1.0 (λ no. cc), h.others.1.1.0 (λ no. cc), h.others.1.1.1.0 (λ no. cc), h.others.1.1.1.1.0 (λ no. cc), h.others.1.1.1.1.1.0 (λ no. cc), h.others.1.1.1.1.1.1.0 (λ no. cc)) refl, h.changes) }

pub made_members : (site : List ℕ) (change : List Row → List Row) (old new : State) → Alters the_schema members_table (site ∷ []) change old new → Makes (ChangesMembers site change) old new
made_members site change old new h = record { ready = h.ready; change = (rw (h.others.0 (λ no. cc), h.others.1.1.0 (λ no. cc), h.others.1.1.1.0 (λ no. cc), h.others.1.1.1.1.0 (λ no. cc), h.others.1.1.1.1.1.0 (λ no. cc), h.others.1.1.1.1.1.1.0 (λ no. cc)) refl, h.changes) }

pub made_pages : (site : List ℕ) (change : List Row → List Row) (old new : State) → Alters the_schema pages_table (site ∷ []) change old new → Makes (ChangesPages site change) old new
made_pages site change old new h = record { ready = h.ready; change = (rw (h.others.0 (λ no. cc), h.others.1.0 (λ no. cc), h.others.1.1.1.0 (λ no. cc), h.others.1.1.1.1.0 (λ no. cc), h.others.1.1.1.1.1.0 (λ no. cc), h.others.1.1.1.1.1.1.0 (λ no. cc)) refl, h.changes) }

pub made_judgements : (site page : List ℕ) (change : List Row → List Row) (old new : State) → Alters the_schema judgements_table (site ∷ page ∷ []) change old new → Makes (ChangesJudgements site page change) old new
made_judgements site page change old new h = record { ready = h.ready; change = (rw (h.others.0 (λ no. cc), h.others.1.0 (λ no. cc), h.others.1.1.0 (λ no. cc), h.others.1.1.1.1.0 (λ no. cc), h.others.1.1.1.1.1.0 (λ no. cc), h.others.1.1.1.1.1.1.0 (λ no. cc)) refl, h.changes) }

pub made_outcomes : (site page : List ℕ) (change : List Row → List Row) (old new : State) → Alters the_schema outcomes_table (site ∷ page ∷ []) change old new → Makes (ChangesOutcomes site page change) old new
made_outcomes site page change old new h = record { ready = h.ready; change = (rw (h.others.0 (λ no. cc), h.others.1.0 (λ no. cc), h.others.1.1.0 (λ no. cc), h.others.1.1.1.0 (λ no. cc), h.others.1.1.1.1.1.0 (λ no. cc), h.others.1.1.1.1.1.1.0 (λ no. cc)) refl, h.changes) }

pub made_editions : (change : List Row → List Row) (old new : State) → Alters the_schema edition_table ([]) change old new → Makes (ChangesEditions change) old new
made_editions change old new h = record { ready = h.ready; change = (rw (h.others.0 (λ no. cc), h.others.1.0 (λ no. cc), h.others.1.1.0 (λ no. cc), h.others.1.1.1.0 (λ no. cc), h.others.1.1.1.1.0 (λ no. cc), h.others.1.1.1.1.1.1.0 (λ no. cc)) refl, h.changes) }

pub made_languages : (site : List ℕ) (change : List Row → List Row) (old new : State) → Alters the_schema languages_table (site ∷ []) change old new → Makes (ChangesLanguages site change) old new
made_languages site change old new h = record { ready = h.ready; change = (rw (h.others.0 (λ no. cc), h.others.1.0 (λ no. cc), h.others.1.1.0 (λ no. cc), h.others.1.1.1.0 (λ no. cc), h.others.1.1.1.1.0 (λ no. cc), h.others.1.1.1.1.1.0 (λ no. cc)) refl, h.changes) }
