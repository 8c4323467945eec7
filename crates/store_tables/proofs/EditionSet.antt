-- What tables are told after another edition is noted.
use Rattle.std.proofs.Common.{◌≡◌, ℕ, ◌≤◌, [], ◌∷◌, map, Some, option_map, refl, sym, ap, ◌∙◌}
use Rattle.sqlite_value.specs.Order.{column}
use Rattle.keep_core.specs.declared.limits.TheConstants.{MOST_REVISION}
use Rattle.keep_core.specs.declared.change.Change.TheVariants.{SetEdition}
use Rattle.keep_core.specs.declared.tables.Tables.{Tables}
use Rattle.keep_core.specs.Changes.{changed}
use Rattle.store_statements.specs.Stored.{Stored, editions_at}
use Rattle.store_tables.specs.Editions.{noted, edition_shown, kept_edition}
use Rattle.store_tables.specs.Told.{sites_told, tables_in}
use Rattle.store_tables.specs.Batches.{SetsEdition}
use Rattle.store_tables.proofs.Steps.{some_same, some_of}
use Rattle.store_tables.proofs.Shows.{at_most}
use Rattle.store_tables.proofs.TablesTold.{table_parts, table_by}

-- the number that is noted is the edition
pub edition_noted : (number : ℕ) (old new : Stored) → SetsEdition number old new → number ≤ MOST_REVISION → kept_edition (editions_at new) ≡ Some number
edition_noted number old new h within =
    ap (λ rows. kept_edition (map (λ r. column r 0 ∷ []) rows)) h.editions.there ∙ rw (at_most number MOST_REVISION within) refl

-- the sites are those that were told
sites_same : (old new : Stored) → new ≡ record old { editions = new.editions } → sites_told new ≡ sites_told old
sites_same old new same = ap sites_told same

pub edition_told : (number : ℕ) (old new : Stored) → SetsEdition number old new → number ≤ MOST_REVISION → (t : Tables) → tables_in new ≡ Some t
    → (before : Tables) × (tables_in old ≡ Some before) × (t ≡ changed (SetEdition number) before)
edition_told number old new h within t is =
    let parts = table_parts new t is in
    let were = some_of (edition_shown (editions_at old)) h.reads in
    let before : Tables = record { edition = noted were.0; sites = t.sites } in
    let edition : kept_edition (editions_at old) ≡ Some before.edition = ap (option_map noted) were.1 in
    let now : t.edition ≡ number = some_same t.edition number (sym parts.0 ∙ edition_noted number old new h within) in
    (before, table_by old before edition (sym (sites_same old new h.same) ∙ parts.1), (λ i. record { edition = now i; sites = t.sites }))

-- and where tables were told before, they are told after it with that edition
pub edition_moved : (number : ℕ) (old new : Stored) → SetsEdition number old new → number ≤ MOST_REVISION → (before : Tables) → tables_in old ≡ Some before → tables_in new ≡ Some (changed (SetEdition number) before)
edition_moved number old new h within before is =
    table_by new (changed (SetEdition number) before) (edition_noted number old new h within) (sites_same old new h.same ∙ (table_parts old before is).1)
