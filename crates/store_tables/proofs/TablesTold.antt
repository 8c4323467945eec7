-- Tables are told where an edition and sites are.
use Rattle.std.proofs.Common.{◌≡◌, Some, refl, ap, ◌∙◌}
use Rattle.keep_core.specs.declared.tables.Tables.{Tables}
use Rattle.store_statements.specs.Stored.{Stored, editions_at}
use Rattle.store_tables.specs.Reading.{◌>>=◌}
use Rattle.store_tables.specs.Editions.{kept_edition}
use Rattle.store_tables.specs.Told.{sites_told, tables_in}
use Rattle.store_tables.proofs.Steps.{some_same, both_read}

pub table_parts : (s : Stored) (t : Tables) → tables_in s ≡ Some t → (kept_edition (editions_at s) ≡ Some t.edition) × (sites_told s ≡ Some t.sites)
unfolding tables_in
table_parts s t is =
    let a = both_read {B = Tables} (kept_edition (editions_at s)) (λ e. sites_told s >>= (λ sites. Some (record { edition = e; sites = sites }))) t is in
    let b = both_read {B = Tables} (sites_told s) (λ sites. Some (record { edition = a.0; sites = sites })) t a.2 in
    let same : record { edition = a.0; sites = b.0 } ≡ t = some_same {A = Tables} (record { edition = a.0; sites = b.0 }) t b.2 in
    (a.1 ∙ ap (λ (x : Tables). Some x.edition) same, b.1 ∙ ap (λ (x : Tables). Some x.sites) same)

pub table_by : (s : Stored) (t : Tables) → kept_edition (editions_at s) ≡ Some t.edition → sites_told s ≡ Some t.sites → tables_in s ≡ Some t
unfolding tables_in
table_by s t edition sites = rw (edition, sites) refl
