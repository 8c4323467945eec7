-- What tables are told after a change of rows that read.
use Rattle.std.proofs.Common.{◌≡◌, inl, inr, ℕ, List, false, Option, Some, None, is_some, refl, sym, ap, ◌∙◌, true≢false}
use Rattle.sqlite_value.specs.Order.{Row}
use Rattle.named_rows.specs.ByName.{at}
use Rattle.sql_rows.specs.Tables.{name_at}
use Rattle.keep_core.specs.declared.change.Change.{Change}
use Rattle.keep_core.specs.declared.change.Change.TheVariants.{PutSite, PutPages, DropPage, AddJudgements, PutLanguages, Refresh, SetEdition}
use Rattle.keep_core.specs.Fits.{Fits}
use Rattle.keep_core.specs.declared.tables.Tables.{Tables}
use Rattle.keep_core.specs.Tables.{site_name}
use Rattle.store_tables.specs.Told.{Sites}
use Rattle.keep_core.specs.Changes.{changed, changed_edition, changed_sites, without_page, refreshed}
use Rattle.store_statements.specs.Stored.{Stored, sites_in, editions_at}
use Rattle.store_tables.specs.Reading.{read_found}
use Rattle.store_tables.specs.Told.{of_site, read_site, is_site, sites_told, tables_in}
use Rattle.store_tables.specs.Editions.{kept_edition}
use Rattle.store_tables.specs.Batches.{Applies}
use Rattle.store_tables.proofs.Steps.{some_same}
use Rattle.store_tables.proofs.Telling.{told_site}
use Rattle.store_tables.proofs.WithRows.{with_absent}
use Rattle.store_tables.proofs.Siting.{put_told}
use Rattle.store_tables.proofs.Dropping.{dropped_told}
use Rattle.store_tables.proofs.Counting.{pages_told}
use Rattle.store_tables.proofs.Judging.{added_told}
use Rattle.store_tables.proofs.Refreshed.{refreshed_told}
use Rattle.store_tables.proofs.Relisted.{relisted_told}
use Rattle.store_tables.proofs.EditionSet.{edition_told}
use Rattle.store_tables.proofs.EditionStays.{IsOfSites, editions_stay}
use Rattle.store_tables.proofs.TablesTold.{table_parts, table_by}

-- a site without a row isn't in the tables
pub strange : (s : Stored) (t : Sites) → sites_told s ≡ Some t → (site : List ℕ) → is_site s site ≡ false → at site_name site t ≡ None
strange s t told site without = by (at (name_at 0) site (sites_in s)) refl (told_site s t told site).reads
  where
    by : (o : Option Row) → at (name_at 0) site (sites_in s) ≡ o → read_found (read_site (of_site site s)) o ≡ Some (at site_name site t) → at site_name site t ≡ None
    by None none reads = sym (some_same None (at site_name site t) reads)
    by (Some r) there reads = absurd (true≢false (sym (ap is_some there) ∙ without))

-- where rows tell sites after a change of them, they told before what it changes to these
pub sites_applied : (change : Change) (old new : Stored) → IsOfSites change → Applies change old new → Fits change → (t : Sites) → sites_told new ≡ Some t
    → (before : Sites) × (sites_told old ≡ Some before) × (t ≡ changed_sites change before)
sites_applied (PutSite site) old new of h fits t is = put_told site old new h.1 fits h.0 t is
sites_applied (PutPages site counter puts) old new of h fits t is = pages_told site counter puts old new h t is
sites_applied (DropPage site page) old new of (inl h) fits t is = dropped_told site page old new h.2 h.0 h.1 t is
sites_applied (DropPage site page) old new of (inr h) fits t is =
    let before : sites_told old ≡ Some t = ap sites_told (sym h.1) ∙ is in
    (t, before, sym (with_absent site_name site (without_page page) t (strange old t before site h.0)))
sites_applied (AddJudgements site page js outcomes) old new of h fits t is = added_told site page js outcomes old new h.1 h.0 t is
sites_applied (PutLanguages site langs os) old new of h fits t is = relisted_told site langs os old new h t is
sites_applied (Refresh site os) old new of (inl h) fits t is = refreshed_told site os old new h.0 h.1 t is
sites_applied (Refresh site os) old new of (inr h) fits t is =
    let before : sites_told old ≡ Some t = ap sites_told (sym h.1) ∙ is in
    (t, before, sym (with_absent site_name site (refreshed os) t (strange old t before site h.0)))
sites_applied (SetEdition number) old new of h fits t is = absurd of

-- so of tables, where the change is one of sites
tables_applied : (change : Change) (old new : Stored) → IsOfSites change → changed_edition change ≡ (λ e. e) → Applies change old new → Fits change → (t : Tables) → tables_in new ≡ Some t
    → (before : Tables) × (tables_in old ≡ Some before) × (t ≡ changed change before)
tables_applied change old new of leaves h fits t is =
    let parts = table_parts new t is in
    let sites = sites_applied change old new of h fits t.sites parts.1 in
    let edition : kept_edition (editions_at old) ≡ Some t.edition = sym (ap (λ (rows : List Row). kept_edition (editions_at (record old { editions = rows }))) (editions_stay change old new of h)) ∙ parts.0 in
    let before : Tables = record { edition = t.edition; sites = sites.0 } in
    (before, table_by old before edition sites.1, (λ i. record { edition = leaves_at i; sites = sites.2 i }))
  where
    leaves_at : t.edition ≡ changed_edition change t.edition
    leaves_at = sym (ap (λ (f : ℕ → ℕ). f t.edition) leaves)

pub applied : (change : Change) (old new : Stored) → Applies change old new → Fits change → (t : Tables) → tables_in new ≡ Some t
    → (before : Tables) × (tables_in old ≡ Some before) × (t ≡ changed change before)
applied (PutSite site) old new h fits t is = tables_applied (PutSite site) old new tt refl h fits t is
applied (PutPages site counter puts) old new h fits t is = tables_applied (PutPages site counter puts) old new tt refl h fits t is
applied (DropPage site page) old new h fits t is = tables_applied (DropPage site page) old new tt refl h fits t is
applied (AddJudgements site page js outcomes) old new h fits t is = tables_applied (AddJudgements site page js outcomes) old new tt refl h fits t is
applied (PutLanguages site langs os) old new h fits t is = tables_applied (PutLanguages site langs os) old new tt refl h fits t is
applied (Refresh site os) old new h fits t is = tables_applied (Refresh site os) old new tt refl h fits t is
applied (SetEdition number) old new h fits t is = edition_told number old new h fits t is
