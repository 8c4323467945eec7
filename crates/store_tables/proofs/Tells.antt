-- What rows tell after a change, where tables were told before.
use Rattle.std.proofs.Common.{◌≡◌, inl, inr, ℕ, List, Some, refl, sym, ap, ◌∙◌}
use Rattle.sqlite_value.specs.Order.{Row}
use Rattle.keep_core.specs.declared.change.Change.{Change}
use Rattle.keep_core.specs.declared.change.Change.TheVariants.{PutSite, PutPages, DropPage, AddJudgements, PutLanguages, Refresh, SetEdition}
use Rattle.keep_core.specs.Fits.{Fits}
use Rattle.keep_core.specs.declared.tables.Tables.{Tables}
use Rattle.keep_core.specs.Tables.{site_name}
use Rattle.store_tables.specs.Told.{Sites}
use Rattle.keep_core.specs.Changes.{changed, changed_edition, changed_sites, without_page, refreshed}
use Rattle.store_statements.specs.Stored.{Stored, editions_at}
use Rattle.store_tables.specs.Editions.{kept_edition}
use Rattle.store_tables.specs.Told.{sites_told, tables_in}
use Rattle.store_tables.specs.Batches.{Applies}
use Rattle.store_tables.specs.Numbers.{IsNumbered}
use Rattle.store_tables.proofs.WithRows.{with_absent}
use Rattle.store_tables.proofs.Applied.{strange}
use Rattle.store_tables.proofs.SitingForth.{put_moved}
use Rattle.store_tables.proofs.DroppingForth.{dropped_moved}
use Rattle.store_tables.proofs.CountingForth.{pages_moved}
use Rattle.store_tables.proofs.JudgingForth.{added_moved}
use Rattle.store_tables.proofs.RefreshedForth.{refreshed_moved}
use Rattle.store_tables.proofs.RelistedForth.{relisted_moved}
use Rattle.store_tables.proofs.EditionSet.{edition_moved}
use Rattle.store_tables.proofs.EditionStays.{IsOfSites, editions_stay}
use Rattle.store_tables.proofs.TablesTold.{table_parts, table_by}

-- where rows tell sites before a change of them that fits, they tell afterwards what it changes to these
sites_tell : (change : Change) (old new : Stored) → IsOfSites change → Applies change old new → Fits change → IsNumbered change → (before : Sites) → sites_told old ≡ Some before
    → sites_told new ≡ Some (changed_sites change before)
sites_tell (PutSite site) old new of h fits numbered t is = put_moved site old new h.1 fits h.0 t is
sites_tell (PutPages site counter puts) old new of h fits numbered t is = pages_moved site counter puts old new h fits numbered t is
sites_tell (DropPage site page) old new of (inl h) fits numbered t is = dropped_moved site page old new h.2 h.0 t is
sites_tell (DropPage site page) old new of (inr h) fits numbered t is = ap sites_told h.1 ∙ is ∙ ap Some (sym (with_absent site_name site (without_page page) t (strange old t is site h.0)))
sites_tell (AddJudgements site page js outcomes) old new of h fits numbered t is = added_moved site page js outcomes old new h.1 h.0 numbered.0 numbered.1 t is
sites_tell (PutLanguages site langs os) old new of h fits numbered t is = relisted_moved site langs os old new h fits numbered t is
sites_tell (Refresh site os) old new of (inl h) fits numbered t is = refreshed_moved site os old new h.0 h.1 numbered t is
sites_tell (Refresh site os) old new of (inr h) fits numbered t is =
    ap sites_told h.1 ∙ is ∙ ap Some (sym (with_absent site_name site (refreshed os) t (strange old t is site h.0)))
sites_tell (SetEdition number) old new of h fits numbered t is = absurd of

-- so of tables, where the change is one of sites
tables_tell : (change : Change) (old new : Stored) → IsOfSites change → changed_edition change ≡ (λ e. e) → Applies change old new → Fits change → IsNumbered change
    → (before : Tables) → tables_in old ≡ Some before → tables_in new ≡ Some (changed change before)
tables_tell change old new of leaves h fits numbered before is =
    let parts = table_parts old before is in
    let same : kept_edition (editions_at new) ≡ kept_edition (editions_at old) = ap (λ (rows : List Row). kept_edition (editions_at (record old { editions = rows }))) (editions_stay change old new of h) in
    let edition : kept_edition (editions_at new) ≡ Some (changed_edition change before.edition) =
    same ∙ parts.0 ∙ ap Some (sym (ap (λ (f : ℕ → ℕ). f before.edition) leaves)) in
    table_by new (changed change before) edition (sites_tell change old new of h fits numbered before.sites parts.1)

-- where rows tell tables before a change that fits, they tell afterwards what it changes to these
pub applies_tells : (change : Change) (old new : Stored) → Applies change old new → Fits change → IsNumbered change → (before : Tables) → tables_in old ≡ Some before → tables_in new ≡ Some (changed change before)
applies_tells (PutSite site) old new h fits numbered t is = tables_tell (PutSite site) old new tt refl h fits numbered t is
applies_tells (PutPages site counter puts) old new h fits numbered t is = tables_tell (PutPages site counter puts) old new tt refl h fits numbered t is
applies_tells (DropPage site page) old new h fits numbered t is = tables_tell (DropPage site page) old new tt refl h fits numbered t is
applies_tells (AddJudgements site page js outcomes) old new h fits numbered t is = tables_tell (AddJudgements site page js outcomes) old new tt refl h fits numbered t is
applies_tells (PutLanguages site langs os) old new h fits numbered t is = tables_tell (PutLanguages site langs os) old new tt refl h fits numbered t is
applies_tells (Refresh site os) old new h fits numbered t is = tables_tell (Refresh site os) old new tt refl h fits numbered t is
applies_tells (SetEdition number) old new h fits numbered t is = edition_moved number old new h fits t is
