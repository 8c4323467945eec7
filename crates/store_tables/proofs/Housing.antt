-- Rows whose site or page is kept, and rows of a site or a page that isn't.
use Rattle.std.proofs.Common.{◌≡◌, inl, inr, ℕ, List, [], ◌∷◌, filter, Bool, true, false, ◌&&◌, Some, refl, sym, ap, ◌∙◌, true≢false}
use Rattle.std.specs.List.{list_all}
use Rattle.std.proofs.lemmas.Bool.{and_parts}
use Rattle.sqlite_value.specs.Order.{Row}
use Rattle.sqlite_rules.specs.Lists.{Has}
use Rattle.sqlite_rules.proofs.ListLemmas.{test_has}
use Rattle.named_rows.specs.ByName.{IsInOrder}
use Rattle.sql_rows.specs.InOrder.{in_order}
use Rattle.sql_rows.specs.Tables.{name_at, same_name, leads, name_in, rows_of}
use Rattle.sql_rows.proofs.Canon.{name_is, is_in_order}
use Rattle.store_tables.specs.Told.{Sites}
use Rattle.store_statements.specs.Stored.{Stored, sites_in, pages_of}
use Rattle.store_tables.specs.Reading.{read_each}
use Rattle.store_tables.specs.Told.{of_site, read_site, is_site, is_page, has_site, has_page, are_housed, sites_told}
use Rattle.store_tables.proofs.Steps.{none_some}

-- rows that tell tables are of sites and pages that are kept, and read
pub record AreTold (s : Stored) (t : Sites) : Type 0 where
  pub members : list_all (has_site s) s.members ≡ true
  pub pages : list_all (has_site s) s.pages ≡ true
  pub judgements : list_all (has_page s) s.judgements ≡ true
  pub outcomes : list_all (has_page s) s.outcomes ≡ true
  pub languages : list_all (has_site s) s.languages ≡ true
  pub reads : read_each (λ r. read_site (of_site (name_at 0 r) s) r) (sites_in s) ≡ Some t

pub told_parts : (s : Stored) (t : Sites) → sites_told s ≡ Some t → AreTold s t
told_parts s t is = by (are_housed s) refl
  where
    by : (b : Bool) → are_housed s ≡ b → AreTold s t
    by false none = absurd (none_some t (rw none at is))
    by true housed =
        let both = (list_all (has_site s) s.members && list_all (has_site s) s.pages) && (list_all (has_page s) s.judgements && list_all (has_page s) s.outcomes) in
        let all = and_parts both (list_all (has_site s) s.languages) housed in
        let two = and_parts (list_all (has_site s) s.members && list_all (has_site s) s.pages) (list_all (has_page s) s.judgements && list_all (has_page s) s.outcomes) all.0 in
        let a = and_parts (list_all (has_site s) s.members) (list_all (has_site s) s.pages) two.0 in
        let b = and_parts (list_all (has_page s) s.judgements) (list_all (has_page s) s.outcomes) two.1 in
        record { members = a.0; pages = a.1; judgements = b.0; outcomes = b.1; languages = all.1; reads = rw housed at is }

pub told_by : (s : Stored) (t : Sites) → AreTold s t → sites_told s ≡ Some t
told_by s t h = rw (h.members, h.pages, h.judgements, h.outcomes, h.languages) h.reads

-- ---- rows in order

pub sites_in_order : (s : Stored) → IsInOrder (name_at 0) (sites_in s)
sites_in_order s = is_in_order (name_at 0) (filter (leads 0 []) s.sites)

pub pages_in_order : (site : List ℕ) (s : Stored) → IsInOrder (name_at 1) (pages_of site s)
pages_in_order site s = is_in_order (name_at 1) (filter (leads 0 (site ∷ [])) s.pages)

-- ---- groups without rows

pub none_pass : (p : Row → Bool) (rows : List Row) → ((r : Row) → Has rows r → p r ≡ false) → filter p rows ≡ []
none_pass p [] each = refl
none_pass p (r ∷ rs) each = rw (each r (inl refl)) (none_pass p rs (λ c there. each c (inr there)))

pub rows_none : (group : List (List ℕ)) (rows : List Row) → ((r : Row) → Has rows r → leads 0 group r ≡ false) → rows_of group rows ≡ []
rows_none group rows each = ap (in_order (name_in 0 group)) (none_pass (leads 0 group) rows each)

never : (b : Bool) → (b ≡ true → ⊥) → b ≡ false
never true h = absurd (h refl)
never false h = refl

differ : (b : Bool) → b ≡ false → b ≡ true → ⊥
differ b is_false is_true = true≢false (sym is_true ∙ is_false)

-- a row of this site, and one of this site and page
pub of_this_site : (site : List ℕ) (r : Row) → leads 0 (site ∷ []) r ≡ true → site ≡ name_at 0 r
of_this_site site r h = name_is site (name_at 0 r) (and_parts (same_name site (name_at 0 r)) true h).0

pub of_this_page : (site page : List ℕ) (r : Row) → leads 0 (site ∷ page ∷ []) r ≡ true → (site ≡ name_at 0 r) × (page ≡ name_at 1 r)
of_this_page site page r h =
    let two = and_parts (same_name site (name_at 0 r)) (same_name page (name_at 1 r) && true) h in
    (name_is site (name_at 0 r) two.0, name_is page (name_at 1 r) (and_parts (same_name page (name_at 1 r)) true two.1).0)

module _ (s : Stored) where
  pub none_of_site : (rows : List Row) → list_all (has_site s) rows ≡ true → (site : List ℕ) → is_site s site ≡ false → rows_of (site ∷ []) rows ≡ []
  none_of_site rows housed site strange =
      rows_none (site ∷ []) rows (λ r there. never (leads 0 (site ∷ []) r) (λ h.
      differ (is_site s site) strange (ap (is_site s) (of_this_site site r h) ∙ test_has (has_site s) rows r housed there)))

  pub none_of_page : (rows : List Row) → list_all (has_page s) rows ≡ true → (site page : List ℕ) → is_page s site page ≡ false → rows_of (site ∷ page ∷ []) rows ≡ []
  none_of_page rows housed site page strange =
      rows_none (site ∷ page ∷ []) rows (λ r there. never (leads 0 (site ∷ page ∷ []) r) (λ h.
      let two = of_this_page site page r h in
      differ (is_page s site page) strange (ap (λ n. is_page s n page) two.0 ∙ ap (is_page s (name_at 0 r)) two.1 ∙ test_has (has_page s) rows r housed there)))
