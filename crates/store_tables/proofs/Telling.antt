-- What rows tell of one site, and that a change of it is a change of the tables.
use Rattle.std.proofs.Common.{◌≡◌, ◌⊎◌, inl, inr, ℕ, List, true, Option, Some, None, option_map, IfSome, refl, sym, ap, subst, ◌∙◌}
use Rattle.sqlite_value.specs.Order.{Row}
use Rattle.sqlite_rules.specs.Lists.{Has}
use Rattle.sqlite_rules.proofs.ListLemmas.{test_has, test_from}
use Rattle.named_rows.specs.ByName.{at}
use Rattle.named_rows.proofs.Lookups.{at_named}
use Rattle.sql_rows.specs.Tables.{name_at}
use Rattle.sql_rows.proofs.Canon.{same_or_not}
use Rattle.keep_core.specs.declared.tables.KeptSite.{KeptSite}
use Rattle.keep_core.specs.Tables.{site_name}
use Rattle.store_tables.specs.Told.{Sites}
use Rattle.store_statements.specs.Stored.{Stored, sites_in}
use Rattle.store_tables.specs.Reading.{read_each, read_found}
use Rattle.store_tables.specs.Told.{of_site, read_site, is_site, is_page, has_site, has_page, sites_told}
use Rattle.store_tables.proofs.Each.{reads_at, ChangesAt, turned}
use Rattle.store_tables.proofs.Named.{site_named}
use Rattle.store_tables.proofs.Housing.{told_parts, told_by, sites_in_order}

-- rows of a site's name are of a site that is kept, and of pages of it that are
pub record Houses (s : Stored) (site : List ℕ) : Type 0 where
  pub members : (r : Row) → Has s.members r → name_at 0 r ≡ site → is_site s site ≡ true
  pub pages : (r : Row) → Has s.pages r → name_at 0 r ≡ site → is_site s site ≡ true
  pub judgements : (r : Row) → Has s.judgements r → name_at 0 r ≡ site → is_page s site (name_at 1 r) ≡ true
  pub outcomes : (r : Row) → Has s.outcomes r → name_at 0 r ≡ site → is_page s site (name_at 1 r) ≡ true
  pub languages : (r : Row) → Has s.languages r → name_at 0 r ≡ site → is_site s site ≡ true

-- the site as it is kept, or that it isn't
pub record TellsSite (s : Stored) (site : List ℕ) (kept : Option KeptSite) : Type 0 where
  pub reads : read_found (read_site (of_site site s)) (at (name_at 0) site (sites_in s)) ≡ Some kept
  pub houses : Houses s site

module _ (s : Stored) where
  abbrev pub read_row : Row → Option KeptSite
  read_row r = read_site (of_site (name_at 0 r) s) r

  row_by : (site : List ℕ) (o : Option Row) → IfSome o (λ r. name_at 0 r ≡ site) → read_found read_row o ≡ read_found (read_site (of_site site s)) o
  row_by site None h = refl
  row_by site (Some r) h = ap (λ n. option_map Some (read_site (of_site n s) r)) h

  pub same_row : (site : List ℕ) → read_found read_row (at (name_at 0) site (sites_in s)) ≡ read_found (read_site (of_site site s)) (at (name_at 0) site (sites_in s))
  same_row site = row_by site (at (name_at 0) site (sites_in s)) (at_named (name_at 0) site (sites_in s))

  pub row_named : (r : Row) (k : KeptSite) → read_row r ≡ Some k → site_name k ≡ name_at 0 r
  row_named r k is = site_named (of_site (name_at 0 r) s) r k is

  -- tables tell of each site what the rows do
  pub told_site : (t : Sites) → sites_told s ≡ Some t → (site : List ℕ) → TellsSite s site (at site_name site t)
  told_site t is site =
      let told = told_parts s t is in
      record {
        reads = sym (same_row site) ∙ reads_at read_row (name_at 0) site_name row_named (sites_in s) t told.reads site;
        houses = record {
          members = λ r there same. ap (is_site s) (sym same) ∙ test_has (has_site s) s.members r told.members there;
          pages = λ r there same. ap (is_site s) (sym same) ∙ test_has (has_site s) s.pages r told.pages there;
          judgements = λ r there same. ap (λ n. is_page s n (name_at 1 r)) (sym same) ∙ test_has (has_page s) s.judgements r told.judgements there;
          outcomes = λ r there same. ap (λ n. is_page s n (name_at 1 r)) (sym same) ∙ test_has (has_page s) s.outcomes r told.outcomes there;
          languages = λ r there same. ap (is_site s) (sym same) ∙ test_has (has_site s) s.languages r told.languages there;
        };
      }

  -- rows that read, each of a site that is kept, tell tables
  pub told_from : ((site : List ℕ) → Houses s site) → (t : Sites) → read_each read_row (sites_in s) ≡ Some t → sites_told s ≡ Some t
  told_from houses t reads = told_by s t (record {
    members = test_from (has_site s) s.members (λ r there. (houses (name_at 0 r)).members r there refl);
    pages = test_from (has_site s) s.pages (λ r there. (houses (name_at 0 r)).pages r there refl);
    judgements = test_from (has_page s) s.judgements (λ r there. (houses (name_at 0 r)).judgements r there refl);
    outcomes = test_from (has_page s) s.outcomes (λ r there. (houses (name_at 0 r)).outcomes r there refl);
    languages = test_from (has_site s) s.languages (λ r there. (houses (name_at 0 r)).languages r there refl);
    reads = reads;
  })

-- a change of what is told of one site, after which tables are told, is a change of tables that were told
pub tables_turned : (site : List ℕ) (change : Option KeptSite → Option KeptSite) (changed : Sites → Sites) (old new : Stored)
    → ChangesAt (name_at 0) site_name site change changed
    → ((x : Option KeptSite) → TellsSite new site x → (y : Option KeptSite) × TellsSite old site y × (x ≡ change y))
    → ((other : List ℕ) → (other ≡ site → ⊥) → (x : Option KeptSite) → TellsSite new other x → TellsSite old other x)
    → (t : Sites) → sites_told new ≡ Some t → (ts : Sites) × (sites_told old ≡ Some ts) × (t ≡ changed ts)
tables_turned site change changed old new changes there elsewhere t is =
    let ts = turned (name_at 0) site_name site change changed (read_row old) (read_row new) (sites_in old) (sites_in new) (row_named old) (row_named new) changes
    (sites_in_order old) (sites_in_order new) (record { there = here; elsewhere = other_site }) t (told_parts new t is).reads in
    (ts.0, told_from old (λ n. houses n (same_or_not n site)) ts.0 ts.1, ts.2)
  where
    -- what is read of a row is what the tables tell
    tells : (n : List ℕ) (x : Option KeptSite) → read_found (read_row new) (at (name_at 0) n (sites_in new)) ≡ Some x → TellsSite new n x
    tells n x reads = record { reads = sym (same_row new n) ∙ reads; houses = (told_site new t is n).houses }

    here : (x : Option KeptSite) → read_found (read_row new) (at (name_at 0) site (sites_in new)) ≡ Some x → (y : Option KeptSite) × (read_found (read_row old) (at (name_at 0) site (sites_in old)) ≡ Some y) × (x ≡ change y)
    here x reads = let y = there x (tells site x reads) in (y.0, same_row old site ∙ y.1.reads, y.2)

    other_site : (n : List ℕ) → (n ≡ site → ⊥) → (x : Option KeptSite) → read_found (read_row new) (at (name_at 0) n (sites_in new)) ≡ Some x → read_found (read_row old) (at (name_at 0) n (sites_in old)) ≡ Some x
    other_site n other x reads = same_row old n ∙ (elsewhere n other x (tells n x reads)).reads

    houses : (n : List ℕ) → (n ≡ site) ⊎ (n ≡ site → ⊥) → Houses old n
    houses n (inl same) = subst (Houses old) (sym same) (there (at site_name site t) (told_site new t is site)).1.houses
    houses n (inr other) = (elsewhere n other (at site_name n t) (told_site new t is n)).houses
