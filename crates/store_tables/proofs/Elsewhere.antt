-- Changes of the rows of one site, which leave the others.
use Rattle.std.proofs.Common.{◌≡◌, ℕ, List, [], ◌∷◌, map, true, Option, is_some, refl, sym, ap, subst, ◌∙◌}
use Rattle.sqlite_value.specs.Order.{Row, column}
use Rattle.sqlite_rules.specs.Lists.{Has}
use Rattle.named_rows.specs.ByName.{at, put_row}
use Rattle.named_rows.proofs.Lookups.{at_put_other}
use Rattle.sql_rows.specs.Tables.{name_at}
use Rattle.sql_rows.specs.Changes.{Changes}
use Rattle.sql_rows.proofs.Groups.{other_group, stays}
use Rattle.keep_core.specs.declared.tables.KeptSite.{KeptSite}
use Rattle.store_statements.specs.Stored.{Stored, sites_in, judgements_at, outcomes_at}
use Rattle.store_statements.specs.Changes.{ChangesSites, ChangesMembers, ChangesLanguages, ChangesPages, ChangesJudgements, ChangesOutcomes}
use Rattle.store_tables.specs.Reading.{read_found}
use Rattle.store_tables.specs.Told.{OfSite, of_site, read_site, is_page}
use Rattle.store_tables.proofs.Groups.{not_led_by_site}
use Rattle.store_tables.proofs.Telling.{TellsSite}

-- the rows of every other site stay
pub record StaysElsewhere (site : List ℕ) (old new : Stored) : Type 0 where
  pub row : (m : List ℕ) → (m ≡ site → ⊥) → at (name_at 0) m (sites_in new) ≡ at (name_at 0) m (sites_in old)
  pub rows : (m : List ℕ) → (m ≡ site → ⊥) → of_site m new ≡ of_site m old
  pub members : (r : Row) → (name_at 0 r ≡ site → ⊥) → Has old.members r → Has new.members r
  pub pages : (r : Row) → (name_at 0 r ≡ site → ⊥) → Has old.pages r → Has new.pages r
  pub judgements : (r : Row) → (name_at 0 r ≡ site → ⊥) → Has old.judgements r → Has new.judgements r
  pub outcomes : (r : Row) → (name_at 0 r ≡ site → ⊥) → Has old.outcomes r → Has new.outcomes r
  pub languages : (r : Row) → (name_at 0 r ≡ site → ⊥) → Has old.languages r → Has new.languages r

pub stays_through : (site : List ℕ) (a b c : Stored) → StaysElsewhere site a b → StaysElsewhere site b c → StaysElsewhere site a c
stays_through site a b c first second = record {
  row = λ m other. second.row m other ∙ first.row m other;
  rows = λ m other. second.rows m other ∙ first.rows m other;
  members = λ r other there. second.members r other (first.members r other there);
  pages = λ r other there. second.pages r other (first.pages r other there);
  judgements = λ r other there. second.judgements r other (first.judgements r other there);
  outcomes = λ r other there. second.outcomes r other (first.outcomes r other there);
  languages = λ r other there. second.languages r other (first.languages r other there);
}

-- what is told of another site after such a change was told of it before
pub tells_elsewhere : (site : List ℕ) (old new : Stored) → StaysElsewhere site old new → (m : List ℕ) → (m ≡ site → ⊥) → (x : Option KeptSite) → TellsSite new m x → TellsSite old m x
tells_elsewhere site old new same m other x told = record {
  reads = ap (λ (o : OfSite). read_found (read_site o) (at (name_at 0) m (sites_in old))) (sym (same.rows m other))
      ∙ ap (read_found (read_site (of_site m new))) (sym (same.row m other)) ∙ told.reads;
  houses = record {
    members = λ r there mine. kept (told.houses.members r (same.members r (apart r mine) there) mine);
    pages = λ r there mine. kept (told.houses.pages r (same.pages r (apart r mine) there) mine);
    judgements = λ r there mine. kept_page (name_at 1 r) (told.houses.judgements r (same.judgements r (apart r mine) there) mine);
    outcomes = λ r there mine. kept_page (name_at 1 r) (told.houses.outcomes r (same.outcomes r (apart r mine) there) mine);
    languages = λ r there mine. kept (told.houses.languages r (same.languages r (apart r mine) there) mine);
  };
}
  where
    apart : (r : Row) → name_at 0 r ≡ m → name_at 0 r ≡ site → ⊥
    apart r mine theirs = other (sym mine ∙ theirs)

    kept : is_some (at (name_at 0) m (sites_in new)) ≡ true → is_some (at (name_at 0) m (sites_in old)) ≡ true
    kept h = ap is_some (sym (same.row m other)) ∙ h

    kept_page : (page : List ℕ) → is_page new m page ≡ true → is_page old m page ≡ true
    kept_page page h = ap (λ (o : OfSite). is_some (at (name_at 1) page o.pages)) (sym (same.rows m other)) ∙ h

-- ---- the changes of the texts

site_apart : (m site : List ℕ) → (m ≡ site → ⊥) → m ∷ [] ≡ site ∷ [] → ⊥
site_apart m site other same = other cc

page_apart : (m p site page : List ℕ) → (m ≡ site → ⊥) → m ∷ p ∷ [] ≡ site ∷ page ∷ [] → ⊥
page_apart m p site page other same = other cc

module _ (site : List ℕ) (old : Stored) where
  pub put_site_by : (cells : Row) (rows : List Row) → name_at 0 cells ≡ site → Changes [] (put_row (name_at 0) cells) old.sites rows → StaysElsewhere site old (record old { sites = rows })
  put_site_by cells rows named change = record {
    row = λ m other. ap (at (name_at 0) m) change.there ∙ at_put_other (name_at 0) m cells (sites_in old) (λ e. other (e ∙ named));
    rows = λ m other. refl;
    members = λ r other there. there;
    pages = λ r other there. there;
    judgements = λ r other there. there;
    outcomes = λ r other there. there;
    languages = λ r other there. there;
  }

  pub members_by : (f : List Row → List Row) (rows : List Row) → Changes (site ∷ []) f old.members rows → StaysElsewhere site old (record old { members = rows })
  members_by f rows change = record {
    row = λ m other. refl;
    rows = λ m other. ap (λ (rs : List Row). record (of_site m old) { members = map (λ r. column r 1 ∷ column r 2 ∷ []) rs }) (other_group (site ∷ []) old.members rows change (m ∷ []) refl (site_apart m site other));
    members = λ r other there. stays (site ∷ []) old.members rows change r (not_led_by_site site [] r other) there;
    pages = λ r other there. there;
    judgements = λ r other there. there;
    outcomes = λ r other there. there;
    languages = λ r other there. there;
  }

  pub languages_by : (f : List Row → List Row) (rows : List Row) → Changes (site ∷ []) f old.languages rows → StaysElsewhere site old (record old { languages = rows })
  languages_by f rows change = record {
    row = λ m other. refl;
    rows = λ m other. ap (λ (rs : List Row). record (of_site m old) { languages = map (λ r. column r 1 ∷ column r 2 ∷ []) rs }) (other_group (site ∷ []) old.languages rows change (m ∷ []) refl (site_apart m site other));
    members = λ r other there. there;
    pages = λ r other there. there;
    judgements = λ r other there. there;
    outcomes = λ r other there. there;
    languages = λ r other there. stays (site ∷ []) old.languages rows change r (not_led_by_site site [] r other) there;
  }

  pub pages_by : (f : List Row → List Row) (rows : List Row) → Changes (site ∷ []) f old.pages rows → StaysElsewhere site old (record old { pages = rows })
  pages_by f rows change = record {
    row = λ m other. refl;
    rows = λ m other. ap (λ (rs : List Row). record (of_site m old) { pages = rs }) (other_group (site ∷ []) old.pages rows change (m ∷ []) refl (site_apart m site other));
    members = λ r other there. there;
    pages = λ r other there. stays (site ∷ []) old.pages rows change r (not_led_by_site site [] r other) there;
    judgements = λ r other there. there;
    outcomes = λ r other there. there;
    languages = λ r other there. there;
  }

  pub judgements_by : (page : List ℕ) (f : List Row → List Row) (rows : List Row) → Changes (site ∷ page ∷ []) f old.judgements rows → StaysElsewhere site old (record old { judgements = rows })
  judgements_by page f rows change = record {
    row = λ m other. refl;
    rows = λ m other. λ i. record (of_site m old) { judgements = λ p. each m other p i };
    members = λ r other there. there;
    pages = λ r other there. there;
    judgements = λ r other there. stays (site ∷ page ∷ []) old.judgements rows change r (not_led_by_site site (page ∷ []) r other) there;
    outcomes = λ r other there. there;
    languages = λ r other there. there;
  }
    where
      each : (m : List ℕ) → (m ≡ site → ⊥) → (p : List ℕ) → judgements_at m p (record old { judgements = rows }) ≡ judgements_at m p old
      each m other p =
          ap (map (λ r. column r 2 ∷ column r 3 ∷ column r 4 ∷ column r 5 ∷ column r 6 ∷ column r 7 ∷ column r 8 ∷ []))
          (other_group (site ∷ page ∷ []) old.judgements rows change (m ∷ p ∷ []) refl (page_apart m p site page other))

  pub outcomes_by : (page : List ℕ) (f : List Row → List Row) (rows : List Row) → Changes (site ∷ page ∷ []) f old.outcomes rows → StaysElsewhere site old (record old { outcomes = rows })
  outcomes_by page f rows change = record {
    row = λ m other. refl;
    rows = λ m other. λ i. record (of_site m old) { outcomes = λ p. each m other p i };
    members = λ r other there. there;
    pages = λ r other there. there;
    judgements = λ r other there. there;
    outcomes = λ r other there. stays (site ∷ page ∷ []) old.outcomes rows change r (not_led_by_site site (page ∷ []) r other) there;
    languages = λ r other there. there;
  }
    where
      each : (m : List ℕ) → (m ≡ site → ⊥) → (p : List ℕ) → outcomes_at m p (record old { outcomes = rows }) ≡ outcomes_at m p old
      each m other p =
          ap (map (λ r. column r 2 ∷ column r 3 ∷ column r 4 ∷ column r 5 ∷ column r 6 ∷ column r 7 ∷ column r 8 ∷ column r 9 ∷ []))
          (other_group (site ∷ page ∷ []) old.outcomes rows change (m ∷ p ∷ []) refl (page_apart m p site page other))

  module _ (new : Stored) where
    pub put_site_stays : (cells : Row) → name_at 0 cells ≡ site → ChangesSites (put_row (name_at 0) cells) old new → StaysElsewhere site old new
    put_site_stays cells named change = subst (StaysElsewhere site old) (sym change.0) (put_site_by cells new.sites named change.1)

    pub members_stay : (f : List Row → List Row) → ChangesMembers site f old new → StaysElsewhere site old new
    members_stay f change = subst (StaysElsewhere site old) (sym change.0) (members_by f new.members change.1)

    pub languages_stay : (f : List Row → List Row) → ChangesLanguages site f old new → StaysElsewhere site old new
    languages_stay f change = subst (StaysElsewhere site old) (sym change.0) (languages_by f new.languages change.1)

    pub pages_stay : (f : List Row → List Row) → ChangesPages site f old new → StaysElsewhere site old new
    pages_stay f change = subst (StaysElsewhere site old) (sym change.0) (pages_by f new.pages change.1)

    pub judgements_stay : (page : List ℕ) (f : List Row → List Row) → ChangesJudgements site page f old new → StaysElsewhere site old new
    judgements_stay page f change = subst (StaysElsewhere site old) (sym change.0) (judgements_by page f new.judgements change.1)

    pub outcomes_stay : (page : List ℕ) (f : List Row → List Row) → ChangesOutcomes site page f old new → StaysElsewhere site old new
    outcomes_stay page f change = subst (StaysElsewhere site old) (sym change.0) (outcomes_by page f new.outcomes change.1)
