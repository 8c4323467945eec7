-- A refresh: tables are of no book's edition while outcomes of pages are replaced, and of the book's in the end.
use Rattle.std.proofs.Common.{◌≡◌, ◌≢◌, ℕ, ◌<◌, List, length, map, get_or, Option, Some, refl, ap, ◌∙◌, subst, arith}
use Rattle.std.proofs.lemmas.List.{length-map, get_or-map}
use Rattle.rule_core.specs.Books.{Book}
use Rattle.named_rows.specs.ByName.{at}
use Rattle.named_rows.proofs.Lookups.{all_with_row}
use Rattle.named_rows.proofs.Order.{at_each, in_order_with_row}
use Rattle.keep_core.specs.declared.page.PageOutcomes.{PageOutcomes}
use Rattle.keep_core.specs.declared.tables.KeptPage.{KeptPage}
use Rattle.keep_core.specs.declared.tables.KeptSite.{KeptSite}
use Rattle.keep_core.specs.declared.change.Change.TheVariants.{Refresh, SetEdition}
use Rattle.keep_core.specs.declared.tables.Tables.{Tables}
use Rattle.keep_core.specs.Tables.{kept_site, kept_page, pages_in, languages_in, languages_of, site_name, page_name}
use Rattle.keep_core.specs.Changes.{refreshed, with_outcomes, changed}
use Rattle.keep_core.specs.Fits.{FitsPage, FitsKept}
use Rattle.desk_core.specs.Soundness.{IsWellPage, IsNearlySite, IsNearlySound, IsSoundPage, IsSoundSite, IsSound}
use Rattle.desk_core.specs.Refreshing.{book_edition, MayBegin, IsOnTheWay, IsFresh, IsFreshSite, AreAllFresh, GoesOn}
use Rattle.desk_core.proofs.Views.{changes_seen}
use Rattle.desk_core.proofs.Sound.{some_has}
use Rattle.desk_core.proofs.SoundPages.{Given}
use Rattle.desk_core.proofs.NewOutcomes.{all_stay, order_stays, differ_stay, length_stays}

-- ---- nearly sound tables stay so by any outcomes

abbrev FitsPageOf : KeptPage → Type 0
FitsPageOf p = FitsPage p.page

site_fits : (new : List PageOutcomes) (k : KeptSite) → FitsKept k → FitsKept (refreshed new k)
site_fits new k fits = record {
  site = fits.site;
  pages = all_stay FitsPageOf (λ _ _ h. h) new k.pages fits.pages;
  in_order = order_stays new k.pages fits.in_order;
}

site_nearly : (new : List PageOutcomes) (k : KeptSite) → IsNearlySite k → IsNearlySite (refreshed new k)
site_nearly new k nearly =
    let same : length (with_outcomes new k.pages) ≡ length k.pages = length_stays new k.pages in
    record {
      owned = nearly.owned;
      few = omega (arith, same, nearly.few);
      pages = all_stay IsWellPage (λ _ _ h. h) new k.pages nearly.pages;
      given = all_stay (Given k.site.counter) (λ _ _ h. h) new k.pages nearly.given;
      differ = differ_stay new k.pages nearly.differ;
    }

pub refresh_nearly : (site : List ℕ) (new : List PageOutcomes) (t : Tables) → IsNearlySound t → IsNearlySound (changed (Refresh site new) t)
refresh_nearly site new t nearly = record {
  fit = record {
    each = all_with_row site_name FitsKept site (refreshed new) t.sites (λ k _ fits. site_fits new k fits) nearly.fit.each;
    in_order = in_order_with_row site_name site (refreshed new) (λ _ _. refl) t.sites nearly.fit.in_order;
  };
  sites = all_with_row site_name IsNearlySite site (refreshed new) t.sites (λ k _ near. site_nearly new k near) nearly.sites;
}

-- ---- the three moments

pub begun : (book : Book) (s : Tables) → MayBegin book s → s.edition ≢ book_edition book → IsOnTheWay book s (changed (SetEdition 0) s)
begun book s may other = record { other = other; nearly = record { fit = may.nearly.fit; sites = may.nearly.sites }; edition = refl; same = refl }

pub gone_on : (book : Book) (s t : Tables) (site : List ℕ) (new : List PageOutcomes) → IsOnTheWay book s t → IsOnTheWay book s (changed (Refresh site new) t)
gone_on book s t site new way = record {
  other = way.other;
  nearly = refresh_nearly site new t way.nearly;
  edition = way.edition;
  same = changes_seen (Refresh site new) t ∙ way.same;
}

-- a site each page of which is by the book is sound
fresh_site : (book : Book) (t : Tables) (k : KeptSite) → kept_site (site_name k) t ≡ Some k → IsFreshSite book (site_name k) t → FitsKept k → IsNearlySite k → IsSoundSite book k
fresh_site book t k kept fresh fits nearly = record {
  owned = nearly.owned;
  few = nearly.few;
  pages =
      λ i d within.
      let p = get_or k.pages i d in
      let found : at page_name (page_name p) k.pages ≡ Some p = at_each page_name k.pages fits.in_order i d within in
      let is : kept_page (site_name k) (page_name p) t ≡ Some p = ap (λ (o : Option KeptSite). at page_name (page_name p) (pages_in o)) kept ∙ found in
      let told : IsSoundPage book (languages_of (site_name k) t) p =
      some_has (IsSoundPage book (languages_of (site_name k) t)) (kept_page (site_name k) (page_name p) t) p is (fresh (page_name p)) in
      subst (λ (o : Option KeptSite). IsSoundPage book (languages_in o) p) kept told;
  given = nearly.given;
  differ = nearly.differ;
}

fresh_at : (book : Book) (t : Tables) (i : ℕ) (d : KeptSite) → AreAllFresh book t → i < length t.sites → IsFreshSite book (site_name (get_or t.sites i d)) t
fresh_at book t i d fresh within =
    let same : length (map site_name t.sites) ≡ length t.sites = length-map t.sites site_name in
    subst (λ n. IsFreshSite book n t) (get_or-map site_name t.sites i d (site_name d) within) (fresh i (site_name d) (omega (arith, same, within)))

pub all_fresh : (book : Book) (t : Tables) → IsNearlySound t → AreAllFresh book t → IsSound book t
all_fresh book t nearly fresh = record {
  fit = nearly.fit;
  sites =
      λ i d within.
      let k = get_or t.sites i d in
      fresh_site book t k (at_each site_name t.sites nearly.fit.in_order i d within) (fresh_at book t i d fresh within) (nearly.fit.each i d within) (nearly.sites i d within);
}

pub ended : (book : Book) (s t : Tables) → IsOnTheWay book s t → AreAllFresh book t → IsFresh book s (changed (SetEdition (book_edition book)) t)
ended book s t way fresh =
    let sound = all_fresh book t way.nearly fresh in
    record {
      sound = record { fit = sound.fit; sites = sound.sites };
      edition = refl;
      same = way.same;
      unchanged = λ is. absurd (way.other is);
    }

-- ---- steps one after another

pub goes_nowhere : (book : Book) (m : Tables) → GoesOn book m m
goes_nowhere book m = record { nearly = λ nearly. nearly; edition = refl; same = refl; fresh = λ site page nearly fresh. fresh }

pub goes_further : (book : Book) (m n t : Tables) → GoesOn book m n → GoesOn book n t → GoesOn book m t
goes_further book m n t one two = record {
  nearly = λ nearly. two.nearly (one.nearly nearly);
  edition = two.edition ∙ one.edition;
  same = two.same ∙ one.same;
  fresh = λ site page nearly fresh. two.fresh site page (one.nearly nearly) (one.fresh site page nearly fresh);
}
