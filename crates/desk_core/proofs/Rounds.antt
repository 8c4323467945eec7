-- Steps of a refresh one after another, and what they cost together.
use Rattle.std.proofs.Common.{◌≡◌, ℕ, ◌+◌, ◌≤◌, List, [], ◌∷◌, ◌++◌, map, sum_by, take, drop, get_or, Option, Some, None, option_map, IfSome, Result, Ok, Err, IsErrAnd, refl, sym, ap, ◌∙◌, subst, arith}
use Rattle.std.specs.List.{All}
use Rattle.std.specs.Option.{option_map_or}
use Rattle.std.proofs.lemmas.List.{take-append-drop}
use Rattle.std.proofs.lemmas.List.Elements.{All-nil, All-cons, All-head, All-tail, All-append}
use Rattle.std.proofs.lemmas.List.Sums.{sum_by-cons, sum_by-append, sum_by-take-drop}
use Rattle.rule_core.specs.Books.{Book}
use Rattle.judge_core.specs.Outcomes.{judgings}
use Rattle.named_rows.specs.ByName.{at}
use Rattle.named_rows.proofs.Lookups.{all_at, at_named}
use Rattle.named_rows.proofs.Order.{at_each}
use Rattle.keep_core.specs.declared.fault.KeepFault.{KeepFault}
use Rattle.keep_core.specs.declared.page.PageHead.{PageHead}
use Rattle.keep_core.specs.declared.page.PageOutcomes.{PageOutcomes}
use Rattle.keep_core.specs.declared.site.Site.{Site}
use Rattle.keep_core.specs.declared.tables.KeptPage.{KeptPage}
use Rattle.keep_core.specs.declared.tables.KeptSite.{KeptSite}
use Rattle.keep_core.specs.declared.tables.Tables.{Tables}
use Rattle.keep_core.specs.declared.change.Change.{Change}
use Rattle.keep_core.specs.declared.change.Change.TheVariants.{Refresh}
use Rattle.keep_core.specs.Tables.{site_name, page_name, kept_site, kept_page, pages_in, pages_of, languages_in, languages_of, sites_of, site_of, heads_of}
use Rattle.keep_core.specs.Fits.{FitsKept}
use Rattle.keep_core.specs.Keeping.{Stays, Makes}
use Rattle.desk_core.specs.Soundness.{IsNearlySound, IsSoundPage}
use Rattle.desk_core.specs.Refreshing.{all_judgings, site_judgings, CostsAtMost, AreByBook, AreLanguagesOf, AreOfNoBook, IsFreshPage, AreFreshPages, IsFreshSite, AreFreshSites, AreAllFresh, GoesOn, Steps, heads_judgings, head_judgings, site_judgings_of, sites_judgings}
use Rattle.desk_core.proofs.SeenAlike.{same_sums, names_alike, languages_alike, heads_alike, heads_cost_alike, sites_cost_alike}
use Rattle.desk_core.proofs.ByHeads.{outcomes_page, heads_have}
use Rattle.desk_core.proofs.Refreshing.{goes_nowhere, goes_further}
use Rattle.desk_core.proofs.Freshened.{refresh_goes_on, refresh_freshens}

-- what is told is one
pub same_told : (old : Option Tables) (m t : Tables) → old ≡ Some m → old ≡ Some t → m ≡ t
same_told old m t before now = let both : Some m ≡ Some t = sym before ∙ now in cc

-- ---- steps

module _ (book : Book) where
  -- where nothing is done but reading
  pub steps_read : {A : Type 0} (D : Tables → Type 0) (old new : Option Tables) (a : A) → Stays old new → ((t : Tables) → new ≡ Some t → D t)
      → Steps book D old new (let r : Result A KeepFault = Ok a in r)
  steps_read D old new a stays is = record {
    goes_on = λ t told. (t, stays t told, goes_nowhere book t);
    done = λ m t before now nearly. is t now;
  }

  -- where it fails, whatever was done before
  pub steps_end : {A : Type 0} (Q : KeepFault → Type 0) (F : Tables → Type 0) (old new : Option Tables) (r : Result A KeepFault) → IsErrAnd r Q
      → ((t : Tables) → new ≡ Some t → (m : Tables) × (old ≡ Some m) × GoesOn book m t) → Steps book F old new r
  steps_end Q F old new (Err fault) is goes = record { goes_on = goes; done = tt }
  steps_end Q F old new (Ok a) is goes = absurd is

  pub goes_read : (old new : Option Tables) → Stays old new → (t : Tables) → new ≡ Some t → (m : Tables) × (old ≡ Some m) × GoesOn book m t
  goes_read old new stays t told = (t, stays t told, goes_nowhere book t)

  -- a step after another
  module _ {A B : Type 0} (D E F : Tables → Type 0) (old mid new : Option Tables) (a : A) where
    pub goes_both : (r : Result B KeepFault) → Steps book D old mid (let s : Result A KeepFault = Ok a in s) → Steps book E mid new r → (t : Tables) → new ≡ Some t
        → (m : Tables) × (old ≡ Some m) × GoesOn book m t
    goes_both r one two t told =
        let next = two.goes_on t told in
        let first = one.goes_on next.0 next.1 in
        (first.0, first.1, goes_further book first.0 next.0 t first.2 next.2)

    pub steps_then : (r : Result B KeepFault) → Steps book D old mid (let s : Result A KeepFault = Ok a in s) → Steps book E mid new r
        → ((m u t : Tables) → mid ≡ Some u → GoesOn book m u → GoesOn book u t → IsNearlySound m → D u → E t → F t) → Steps book F old new r
    steps_then (Err fault) one two follows = record { goes_on = goes_both (Err fault) one two; done = tt }
    steps_then (Ok b) one two follows = record {
      goes_on = goes_both (Ok b) one two;
      done =
          λ m t before now nearly.
          let next = two.goes_on t now in
          let first = one.goes_on next.0 next.1 in
          let was : IsNearlySound first.0 = subst IsNearlySound (same_told old m first.0 before first.1) nearly in
          follows first.0 next.0 t next.1 first.2 next.2 was
          (one.done first.0 next.0 first.1 next.1 was) (two.done next.0 t next.1 now (first.2.nearly was));
    }

  -- a step after something was read
  pub steps_after : {B : Type 0} (E F : Tables → Type 0) (old mid new : Option Tables) (r : Result B KeepFault) → Stays old mid → Steps book E mid new r
      → ((u t : Tables) → mid ≡ Some u → GoesOn book u t → E t → F t) → Steps book F old new r
  steps_after E F old mid new r stays two follows =
      let D : Tables → Type 0 = λ u. Unit {0} in
      steps_then {A = Unit {0}} D E F old mid new (tt {0}) r (steps_read D old mid (tt {0}) stays (λ t told. tt {0})) two (λ m u t is one two nearly d e. follows u t is two e)

  -- ---- what they cost

  module _ (f g h : Tables → ℕ) (old mid new : Option Tables) (from at to : ℕ) {A B : Type 0} (D E : Tables → Type 0) (r : Result A KeepFault) (q : Result B KeepFault) where
    pub costs_then : Steps book D old mid r → Steps book E mid new q → CostsAtMost f old mid from at → CostsAtMost g mid new at to
        → ((s u : Tables) → mid ≡ Some u → GoesOn book s u → IsNearlySound s → f s + g u ≤ h s) → CostsAtMost h old new from to
    costs_then one two first next within s t before now nearly =
        let later = two.goes_on t now in
        let u = later.0 in
        let earlier = one.goes_on u later.1 in
        let is : earlier.0 ≡ s = same_told old earlier.0 s earlier.1 before in
        let on : GoesOn book s u = subst (λ m. GoesOn book m u) is earlier.2 in
        let a = first s u before later.1 nearly in
        let b = next u t later.1 now (on.nearly nearly) in
        let c = within s u later.1 on nearly in
        omega arith

  pub costs_after : (f h : Tables → ℕ) (old mid new : Option Tables) (from at to : ℕ) {B : Type 0} (E : Tables → Type 0) (q : Result B KeepFault) → Stays old mid → Steps book E mid new q
      → at ≤ from → CostsAtMost f mid new at to → ((u : Tables) → mid ≡ Some u → IsNearlySound u → f u ≤ h u) → CostsAtMost h old new from to
  costs_after f h old mid new from at to E q stays two none next within s t before now nearly =
      let later = two.goes_on t now in
      let is : later.0 ≡ s = same_told old later.0 s (stays later.0 later.1) before in
      let here : mid ≡ Some s = subst (λ m. mid ≡ Some m) is later.1 in
      let b = next s t here now nearly in
      let c = within s here nearly in
      omega arith

-- what is told at an end where nothing was judged
pub costs_nothing : (h : Tables → ℕ) (old new : Option Tables) (from to : ℕ) → to ≤ from → CostsAtMost h old new from to
costs_nothing h old new from to none s t before now nearly = omega arith

-- what is told after a change, or after none, was told before it
pub told_before : {A : Type 0} (change : Change) (old new : Option Tables) (r : Result A KeepFault) → Makes change old new r → (t : Tables) → new ≡ Some t → (u : Tables) × (old ≡ Some u)
told_before change old new (Err fault) makes t told = (t, makes.kept t told)
told_before change old new (Ok a) makes t told = let turn = makes.made t told in (turn.0, turn.1)

pub costs_before : (h : Tables → ℕ) (old mid new : Option Tables) (from to : ℕ) → CostsAtMost h old mid from to → ((t : Tables) → new ≡ Some t → (u : Tables) × (mid ≡ Some u))
    → CostsAtMost h old new from to
costs_before h old mid new from to costs back s t before now nearly = let end = back t now in costs s end.0 before end.1 nearly

-- ---- new outcomes of some pages

-- those of heads, by the book, in the place of the pages'
pub replaced : (book : Book) (site : List ℕ) (langs : List (List ℕ)) (heads : List PageHead) (new : List PageOutcomes) {A : Type 0} (old mid after : Option Tables) (r : Result A KeepFault)
    → AreLanguagesOf site langs old → Stays old mid → map outcomes_page new ≡ map (λ (h : PageHead). h.page) heads → ((t : Tables) → mid ≡ Some t → All (AreByBook book site langs t) new)
    → Makes (Refresh site new) mid after r → Steps book (AreFreshPages book site heads) old after r
replaced book site langs heads new old mid after (Err fault) listed stays named found makes =
    record { goes_on = λ t told. (t, stays t (makes.kept t told), goes_nowhere book t); done = tt }
replaced book site langs heads new old mid after (Ok done) listed stays named found makes = record {
  goes_on =
      λ t told.
      let turn = makes.made t told in
      let m = turn.0 in
      (m, stays m turn.1, subst (GoesOn book m) (sym turn.2) (refresh_goes_on book site new m (by_book m turn.1)));
  done =
      λ m t before now nearly.
      let turn = makes.made t now in
      let u = turn.0 in
      let is : u ≡ m = same_told old u m (stays u turn.1) before in
      let was : IsNearlySound u = subst IsNearlySound (sym is) nearly in
      heads_have (λ page. IsFreshPage book site page t) new heads named
      (subst (λ v. All (λ (o : PageOutcomes). IsFreshPage book site o.page v) new) (sym turn.2) (refresh_freshens book site new u (by_book u turn.1) was));
}
  where
    by_book : (m : Tables) → mid ≡ Some m → All (AreByBook book site (languages_of site m) m) new
    by_book m told = subst (λ ls. All (AreByBook book site ls m) new) (listed m (stays m told)) (found m told)

-- a site has the languages that it had
pub still_listed : (book : Book) {A : Type 0} (site : List ℕ) (langs : List (List ℕ)) (D : Tables → Type 0) (old mid : Option Tables) (r : Result A KeepFault) → Steps book D old mid r
    → AreLanguagesOf site langs old → AreLanguagesOf site langs mid
still_listed book site langs D old mid r steps listed t told =
    let on = steps.goes_on t told in
    listed on.0 on.1 ∙ sym (languages_alike on.0 t site on.2.same)

-- and tables of no book's edition are so still
pub still_away : (book : Book) {A : Type 0} (D : Tables → Type 0) (old mid : Option Tables) (r : Result A KeepFault) → Steps book D old mid r → AreOfNoBook old → AreOfNoBook mid
still_away book D old mid r steps away t told =
    let on = steps.goes_on t told in
    on.2.edition ∙ away on.0 on.1

-- ---- some pages, and the others

module _ (book : Book) (site : List ℕ) (n : ℕ) (heads first later : List PageHead) (front : first ≡ take n heads) where
  -- the first cost no more than all
  pub first_cost : (old new : Option Tables) (from to : ℕ) → CostsAtMost (heads_judgings book site first) old new from to → CostsAtMost (heads_judgings book site heads) old new from to
  first_cost old new from to costs s t before now nearly =
      let cost = costs s t before now nearly in
      let same = ap (λ (hs : List PageHead). heads_judgings book site hs s) front in
      let parts = sum_by-take-drop (head_judgings book site s) heads n in
      omega (arith, cost, same, parts)

  module _ (back : later ≡ drop n heads) where
    both_are : first ++ later ≡ heads
    both_are = ap (λ (hs : List PageHead). hs ++ later) front ∙ ap (λ (hs : List PageHead). take n heads ++ hs) back ∙ take-append-drop n heads

    pub both_fresh : (m u t : Tables) → GoesOn book m u → GoesOn book u t → IsNearlySound m → AreFreshPages book site first u → AreFreshPages book site later t → AreFreshPages book site heads t
    both_fresh m u t one two nearly here there =
        let P : PageHead → Type 0 = λ h. IsFreshPage book site h.page t in
        let still : All P first = λ i d within. two.fresh site (get_or first i d).page (one.nearly nearly) (here i d within) in
        subst (All P) both_are (All-append P first later still there)

    pub both_cost : (s u : Tables) → GoesOn book s u → heads_judgings book site first s + heads_judgings book site later u ≤ heads_judgings book site heads s
    both_cost s u on =
        let others = heads_cost_alike book s u site later on.same in
        let parts = sum_by-append (head_judgings book site s) first later in
        let all = ap (λ (hs : List PageHead). heads_judgings book site hs s) both_are in
        omega (arith, others, parts, all)

-- ---- a site

-- where it isn't kept
pub none_kept : (book : Book) (site : List ℕ) (t : Tables) → site_of site t ≡ None → IsFreshSite book site t
none_kept book site t none page = by (kept_site site t) none
  where
    by : (o : Option KeptSite) → option_map (λ (s : KeptSite). s.site) o ≡ None → IfSome (at page_name page (pages_in o)) (IsSoundPage book (languages_in o))
    by None is = tt
    by (Some k) is = cc

-- the languages of a site whose row is read
pub site_lists : (site : List ℕ) (t : Tables) (row : Site) → site_of site t ≡ Some row → row.languages ≡ languages_of site t
site_lists site t row is = by (kept_site site t) is
  where
    by : (o : Option KeptSite) → option_map (λ (s : KeptSite). s.site) o ≡ Some row → row.languages ≡ languages_in o
    by None is = cc
    by (Some k) is = let same : k.site ≡ row = cc in ap (λ (s : Site). s.languages) (sym same)

of_mapped : {X Y : Type 0} (P : Y → Type 0) (f : X → Y) (xs : List X) → All P (map f xs) → All (λ x. P (f x)) xs
of_mapped P f [] all = All-nil (λ x. P (f x))
of_mapped P f (x ∷ xs) all = All-cons (λ x. P (f x)) x xs (All-head P (f x) (map f xs) all) (of_mapped P f xs (All-tail P (f x) (map f xs) all))

-- all its pages are those of its heads
site_fresh : (book : Book) (site : List ℕ) (t : Tables) → AreFreshPages book site (heads_of site t) t → IsFreshSite book site t
site_fresh book site t fresh page =
    by (kept_page site page t) refl
    (all_at page_name (λ p. IsFreshPage book site (page_name p) t) page (pages_of site t) (of_mapped (λ (h : PageHead). IsFreshPage book site h.page t) (λ (p : KeptPage). p.page.head) (pages_of site t) fresh))
    (at_named page_name page (pages_of site t))
  where
    by : (o : Option KeptPage) → kept_page site page t ≡ o → IfSome o (λ p. IsFreshPage book site (page_name p) t) → IfSome o (λ p. page_name p ≡ page) → IfSome o (IsSoundPage book (languages_of site t))
    by None is fresh named = tt
    by (Some p) is fresh named =
        subst (λ (o : Option KeptPage). IfSome o (IsSoundPage book (languages_of site t))) is (subst (λ n. IsFreshPage book site n t) named fresh)

pub all_heads_fresh : (book : Book) (site : List ℕ) (u t : Tables) (heads : List PageHead) → heads ≡ heads_of site u → GoesOn book u t → AreFreshPages book site heads t → IsFreshSite book site t
all_heads_fresh book site u t heads are on fresh =
    site_fresh book site t (subst (λ hs. AreFreshPages book site hs t) (are ∙ sym (heads_alike u t site on.same)) fresh)

-- and they cost no more
module _ (book : Book) where
  abbrev page_cost : KeptPage → ℕ
  page_cost p = judgings book p.page.tree

  each_cost : (all pages : List KeptPage) → All (λ (p : KeptPage). at page_name (page_name p) all ≡ Some p) pages
      → sum_by page_cost pages ≡ sum_by (λ (h : PageHead). option_map_or page_cost (at page_name h.page all) 0) (map (λ (p : KeptPage). p.page.head) pages)
  each_cost all pages found =
      same_sums page_cost (λ (h : PageHead). option_map_or page_cost (at page_name h.page all) 0) (λ (p : KeptPage). p.page.head) pages
      (λ i d within. sym (ap (λ (o : Option KeptPage). option_map_or page_cost o 0) (found i d within)))

  heads_cost : (site : List ℕ) (t : Tables) → IsNearlySound t → heads_judgings book site (heads_of site t) t ≡ site_judgings_of book site t
  heads_cost site t nearly = by (kept_site site t) (all_at site_name FitsKept site t.sites nearly.fit.each)
    where
      by : (o : Option KeptSite) → IfSome o FitsKept
          → sum_by (λ (h : PageHead). option_map_or page_cost (at page_name h.page (pages_in o)) 0) (map (λ (p : KeptPage). p.page.head) (pages_in o)) ≡ option_map_or (site_judgings book) o 0
      by None fits = refl
      by (Some k) fits = sym (each_cost k.pages k.pages (at_each page_name k.pages fits.in_order))

  pub all_heads_cost : (site : List ℕ) (u : Tables) (heads : List PageHead) → heads ≡ heads_of site u → IsNearlySound u → heads_judgings book site heads u ≤ site_judgings_of book site u
  all_heads_cost site u heads are nearly =
      let same = ap (λ (hs : List PageHead). heads_judgings book site hs u) are ∙ heads_cost site u nearly in
      omega (arith, same)

  -- ---- sites

  pub first_site_fresh : (name : List ℕ) (names : List (List ℕ)) (u t : Tables) → GoesOn book u t → IsNearlySound u → IsFreshSite book name u → AreFreshSites book names t
      → AreFreshSites book (name ∷ names) t
  first_site_fresh name names u t on nearly first others =
      All-cons (λ (n : List ℕ). IsFreshSite book n t) name names (λ page. on.fresh name page nearly (first page)) others

  pub first_site_cost : (name : List ℕ) (names : List (List ℕ)) (s u : Tables) → GoesOn book s u
      → site_judgings_of book name s + sites_judgings book names u ≤ sites_judgings book (name ∷ names) s
  first_site_cost name names s u on =
      let others = sites_cost_alike book s u names on.same in
      let all = sum_by-cons (λ n. site_judgings_of book n s) name names in
      omega (arith, others, all)

  pub first_site_costs : (name : List ℕ) (names all : List (List ℕ)) (old new : Option Tables) (from to : ℕ) → all ≡ name ∷ names → CostsAtMost (site_judgings_of book name) old new from to
      → CostsAtMost (sites_judgings book all) old new from to
  first_site_costs name names all old new from to are costs s t before now nearly =
      let cost = costs s t before now nearly in
      let same = ap (λ (ns : List (List ℕ)). sites_judgings book ns s) are in
      let parts = sum_by-cons (λ n. site_judgings_of book n s) name names in
      omega (arith, cost, same, parts)

  pub all_sites_fresh : (u t : Tables) (names : List (List ℕ)) → names ≡ sites_of u → GoesOn book u t → AreFreshSites book names t → AreAllFresh book t
  all_sites_fresh u t names are on fresh = subst (λ ns. AreFreshSites book ns t) (are ∙ sym (names_alike u t on.same)) fresh

  sites_cost : (t : Tables) (sites : List KeptSite) → All (λ (k : KeptSite). kept_site (site_name k) t ≡ Some k) sites → sum_by (site_judgings book) sites ≡ sites_judgings book (map site_name sites) t
  sites_cost t sites found =
      same_sums (site_judgings book) (λ n. site_judgings_of book n t) site_name sites
      (λ i d within. sym (ap (λ (o : Option KeptSite). option_map_or (site_judgings book) o 0) (found i d within)))

  pub all_sites_cost : (u : Tables) (names : List (List ℕ)) → names ≡ sites_of u → IsNearlySound u → sites_judgings book names u ≤ all_judgings book u
  all_sites_cost u names are nearly =
      let same = ap (λ (ns : List (List ℕ)). sites_judgings book ns u) are ∙ sym (sites_cost u u.sites (at_each site_name u.sites nearly.fit.in_order)) in
      omega (arith, same)
