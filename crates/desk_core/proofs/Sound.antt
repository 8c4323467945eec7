-- What is decided keeps tables sound.
use Rattle.std.proofs.Common.{◌≡◌, ℕ, ◌≤◌, List, [], ◌∷◌, ◌++◌, length, map, true, not, Option, Some, None, IfSome, IsTrue, refl, sym, ap, ◌∙◌, subst, arith}
use Rattle.std.specs.List.{All}
use Rattle.std.specs.Str.{bytes_eq}
use Rattle.std.proofs.lemmas.List.Elements.{All-nil, All-cons, All-head, All-tail}
use Rattle.rule_core.specs.Books.{Book}
use Rattle.snap_tree.specs.Trees.{with_langs}
use Rattle.snap_tree.specs.Langs.{AreLangs}
use Rattle.judge_core.specs.declared.judgement.Judgement.{Judgement}
use Rattle.judge_core.specs.declared.outcomes.Outcomes.{Outcomes}
use Rattle.judge_core.specs.Outcomes.{outcomes}
use Rattle.named_rows.specs.ByName.{at, put_rows, with_row}
use Rattle.named_rows.proofs.Lookups.{all_at, all_put, all_put_rows, all_take, all_with_row, all_with_found}
use Rattle.named_rows.proofs.Order.{in_order_none, in_order_put, in_order_put_rows, in_order_take, in_order_with_row}
use Rattle.named_rows.proofs.Pairs.{pairs_none, pairs_take, pairs_with_row}
use Rattle.named_rows.proofs.Lengths.{length_take, length_with_row}
use Rattle.keep_core.specs.declared.member.MemberRole.{MemberRole}
use Rattle.keep_core.specs.declared.site.Site.{Site}
use Rattle.keep_core.specs.declared.page.PagePut.{PagePut}
use Rattle.keep_core.specs.declared.change.Change.TheVariants.{PutSite, PutPages, DropPage, AddJudgements, PutLanguages}
use Rattle.keep_core.specs.declared.tables.KeptPage.{KeptPage}
use Rattle.keep_core.specs.declared.tables.KeptSite.{KeptSite}
use Rattle.keep_core.specs.Names.{is_name}
use Rattle.keep_core.specs.declared.tables.Tables.{Tables}
use Rattle.keep_core.specs.Tables.{kept_site, pages_in, pages_of, site_name, page_name}
use Rattle.keep_core.specs.Changes.{put_over, with_pages, without_page, with_judgements, with_judged, with_languages, with_outcomes, changed}
use Rattle.keep_core.specs.Fits.{FitsPage, FitsPages, FitsKept}
use Rattle.desk_core.specs.declared.limits.TheConstants.{MOST_PAGES}
use Rattle.desk_core.specs.Members.{new_site, site_with, members_with}
use Rattle.desk_core.specs.Soundness.{IsWellPage, IsSoundPage, IsSoundSite, IsSound}
use Rattle.desk_core.proofs.Owners.{Owns, owner_stays}
use Rattle.desk_core.proofs.Fitted.{new_site_fits, site_with_fits}
use Rattle.desk_core.proofs.SoundPages.{Given, Differ, SoundPages}
use Rattle.desk_core.proofs.NewOutcomes.{all_stay, order_stays, differ_stay, length_stays, all_relisted, relisted_pages_sound}

pub some_has : {X : Type 0} (P : X → Type 0) (o : Option X) (x : X) → o ≡ Some x → IfSome o P → P x
some_has P o x is has = subst (λ o. IfSome o P) is has

pub pages_sound : (book : Book) (s : KeptSite) → IsSoundSite book s → SoundPages book s.site.languages s.site.counter s.pages
pages_sound book s sound = record { each = sound.pages; given = sound.given; differ = sound.differ }

abbrev FitsPageOf : KeptPage → Type 0
FitsPageOf p = FitsPage p.page

pub pages_well : (book : Book) (langs : List (List ℕ)) (pages : List KeptPage) → All (IsSoundPage book langs) pages → All IsWellPage pages
pages_well book langs [] sound = All-nil IsWellPage
pages_well book langs (p ∷ ps) sound =
    All-cons IsWellPage _ _ (All-head (IsSoundPage book langs) p ps sound).well (pages_well book langs ps (All-tail (IsSoundPage book langs) p ps sound))

-- ---- one site

module _ (book : Book) (t : Tables) (sound : IsSound book t) where
  pub kept_fits : (site : List ℕ) (k : KeptSite) → kept_site site t ≡ Some k → FitsKept k
  kept_fits site k is = some_has FitsKept (kept_site site t) k is (all_at site_name FitsKept site t.sites sound.fit.each)

  pub kept_sound : (site : List ℕ) (k : KeptSite) → kept_site site t ≡ Some k → IsSoundSite book k
  kept_sound site k is = some_has (IsSoundSite book) (kept_site site t) k is (all_at site_name (IsSoundSite book) site t.sites sound.sites)

  same_found : (site : List ℕ) (k s : KeptSite) → kept_site site t ≡ Some k → kept_site site t ≡ Some s → k ≡ s
  same_found site k s is found = let both : Some k ≡ Some s = sym is ∙ found in cc

  -- the site of a name is changed
  pub change_site : (site : List ℕ) (k : KeptSite) (f : KeptSite → KeptSite) → ((s : KeptSite) → (f s).site.name ≡ s.site.name) → kept_site site t ≡ Some k
      → FitsKept (f k) → IsSoundSite book (f k) → IsSound book (record { edition = t.edition; sites = with_row site_name site f t.sites })
  change_site site k f keeps is fits well =
      let each : (P : KeptSite → Type 0) → P (f k) → (s : KeptSite) → kept_site site t ≡ Some s → P s → P (f s) =
      λ P holds s found _. subst (λ s. P (f s)) (same_found site k s is found) holds in
      record {
        fit = record {
          each = all_with_found site_name FitsKept site f t.sites (each FitsKept fits) sound.fit.each;
          in_order = in_order_with_row site_name site f (λ s _. keeps s) t.sites sound.fit.in_order;
        };
        sites = all_with_found site_name (IsSoundSite book) site f t.sites (each (IsSoundSite book) well) sound.sites;
      }

  kept_row : Site → List KeptPage → KeptSite
  kept_row site pages = record { site = site; pages = pages }

  -- a site's row is put, whose pages these are
  put_row_sound : (site : Site) (pages : List KeptPage) → pages_of site.name t ≡ pages → FitsKept (kept_row site pages) → IsSoundSite book (kept_row site pages)
      → IsSound book (changed (PutSite site) t)
  unfolding kept_row
  put_row_sound site pages is fits well =
      let row_fits = subst (λ pages. FitsKept (kept_row site pages)) (sym is) fits in
      let row_well = subst (λ pages. IsSoundSite book (kept_row site pages)) (sym is) well in
      record {
        fit = record { each = all_put site_name FitsKept _ t.sites row_fits sound.fit.each; in_order = in_order_put site_name _ t.sites sound.fit.in_order };
        sites = all_put site_name (IsSoundSite book) _ t.sites row_well sound.sites;
      }

  pub new_site_sound : (name maker : List ℕ) → IsTrue (is_name name) → IsTrue (is_name maker) → kept_site name t ≡ None → IsSound book (changed (PutSite (new_site name maker)) t)
  unfolding kept_row
  new_site_sound name maker named user none =
      put_row_sound (new_site name maker) [] (ap pages_in none)
      (record { site = new_site_fits name maker named user; pages = All-nil FitsPageOf; in_order = in_order_none page_name })
      (record { owned = refl; few = omega arith; pages = All-nil (IsSoundPage book []); given = All-nil (Given 0); differ = pairs_none Differ })

  pub member_sound : (name caller user : List ℕ) (held : Option MemberRole) (k : KeptSite) → IsTrue (is_name name) → IsTrue (is_name user) → kept_site name t ≡ Some k
      → Owns caller k.site.members → not (bytes_eq user caller) ≡ true → IsSound book (changed (PutSite (site_with name k.site (members_with user held k.site.members))) t)
  unfolding kept_row
  member_sound name caller user held k named user_named is owns other =
      let fits = kept_fits name k is in
      let well = kept_sound name k is in
      put_row_sound (site_with name k.site (members_with user held k.site.members)) k.pages (ap pages_in is)
      (record { site = site_with_fits name user held k.site named user_named fits.site; pages = fits.pages; in_order = fits.in_order })
      (record { owned = owner_stays caller user other held k.site.members owns; few = well.few; pages = well.pages; given = well.given; differ = well.differ })

  -- pages are put into a site
  pub pages_put_sound : (site : List ℕ) (counter : ℕ) (puts : List PagePut) (k : KeptSite) → kept_site site t ≡ Some k → FitsPages site counter puts
      → SoundPages book k.site.languages counter (put_rows page_name (map (put_over k.pages) puts) k.pages) → length (put_rows page_name (map (put_over k.pages) puts) k.pages) ≤ MOST_PAGES
      → IsSound book (changed (PutPages site counter puts) t)
  pages_put_sound site counter puts k is fit pages few =
      let fits = kept_fits site k is in
      let well = kept_sound site k is in
      change_site site k (with_pages counter puts) (λ _. refl) is
      (record {
        site = record { name = fits.site.name; counter = fit.within; users = fits.site.users; in_order = fits.site.in_order; languages = fits.site.languages };
        pages = all_put_rows page_name FitsPageOf (map (put_over k.pages) puts) k.pages (all_over k.pages puts fit.each) fits.pages;
        in_order = in_order_put_rows page_name (map (put_over k.pages) puts) k.pages fits.in_order;
      })
      (record { owned = well.owned; few = few; pages = pages.each; given = pages.given; differ = pages.differ })
    where
      all_over : (orig : List KeptPage) (puts : List PagePut) → All (λ (p : PagePut). FitsPage p.page) puts → All FitsPageOf (map (put_over orig) puts)
      all_over orig [] all = All-nil FitsPageOf
      all_over orig (put ∷ puts) all =
          All-cons FitsPageOf _ _ (All-head (λ (p : PagePut). FitsPage p.page) put puts all) (all_over orig puts (All-tail (λ (p : PagePut). FitsPage p.page) put puts all))

  pub drop_sound : (site page : List ℕ) (k : KeptSite) → kept_site site t ≡ Some k → IsSound book (changed (DropPage site page) t)
  drop_sound site page k is =
      let fits = kept_fits site k is in
      let well = kept_sound site k is in
      let fewer = length_take page_name page k.pages in
      change_site site k (without_page page) (λ _. refl) is
      (record { site = fits.site; pages = all_take page_name FitsPageOf page k.pages fits.pages; in_order = in_order_take page_name page k.pages fits.in_order })
      (record {
        owned = well.owned;
        few = omega (arith, fewer, well.few);
        pages = all_take page_name (IsSoundPage book k.site.languages) page k.pages well.pages;
        given = all_take page_name (Given k.site.counter) page k.pages well.given;
        differ = pairs_take Differ page_name page k.pages well.differ;
      })

  -- a page is judged, whose outcomes under the judgements then are these
  pub judged_sound : (site page : List ℕ) (js : List Judgement) (o : Outcomes) (k : KeptSite) (p : KeptPage) → kept_site site t ≡ Some k → at page_name page k.pages ≡ Some p
      → o.rows ≡ outcomes book (with_langs p.page.tree k.site.languages) (p.judgements ++ js) → IsSound book (changed (AddJudgements site page js o) t)
  judged_sound site page js o k p is there told =
      let fits = kept_fits site k is in
      let well = kept_sound site k is in
      let judge = with_judgements js o in
      let same : length (with_row page_name page judge k.pages) ≡ length k.pages = length_with_row page_name page judge k.pages in
      change_site site k (with_judged page js o) (λ _. refl) is
      (record {
        site = fits.site;
        pages = all_with_row page_name FitsPageOf page judge k.pages (λ _ _ h. h) fits.pages;
        in_order = in_order_with_row page_name page judge (λ _ _. refl) k.pages fits.in_order;
      })
      (record {
        owned = well.owned;
        few = omega (arith, same, well.few);
        pages = all_with_found page_name (IsSoundPage book k.site.languages) page judge k.pages
            (λ q found old. let both : Some p ≡ Some q = sym there ∙ found in let e : p ≡ q = cc in
            record { well = old.well; told = subst (λ (q : KeptPage). o.rows ≡ outcomes book (with_langs q.page.tree k.site.languages) (q.judgements ++ js)) e told }) well.pages;
        given = all_with_row page_name (Given k.site.counter) page judge k.pages (λ _ _ h. h) well.given;
        differ = pairs_with_row Differ page_name page judge (λ _ _ h. h) (λ _ _ h. h) k.pages well.differ;
      })

  -- a site has a new list of languages, and its pages their outcomes under it
  pub relisted_sound : (site : List ℕ) (langs : List (List ℕ)) (k : KeptSite) → kept_site site t ≡ Some k → AreLangs langs
      → IsSound book (changed (PutLanguages site langs (all_relisted book langs k.site.languages k.pages)) t)
  relisted_sound site langs k is form =
      let fits = kept_fits site k is in
      let well = kept_sound site k is in
      let new = all_relisted book langs k.site.languages k.pages in
      let same : length (with_outcomes new k.pages) ≡ length k.pages = length_stays new k.pages in
      change_site site k (with_languages langs new) (λ _. refl) is
      (record {
        site = record { name = fits.site.name; counter = fits.site.counter; users = fits.site.users; in_order = fits.site.in_order; languages = form };
        pages = all_stay FitsPageOf (λ _ _ h. h) new k.pages fits.pages;
        in_order = order_stays new k.pages fits.in_order;
      })
      (record {
        owned = well.owned;
        few = omega (arith, same, well.few);
        pages = relisted_pages_sound book langs k.site.languages k.pages fits.in_order (pages_well book k.site.languages k.pages well.pages);
        given = all_stay (Given k.site.counter) (λ _ _ h. h) new k.pages well.given;
        differ = differ_stay new k.pages well.differ;
      })
