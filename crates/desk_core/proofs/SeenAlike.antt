-- Tables that give one state are alike in all but outcomes and the edition: in the names of sites, and in a site's heads, in its
-- languages and in the judgings of its pages.
use Rattle.std.proofs.Common.{◌≡◌, ℕ, ◌+◌, List, [], ◌∷◌, map, sum_by, Option, Some, None, option_map, refl, sym, ap, ◌∙◌}
use Rattle.std.specs.List.{All}
use Rattle.std.specs.Option.{option_map_or}
use Rattle.std.proofs.lemmas.List.Elements.{All-head, All-tail}
use Rattle.std.proofs.lemmas.List.Sums.{sum_by-cons}
use Rattle.rule_core.specs.Books.{Book}
use Rattle.judge_core.specs.Outcomes.{judgings}
use Rattle.named_rows.specs.ByName.{at}
use Rattle.keep_core.specs.declared.page.PageHead.{PageHead}
use Rattle.keep_core.specs.declared.tables.KeptPage.{KeptPage}
use Rattle.keep_core.specs.declared.tables.KeptSite.{KeptSite}
use Rattle.keep_core.specs.declared.tables.Tables.{Tables}
use Rattle.keep_core.specs.Tables.{site_name, page_name, kept_site, pages_in, languages_in, languages_of, sites_of, heads_of}
use Rattle.desk_core.specs.State.{PageState, SiteState, site_state, page_at, site_at}
use Rattle.desk_core.specs.Refreshing.{DifferInOutcomes, site_judgings, head_judgings, heads_judgings, site_judgings_of, sites_judgings}
use Rattle.desk_core.proofs.Views.{state_page, state_pages, page_seen, site_seen}

-- ---- the names of sites

abbrev state_names : List SiteState → List (List ℕ)
state_names sites = map (λ (s : SiteState). s.site.name) sites

names_seen : (sites : List KeptSite) → map site_name sites ≡ state_names (map site_state sites)
names_seen [] = refl
names_seen (k ∷ ks) = ap (λ (ns : List (List ℕ)). site_name k ∷ ns) (names_seen ks)

pub names_alike : (s t : Tables) → DifferInOutcomes s t → sites_of t ≡ sites_of s
names_alike s t same = names_seen t.sites ∙ ap state_names same ∙ sym (names_seen s.sites)

-- ---- a site

-- what is seen of a site in its state is alike
site_alike : {X : Type 0} (g : Option KeptSite → X) (f : Option SiteState → X) → ((o : Option KeptSite) → g o ≡ f (option_map site_state o))
    → (s t : Tables) (n : List ℕ) → DifferInOutcomes s t → g (kept_site n t) ≡ g (kept_site n s)
site_alike g f is s t n same =
    is (kept_site n t) ∙ ap f (sym (site_seen n t) ∙ ap (site_at n) same ∙ site_seen n s) ∙ sym (is (kept_site n s))

abbrev state_languages : Option SiteState → List (List ℕ)
state_languages o = option_map_or (λ (s : SiteState). s.site.languages) o []

languages_seen : (o : Option KeptSite) → languages_in o ≡ state_languages (option_map site_state o)
languages_seen None = refl
languages_seen (Some k) = refl

pub languages_alike : (s t : Tables) (n : List ℕ) → DifferInOutcomes s t → languages_of n t ≡ languages_of n s
languages_alike s t n same = site_alike languages_in state_languages languages_seen s t n same

abbrev page_heads : List KeptPage → List PageHead
page_heads pages = map (λ (p : KeptPage). p.page.head) pages

abbrev state_heads : Option SiteState → List PageHead
state_heads o = option_map_or (λ (s : SiteState). map (λ (p : PageState). p.page.head) s.pages) o []

pages_heads_seen : (langs : List (List ℕ)) (pages : List KeptPage) → page_heads pages ≡ map (λ (p : PageState). p.page.head) (state_pages langs pages)
pages_heads_seen langs [] = refl
pages_heads_seen langs (p ∷ ps) = ap (λ (hs : List PageHead). p.page.head ∷ hs) (pages_heads_seen langs ps)

heads_seen : (o : Option KeptSite) → page_heads (pages_in o) ≡ state_heads (option_map site_state o)
heads_seen None = refl
heads_seen (Some k) = pages_heads_seen k.site.languages k.pages

pub heads_alike : (s t : Tables) (n : List ℕ) → DifferInOutcomes s t → heads_of n t ≡ heads_of n s
heads_alike s t n same = site_alike (λ o. page_heads (pages_in o)) state_heads heads_seen s t n same

-- ---- judgings

-- sums of the same numbers
module _ {X Y : Type 0} (f : X → ℕ) (g : Y → ℕ) (m : X → Y) where
  abbrev IsSame : X → Type 0
  IsSame x = f x ≡ g (m x)

  pub same_sums : (xs : List X) → All IsSame xs → sum_by f xs ≡ sum_by g (map m xs)
  same_sums [] same = refl
  same_sums (x ∷ xs) same =
      sum_by-cons f x xs
      ∙ (ap (λ (n : ℕ). n + sum_by f xs) (All-head IsSame x xs same)
      ∙ (ap (λ (n : ℕ). g (m x) + n) (same_sums xs (All-tail IsSame x xs same)) ∙ sym (sum_by-cons g (m x) (map m xs))))

sums_alike : {X : Type 0} (f g : X → ℕ) (xs : List X) → ((x : X) → f x ≡ g x) → sum_by f xs ≡ sum_by g xs
sums_alike f g [] same = refl
sums_alike f g (x ∷ xs) same =
    sum_by-cons f x xs ∙ (ap (λ (n : ℕ). n + sum_by f xs) (same x) ∙ (ap (λ (n : ℕ). g x + n) (sums_alike f g xs same) ∙ sym (sum_by-cons g x xs)))

module _ (book : Book) where
  abbrev page_cost : KeptPage → ℕ
  page_cost p = judgings book p.page.tree

  abbrev state_cost : PageState → ℕ
  state_cost p = judgings book p.page.tree

  found_cost : (langs : List (List ℕ)) (o : Option KeptPage) → option_map_or page_cost o 0 ≡ option_map_or state_cost (option_map (state_page langs) o) 0
  found_cost langs None = refl
  found_cost langs (Some p) = refl

  abbrev head_cost : List ℕ → Option SiteState → ℕ
  head_cost page o = option_map_or (λ (s : SiteState). option_map_or state_cost (page_at page s.pages) 0) o 0

  head_cost_seen : (page : List ℕ) (o : Option KeptSite) → option_map_or page_cost (at page_name page (pages_in o)) 0 ≡ head_cost page (option_map site_state o)
  head_cost_seen page None = refl
  head_cost_seen page (Some k) =
      found_cost k.site.languages (at page_name page k.pages)
      ∙ ap (λ (o : Option PageState). option_map_or state_cost o 0) (sym (page_seen k.site.languages page k.pages))

  head_cost_alike : (s t : Tables) (site : List ℕ) (head : PageHead) → DifferInOutcomes s t → head_judgings book site t head ≡ head_judgings book site s head
  head_cost_alike s t site head same =
      site_alike (λ o. option_map_or page_cost (at page_name head.page (pages_in o)) 0) (head_cost head.page) (head_cost_seen head.page) s t site same

  pub heads_cost_alike : (s t : Tables) (site : List ℕ) (heads : List PageHead) → DifferInOutcomes s t → heads_judgings book site heads t ≡ heads_judgings book site heads s
  heads_cost_alike s t site heads same =
      sums_alike (head_judgings book site t) (head_judgings book site s) heads (λ h. head_cost_alike s t site h same)

  pages_cost_seen : (langs : List (List ℕ)) (pages : List KeptPage) → sum_by page_cost pages ≡ sum_by state_cost (state_pages langs pages)
  pages_cost_seen langs pages = same_sums page_cost state_cost (state_page langs) pages (λ i d within. refl)

  abbrev site_cost : Option SiteState → ℕ
  site_cost o = option_map_or (λ (s : SiteState). sum_by state_cost s.pages) o 0

  site_cost_seen : (o : Option KeptSite) → option_map_or (site_judgings book) o 0 ≡ site_cost (option_map site_state o)
  site_cost_seen None = refl
  site_cost_seen (Some k) = pages_cost_seen k.site.languages k.pages

  pub sites_cost_alike : (s t : Tables) (names : List (List ℕ)) → DifferInOutcomes s t → sites_judgings book names t ≡ sites_judgings book names s
  sites_cost_alike s t names same =
      sums_alike (λ n. site_judgings_of book n t) (λ n. site_judgings_of book n s) names (λ n.
      site_alike (λ o. option_map_or (site_judgings book) o 0) site_cost site_cost_seen s t n same)
