-- Where the tables are of rows that fit, each page of a site is found by its head.
use Rattle.std.proofs.Common.{◌≡◌, ℕ, List, [], ◌∷◌, map, Option, Some, None, option_map, IfSome, refl, ap, ◌∙◌}
use Rattle.std.specs.List.{All, cons_option}
use Rattle.std.proofs.lemmas.List.Elements.{All-head, All-tail}
use Rattle.named_rows.specs.ByName.{IsInOrder}
use Rattle.named_rows.proofs.Lookups.{all_at}
use Rattle.named_rows.proofs.Order.{in_order_none, at_each}
use Rattle.keep_core.specs.declared.tables.KeptPage.{KeptPage}
use Rattle.keep_core.specs.declared.tables.KeptSite.{KeptSite}
use Rattle.keep_core.specs.declared.tables.Tables.{Tables}
use Rattle.keep_core.specs.Tables.{site_name, page_name, kept_site, kept_page, pages_in, pages_of}
use Rattle.keep_core.specs.Fits.{FitsKept, FitTables}
use Rattle.kept_pages.specs.KeptPages.{shown, pages_at, site_pages}

abbrev pub IsFound : List ℕ → Tables → KeptPage → Type 0
IsFound site t p = kept_page site (page_name p) t ≡ Some p

order_in : (o : Option KeptSite) → IfSome o FitsKept → IsInOrder page_name (pages_in o)
order_in None fits = in_order_none page_name
order_in (Some s) fits = fits.in_order

pub each_found : (site : List ℕ) (t : Tables) → FitTables t → All (IsFound site t) (pages_of site t)
each_found site t fit = at_each page_name (pages_of site t) (order_in (kept_site site t) (all_at site_name FitsKept site t.sites fit.each))

found_among : (site : List ℕ) (t : Tables) (rows : List KeptPage) → All (IsFound site t) rows
    → pages_at site (map (λ p. p.page.head) rows) t ≡ map shown rows
found_among site t [] all = refl
found_among site t (p ∷ rows) all =
    ap (λ o. cons_option (option_map shown o) (pages_at site (map (λ q. q.page.head) rows) t)) (All-head (IsFound site t) p rows all)
    ∙ ap (λ pages. shown p ∷ pages) (found_among site t rows (All-tail (IsFound site t) p rows all))

pub all_found : (site : List ℕ) (t : Tables) → FitTables t → site_pages site t ≡ map shown (pages_of site t)
all_found site t fit = found_among site t (pages_of site t) (each_found site t fit)
