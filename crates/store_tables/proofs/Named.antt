-- Rows that read have the names of their rows.
use Rattle.std.proofs.Common.{◌≡◌, ℕ, List, Bool, true, false, cond, Some, None, refl, sym, ap, ◌∙◌}
use Rattle.sqlite_value.specs.declared.value.Value.{Value}
use Rattle.sqlite_value.specs.Order.{Row, column}
use Rattle.keep_core.specs.declared.limits.TheConstants.{MOST_REVISION}
use Rattle.keep_core.specs.declared.site.Site.{Site}
use Rattle.keep_core.specs.declared.page.PageHead.{PageHead}
use Rattle.keep_core.specs.declared.page.Page.{Page}
use Rattle.keep_core.specs.declared.tables.KeptPage.{KeptPage}
use Rattle.keep_core.specs.declared.tables.KeptSite.{KeptSite}
use Rattle.keep_core.specs.Names.{is_name}
use Rattle.keep_core.specs.Tables.{site_name, page_name}
use Rattle.sql_rows.specs.Tables.{name_at}
use Rattle.store_tables.specs.Reading.{◌>>=◌, read_each}
use Rattle.store_tables.specs.Cells.{number_in, text_in, named, tree_in}
use Rattle.store_tables.specs.Members.{member_from}
use Rattle.store_tables.specs.Languages.{languages_shown}
use Rattle.store_tables.specs.Sites.{site_from}
use Rattle.store_tables.specs.Pages.{head_from, page_from}
use Rattle.store_tables.specs.Judgements.{judgements_shown}
use Rattle.store_tables.specs.Outcomes.{outcomes_shown}
use Rattle.store_tables.specs.Told.{OfSite, read_page, read_site}
use Rattle.store_tables.proofs.Steps.{some_same, none_some, both_read}

pub named_same : (text name : List ℕ) → named text ≡ Some name → name ≡ text
named_same text name is = by (is_name text) is
  where
    by : (b : Bool) → cond b (Some text) None ≡ Some name → name ≡ text
    by true is = sym (some_same text name is)
    by false is = absurd (none_some name is)

pub site_from_named : (name : List ℕ) (counter : Value) (members languages : List Row) (x : Site) → site_from name counter members languages ≡ Some x → x.name ≡ name
unfolding site_from
site_from_named name counter members languages x is =
    let a = both_read {B = Site} (named name) (λ n. number_in MOST_REVISION counter >>= (λ k. read_each member_from members >>= (λ ms. languages_shown languages >>= (λ ls. Some (record { name = n; counter = k; members = ms; languages = ls }))))) x is in
    let b = both_read {B = Site} (number_in MOST_REVISION counter) (λ k. read_each member_from members >>= (λ ms. languages_shown languages >>= (λ ls. Some (record { name = a.0; counter = k; members = ms; languages = ls })))) x a.2 in
    let c = both_read {B = Site} (read_each member_from members) (λ ms. languages_shown languages >>= (λ ls. Some (record { name = a.0; counter = b.0; members = ms; languages = ls }))) x b.2 in
    let d = both_read {B = Site} (languages_shown languages) (λ ls. Some (record { name = a.0; counter = b.0; members = c.0; languages = ls })) x c.2 in
    ap (λ (s : Site). s.name) (sym (some_same {A = Site} (record { name = a.0; counter = b.0; members = c.0; languages = d.0 }) x d.2)) ∙ named_same name a.0 a.1

pub head_from_named : (page : List ℕ) (rev hand : Value) (x : PageHead) → head_from page rev hand ≡ Some x → x.page ≡ page
unfolding head_from
head_from_named page rev hand x is =
    let a = both_read {B = PageHead} (named page) (λ n. number_in MOST_REVISION rev >>= (λ k. text_in hand >>= (λ h. Some (record { page = n; rev = k; hand = h })))) x is in
    let b = both_read {B = PageHead} (number_in MOST_REVISION rev) (λ k. text_in hand >>= (λ h. Some (record { page = a.0; rev = k; hand = h }))) x a.2 in
    let c = both_read {B = PageHead} (text_in hand) (λ h. Some (record { page = a.0; rev = b.0; hand = h })) x b.2 in
    ap (λ (s : PageHead). s.page) (sym (some_same {A = PageHead} (record { page = a.0; rev = b.0; hand = c.0 }) x c.2)) ∙ named_same page a.0 a.1

-- a page reads where its head does, and its tree
pub page_parts : (page : List ℕ) (rev hand snapshot : Value) (x : Page) → page_from page rev hand snapshot ≡ Some x → (head_from page rev hand ≡ Some x.head) × (tree_in snapshot ≡ Some x.tree)
unfolding page_from
page_parts page rev hand snapshot x is =
    let a = both_read {B = Page} (head_from page rev hand) (λ h. tree_in snapshot >>= (λ t. Some (record { head = h; tree = t }))) x is in
    let b = both_read {B = Page} (tree_in snapshot) (λ t. Some (record { head = a.0; tree = t })) x a.2 in
    let same : record { head = a.0; tree = b.0 } ≡ x = some_same {A = Page} (record { head = a.0; tree = b.0 }) x b.2 in
    (a.1 ∙ ap (λ (p : Page). Some p.head) same, b.1 ∙ ap (λ (p : Page). Some p.tree) same)

-- the parts that a page is read from, and those of a site
pub record PageReads (o : OfSite) (r : Row) (p : KeptPage) : Type 0 where
  pub page : page_from (name_at 1 r) (column r 2) (column r 3) (column r 4) ≡ Some p.page
  pub judgements : judgements_shown (o.judgements (name_at 1 r)) ≡ Some p.judgements
  pub outcomes : outcomes_shown (o.outcomes (name_at 1 r)) ≡ Some p.outcomes

pub record SiteReads (o : OfSite) (r : Row) (s : KeptSite) : Type 0 where
  pub site : site_from (name_at 0 r) (column r 1) o.members o.languages ≡ Some s.site
  pub pages : read_each (read_page o) o.pages ≡ Some s.pages

pub page_reads : (o : OfSite) (r : Row) (p : KeptPage) → read_page o r ≡ Some p → PageReads o r p
unfolding read_page
page_reads o r p is =
    let a = both_read {B = KeptPage} (page_from (name_at 1 r) (column r 2) (column r 3) (column r 4)) (λ page. judgements_shown (o.judgements (name_at 1 r)) >>= (λ js. outcomes_shown (o.outcomes (name_at 1 r)) >>= (λ os. Some (record { page = page; judgements = js; outcomes = os })))) p is in
    let b = both_read {B = KeptPage} (judgements_shown (o.judgements (name_at 1 r))) (λ js. outcomes_shown (o.outcomes (name_at 1 r)) >>= (λ os. Some (record { page = a.0; judgements = js; outcomes = os }))) p a.2 in
    let c = both_read {B = KeptPage} (outcomes_shown (o.outcomes (name_at 1 r))) (λ os. Some (record { page = a.0; judgements = b.0; outcomes = os })) p b.2 in
    let same : record { page = a.0; judgements = b.0; outcomes = c.0 } ≡ p = some_same {A = KeptPage} (record { page = a.0; judgements = b.0; outcomes = c.0 }) p c.2 in
    record {
      page = a.1 ∙ ap (λ (k : KeptPage). Some k.page) same;
      judgements = b.1 ∙ ap (λ (k : KeptPage). Some k.judgements) same;
      outcomes = c.1 ∙ ap (λ (k : KeptPage). Some k.outcomes) same;
    }

pub page_read : (o : OfSite) (r : Row) (p : KeptPage) → PageReads o r p → read_page o r ≡ Some p
unfolding read_page
page_read o r p reads = rw (reads.page, reads.judgements, reads.outcomes) refl

pub site_reads : (o : OfSite) (r : Row) (s : KeptSite) → read_site o r ≡ Some s → SiteReads o r s
unfolding read_site
site_reads o r s is =
    let a = both_read {B = KeptSite} (site_from (name_at 0 r) (column r 1) o.members o.languages) (λ site. read_each (read_page o) o.pages >>= (λ pages. Some (record { site = site; pages = pages }))) s is in
    let b = both_read {B = KeptSite} (read_each (read_page o) o.pages) (λ pages. Some (record { site = a.0; pages = pages })) s a.2 in
    let same : record { site = a.0; pages = b.0 } ≡ s = some_same {A = KeptSite} (record { site = a.0; pages = b.0 }) s b.2 in
    record { site = a.1 ∙ ap (λ (k : KeptSite). Some k.site) same; pages = b.1 ∙ ap (λ (k : KeptSite). Some k.pages) same }

pub site_read : (o : OfSite) (r : Row) (s : KeptSite) → SiteReads o r s → read_site o r ≡ Some s
unfolding read_site
site_read o r s reads = rw (reads.site, reads.pages) refl

pub site_named : (o : OfSite) (r : Row) (s : KeptSite) → read_site o r ≡ Some s → site_name s ≡ name_at 0 r
site_named o r s is = site_from_named (name_at 0 r) (column r 1) o.members o.languages s.site (site_reads o r s is).site

pub page_named : (o : OfSite) (r : Row) (p : KeptPage) → read_page o r ≡ Some p → page_name p ≡ name_at 1 r
page_named o r p is = head_from_named (name_at 1 r) (column r 2) (column r 3) p.page.head (page_parts (name_at 1 r) (column r 2) (column r 3) (column r 4) p.page (page_reads o r p is).page).0

-- the name that is read is one of the form
pub site_from_reads : (name : List ℕ) (counter : Value) (members languages : List Row) (x : Site) → site_from name counter members languages ≡ Some x → named name ≡ Some x.name
unfolding site_from
site_from_reads name counter members languages x is =
    let a = both_read {B = Site} (named name) (λ n. number_in MOST_REVISION counter >>= (λ k. read_each member_from members >>= (λ ms. languages_shown languages >>= (λ ls. Some (record { name = n; counter = k; members = ms; languages = ls }))))) x is in
    let same : a.0 ≡ x.name = named_same name a.0 a.1 ∙ sym (site_from_named name counter members languages x is) in
    a.1 ∙ ap (λ n. Some n) same

pub site_row_named : (o : OfSite) (r : Row) (s : KeptSite) → read_site o r ≡ Some s → named (name_at 0 r) ≡ Some (site_name s)
site_row_named o r s is = site_from_reads (name_at 0 r) (column r 1) o.members o.languages s.site (site_reads o r s is).site
