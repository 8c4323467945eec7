-- A site that is put with its members.
use Rattle.std.proofs.Common.{◌≡◌, ℕ, pos, List, [], ◌∷◌, map, Bool, true, false, cond, nat_le, Option, Some, None, option_map, is_some, IfSome, refl, sym, ap, ap₂, ◌∙◌}
use Rattle.std.specs.Option.{option_to_list}
use Rattle.sqlite_value.specs.declared.value.Value.{Value}
use Rattle.sqlite_value.specs.declared.value.Value.TheVariants.{Int}
use Rattle.sqlite_value.specs.Order.{Row, column}
use Rattle.sqlite_rules.specs.Lists.{Has}
use Rattle.named_rows.specs.ByName.{at, put_row, put_rows}
use Rattle.named_rows.proofs.Lookups.{at_named, at_put, at_put_other}
use Rattle.named_rows.proofs.Order.{in_order_put}
use Rattle.named_rows.proofs.Views.{put_rows_map}
use Rattle.sql_rows.specs.Tables.{name_at, rows_of}
use Rattle.sql_rows.specs.Changes.{Changes}
use Rattle.keep_core.specs.declared.limits.TheConstants.{MOST_REVISION}
use Rattle.keep_core.specs.declared.member.Member.{Member}
use Rattle.keep_core.specs.declared.member.MemberRole.{MemberRole}
use Rattle.keep_core.specs.declared.member.MemberRole.TheVariants.{Owner, Editor, Judge, Reader}
use Rattle.keep_core.specs.declared.site.Site.{Site}
use Rattle.keep_core.specs.declared.tables.KeptPage.{KeptPage}
use Rattle.keep_core.specs.declared.tables.KeptSite.{KeptSite}
use Rattle.keep_core.specs.declared.change.Change.TheVariants.{PutSite}
use Rattle.keep_core.specs.Fits.{FitsSite}
use Rattle.keep_core.specs.Tables.{site_name, pages_in}
use Rattle.store_tables.specs.Told.{Sites}
use Rattle.keep_core.specs.Changes.{changed_sites, put_site}
use Rattle.store_statements.specs.Stored.{Stored, sites_in, site_at, members_at, languages_at, pages_of}
use Rattle.store_tables.specs.Reading.{◌>>=◌, read_each, read_found}
use Rattle.store_tables.specs.Cells.{number_in, named, role_in, role_of, role_number}
use Rattle.store_tables.specs.Members.{member_from, member_cells}
use Rattle.store_tables.specs.Languages.{languages_shown, language_rows}
use Rattle.store_tables.proofs.LanguageRows.{shown_language, languages_back}
use Rattle.store_tables.specs.Sites.{site_from, site_shown, site_cells}
use Rattle.store_tables.specs.Told.{OfSite, of_site, read_page, read_site, is_site, sites_told}
use Rattle.store_tables.specs.Batches.{PutsWhole, ReadsSite}
use Rattle.store_tables.proofs.Steps.{some_same, none_some, some_of, both_read, found_reads}
use Rattle.store_tables.proofs.Each.{first_reads, ChangesAt}
use Rattle.store_tables.proofs.Named.{named_same, site_from_named, SiteReads, site_reads, site_read}
use Rattle.store_tables.proofs.Groups.{none_had, led_by_site}
use Rattle.store_tables.proofs.Appending.{in_order_same}
use Rattle.store_tables.proofs.Telling.{Houses, TellsSite, tables_turned}
use Rattle.store_tables.proofs.Elsewhere.{StaysElsewhere, stays_through, tells_elsewhere, put_site_by, members_by, languages_by}

-- ---- what is written is read back

pub number_back : (most n m : ℕ) → number_in most (Int (pos n)) ≡ Some m → m ≡ n
number_back most n m is = by (nat_le n most) is
  where
    by : (b : Bool) → cond b (Some n) None ≡ Some m → m ≡ n
    by true is = sym (some_same n m is)
    by false is = absurd (none_some m is)

pub role_back : (role : MemberRole) → role_of (role_number role) ≡ Some role
role_back Owner = refl
role_back Editor = refl
role_back Judge = refl
role_back Reader = refl

abbrev pub shown_member : Row → Row
shown_member r = column r 1 ∷ column r 2 ∷ []

member_back : (site : List ℕ) (m n : Member) → member_from (shown_member (member_cells site m)) ≡ Some n → n ≡ m
unfolding member_from
member_back site m n is =
    let a = both_read {B = Member} (named m.user) (λ user. role_in (Int (pos (role_number m.role))) >>= (λ role. Some (record { user = user; role = role }))) n is in
    let b = both_read {B = Member} (role_in (Int (pos (role_number m.role)))) (λ role. Some (record { user = a.0; role = role })) n a.2 in
    let role : m.role ≡ b.0 = some_same m.role b.0 (sym (role_back m.role) ∙ b.1) in
    sym (some_same {A = Member} (record { user = a.0; role = b.0 }) n b.2) ∙ ap₂ (λ (u : List ℕ) (r : MemberRole). record { user = u; role = r }) (named_same m.user a.0 a.1) (sym role)

members_back : (site : List ℕ) (ms ns : List Member) → read_each member_from (map shown_member (map (member_cells site) ms)) ≡ Some ns → ns ≡ ms
members_back site [] ns is = sym (some_same [] ns is)
members_back site (m ∷ ms) ns is =
    let f = first_reads member_from (shown_member (member_cells site m)) (map shown_member (map (member_cells site) ms)) ns is in
    f.4 ∙ ap₂ (λ x xs. x ∷ xs) (member_back site m f.0 f.2) (members_back site ms f.1 f.3)

-- the parts that a site is read from
pub site_parts : (name : List ℕ) (counter : Value) (members languages : List Row) (x : Site) → site_from name counter members languages ≡ Some x
    → (number_in MOST_REVISION counter ≡ Some x.counter) × (read_each member_from members ≡ Some x.members) × (languages_shown languages ≡ Some x.languages)
unfolding site_from
site_parts name counter members languages x is =
    let a = both_read {B = Site} (named name) (λ n. number_in MOST_REVISION counter >>= (λ k. read_each member_from members >>= (λ ms. languages_shown languages >>= (λ ls. Some (record { name = n; counter = k; members = ms; languages = ls }))))) x is in
    let b = both_read {B = Site} (number_in MOST_REVISION counter) (λ k. read_each member_from members >>= (λ ms. languages_shown languages >>= (λ ls. Some (record { name = a.0; counter = k; members = ms; languages = ls })))) x a.2 in
    let c = both_read {B = Site} (read_each member_from members) (λ ms. languages_shown languages >>= (λ ls. Some (record { name = a.0; counter = b.0; members = ms; languages = ls }))) x b.2 in
    let d = both_read {B = Site} (languages_shown languages) (λ ls. Some (record { name = a.0; counter = b.0; members = c.0; languages = ls })) x c.2 in
    let same : record { name = a.0; counter = b.0; members = c.0; languages = d.0 } ≡ x = some_same {A = Site} (record { name = a.0; counter = b.0; members = c.0; languages = d.0 }) x d.2 in
    (b.1 ∙ ap (λ (s : Site). Some s.counter) same, c.1 ∙ ap (λ (s : Site). Some s.members) same, d.1 ∙ ap (λ (s : Site). Some s.languages) same)

-- a page reads by the judgements and outcomes of its site
pub pages_by_these : (o : OfSite) (members languages : List Row) (rows : List Row) → read_each (read_page (record o { members = members; languages = languages })) rows ≡ read_each (read_page o) rows
unfolding read_page
pages_by_these o members languages rows = refl

map_none_from : {A B : Type 0} (f : A → B) (xs : List A) → map f xs ≡ [] → xs ≡ []
map_none_from f [] none = refl
map_none_from f (x ∷ xs) none = absurd cc

module _ (site : Site) where
  abbrev pub change : Option KeptSite → Option KeptSite
  change y = Some (record { site = site; pages = pages_in y })

  pub changes_one : ChangesAt (name_at 0) site_name site.name change (put_site site)
  changes_one = record {
    in_order = λ ts up. in_order_put site_name (record { site = site; pages = pages_in (at site_name site.name ts) }) ts up;
    there = λ ts up. at_put site_name (record { site = site; pages = pages_in (at site_name site.name ts) }) ts;
    elsewhere = λ ts m other up. at_put_other site_name m (record { site = site; pages = pages_in (at site_name site.name ts) }) ts other;
  }

  module _ (old : Stored) (ss ms ls : List Row) (sites : Changes [] (put_row (name_at 0) (site_cells site)) old.sites ss)
      (members : Changes (site.name ∷ []) (λ _. put_rows (name_at 1) (map (member_cells site.name) site.members) []) old.members ms)
      (languages : Changes (site.name ∷ []) (λ _. language_rows site.name site.languages) old.languages ls) (fits : FitsSite site) (whole : ReadsSite site.name old) where
    abbrev made : Stored
    made = record old { sites = ss; members = ms; languages = ls }

    abbrev before : OfSite
    before = of_site site.name old

    abbrev after : OfSite
    after = of_site site.name made

    -- ---- the site as it is read afterwards

    pub row_there : at (name_at 0) site.name (sites_in made) ≡ Some (site_cells site)
    row_there = ap (at (name_at 0) site.name) sites.there ∙ at_put (name_at 0) (site_cells site) (sites_in old)

    pub members_there : rows_of (site.name ∷ []) ms ≡ map (member_cells site.name) site.members
    members_there =
        members.there ∙ put_rows_map (λ (m : Member). m.user) (name_at 1) (member_cells site.name) (λ _. refl) site.members []
        ∙ ap (map (member_cells site.name)) (in_order_same (λ (m : Member). m.user) site.members fits.in_order)

    pub languages_there : after.languages ≡ map shown_language (language_rows site.name site.languages)
    languages_there = ap (map shown_language) languages.there

    site_is : (x : Site) → site_from site.name (Int (pos site.counter)) after.members after.languages ≡ Some x → x ≡ site
    site_is x is =
        let parts = site_parts site.name (Int (pos site.counter)) after.members after.languages x is in
        let name = site_from_named site.name (Int (pos site.counter)) after.members after.languages x is in
        let counter = number_back MOST_REVISION site.counter x.counter parts.0 in
        let others = members_back site.name site.members x.members (ap (λ (rs : List Row). read_each member_from (map shown_member rs)) (sym members_there) ∙ parts.1) in
        let tongues = languages_back site.name site.languages x.languages (sym (ap languages_shown languages_there) ∙ parts.2) in
        λ i. record { name = name i; counter = counter i; members = others i; languages = tongues i }

    -- ---- what was there

    pub no_pages : is_site old site.name ≡ false → pages_of site.name old ≡ []
    no_pages strange = map_none_from (λ r. column r 1 ∷ column r 2 ∷ column r 3 ∷ []) (pages_of site.name old) (whole.pages strange)

    kept_or : (shown : Row → Row) (rows : List Row) → (is_site old site.name ≡ false → map shown (rows_of (site.name ∷ []) rows) ≡ []) → (r : Row) → Has rows r → name_at 0 r ≡ site.name → is_site old site.name ≡ true
    kept_or shown rows none r there mine = by (is_site old site.name) refl
      where
        by : (b : Bool) → is_site old site.name ≡ b → is_site old site.name ≡ true
        by true is = is
        by false is = absurd (none_had shown (site.name ∷ []) rows (none is) r there (led_by_site site.name r mine))

    houses : Houses made site.name → Houses old site.name
    houses told = record {
      members = kept_or shown_member old.members whole.members;
      languages = kept_or shown_language old.languages whole.languages;
      pages = kept_or (λ r. column r 1 ∷ column r 2 ∷ column r 3 ∷ []) old.pages whole.pages;
      judgements = told.judgements;
      outcomes = told.outcomes;
    }

    site_back : (x : Option KeptSite) → TellsSite made site.name x → (y : Option KeptSite) × TellsSite old site.name y × (x ≡ change y)
    site_back x told = by (at (name_at 0) site.name (sites_in old)) refl (at_named (name_at 0) site.name (sites_in old))
      where
        found : (k : KeptSite) × (read_site after (site_cells site) ≡ Some k) × (x ≡ Some k)
        found = found_reads (read_site after (site_cells site)) x (sym (ap (read_found (read_site after)) row_there) ∙ told.reads)

        parts : SiteReads after (site_cells site) found.0
        parts = site_reads after (site_cells site) found.0 found.1

        pages : read_each (read_page before) (pages_of site.name old) ≡ Some found.0.pages
        pages = sym (pages_by_these before after.members after.languages (pages_of site.name old)) ∙ parts.pages

        x_is : x ≡ Some (record { site = site; pages = found.0.pages })
        x_is = found.2 ∙ ap (λ (s : Site). Some (record found.0 { site = s })) (site_is found.0.site parts.site)

        by : (o : Option Row) → at (name_at 0) site.name (sites_in old) ≡ o → IfSome o (λ r. name_at 0 r ≡ site.name) → (y : Option KeptSite) × TellsSite old site.name y × (x ≡ change y)
        by None none named =
            let empty : [] ≡ found.0.pages = some_same [] found.0.pages (sym (ap (read_each (read_page before)) (no_pages (ap is_some none))) ∙ pages) in
            (None, record { reads = ap (read_found (read_site before)) none; houses = houses told.houses }, x_is ∙ ap (λ (l : List KeptPage). Some (record found.0 { site = site; pages = l })) (sym empty))
        by (Some r) there named =
            let shown = some_of (site_shown site.name (site_at site.name old) (members_at site.name old) (languages_at site.name old)) whole.reads in
            let row : option_map Some (site_from site.name (column r 1) before.members before.languages) ≡ Some shown.0 =
            sym (ap (λ (o : Option Row). site_shown site.name (option_to_list (option_map (λ r. column r 1 ∷ []) o)) before.members before.languages) there) ∙ shown.1 in
            let was = found_reads (site_from site.name (column r 1) before.members before.languages) shown.0 row in
            let k : KeptSite = record { site = was.0; pages = found.0.pages } in (
              Some k,
              record {
                reads = ap (read_found (read_site before)) there ∙ ap (option_map Some) (site_read before r k (record { site = ap (λ n. site_from n (column r 1) before.members before.languages) named ∙ was.1; pages = pages }));
                houses = houses told.houses;
              },
              x_is,
            )

    elsewhere : StaysElsewhere site.name old made
    elsewhere =
        let one = record old { sites = ss } in
        stays_through site.name old one made (put_site_by site.name old (site_cells site) ss refl sites)
        (let two = record old { sites = ss; members = ms } in
        stays_through site.name one two made (members_by site.name one (λ _. put_rows (name_at 1) (map (member_cells site.name) site.members) []) ms members)
        (languages_by site.name two (λ _. language_rows site.name site.languages) ls languages))

    made_told : (t : Sites) → sites_told made ≡ Some t → (ts : Sites) × (sites_told old ≡ Some ts) × (t ≡ changed_sites (PutSite site) ts)
    made_told t is = tables_turned site.name change (put_site site) old made changes_one site_back (tells_elsewhere site.name old made elsewhere) t is

  -- where rows tell tables after a site is put over one that read, they told before what that changes to these
  pub put_told : (old new : Stored) → PutsWhole site old new → FitsSite site → ReadsSite site.name old → (t : Sites) → sites_told new ≡ Some t
      → (ts : Sites) × (sites_told old ≡ Some ts) × (t ≡ changed_sites (PutSite site) ts)
  put_told old new puts fits whole t is = made_told old new.sites new.members new.languages puts.sites puts.members puts.languages fits whole t (sym (ap sites_told puts.same) ∙ is)
