-- Which `meta` refreshes a page is told by what each has of its own.
use Rattle.std.proofs.Common.{◌≡◌, ◌&&◌, ℕ, List, [], ◌∷◌, ◌++◌, map, filter, codes, Bool, true, false, cond, if◌then◌else◌, Option, Some, None, option_map, option_and_then, refl, sym, ◌∙◌, ap}
use Rattle.std.specs.Cmp.{first_so}
use Rattle.std.specs.List.{AllByRecursion, find}
use Rattle.std.specs.Option.{is_some, option_map_or}
use Rattle.snap_tree.specs.declared.row.NodeId.{NodeId}
use Rattle.snap_tree.specs.declared.row.Row.{Row}
use Rattle.snap_tree.specs.Lookups.{tagged}
use Rattle.snap_tree.specs.Rows.{is_html}
use Rattle.snap_tree.specs.Trees.{Trees, empty, tree, rows_of}
use Rattle.acc_tree.specs.declared.above.Above.{Above}
use Rattle.acc_tree.specs.declared.attributes.Attribute.TheVariants as attribute
use Rattle.acc_tree.specs.Seen.{seen, attr, is_word_at}
use Rattle.acc_tree.specs.Sights.{Sight, sight_of}
use Rattle.rule_core.specs.declared.info.Class.TheVariants.{Metas}
use Rattle.rule_core.specs.declared.finding.Finding.{Finding}
use Rattle.rule_core.specs.declared.verdict.Verdict.{Verdict}
use Rattle.page_keys.specs.Keys.{Own, own, own_at, tagged_key}
use Rattle.page_keys.specs.Same.{same, all_same}
use Rattle.page_keys.specs.Nodes.{self_keys}
use Rattle.page_keys.specs.Classes.{is_meta, metas, metas_keys}
use Rattle.page_keys.specs.Laws.{LooksAt, itself, alone, meta_owns}
use Rattle.page_keys.specs.Standing.{spot_with, Stand, IsPage}
use Rattle.page_keys.proofs.Tests.{agree}
use Rattle.page_keys.proofs.Agreeing.{parts, spot_sight}
use Rattle.page_keys.proofs.Again.{said_same}
use Rattle.page_keys.proofs.Pages.{page_seen}
use Rattle.page_keys.proofs.Stands.{all_stand}
use Rattle.rule_core.specs.Reach.{class_keys}
use Rattle.rule_sights.specs.Telling.{Tells}
use Rattle.rule_sights.proofs.Told.{alone_told, metas_told, both_told}
use Rattle.rules_page.specs.Refresh.{refreshes, first_refresh, is_number, refresh_time, refresh_verdict, seconds, time_verdict}
use Rattle.rules_page.proofs.FirstMeta.{metas_at, time_of, refreshes_by, first_of, said_of_first}

is_meta_row : Row → Bool
is_meta_row = is_html (codes "meta")

-- ---- which elements are metas, a `meta` looks at

metas_look : LooksAt metas_at metas_keys
metas_look old new n wo wn k = by_test (is_meta (seen old) n) refl
  where
    both : (all_same (seen old) (seen new) (self_keys (seen old) n) ≡ true) × (all_same (seen old) (seen new) (if is_meta (seen old) n then metas (seen old) else []) ≡ true)
    both = parts (seen old) (seen new) (self_keys (seen old) n) (if is_meta (seen old) n then metas (seen old) else []) k

    now : is_meta (seen old) n ≡ is_meta (seen new) n
    now = said_same (λ (above : Above) row. is_html (codes "meta") row) false (seen old) (seen new) (page_seen old wo) (page_seen new wn) n both.0

    by_test : (b : Bool) → is_meta (seen old) n ≡ b → metas_at (seen old) n ≡ metas_at (seen new) n
    by_test false e =
        ap (λ b. if b then tagged (seen old) (codes "meta") else []) e ∙ sym (ap (λ b. if b then tagged (seen new) (codes "meta") else []) (sym now ∙ e))
    by_test true e =
        let here : all_same (seen old) (seen new) (metas (seen old)) ≡ true = ap (λ b. all_same (seen old) (seen new) (if b then metas (seen old) else [])) (sym e) ∙ both.1 in
        let which : tagged (seen old) (codes "meta") ≡ tagged (seen new) (codes "meta") =
        agree (seen old) (seen new) (tagged_key (codes "meta")) (first_so (same (seen old) (seen new) (tagged_key (codes "meta"))) _ here) in
        ap (λ b. if b then tagged (seen old) (codes "meta") else []) e ∙ which ∙ sym (ap (λ b. if b then tagged (seen new) (codes "meta") else []) (sym now ∙ e))

which_told : Tells Metas metas_at
unfolding class_keys
which_told = metas_look

-- a node by itself, which elements are metas, and what each has of its own
abbrev owns_tell : Trees → NodeId → List NodeId × List (Option Own)
owns_tell t n = (metas_at t n, meta_owns t n)

abbrev pub metas_tell : Trees → NodeId → (Option (Row × Above)) × (List NodeId × List (Option Own))
metas_tell t n = (alone t n, (metas_at t n, meta_owns t n))

pub all_told : Tells Metas metas_tell
all_told = both_told Metas alone owns_tell (alone_told Metas) (both_told Metas metas_at meta_owns which_told metas_told)

-- ---- the first that refreshes the page

-- a row has on the page what it has of its own
abbrev HasOwn : Trees → Row → Type 0
HasOwn page row = own_at page row.id ≡ Some (own row)

all_beside : {A : Type 0} (P : A → Type 0) (xs ys : List A) → AllByRecursion P xs → AllByRecursion P ys → AllByRecursion P (xs ++ ys)
all_beside P [] ys h k = k
all_beside P (x ∷ xs) ys h k = (h.0, all_beside P xs ys h.1 k)

owns_in : (page : Trees) (above : List Row) (part : Trees) → Stand page above part → AllByRecursion (HasOwn page) (rows_of part)
owns_in page above empty at = tt
owns_in page above (tree row kids after) at = (
  ap (option_map (λ (s : Sight). own s.row)) (spot_sight page row.id (spot_with row kids above) at.0),
  all_beside (HasOwn page) (rows_of kids) (rows_of after) (owns_in page (row ∷ above) kids at.1.0) (owns_in page above after at.1.1),
)

abbrev numbers_of : List Row → List NodeId
numbers_of rows = map (λ (r : Row). r.id) (filter is_meta_row rows)

-- a row refreshes the page where it is a `meta` that does so by what it has of its own
refreshes_is : (row : Row) (b : Bool) → is_meta_row row ≡ b → refreshes row ≡ (b && is_some (time_of (own row)))
unfolding is_meta_row
refreshes_is row true e =
    ap (λ b. is_some (if b && is_word_at attribute.HttpEquiv (codes "refresh") row then option_and_then seconds (attr attribute.Content row) else None)) e
refreshes_is row false e =
    ap (λ b. is_some (if b && is_word_at attribute.HttpEquiv (codes "refresh") row then option_and_then seconds (attr attribute.Content row) else None)) e

first_among : (page : Trees) (rows : List Row) → AllByRecursion (HasOwn page) rows → first_refresh rows ≡ first_of (numbers_of rows) (map (own_at page) (numbers_of rows))
first_among page [] all = refl
first_among page (row ∷ rows) all = by_tag (is_meta_row row) refl (first_among page rows all.1)
  where
    by_time : (c : Bool) → first_refresh rows ≡ first_of (numbers_of rows) (map (own_at page) (numbers_of rows))
        → option_map (λ (r : Row). r.id) (cond c (Some row) (find refreshes rows)) ≡ (if c then Some row.id else first_of (numbers_of rows) (map (own_at page) (numbers_of rows)))
    by_time true next = refl
    by_time false next = next

    by_tag : (b : Bool) → is_meta_row row ≡ b → first_refresh rows ≡ first_of (numbers_of rows) (map (own_at page) (numbers_of rows))
        → first_refresh (row ∷ rows) ≡ first_of (map (λ (r : Row). r.id) (cond b (row ∷ filter is_meta_row rows) (filter is_meta_row rows)))
        (map (own_at page) (map (λ (r : Row). r.id) (cond b (row ∷ filter is_meta_row rows) (filter is_meta_row rows))))
    by_tag true e next =
        ap (λ c. option_map (λ (r : Row). r.id) (cond c (Some row) (find refreshes rows))) (refreshes_is row true e) ∙ by_time (is_some (time_of (own row))) next
        ∙ sym (ap (λ o. if refreshes_by o then Some row.id else first_of (numbers_of rows) (map (own_at page) (numbers_of rows))) all.0)
    by_tag false e next = ap (λ c. option_map (λ (r : Row). r.id) (cond c (Some row) (find refreshes rows))) (refreshes_is row false e) ∙ next

first_told : (t : Trees) → IsPage t → (n : NodeId) → is_meta t n ≡ true → first_refresh (rows_of t) ≡ first_of (metas_at t n) (meta_owns t n)
unfolding is_meta_row
first_told t page n is =
    first_among t (rows_of t) (owns_in t [] t (all_stand t page.apart))
    ∙ sym (ap (λ b. first_of (if b then tagged t (codes "meta") else []) (if b then map (own_at t) (tagged t (codes "meta")) else [])) is)

-- ---- what is said of a node

-- what the rule says of a node by what Metas tells of it
abbrev pub said_by_metas : (ℕ → Finding) → (Option (Row × Above)) × (List NodeId × List (Option Own)) → Option Verdict
said_by_metas finds told = option_and_then (λ (x : Row × Above). said_of_first finds (first_of told.1.0 told.1.1) x.0) told.0

unsaid : (finds : ℕ → Finding) (first : Option NodeId) (row : Row) → is_html (codes "meta") row ≡ false → said_of_first finds first row ≡ None
unsaid finds first row e =
    by_number (is_number row.id first) (option_and_then (time_verdict finds (attr attribute.Content row)) (refresh_time row))
    (ap (λ b. option_and_then (time_verdict finds (attr attribute.Content row)) (if b && is_word_at attribute.HttpEquiv (codes "refresh") row then option_and_then seconds (attr attribute.Content row) else None)) e)
  where
    by_number : (b : Bool) (o : Option Verdict) → o ≡ None → (if b then o else None) ≡ None
    by_number true o h = h
    by_number false o h = refl

pub delay_in : (finds : ℕ → Finding) (t : Trees) → IsPage t → (n : NodeId) (o : Option Sight) → sight_of t n ≡ o
    → option_and_then (refresh_verdict finds (rows_of t)) (option_map (λ s. s.row) o) ≡ option_and_then (λ (x : Row × Above). said_of_first finds (first_of (metas_at t n) (meta_owns t n)) x.0) (option_map itself o)
delay_in finds t page n None e = refl
delay_in finds t page n (Some s) e = by_tag (is_html (codes "meta") s.row) refl
  where
    by_tag : (b : Bool) → is_html (codes "meta") s.row ≡ b → said_of_first finds (first_refresh (rows_of t)) s.row ≡ said_of_first finds (first_of (metas_at t n) (meta_owns t n)) s.row
    by_tag true h =
        let is : is_meta t n ≡ true = ap (λ o. option_map_or (λ (s : Sight). is_html (codes "meta") s.row) o false) e ∙ h in
        ap (λ first. said_of_first finds first s.row) (first_told t page n is)
    by_tag false h = unsaid finds (first_refresh (rows_of t)) s.row h ∙ sym (unsaid finds (first_of (metas_at t n) (meta_owns t n)) s.row h)
