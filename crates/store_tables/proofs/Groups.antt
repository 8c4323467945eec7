-- Rows of a group, and groups without one.
use Rattle.std.proofs.Common.{◌≡◌, ℕ, List, [], ◌∷◌, map, filter, Bool, true, false, ◌&&◌, refl, sym, ap, ◌∙◌}
use Rattle.std.specs.declared.cmp.Ordering.{Ordering}
use Rattle.std.specs.declared.cmp.Ordering.TheVariants.{Less, Equal, Greater}
use Rattle.std.specs.Ordering.{match_ordering}
use Rattle.sqlite_value.specs.Order.{Row}
use Rattle.sqlite_rules.specs.Lists.{Has}
use Rattle.sqlite_rules.proofs.ListLemmas.{has_kept}
use Rattle.named_rows.specs.ByName.{names_cmp, put_row, put_rows}
use Rattle.sql_rows.specs.InOrder.{in_order}
use Rattle.sql_rows.specs.Tables.{name_at, same_name, leads, name_in, rows_of}
use Rattle.sql_rows.proofs.Canon.{name_same, name_other}

module _ {T : Type 0} (name : T → List ℕ) where
  put_row_some : (row : T) (rows : List T) → put_row name row rows ≡ [] → ⊥
  put_row_some row [] none = absurd cc
  put_row_some row (r ∷ rs) none = by (names_cmp (name row) (name r)) none
    where
      by : (o : Ordering) → match_ordering o (row ∷ r ∷ rs) (row ∷ rs) (r ∷ put_row name row rs) ≡ [] → ⊥
      by Less none = absurd cc
      by Equal none = absurd cc
      by Greater none = absurd cc

  put_rows_none : (xs acc : List T) → put_rows name xs acc ≡ [] → acc ≡ []
  put_rows_none [] acc none = none
  put_rows_none (x ∷ xs) acc none = absurd (put_row_some x acc (put_rows_none xs (put_row name x acc) none))

  in_order_none_of : (xs : List T) → in_order name xs ≡ [] → xs ≡ []
  in_order_none_of [] none = refl
  in_order_none_of (x ∷ xs) none = absurd (put_row_some x [] (put_rows_none xs (put_row name x []) none))

map_none : {A B : Type 0} (f : A → B) (xs : List A) → map f xs ≡ [] → xs ≡ []
map_none f [] none = refl
map_none f (x ∷ xs) none = absurd cc

none_has : (xs : List Row) (r : Row) → xs ≡ [] → Has xs r → ⊥
none_has [] r none there = there
none_has (x ∷ xs) r none there = absurd cc

-- a group that shows no row has none
pub none_had : (shown : Row → Row) (group : List (List ℕ)) (rows : List Row) → map shown (rows_of group rows) ≡ [] → (r : Row) → Has rows r → leads 0 group r ≡ true → ⊥
none_had shown group rows none r there led =
    none_has (filter (leads 0 group) rows) r (in_order_none_of (name_in 0 group) (filter (leads 0 group) rows) (map_none shown (rows_of group rows) none))
    (has_kept (leads 0 group) rows r there led)

pub and_false : (b : Bool) → (b && false) ≡ false
and_false true = refl
and_false false = refl

-- rows of a site and a page
pub led_by_site : (site : List ℕ) (r : Row) → name_at 0 r ≡ site → leads 0 (site ∷ []) r ≡ true
led_by_site site r mine = ap (λ b. b && true) (name_same site (name_at 0 r) (sym mine))

pub led_by_page : (site page : List ℕ) (r : Row) → name_at 0 r ≡ site → name_at 1 r ≡ page → leads 0 (site ∷ page ∷ []) r ≡ true
led_by_page site page r mine same = rw (name_same site (name_at 0 r) (sym mine), name_same page (name_at 1 r) (sym same)) refl

pub not_led_by_site : (site : List ℕ) (names : List (List ℕ)) (r : Row) → (name_at 0 r ≡ site → ⊥) → leads 0 (site ∷ names) r ≡ false
not_led_by_site site names r other = ap (λ b. b && leads 1 names r) (name_other site (name_at 0 r) (λ e. other (sym e)))

pub not_led_by_page : (site page : List ℕ) (r : Row) → (name_at 1 r ≡ page → ⊥) → leads 0 (site ∷ page ∷ []) r ≡ false
not_led_by_page site page r other =
    ap (λ b. same_name site (name_at 0 r) && (b && true)) (name_other page (name_at 1 r) (λ e. other (sym e))) ∙ and_false (same_name site (name_at 0 r))
