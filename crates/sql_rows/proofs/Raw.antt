-- The rows of a table where some are removed by their rowids and one is put behind the last.
use Rattle.std.proofs.Common.{◌≡◌, inl, inr, ℕ, ℤ, pos, ◌+ℤ◌, ◌<ℤ◌, List, [], ◌∷◌, ◌++◌, map, drop, fold, filter, Bool, true, false, not, cond, IsTrue, refl, sym, ap, ◌∙◌, arith, true≢false, ◌&&◌, ◌||◌, int_cmp, Ordering, Less, Equal, Greater}
use Rattle.std.specs.Ordering.{is_eq}
use Rattle.std.specs.List.{AllByRecursion, IsDistinct, list_any}
use Rattle.std.proofs.lemmas.Bool.Decides.{nat_tests}
use Rattle.std.proofs.lemmas.Cmp.{tied_itself}
use Rattle.std.proofs.lemmas.Int.{ints}
use Rattle.sqlite_value.specs.declared.value.Value.TheVariants.{Int}
use Rattle.sqlite_value.specs.Order.{Row, value_cmp}
use Rattle.sqlite_value.proofs.OrderLemmas.{value_cmp_total, value_cmp-Int}
use Rattle.sqlite_trees.specs.Tree.{rowid, has_rowid, put_row, without_rowid, IsTable}
use Rattle.sqlite_trees.specs.View.{is_int}
use Rattle.sqlite_rules.specs.Lists.{Has}
use Rattle.sqlite_rules.specs.Edit.{id_in, next_rowid, without_all}
use Rattle.sqlite_rules.specs.Calls.{ids_of}
use Rattle.sqlite_rules.proofs.ListLemmas.{all_has, all_from, some_has, some_from, has_filtered}
use Rattle.sqlite_rules.proofs.ProbeLemmas.{mapped_has, has_mapped}
use Rattle.sqlite_rules.proofs.TableLemmas.{int_is}
use Rattle.sqlite_rules.proofs.PlaceLemmas.{Tied, tied_same}
use Rattle.sql_rows.specs.Tables.{kept, same_name, Rise}

pub alike : {X : Type 0} (p q : X → Bool) (xs : List X) → ((x : X) → Has xs x → p x ≡ q x) → filter p xs ≡ filter q xs
alike p q [] same = refl
alike p q (x ∷ xs) same = rw (same x (inl refl)) (ap (λ l. cond (q x) (x ∷ l) l) (alike p q xs (λ y h. same y (inr h))))

pub twice : {X : Type 0} (p q : X → Bool) (xs : List X) → filter p (filter q xs) ≡ filter (λ x. q x && p x) xs
twice p q [] = refl
twice p q (x ∷ xs) = by (q x) refl (twice p q xs)
  where
    by : (b : Bool) → q x ≡ b → filter p (filter q xs) ≡ filter (λ y. q y && p y) xs → filter p (filter q (x ∷ xs)) ≡ filter (λ y. q y && p y) (x ∷ xs)
    by true is more = rw is (ap (λ l. cond (p x) (x ∷ l) l) more)
    by false is more = rw is more

pub mapped : {X Y : Type 0} (f : X → Y) (q : Y → Bool) (xs : List X) → filter q (map f xs) ≡ map f (filter (λ x. q (f x)) xs)
mapped f q [] = refl
mapped f q (x ∷ xs) = by (q (f x)) refl (mapped f q xs)
  where
    by : (b : Bool) → q (f x) ≡ b → filter q (map f xs) ≡ map f (filter (λ y. q (f y)) xs) → filter q (map f (x ∷ xs)) ≡ map f (filter (λ y. q (f y)) (x ∷ xs))
    by true is more = rw is (ap (λ l. f x ∷ l) more)
    by false is more = rw is more

-- ---- rows that are removed

abbrev keeps : List ℤ → Row → Bool
keeps ids r = not (list_any (λ id. has_rowid id r) ids)

left : (ids : List ℤ) (rows : List Row) → without_all rows ids ≡ filter (keeps ids) rows
left [] rows = sym (all_kept rows)
  where
    all_kept : (rows : List Row) → filter (λ r. true) rows ≡ rows
    all_kept [] = refl
    all_kept (r ∷ rs) = ap (λ l. r ∷ l) (all_kept rs)
left (id ∷ ids) rows = left ids (without_rowid id rows) ∙ twice (keeps ids) (λ r. not (has_rowid id r)) rows ∙ alike _ _ rows (λ r _. joined (has_rowid id r) _)
  where
    joined : (a b : Bool) → (not a && not b) ≡ not (a || b)
    joined true b = refl
    joined false b = refl

is_equal : (o : Ordering) → is_eq o ≡ true → o ≡ Equal
is_equal Less h = absurd cc
is_equal Equal h = refl
is_equal Greater h = absurd cc

-- the rowids that were found are those of the rows that pass the test
pub record AreFound (test : Row → Bool) (rows found : List Row) : Type 0 where
  pub sound : (x : Row) → Has found x → (r : Row) × Has rows r × (test r ≡ true) × (x ≡ rowid r ∷ [])
  pub complete : (r : Row) → Has rows r → test r ≡ true → Has found (rowid r ∷ [])

module _ (rows : List Row) (rise : Rise rows) (test : Row → Bool) (found : List Row) (are : AreFound test rows found) where
  id_is : (r : Row) → Has rows r → rowid r ≡ Int (id_in (rowid r))
  id_is r h = int_is (rowid r) (all_has (λ x. IsTrue (is_int (rowid x))) rows r rise.numbered h)

  passing : (r : Row) → Has rows r → test r ≡ true → list_any (λ id. has_rowid id r) (ids_of found) ≡ true
  passing r h passes =
      let mine : has_rowid (id_in (rowid r)) r ≡ true = ap (λ v. is_eq (value_cmp v (Int (id_in (rowid r))))) (id_is r h) ∙ ap is_eq (tied_itself value_cmp_total (Int (id_in (rowid r)))) in
      some_from (λ id. has_rowid id r) (ids_of found) (id_in (rowid r)) (mapped_has (λ x. id_in (rowid x)) found (rowid r ∷ []) (are.complete r h passes)) mine

  failing : (r : Row) → Has rows r → list_any (λ id. has_rowid id r) (ids_of found) ≡ true → test r ≡ true
  failing r h any =
      let id = some_has (λ id. has_rowid id r) (ids_of found) any in
      let x = has_mapped (λ x. id_in (rowid x)) found id.0 id.1 in
      let s = are.sound x.0 x.1 in
      let number : rowid s.0 ≡ Int id.0 = id_is s.0 s.1 ∙ ap Int (sym (x.2 ∙ ap (λ y. id_in (rowid y)) s.3)) in
      let tie : Tied r s.0 = ap (value_cmp (rowid r)) number ∙ is_equal _ id.2 in
      ap test (tied_same rows r s.0 rise.up h s.1 tie) ∙ s.2

  chosen : (r : Row) → Has rows r → (b : Bool) → test r ≡ b → list_any (λ id. has_rowid id r) (ids_of found) ≡ test r
  chosen r h true is = passing r h is ∙ sym is
  chosen r h false is = by (list_any (λ id. has_rowid id r) (ids_of found)) refl ∙ sym is
    where
      by : (b : Bool) → list_any (λ id. has_rowid id r) (ids_of found) ≡ b → list_any (λ id. has_rowid id r) (ids_of found) ≡ false
      by true any = absurd (true≢false (sym (failing r h any) ∙ is))
      by false none = none

  -- the rows that fail the test are left
  pub removed : without_all rows (ids_of found) ≡ filter (λ r. not (test r)) rows
  removed = left (ids_of found) rows ∙ alike _ _ rows (λ r h. ap not (chosen r h (test r) refl))

-- ---- what a filter keeps of the order

below_kept : (p : Row → Bool) (P : Row → Type 0) (rows : List Row) → AllByRecursion P rows → AllByRecursion P (filter p rows)
below_kept p P rows all = all_from P (filter p rows) (λ x h. all_has P rows x all (has_filtered p rows x h).0)

up_kept : (p : Row → Bool) (rows : List Row) → IsTable rows → IsTable (filter p rows)
up_kept p [] up = up
up_kept p (r ∷ rows) up = by (p r) refl (up_kept p rows up.1)
  where
    by : (b : Bool) → p r ≡ b → IsTable (filter p rows) → IsTable (filter p (r ∷ rows))
    by true is more = rw is (below_kept p (λ s. value_cmp (rowid r) (rowid s) ≡ Less) rows up.0, more)
    by false is more = rw is more

pub rise_kept : (p : Row → Bool) (rows : List Row) → Rise rows → Rise (filter p rows)
rise_kept p rows rise = record { up = up_kept p rows rise.up; numbered = below_kept p (λ r. IsTrue (is_int (rowid r))) rows rise.numbered }

-- ---- a row that is put behind the last

pub put_last : (new : Row) (rows : List Row) → AllByRecursion (λ r. value_cmp (rowid r) (rowid new) ≡ Less) rows → put_row new rows ≡ rows ++ new ∷ []
put_last new [] all = refl
put_last new (r ∷ rows) all = rw all.0 (ap (λ l. r ∷ l) (put_last new rows all.1))

lower_than : (a b c : ℤ) → int_cmp a b ≡ Less → b <ℤ c → a <ℤ c
lower_than a b c p q = grind (arith, ints, nat_tests)

abbrev step : ℤ → Row → ℤ
step n r = id_in (rowid r) +ℤ pos 1

below_next : (x : Row) (rows : List Row) → IsTable (x ∷ rows) → AllByRecursion (λ r. IsTrue (is_int (rowid r))) (x ∷ rows)
    → AllByRecursion (λ r. id_in (rowid r) <ℤ fold step (step (pos 1) x) rows) (x ∷ rows)
below_next x [] up keyed = (omega (arith, ints), tt)
below_next x (y ∷ rows) up keyed =
    let more = below_next y rows up.1 keyed.1 in
    let lower = rw (int_is (rowid x) keyed.0, int_is (rowid y) keyed.1.0, value_cmp-Int (id_in (rowid x)) (id_in (rowid y))) at up.0.0 in
    (lower_than (id_in (rowid x)) (id_in (rowid y)) _ lower more.0, more)

less_is : (a b : ℤ) → a <ℤ b → int_cmp a b ≡ Less
less_is a b h = grind (arith, ints, nat_tests)

-- each rowid is below the next that is free
pub all_below : (rows : List Row) → Rise rows → AllByRecursion (λ r. value_cmp (rowid r) (Int (next_rowid rows)) ≡ Less) rows
all_below [] rise = tt
all_below (x ∷ rows) rise =
    let low = below_next x rows rise.up rise.numbered in
    all_from (λ r. value_cmp (rowid r) (Int (next_rowid (x ∷ rows))) ≡ Less) (x ∷ rows) (λ r h.
    let less = all_has (λ s. id_in (rowid s) <ℤ next_rowid (x ∷ rows)) (x ∷ rows) r low h in
    ap (λ v. value_cmp v (Int (next_rowid (x ∷ rows)))) (int_is (rowid r) (all_has (λ s. IsTrue (is_int (rowid s))) (x ∷ rows) r rise.numbered h))
    ∙ value_cmp-Int (id_in (rowid r)) (next_rowid (x ∷ rows)) ∙ less_is (id_in (rowid r)) (next_rowid (x ∷ rows)) less)

rises_push : (new : Row) (rows : List Row) → IsTable rows → AllByRecursion (λ r. value_cmp (rowid r) (rowid new) ≡ Less) rows → IsTable (rows ++ new ∷ [])
rises_push new [] up all = (tt, tt)
rises_push new (r ∷ rows) up all = (pushed rows up.0 all.0, rises_push new rows up.1 all.1)
  where
    pushed : (rs : List Row) → AllByRecursion (λ s. value_cmp (rowid r) (rowid s) ≡ Less) rs → value_cmp (rowid r) (rowid new) ≡ Less → AllByRecursion (λ s. value_cmp (rowid r) (rowid s) ≡ Less) (rs ++ new ∷ [])
    pushed [] each last = (last, tt)
    pushed (s ∷ rs) each last = (each.0, pushed rs each.1 last)

numbered_push : (new : Row) (rows : List Row) → AllByRecursion (λ r. IsTrue (is_int (rowid r))) rows → IsTrue (is_int (rowid new)) → AllByRecursion (λ r. IsTrue (is_int (rowid r))) (rows ++ new ∷ [])
numbered_push new [] all one = (one, tt)
numbered_push new (r ∷ rows) all one = (all.0, numbered_push new rows all.1 one)

pub kept_push : (rows : List Row) (new : Row) → kept (rows ++ new ∷ []) ≡ kept rows ++ drop 1 new ∷ []
kept_push [] new = refl
kept_push (r ∷ rows) new = ap (λ l. drop 1 r ∷ l) (kept_push rows new)

-- a row behind the others
pub push_is : (rows : List Row) (rise : Rise rows) (cells : Row) → put_row (Int (next_rowid rows) ∷ cells) rows ≡ rows ++ (Int (next_rowid rows) ∷ cells) ∷ []
push_is rows rise cells = put_last (Int (next_rowid rows) ∷ cells) rows (all_below rows rise)

pub push_rises : (rows : List Row) (rise : Rise rows) (cells : Row) → Rise (rows ++ (Int (next_rowid rows) ∷ cells) ∷ [])
push_rises rows rise cells = record { up = rises_push (Int (next_rowid rows) ∷ cells) rows rise.up (all_below rows rise); numbered = numbered_push (Int (next_rowid rows) ∷ cells) rows rise.numbered refl }

-- a row in place of those that pass a test
module _ (rows : List Row) (rise : Rise rows) (test : Row → Bool) (cells : Row) where
  abbrev new : Row
  new = Int (next_rowid rows) ∷ cells

  low : AllByRecursion (λ r. value_cmp (rowid r) (rowid new) ≡ Less) (filter (λ r. not (test r)) rows)
  low = below_kept (λ r. not (test r)) (λ r. value_cmp (rowid r) (rowid new) ≡ Less) rows (all_below rows rise)

  pub put_is : put_row new (filter (λ r. not (test r)) rows) ≡ filter (λ r. not (test r)) rows ++ new ∷ []
  put_is = put_last new (filter (λ r. not (test r)) rows) low

  pub put_rises : Rise (filter (λ r. not (test r)) rows ++ new ∷ [])
  put_rises = record {
    up = rises_push new (filter (λ r. not (test r)) rows) (up_kept (λ r. not (test r)) rows rise.up) low;
    numbered = numbered_push new (filter (λ r. not (test r)) rows) (below_kept (λ r. not (test r)) (λ r. IsTrue (is_int (rowid r))) rows rise.numbered) refl;
  }

  pub put_kept : kept (filter (λ r. not (test r)) rows ++ new ∷ []) ≡ kept (filter (λ r. not (test r)) rows) ++ cells ∷ []
  put_kept = kept_push (filter (λ r. not (test r)) rows) new

-- ---- names that are distinct, since rows with one key are one row

pub distinct_from : (rows : List Row) (p : Row → Bool) (name : Row → List ℕ) → Rise rows
    → ((r s : Row) → Has rows r → Has rows s → p r ≡ true → p s ≡ true → same_name (name r) (name s) ≡ true → r ≡ s)
    → IsDistinct same_name (map name (filter p rows))
unfolding IsDistinct
distinct_from [] p name rise one = tt
distinct_from (x ∷ rows) p name rise one =
    by (p x) refl (distinct_from rows p name (record { up = rise.up.1; numbered = rise.numbered.1 }) (λ r s h k. one r s (inr h) (inr k)))
  where
    apart : p x ≡ true → (s : Row) → Has rows s → p s ≡ true → (b : Bool) → same_name (name x) (name s) ≡ b → same_name (name x) (name s) ≡ false
    apart passes s h ps true is =
        let e : x ≡ s = one x s (inl refl) (inr h) passes ps is in
        let lower = all_has (λ r. value_cmp (rowid x) (rowid r) ≡ Less) rows s rise.up.0 h in
        let tie = ap (λ r. value_cmp (rowid x) (rowid r)) (sym e) ∙ tied_itself value_cmp_total (rowid x) in
        absurd (let no : Less ≡ Equal = sym lower ∙ tie in cc)
    apart passes s h ps false is = is

    others : p x ≡ true → (m : List ℕ) → Has (map name (filter p rows)) m → same_name (name x) m ≡ false
    others passes m h =
        let s = has_mapped name (filter p rows) m h in
        let k = has_filtered p rows s.0 s.1 in
        ap (same_name (name x)) s.2 ∙ apart passes s.0 k.0 k.1 (same_name (name x) (name s.0)) refl

    by : (b : Bool) → p x ≡ b → IsDistinct same_name (map name (filter p rows)) → IsDistinct same_name (map name (filter p (x ∷ rows)))
    by true is more = rw is (all_from (λ m. same_name (name x) m ≡ false) (map name (filter p rows)) (others is), more)
    by false is more = rw is more
