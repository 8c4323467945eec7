-- What a binary search for a name finds among rows in order.
use Rattle.std.proofs.Common.{◌≡◌, ℕ, zero, suc, ◌<◌, ◌≤◌, List, [], ◌∷◌, length, get_or, Result, Ok, Err, IfOk, IfErr, refl, sym, ap, ◌∙◌, arith}
use Rattle.std.specs.declared.cmp.Ordering.{Ordering}
use Rattle.std.specs.declared.cmp.Ordering.TheVariants.{Less, Equal, Greater}
use Rattle.std.specs.Ordering.{match_ordering, ordering_index}
use Rattle.std.specs.List.Sorted.{IsSearchInRange, IsBinarySearchResult, IsNonDecreasingBy}
use Rattle.named_rows.specs.ByName.{names_cmp, put_row, take_row, with_row, IsInOrder}
use Rattle.named_rows.specs.Placed.{StandsThere, BelongsThere}
use Rattle.named_rows.proofs.Names.{same_name, turned, rises}
use Rattle.named_rows.proofs.Lookups.{not_reached, here, later}
use Rattle.named_rows.proofs.Order.{in_order_first, in_order_rest}

module _ {T : Type 0} (name : T → List ℕ) (n : List ℕ) where
  -- the place of a name past a row whose name is below it
  stands_later : (r : T) (rs : List T) (i : ℕ) → names_cmp n (name r) ≡ Greater → StandsThere name n rs i → StandsThere name n (r ∷ rs) (suc i)
  stands_later r rs i is below = record {
    within = omega (arith, below.within);
    named = below.named;
    found = later name n r rs is ∙ below.found;
    put = λ row named. ap (λ o. match_ordering o (row ∷ r ∷ rs) (row ∷ rs) (r ∷ put_row name row rs)) (ap (λ m. names_cmp m (name r)) named ∙ is) ∙ ap (λ rest. r ∷ rest) (below.put row named);
    taken = ap (λ o. match_ordering o (r ∷ rs) rs (r ∷ take_row name n rs)) is ∙ ap (λ rest. r ∷ rest) below.taken;
    changed = λ f d. ap (λ o. match_ordering o (r ∷ rs) (f r ∷ rs) (r ∷ with_row name n f rs)) is ∙ ap (λ rest. r ∷ rest) (below.changed f d);
  }

  stands_here : (r : T) (rs : List T) → names_cmp n (name r) ≡ Equal → StandsThere name n (r ∷ rs) zero
  stands_here r rs is = record {
    within = omega arith;
    named = λ _. sym (same_name n (name r) is);
    found = here name n r rs is;
    put = λ row named. ap (λ o. match_ordering o (row ∷ r ∷ rs) (row ∷ rs) (r ∷ put_row name row rs)) (ap (λ m. names_cmp m (name r)) named ∙ is);
    taken = ap (λ o. match_ordering o (r ∷ rs) rs (r ∷ take_row name n rs)) is;
    changed = λ f _. ap (λ o. match_ordering o (r ∷ rs) (f r ∷ rs) (r ∷ with_row name n f rs)) is;
  }

  -- a row of the name stands where rows in order have it
  pub stands : (rows : List T) (i : ℕ) → IsInOrder name rows → i < length rows → ((d : T) → names_cmp (name (get_or rows i d)) n ≡ Equal) → StandsThere name n rows i
  stands [] i order within tied = absurd (omega arith)
  stands (r ∷ rs) zero order within tied = stands_here r rs (turned (name r) n Equal (tied r))
  stands (r ∷ rs) (suc i) order within tied =
      let below : names_cmp (name r) n ≡ Less = ap (names_cmp (name r)) (sym (same_name (name (get_or rs i r)) n (tied r))) ∙ in_order_first name r rs order i r (omega arith) in
      stands_later r rs i (turned (name r) n Less below) (stands rs i (in_order_rest name r rs order) (omega arith) tied)

  belongs_later : (r : T) (rs : List T) (i : ℕ) → names_cmp n (name r) ≡ Greater → BelongsThere name n rs i → BelongsThere name n (r ∷ rs) (suc i)
  belongs_later r rs i is below = record {
    within = omega (arith, below.within);
    absent = later name n r rs is ∙ below.absent;
    put = λ row named. ap (λ o. match_ordering o (row ∷ r ∷ rs) (row ∷ rs) (r ∷ put_row name row rs)) (ap (λ m. names_cmp m (name r)) named ∙ is) ∙ ap (λ rest. r ∷ rest) (below.put row named);
    taken = ap (λ o. match_ordering o (r ∷ rs) rs (r ∷ take_row name n rs)) is ∙ ap (λ rest. r ∷ rest) below.taken;
    changed = λ f. ap (λ o. match_ordering o (r ∷ rs) (f r ∷ rs) (r ∷ with_row name n f rs)) is ∙ ap (λ rest. r ∷ rest) (below.changed f);
  }

  belongs_here : (r : T) (rs : List T) → names_cmp n (name r) ≡ Less → BelongsThere name n (r ∷ rs) zero
  belongs_here r rs is = record {
    within = omega arith;
    absent = not_reached name n r rs is;
    put = λ row named. ap (λ o. match_ordering o (row ∷ r ∷ rs) (row ∷ rs) (r ∷ put_row name row rs)) (ap (λ m. names_cmp m (name r)) named ∙ is);
    taken = ap (λ o. match_ordering o (r ∷ rs) rs (r ∷ take_row name n rs)) is;
    changed = λ f. ap (λ o. match_ordering o (r ∷ rs) (f r ∷ rs) (r ∷ with_row name n f rs)) is;
  }

  -- a name belongs between the rows that are below it and those that are above it
  pub belongs : (rows : List T) (i : ℕ) → i ≤ length rows → ((k : ℕ) (d : T) → k < i → names_cmp (name (get_or rows k d)) n ≡ Less)
      → ((k : ℕ) (d : T) → i ≤ k → k < length rows → names_cmp (name (get_or rows k d)) n ≡ Greater) → BelongsThere name n rows i
  belongs [] zero within before after = record { within = omega arith; absent = refl; put = λ _ _. refl; taken = refl; changed = λ _. refl }
  belongs [] (suc i) within before after = absurd (omega arith)
  belongs (r ∷ rs) zero within before after = belongs_here r rs (turned (name r) n Greater (after 0 r (omega arith) (omega arith)))
  belongs (r ∷ rs) (suc i) within before after =
      belongs_later r rs i (turned (name r) n Less (before 0 r (omega arith)))
      (belongs rs i (omega arith) (λ k d lt. before (suc k) d (omega arith)) (λ k d le lt. after (suc k) d (omega arith) (omega arith)))

  compared : T → Ordering
  compared row = names_cmp (name row) n

  rising_by : (rows : List T) → IsInOrder name rows → (i j : ℕ) (d : T) → i < j → j < length rows
      → ordering_index (names_cmp (name (get_or rows i d)) n) ≤ ordering_index (names_cmp (name (get_or rows j d)) n)
  rising_by rows order i j d lt within = rises (name (get_or rows i d)) (name (get_or rows j d)) n (order i j d lt within)

  -- the comparisons with a name rise along rows in order, as a binary search asks
  rising : (rows : List T) → IsInOrder name rows → IsNonDecreasingBy (λ row. ordering_index (names_cmp (name row) n)) rows
  rising rows order = λ i j d le within. grind (arith, rising_by rows order i j d, λ (same : i ≡ j). ap (λ k. ordering_index (names_cmp (name (get_or rows k d)) n)) same)

  -- a binary search by name ends where the name stands, or where it belongs
  pub searched : (rows : List T) (r : Result ℕ ℕ) → IsInOrder name rows → IsSearchInRange r (length rows) → IsBinarySearchResult (λ row. names_cmp (name row) n) rows r
      → record { found : IfOk r (StandsThere name n rows); vacant : IfErr r (BelongsThere name n rows) }
  searched rows (Ok i) order within tied = record { found = stands rows i order within tied; vacant = tt }
  searched rows (Err i) order within parted =
      let halves = parted (rising rows order) in
      record { found = tt; vacant = belongs rows i within (λ k d lt. halves.0 k d (omega arith) lt) (λ k d le lt. halves.1 k d le lt) }
