-- What keeps rows in order, and what is found where one was taken out.
use Rattle.std.proofs.Common.{◌≡◌, ℕ, List, [], ◌∷◌, get_or, Some, None, refl, sym, ap, ◌∙◌, arith}
use Rattle.std.specs.declared.cmp.Ordering.{Ordering}
use Rattle.std.specs.declared.cmp.Ordering.TheVariants.{Less, Equal, Greater}
use Rattle.std.specs.Ordering.{match_ordering}
use Rattle.std.specs.List.{All}
use Rattle.std.proofs.lemmas.List.Elements.{All-cons, All-head}
use Rattle.std.proofs.lemmas.List.Kept.{AllPairs-cons}
use Rattle.named_rows.specs.ByName.{names_cmp, at, put_row, put_rows, take_row, with_row, IsInOrder}
use Rattle.named_rows.proofs.Names.{same_itself, same_name, turned, below_chain}
use Rattle.named_rows.proofs.Lookups.{not_reached, here, later, all_put, all_take, all_with_row}
use Rattle.named_rows.proofs.Pairs.{pairs_none, pairs_first, pairs_rest}

module _ {T : Type 0} (name : T → List ℕ) where
  -- a row whose name is below another's
  abbrev pub IsBelow : T → T → Type 0
  IsBelow r s = names_cmp (name r) (name s) ≡ Less

  pub in_order_cons : (r : T) (rs : List T) → All (IsBelow r) rs → IsInOrder name rs → IsInOrder name (r ∷ rs)
  in_order_cons r rs all order = AllPairs-cons IsBelow r rs all order

  pub in_order_first : (r : T) (rs : List T) → IsInOrder name (r ∷ rs) → All (IsBelow r) rs
  in_order_first r rs order = pairs_first IsBelow r rs order

  pub in_order_rest : (r : T) (rs : List T) → IsInOrder name (r ∷ rs) → IsInOrder name rs
  in_order_rest r rs order = pairs_rest IsBelow r rs order

  pub in_order_none : IsInOrder name []
  in_order_none = pairs_none IsBelow

  chain_below : (row r : T) (rs : List T) → IsBelow row r → All (IsBelow r) rs → All (IsBelow row) rs
  chain_below row r rs below all = λ k d within. below_chain (name row) (name r) (name (get_or rs k d)) below (all k d within)

  same_below : (row r : T) (rs : List T) → name row ≡ name r → All (IsBelow r) rs → All (IsBelow row) rs
  same_below row r rs same all = λ k d within. ap (λ n. names_cmp n (name (get_or rs k d))) same ∙ all k d within

  in_order_put_by : (row r : T) (rs : List T) (o : Ordering) → names_cmp (name row) (name r) ≡ o → IsInOrder name (r ∷ rs) → IsInOrder name (put_row name row rs)
      → IsInOrder name (match_ordering o (row ∷ r ∷ rs) (row ∷ rs) (r ∷ put_row name row rs))
  in_order_put_by row r rs Less is order below =
      let first = in_order_first r rs order in
      in_order_cons row (r ∷ rs) (All-cons (IsBelow row) r rs is (chain_below row r rs is first)) order
  in_order_put_by row r rs Equal is order below =
      in_order_cons row rs (same_below row r rs (same_name (name row) (name r) is) (in_order_first r rs order)) (in_order_rest r rs order)
  in_order_put_by row r rs Greater is order below =
      in_order_cons r (put_row name row rs) (all_put name (IsBelow r) row rs (turned (name row) (name r) Greater is) (in_order_first r rs order)) below

  -- rows stay in order where one is put
  pub in_order_put : (row : T) (rows : List T) → IsInOrder name rows → IsInOrder name (put_row name row rows)
  in_order_put row [] order = in_order_cons row [] (λ k d within. absurd (omega arith)) order
  in_order_put row (r ∷ rs) order = in_order_put_by row r rs (names_cmp (name row) (name r)) refl order (in_order_put row rs (in_order_rest r rs order))

  pub in_order_put_rows : (more rows : List T) → IsInOrder name rows → IsInOrder name (put_rows name more rows)
  in_order_put_rows [] rows order = order
  in_order_put_rows (row ∷ more) rows order = in_order_put_rows more (put_row name row rows) (in_order_put row rows order)

  in_order_take_by : (n : List ℕ) (r : T) (rs : List T) (o : Ordering) → IsInOrder name (r ∷ rs) → IsInOrder name (take_row name n rs)
      → IsInOrder name (match_ordering o (r ∷ rs) rs (r ∷ take_row name n rs))
  in_order_take_by n r rs Less order below = order
  in_order_take_by n r rs Equal order below = in_order_rest r rs order
  in_order_take_by n r rs Greater order below = in_order_cons r (take_row name n rs) (all_take name (IsBelow r) n rs (in_order_first r rs order)) below

  -- and where one is taken out
  pub in_order_take : (n : List ℕ) (rows : List T) → IsInOrder name rows → IsInOrder name (take_row name n rows)
  in_order_take n [] order = order
  in_order_take n (r ∷ rs) order = in_order_take_by n r rs (names_cmp n (name r)) order (in_order_take n rs (in_order_rest r rs order))

  module _ (n : List ℕ) (f : T → T) (keeps : (r : T) → name r ≡ n → name (f r) ≡ name r) where
    in_order_with_row_by : (r : T) (rs : List T) (o : Ordering) → names_cmp n (name r) ≡ o → IsInOrder name (r ∷ rs) → IsInOrder name (with_row name n f rs)
        → IsInOrder name (match_ordering o (r ∷ rs) (f r ∷ rs) (r ∷ with_row name n f rs))
    in_order_with_row_by r rs Less is order below = order
    in_order_with_row_by r rs Equal is order below =
        in_order_cons (f r) rs (same_below (f r) r rs (keeps r (sym (same_name n (name r) is))) (in_order_first r rs order)) (in_order_rest r rs order)
    in_order_with_row_by r rs Greater is order below =
        let still : (s : T) → name s ≡ n → IsBelow r s → IsBelow r (f s) = λ s named less. ap (names_cmp (name r)) (keeps s named) ∙ less in
        in_order_cons r (with_row name n f rs) (all_with_row name (IsBelow r) n f rs still (in_order_first r rs order)) below

    -- and where one is changed that keeps its name
    pub in_order_with_row : (rows : List T) → IsInOrder name rows → IsInOrder name (with_row name n f rows)
    in_order_with_row [] order = order
    in_order_with_row (r ∷ rs) order = in_order_with_row_by r rs (names_cmp n (name r)) refl order (in_order_with_row rs (in_order_rest r rs order))

  -- nothing is found by a name below all
  pub none_below : (n : List ℕ) (rows : List T) → All (λ s. names_cmp n (name s) ≡ Less) rows → at name n rows ≡ None
  none_below n [] all = refl
  none_below n (r ∷ rs) all = not_reached name n r rs (All-head (λ s. names_cmp n (name s) ≡ Less) r rs all)

  at_take_by : (n : List ℕ) (r : T) (rs : List T) (o : Ordering) → names_cmp n (name r) ≡ o → IsInOrder name (r ∷ rs) → at name n (take_row name n rs) ≡ None
      → at name n (match_ordering o (r ∷ rs) rs (r ∷ take_row name n rs)) ≡ None
  at_take_by n r rs Less is order below = not_reached name n r rs is
  at_take_by n r rs Equal is order below = none_below n rs (λ k d within. ap (λ m. names_cmp m (name (get_or rs k d))) (same_name n (name r) is) ∙ in_order_first r rs order k d within)
  at_take_by n r rs Greater is order below = later name n r (take_row name n rs) is ∙ below

  -- a row that was taken out of rows in order isn't found
  pub at_take : (n : List ℕ) (rows : List T) → IsInOrder name rows → at name n (take_row name n rows) ≡ None
  at_take n [] order = refl
  at_take n (r ∷ rs) order = at_take_by n r rs (names_cmp n (name r)) refl order (at_take n rs (in_order_rest r rs order))

  at_first_gone : (m : List ℕ) (r : T) (rs : List T) (o : Ordering) → (m ≡ name r → ⊥) → names_cmp m (name r) ≡ o → IsInOrder name (r ∷ rs) → at name m rs ≡ at name m (r ∷ rs)
  at_first_gone m r rs Less other is order =
      none_below m rs (λ k d within. below_chain m (name r) (name (get_or rs k d)) is (in_order_first r rs order k d within)) ∙ sym (not_reached name m r rs is)
  at_first_gone m r rs Equal other is order = absurd (other (same_name m (name r) is))
  at_first_gone m r rs Greater other is order = sym (later name m r rs is)

  at_take_other_by : (n m : List ℕ) (r : T) (rs : List T) (o : Ordering) → (m ≡ n → ⊥) → names_cmp n (name r) ≡ o → IsInOrder name (r ∷ rs)
      → at name m (take_row name n rs) ≡ at name m rs → at name m (match_ordering o (r ∷ rs) rs (r ∷ take_row name n rs)) ≡ at name m (r ∷ rs)
  at_take_other_by n m r rs Less other is order below = refl
  at_take_other_by n m r rs Equal other is order below =
      at_first_gone m r rs (names_cmp m (name r)) (λ e. other (e ∙ sym (same_name n (name r) is))) refl order
  at_take_other_by n m r rs Greater other is order below = ap (λ rest. match_ordering (names_cmp m (name r)) None (Some r) rest) below

  -- and all other names find what they found
  pub at_take_other : (n m : List ℕ) (rows : List T) → (m ≡ n → ⊥) → IsInOrder name rows → at name m (take_row name n rows) ≡ at name m rows
  at_take_other n m [] other order = refl
  at_take_other n m (r ∷ rs) other order = at_take_other_by n m r rs (names_cmp n (name r)) other refl order (at_take_other n m rs other (in_order_rest r rs order))

  reached : (r : T) (rs : List T) → IsInOrder name (r ∷ rs) → All (λ s. at name (name s) rs ≡ Some s) rs → All (λ s. at name (name s) (r ∷ rs) ≡ Some s) rs
  reached r rs order below = λ k d within.
      let s = get_or rs k d in
      later name (name s) r rs (turned (name r) (name s) Less (in_order_first r rs order k d within)) ∙ below k d within

  -- of rows in order each is found by its name
  pub at_each : (rows : List T) → IsInOrder name rows → All (λ r. at name (name r) rows ≡ Some r) rows
  at_each [] order = λ k d within. absurd (omega arith)
  at_each (r ∷ rs) order =
      All-cons (λ s. at name (name s) (r ∷ rs) ≡ Some s) r rs (here name (name r) r rs (same_itself (name r)))
      (reached r rs order (at_each rs (in_order_rest r rs order)))
