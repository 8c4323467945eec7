-- What is found by a name after a change, and what holds of each row.
use Rattle.std.proofs.Common.{◌≡◌, ℕ, List, [], ◌∷◌, Option, Some, None, option_map, IfSome, refl, sym, ap, ◌∙◌}
use Rattle.std.specs.declared.cmp.Ordering.{Ordering}
use Rattle.std.specs.declared.cmp.Ordering.TheVariants.{Less, Equal, Greater}
use Rattle.std.specs.Ordering.{match_ordering}
use Rattle.std.specs.List.{All}
use Rattle.std.proofs.lemmas.List.Elements.{All-cons, All-head, All-tail}
use Rattle.named_rows.specs.ByName.{names_cmp, at, put_row, put_rows, take_row, with_row}
use Rattle.named_rows.proofs.Names.{same_itself, same_name, below_chain, chosen}

module _ {T : Type 0} (name : T → List ℕ) where
  -- a lookup past a row whose name is above the one that is looked for, and past one whose name is below
  pub not_reached : (n : List ℕ) (r : T) (rs : List T) → names_cmp n (name r) ≡ Less → at name n (r ∷ rs) ≡ None
  not_reached n r rs is = ap (λ o. match_ordering o None (Some r) (at name n rs)) is

  pub here : (n : List ℕ) (r : T) (rs : List T) → names_cmp n (name r) ≡ Equal → at name n (r ∷ rs) ≡ Some r
  here n r rs is = ap (λ o. match_ordering o None (Some r) (at name n rs)) is

  pub later : (n : List ℕ) (r : T) (rs : List T) → names_cmp n (name r) ≡ Greater → at name n (r ∷ rs) ≡ at name n rs
  later n r rs is = ap (λ o. match_ordering o None (Some r) (at name n rs)) is

  named_by : (n : List ℕ) (r : T) (rest : Option T) (o : Ordering) → names_cmp n (name r) ≡ o → IfSome rest (λ s. name s ≡ n)
      → IfSome (match_ordering o None (Some r) rest) (λ s. name s ≡ n)
  named_by n r rest Less is below = tt
  named_by n r rest Equal is below = sym (same_name n (name r) is)
  named_by n r rest Greater is below = below

  -- what is found by a name has it
  pub at_named : (n : List ℕ) (rows : List T) → IfSome (at name n rows) (λ r. name r ≡ n)
  at_named n [] = tt
  at_named n (r ∷ rs) = named_by n r (at name n rs) (names_cmp n (name r)) refl (at_named n rs)

  at_put_by : (row r : T) (rs : List T) (o : Ordering) → names_cmp (name row) (name r) ≡ o → at name (name row) (put_row name row rs) ≡ Some row
      → at name (name row) (match_ordering o (row ∷ r ∷ rs) (row ∷ rs) (r ∷ put_row name row rs)) ≡ Some row
  at_put_by row r rs Less is below = here (name row) row (r ∷ rs) (same_itself (name row))
  at_put_by row r rs Equal is below = here (name row) row rs (same_itself (name row))
  at_put_by row r rs Greater is below = later (name row) r (put_row name row rs) is ∙ below

  -- a row that was put is found by its name
  pub at_put : (row : T) (rows : List T) → at name (name row) (put_row name row rows) ≡ Some row
  at_put row [] = here (name row) row [] (same_itself (name row))
  at_put row (r ∷ rs) = at_put_by row r rs (names_cmp (name row) (name r)) refl (at_put row rs)

  past_by : (n : List ℕ) (row : T) (rs : List T) (o : Ordering) → (n ≡ name row → ⊥) → names_cmp n (name row) ≡ o → (o ≡ Less → at name n rs ≡ None)
      → at name n (row ∷ rs) ≡ at name n rs
  past_by n row rs Less other is ends = not_reached n row rs is ∙ sym (ends refl)
  past_by n row rs Equal other is ends = absurd (other (same_name n (name row) is))
  past_by n row rs Greater other is ends = later n row rs is

  swapped_by : (n : List ℕ) (row r : T) (rs : List T) (o : Ordering) → (n ≡ name row → ⊥) → names_cmp n (name row) ≡ o → name row ≡ name r
      → at name n (row ∷ rs) ≡ at name n (r ∷ rs)
  swapped_by n row r rs Less other is same = not_reached n row rs is ∙ sym (not_reached n r rs (ap (names_cmp n) (sym same) ∙ is))
  swapped_by n row r rs Equal other is same = absurd (other (same_name n (name row) is))
  swapped_by n row r rs Greater other is same = later n row rs is ∙ sym (later n r rs (ap (names_cmp n) (sym same) ∙ is))

  at_put_other_by : (n : List ℕ) (row r : T) (rs : List T) (o : Ordering) → (n ≡ name row → ⊥) → names_cmp (name row) (name r) ≡ o
      → at name n (put_row name row rs) ≡ at name n rs
      → at name n (match_ordering o (row ∷ r ∷ rs) (row ∷ rs) (r ∷ put_row name row rs)) ≡ at name n (r ∷ rs)
  at_put_other_by n row r rs Less other is below =
      past_by n row (r ∷ rs) (names_cmp n (name row)) other refl (λ less. not_reached n r rs (below_chain n (name row) (name r) less is))
  at_put_other_by n row r rs Equal other is below = swapped_by n row r rs (names_cmp n (name row)) other refl (same_name (name row) (name r) is)
  at_put_other_by n row r rs Greater other is below = ap (λ rest. match_ordering (names_cmp n (name r)) None (Some r) rest) below

  -- and all other names find what they found
  pub at_put_other : (n : List ℕ) (row : T) (rows : List T) → (n ≡ name row → ⊥) → at name n (put_row name row rows) ≡ at name n rows
  at_put_other n row [] other = past_by n row [] (names_cmp n (name row)) other refl (λ _. refl)
  at_put_other n row (r ∷ rs) other = at_put_other_by n row r rs (names_cmp (name row) (name r)) other refl (at_put_other n row rs other)

  module _ (n : List ℕ) (f : T → T) (keeps : (r : T) → name r ≡ n → name (f r) ≡ name r) where
    at_with_row_by : (r : T) (rs : List T) (o : Ordering) → names_cmp n (name r) ≡ o → at name n (with_row name n f rs) ≡ option_map f (at name n rs)
        → at name n (match_ordering o (r ∷ rs) (f r ∷ rs) (r ∷ with_row name n f rs)) ≡ option_map f (match_ordering o None (Some r) (at name n rs))
    at_with_row_by r rs Less is below = not_reached n r rs is
    at_with_row_by r rs Equal is below = here n (f r) rs (ap (names_cmp n) (keeps r (sym (same_name n (name r) is))) ∙ is)
    at_with_row_by r rs Greater is below = later n r (with_row name n f rs) is ∙ below

    -- a row that was changed is found changed
    pub at_with_row : (rows : List T) → at name n (with_row name n f rows) ≡ option_map f (at name n rows)
    at_with_row [] = refl
    at_with_row (r ∷ rs) = at_with_row_by r rs (names_cmp n (name r)) refl (at_with_row rs)

    at_with_row_other_by : (m : List ℕ) (r : T) (rs : List T) (o : Ordering) → (m ≡ n → ⊥) → names_cmp n (name r) ≡ o
        → at name m (with_row name n f rs) ≡ at name m rs
        → at name m (match_ordering o (r ∷ rs) (f r ∷ rs) (r ∷ with_row name n f rs)) ≡ at name m (r ∷ rs)
    at_with_row_other_by m r rs Less other is below = refl
    at_with_row_other_by m r rs Equal other is below =
        let same : n ≡ name r = same_name n (name r) is in
        let kept : name (f r) ≡ name r = keeps r (sym same) in
        swapped_by m (f r) r rs (names_cmp m (name (f r))) (λ e. other (e ∙ kept ∙ sym same)) refl kept
    at_with_row_other_by m r rs Greater other is below = ap (λ rest. match_ordering (names_cmp m (name r)) None (Some r) rest) below

    pub at_with_row_other : (m : List ℕ) (rows : List T) → (m ≡ n → ⊥) → at name m (with_row name n f rows) ≡ at name m rows
    at_with_row_other m [] other = refl
    at_with_row_other m (r ∷ rs) other = at_with_row_other_by m r rs (names_cmp n (name r)) other refl (at_with_row_other m rs other)

  module _ (P : T → Type 0) where
    all_at_by : (r : T) (rest : Option T) (o : Ordering) → P r → IfSome rest P → IfSome (match_ordering o None (Some r) rest) P
    all_at_by r rest Less p below = tt
    all_at_by r rest Equal p below = p
    all_at_by r rest Greater p below = below

    -- what holds of each row holds of the one that is found
    pub all_at : (n : List ℕ) (rows : List T) → All P rows → IfSome (at name n rows) P
    all_at n [] all = tt
    all_at n (r ∷ rs) all = all_at_by r (at name n rs) (names_cmp n (name r)) (All-head P r rs all) (all_at n rs (All-tail P r rs all))

    -- what holds of each row, and of one that is put, holds of each then
    pub all_put : (row : T) (rows : List T) → P row → All P rows → All P (put_row name row rows)
    all_put row [] p all = All-cons P row [] p all
    all_put row (r ∷ rs) p all =
        let first = All-head P r rs all in
        let rest = All-tail P r rs all in
        chosen (All P) (names_cmp (name row) (name r)) _ _ _ (All-cons P row (r ∷ rs) p all) (All-cons P row rs p rest) (All-cons P r (put_row name row rs) first (all_put row rs p rest))

    pub all_put_rows : (more rows : List T) → All P more → All P rows → All P (put_rows name more rows)
    all_put_rows [] rows new all = all
    all_put_rows (row ∷ more) rows new all = all_put_rows more (put_row name row rows) (All-tail P row more new) (all_put row rows (All-head P row more new) all)

    pub all_take : (n : List ℕ) (rows : List T) → All P rows → All P (take_row name n rows)
    all_take n [] all = all
    all_take n (r ∷ rs) all =
        let rest = All-tail P r rs all in
        chosen (All P) (names_cmp n (name r)) _ _ _ all rest (All-cons P r (take_row name n rs) (All-head P r rs all) (all_take n rs rest))

    all_with_row_by : (n : List ℕ) (f : T → T) (r : T) (rs : List T) (o : Ordering) → names_cmp n (name r) ≡ o → ((s : T) → name s ≡ n → P s → P (f s)) → All P (r ∷ rs)
        → All P (with_row name n f rs) → All P (match_ordering o (r ∷ rs) (f r ∷ rs) (r ∷ with_row name n f rs))
    all_with_row_by n f r rs Less is keeps all below = all
    all_with_row_by n f r rs Equal is keeps all below =
        All-cons P (f r) rs (keeps r (sym (same_name n (name r) is)) (All-head P r rs all)) (All-tail P r rs all)
    all_with_row_by n f r rs Greater is keeps all below = All-cons P r (with_row name n f rs) (All-head P r rs all) below

    -- what holds of each row, and which a change keeps, holds of each then
    pub all_with_row : (n : List ℕ) (f : T → T) (rows : List T) → ((s : T) → name s ≡ n → P s → P (f s)) → All P rows → All P (with_row name n f rows)
    all_with_row n f [] keeps all = all
    all_with_row n f (r ∷ rs) keeps all = all_with_row_by n f r rs (names_cmp n (name r)) refl keeps all (all_with_row n f rs keeps (All-tail P r rs all))

  module _ (P : T → Type 0) (n : List ℕ) (f : T → T) where
    found_by : (r : T) (rs : List T) (o : Ordering) → ((s : T) → match_ordering o None (Some r) (at name n rs) ≡ Some s → P s → P (f s)) → All P (r ∷ rs)
        → (((s : T) → at name n rs ≡ Some s → P s → P (f s)) → All P (with_row name n f rs))
        → All P (match_ordering o (r ∷ rs) (f r ∷ rs) (r ∷ with_row name n f rs))
    found_by r rs Less keeps all below = all
    found_by r rs Equal keeps all below = All-cons P (f r) rs (keeps r refl (All-head P r rs all)) (All-tail P r rs all)
    found_by r rs Greater keeps all below = All-cons P r (with_row name n f rs) (All-head P r rs all) (below keeps)

    -- what holds of each row, and of the one that is found when it is changed, holds of each then
    pub all_with_found : (rows : List T) → ((s : T) → at name n rows ≡ Some s → P s → P (f s)) → All P rows → All P (with_row name n f rows)
    all_with_found [] keeps all = all
    all_with_found (r ∷ rs) keeps all = found_by r rs (names_cmp n (name r)) keeps all (λ below. all_with_found rs below (All-tail P r rs all))
