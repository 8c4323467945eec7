-- What holds of each two rows: it stays where a row is put, where one is taken out and where one is changed.
use Rattle.std.proofs.Common.{ℕ, zero, suc, List, [], ◌∷◌, get_or, arith}
use Rattle.std.specs.List.{All, AllPairs}
use Rattle.std.proofs.lemmas.List.Elements.{All-nil, All-head, All-tail}
use Rattle.std.proofs.lemmas.List.Kept.{AllPairs-cons}
use Rattle.named_rows.specs.ByName.{names_cmp, put_row, take_row, with_row}
use Rattle.named_rows.proofs.Names.{chosen}
use Rattle.named_rows.proofs.Lookups.{all_put, all_take, all_with_row}

module _ {T : Type 0} (R : T → T → Type 0) where
  pub pairs_none : AllPairs R []
  pairs_none = λ i j d lt within. absurd (omega arith)

  pub pairs_first : (r : T) (rs : List T) → AllPairs R (r ∷ rs) → All (R r) rs
  pairs_first r rs pairs = λ k d within. pairs zero (suc k) d (omega arith) (omega arith)

  pub pairs_rest : (r : T) (rs : List T) → AllPairs R (r ∷ rs) → AllPairs R rs
  pairs_rest r rs pairs = λ i j d lt within. pairs (suc i) (suc j) d (omega arith) (omega arith)

  module _ (name : T → List ℕ) where
    -- each two rows are so where one is put that is so beside each
    pub pairs_put : (row : T) (rows : List T) → AllPairs R rows → All (R row) rows → All (λ r. R r row) rows → AllPairs R (put_row name row rows)
    pairs_put row [] pairs before after = AllPairs-cons R row [] (All-nil (R row)) pairs
    pairs_put row (r ∷ rs) pairs before after =
        let first = pairs_first r rs pairs in
        let rest = pairs_rest r rs pairs in
        let before_rest = All-tail (R row) r rs before in
        let below = pairs_put row rs rest before_rest (All-tail (λ s. R s row) r rs after) in
        chosen (AllPairs R) (names_cmp (name row) (name r)) _ _ _
        (AllPairs-cons R row (r ∷ rs) before pairs)
        (AllPairs-cons R row rs before_rest rest)
        (AllPairs-cons R r (put_row name row rs) (all_put name (R r) row rs (All-head (λ s. R s row) r rs after) first) below)

    pub pairs_take : (n : List ℕ) (rows : List T) → AllPairs R rows → AllPairs R (take_row name n rows)
    pairs_take n [] pairs = pairs
    pairs_take n (r ∷ rs) pairs =
        let rest = pairs_rest r rs pairs in
        chosen (AllPairs R) (names_cmp n (name r)) _ _ _ pairs rest
        (AllPairs-cons R r (take_row name n rs) (all_take name (R r) n rs (pairs_first r rs pairs)) (pairs_take n rs rest))

    -- a change that keeps how a row stands to others
    module _ (n : List ℕ) (f : T → T) (before : (r s : T) → R r s → R (f r) s) (after : (r s : T) → R r s → R r (f s)) where
      all_before : (r : T) (rs : List T) → All (R r) rs → All (R (f r)) rs
      all_before r rs all = λ k d within. before r (get_or rs k d) (all k d within)

      pub pairs_with_row : (rows : List T) → AllPairs R rows → AllPairs R (with_row name n f rows)
      pairs_with_row [] pairs = pairs
      pairs_with_row (r ∷ rs) pairs =
          let first = pairs_first r rs pairs in
          let rest = pairs_rest r rs pairs in
          chosen (AllPairs R) (names_cmp n (name r)) _ _ _ pairs (AllPairs-cons R (f r) rs (all_before r rs first) rest)
          (AllPairs-cons R r (with_row name n f rs) (all_with_row name (R r) n f rs (λ s _. after r s) first) (pairs_with_row rs rest))
