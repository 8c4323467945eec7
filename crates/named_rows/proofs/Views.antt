-- Rows seen as others of the same names: looking up and changing them is looking up and changing those.
use Rattle.std.proofs.Common.{◌≡◌, ℕ, List, [], ◌∷◌, map, Some, None, option_map, refl, sym, ap, ◌∙◌}
use Rattle.std.specs.declared.cmp.Ordering.{Ordering}
use Rattle.std.specs.declared.cmp.Ordering.TheVariants.{Less, Equal, Greater}
use Rattle.std.specs.Ordering.{match_ordering}
use Rattle.named_rows.specs.ByName.{names_cmp, at, put_row, put_rows, take_row, with_row}
use Rattle.named_rows.proofs.Names.{same_name, through}

module _ {T U : Type 0} (name : T → List ℕ) (seen_name : U → List ℕ) (seen : T → U) (same : (r : T) → seen_name (seen r) ≡ name r) where
  pub at_map : (n : List ℕ) (rows : List T) → at seen_name n (map seen rows) ≡ option_map seen (at name n rows)
  at_map n [] = refl
  at_map n (r ∷ rs) =
      ap (λ m. match_ordering (names_cmp n m) None (Some (seen r)) (at seen_name n (map seen rs))) (same r)
      ∙ ap (λ rest. match_ordering (names_cmp n (name r)) None (Some (seen r)) rest) (at_map n rs)
      ∙ sym (through (option_map seen) (names_cmp n (name r)) None (Some r) (at name n rs))

  same_cmp : (row r : T) → names_cmp (seen_name (seen row)) (seen_name (seen r)) ≡ names_cmp (name row) (name r)
  same_cmp row r = ap (λ n. names_cmp n (seen_name (seen r))) (same row) ∙ ap (names_cmp (name row)) (same r)

  pub put_map : (row : T) (rows : List T) → put_row seen_name (seen row) (map seen rows) ≡ map seen (put_row name row rows)
  put_map row [] = refl
  put_map row (r ∷ rs) =
      let o = names_cmp (name row) (name r) in
      ap (λ p. match_ordering p (seen row ∷ seen r ∷ map seen rs) (seen row ∷ map seen rs) (seen r ∷ put_row seen_name (seen row) (map seen rs))) (same_cmp row r)
      ∙ ap (λ rest. match_ordering o (seen row ∷ seen r ∷ map seen rs) (seen row ∷ map seen rs) (seen r ∷ rest)) (put_map row rs)
      ∙ sym (through (map seen) o (row ∷ r ∷ rs) (row ∷ rs) (r ∷ put_row name row rs))

  pub put_rows_map : (more rows : List T) → put_rows seen_name (map seen more) (map seen rows) ≡ map seen (put_rows name more rows)
  put_rows_map [] rows = refl
  put_rows_map (row ∷ more) rows = ap (put_rows seen_name (map seen more)) (put_map row rows) ∙ put_rows_map more (put_row name row rows)

  pub take_map : (n : List ℕ) (rows : List T) → take_row seen_name n (map seen rows) ≡ map seen (take_row name n rows)
  take_map n [] = refl
  take_map n (r ∷ rs) =
      ap (λ m. match_ordering (names_cmp n m) (seen r ∷ map seen rs) (map seen rs) (seen r ∷ take_row seen_name n (map seen rs))) (same r)
      ∙ ap (λ rest. match_ordering (names_cmp n (name r)) (seen r ∷ map seen rs) (map seen rs) (seen r ∷ rest)) (take_map n rs)
      ∙ sym (through (map seen) (names_cmp n (name r)) (r ∷ rs) rs (r ∷ take_row name n rs))

  module _ (n : List ℕ) (f : T → T) (g : U → U) (agree : (r : T) → name r ≡ n → g (seen r) ≡ seen (f r)) where
    with_row_by : (r : T) (rs : List T) (o : Ordering) → names_cmp n (name r) ≡ o → with_row seen_name n g (map seen rs) ≡ map seen (with_row name n f rs)
        → match_ordering o (seen r ∷ map seen rs) (g (seen r) ∷ map seen rs) (seen r ∷ with_row seen_name n g (map seen rs))
        ≡ map seen (match_ordering o (r ∷ rs) (f r ∷ rs) (r ∷ with_row name n f rs))
    with_row_by r rs Less is below = refl
    with_row_by r rs Equal is below = ap (λ u. u ∷ map seen rs) (agree r (sym (same_name n (name r) is)))
    with_row_by r rs Greater is below = ap (λ rest. seen r ∷ rest) below

    pub with_row_map : (rows : List T) → with_row seen_name n g (map seen rows) ≡ map seen (with_row name n f rows)
    with_row_map [] = refl
    with_row_map (r ∷ rs) =
        ap (λ m. match_ordering (names_cmp n m) (seen r ∷ map seen rs) (g (seen r) ∷ map seen rs) (seen r ∷ with_row seen_name n g (map seen rs))) (same r)
        ∙ with_row_by r rs (names_cmp n (name r)) refl (with_row_map rs)
