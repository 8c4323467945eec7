-- Rows that are put in the order of their names.
use Rattle.std.proofs.Common.{◌≡◌, ◌⊎◌, inl, inr, ℕ, List, [], ◌∷◌, ◌++◌, refl, sym, ap, ◌∙◌}
use Rattle.std.specs.declared.cmp.Ordering.TheVariants.{Less, Greater}
use Rattle.sqlite_rules.specs.Lists.{Has}
use Rattle.sqlite_rules.proofs.ListLemmas.{has_either}
use Rattle.named_rows.specs.ByName.{names_cmp, put_row, put_rows, IsInOrder}
use Rattle.named_rows.proofs.Names.{turned}
use Rattle.named_rows.proofs.Order.{IsBelow, in_order_first, in_order_rest}
use Rattle.sql_rows.specs.InOrder.{in_order}
use Rattle.sql_rows.proofs.Sorting.{all_had}

append_assoc : {T : Type 0} (xs ys zs : List T) → (xs ++ ys) ++ zs ≡ xs ++ (ys ++ zs)
append_assoc [] ys zs = refl
append_assoc (x ∷ xs) ys zs = ap (λ l. x ∷ l) (append_assoc xs ys zs)

nothing_more : {T : Type 0} (xs : List T) → xs ++ [] ≡ xs
nothing_more [] = refl
nothing_more (x ∷ xs) = ap (λ l. x ∷ l) (nothing_more xs)

module _ {T : Type 0} (name : T → List ℕ) where
  -- a row whose name is above all comes last
  pub put_last : (row : T) (rows : List T) → ((r : T) → Has rows r → names_cmp (name row) (name r) ≡ Greater) → put_row name row rows ≡ rows ++ row ∷ []
  put_last row [] above = refl
  put_last row (r ∷ rs) above = rw (above r (inl refl)) (ap (λ l. r ∷ l) (put_last row rs (λ s there. above s (inr there))))

  pub put_all_last : (xs acc : List T) → IsInOrder name xs → ((a x : T) → Has acc a → Has xs x → names_cmp (name a) (name x) ≡ Less) → put_rows name xs acc ≡ acc ++ xs
  put_all_last [] acc up apart = sym (nothing_more acc)
  put_all_last (x ∷ xs) acc up apart =
      ap (put_rows name xs) (put_last x acc (λ a there. turned (name a) (name x) Less (apart a x there (inl refl))))
      ∙ put_all_last xs (acc ++ x ∷ []) (in_order_rest name x xs up) (λ a y had there. below a y (has_either acc (x ∷ []) a had) there) ∙ append_assoc acc (x ∷ []) xs
    where
      below : (a y : T) → Has acc a ⊎ Has (x ∷ []) a → Has xs y → names_cmp (name a) (name y) ≡ Less
      below a y (inl had) there = apart a y had (inr there)
      below a y (inr (inl same)) there = ap (λ b. names_cmp (name b) (name y)) same ∙ all_had (IsBelow name x) xs y (in_order_first name x xs up) there
      below a y (inr (inr none)) there = absurd none

  -- rows that come in order stay as they come
  pub in_order_same : (xs : List T) → IsInOrder name xs → in_order name xs ≡ xs
  in_order_same xs up = put_all_last xs [] up (λ a x had there. absurd had)
