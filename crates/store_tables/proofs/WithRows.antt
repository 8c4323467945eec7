-- Rows of which the one of a name is changed, once, twice, and not at all.
use Rattle.std.proofs.Common.{◌≡◌, ℕ, List, [], ◌∷◌, Some, None, refl, sym, ap, ◌∙◌}
use Rattle.std.specs.declared.cmp.Ordering.{Ordering}
use Rattle.std.specs.declared.cmp.Ordering.TheVariants.{Less, Equal, Greater}
use Rattle.std.specs.Ordering.{match_ordering}
use Rattle.named_rows.specs.ByName.{names_cmp, at, with_row}

module _ {T : Type 0} (name : T → List ℕ) (n : List ℕ) where
  -- a change that changes nothing
  pub with_same : (rows : List T) → with_row name n (λ r. r) rows ≡ rows
  with_same [] = refl
  with_same (r ∷ rs) = by (names_cmp n (name r)) (with_same rs)
    where
      by : (o : Ordering) → with_row name n (λ r. r) rs ≡ rs → match_ordering o (r ∷ rs) (r ∷ rs) (r ∷ with_row name n (λ r. r) rs) ≡ r ∷ rs
      by Less below = refl
      by Equal below = refl
      by Greater below = ap (λ l. r ∷ l) below

  -- a row that isn't there
  pub with_absent : (f : T → T) (rows : List T) → at name n rows ≡ None → with_row name n f rows ≡ rows
  with_absent f [] absent = refl
  with_absent f (r ∷ rs) absent = by (names_cmp n (name r)) absent (with_absent f rs)
    where
      by : (o : Ordering) → match_ordering o None (Some r) (at name n rs) ≡ None → (at name n rs ≡ None → with_row name n f rs ≡ rs)
          → match_ordering o (r ∷ rs) (f r ∷ rs) (r ∷ with_row name n f rs) ≡ r ∷ rs
      by Less absent below = refl
      by Equal absent below = let no : Some r ≡ None = absent in absurd cc
      by Greater absent below = ap (λ l. r ∷ l) (below absent)

  -- one change after another
  pub with_twice : (f g : T → T) → ((r : T) → name (f r) ≡ name r) → (rows : List T) → with_row name n g (with_row name n f rows) ≡ with_row name n (λ r. g (f r)) rows
  with_twice f g keeps [] = refl
  with_twice f g keeps (r ∷ rs) = by (names_cmp n (name r)) refl (with_twice f g keeps rs)
    where
      by : (o : Ordering) → names_cmp n (name r) ≡ o → with_row name n g (with_row name n f rs) ≡ with_row name n (λ r. g (f r)) rs
          → with_row name n g (match_ordering o (r ∷ rs) (f r ∷ rs) (r ∷ with_row name n f rs)) ≡ match_ordering o (r ∷ rs) (g (f r) ∷ rs) (r ∷ with_row name n (λ r. g (f r)) rs)
      by Less is below = ap (λ o. match_ordering o (r ∷ rs) (g r ∷ rs) (r ∷ with_row name n g rs)) is
      by Equal is below = ap (λ o. match_ordering o (f r ∷ rs) (g (f r) ∷ rs) (f r ∷ with_row name n g rs)) (ap (names_cmp n) (keeps r) ∙ is)
      by Greater is below = ap (λ o. match_ordering o (r ∷ with_row name n f rs) (g r ∷ with_row name n f rs) (r ∷ with_row name n g (with_row name n f rs))) is ∙ ap (λ l. r ∷ l) below

  -- changes that change each row alike
  pub with_alike : (f g : T → T) → ((r : T) → f r ≡ g r) → (rows : List T) → with_row name n f rows ≡ with_row name n g rows
  with_alike f g same rows = λ i. with_row name n (λ r. same r i) rows

  -- a row that a change leaves as it is
  pub with_kept : (f : T → T) (r : T) → f r ≡ r → (rows : List T) → at name n rows ≡ Some r → with_row name n f rows ≡ rows
  with_kept f r keeps [] is = refl
  with_kept f r keeps (s ∷ rs) is = by (names_cmp n (name s)) is (with_kept f r keeps rs)
    where
      by : (o : Ordering) → match_ordering o None (Some s) (at name n rs) ≡ Some r → (at name n rs ≡ Some r → with_row name n f rs ≡ rs)
          → match_ordering o (s ∷ rs) (f s ∷ rs) (s ∷ with_row name n f rs) ≡ s ∷ rs
      by Less is below = refl
      by Equal is below = let same : s ≡ r = cc in ap (λ u. u ∷ rs) (ap f same ∙ keeps ∙ sym same)
      by Greater is below = ap (λ l. s ∷ l) (below is)
