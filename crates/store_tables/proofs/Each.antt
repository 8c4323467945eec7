-- What a list of rows is read as.
use Rattle.std.proofs.Common.{◌≡◌, ◌⊎◌, inl, inr, ℕ, ◌+◌, ◌<◌, List, [], ◌∷◌, ◌++◌, length, take, get_or, Option, Some, option_map, refl, sym, ap, ap₂, subst, ◌∙◌, All}
use Rattle.std.specs.declared.cmp.Ordering.{Ordering}
use Rattle.std.specs.declared.cmp.Ordering.TheVariants.{Less, Equal, Greater}
use Rattle.std.proofs.lemmas.List.{take_more}
use Rattle.std.proofs.lemmas.List.Elements.{All-cons, All-nil, All-head, All-tail}
use Rattle.sqlite_value.specs.Order.{Row}
use Rattle.sqlite_rules.specs.Lists.{Has}
use Rattle.named_rows.specs.ByName.{names_cmp, at, IsInOrder}
use Rattle.named_rows.proofs.Lookups.{not_reached, here, later}
use Rattle.named_rows.proofs.Order.{IsBelow, in_order_cons, in_order_first, in_order_rest, in_order_none, at_each}
use Rattle.sql_rows.proofs.Canon.{same_or_not, same_rows}
use Rattle.sql_rows.proofs.Sorting.{all_had}
use Rattle.store_tables.specs.Reading.{◌>>=◌, read_each, read_found}
use Rattle.store_tables.proofs.Steps.{some_same, both_read, found_reads}

module _ {X : Type 0} (read : Row → Option X) where
  -- the first row of a list that reads, and the others
  pub first_reads : (r : Row) (rs : List Row) (ts : List X) → read_each read (r ∷ rs) ≡ Some ts
      → (x : X) × (xs : List X) × (read r ≡ Some x) × (read_each read rs ≡ Some xs) × (ts ≡ x ∷ xs)
  first_reads r rs ts is =
      let a = both_read (read r) (λ first. read_each read rs >>= (λ rest. Some (first ∷ rest))) ts is in
      let b = both_read (read_each read rs) (λ rest. Some (a.0 ∷ rest)) ts a.2 in
      (a.0, b.0, a.1, b.1, sym (some_same (a.0 ∷ b.0) ts b.2))

  pub each_reads : (rs : List Row) (ts : List X) → read_each read rs ≡ Some ts → (r : Row) → Has rs r → (x : X) × (read r ≡ Some x)
  each_reads [] ts is c h = absurd h
  each_reads (r ∷ rs) ts is c (inl same) = let f = first_reads r rs ts is in (f.0, ap read same ∙ f.2)
  each_reads (r ∷ rs) ts is c (inr there) = let f = first_reads r rs ts is in each_reads rs f.1 f.3 c there

  pub all_read : (rs : List Row) → ((r : Row) → Has rs r → (x : X) × (read r ≡ Some x)) → (ts : List X) × (read_each read rs ≡ Some ts)
  all_read [] each = ([], refl)
  all_read (r ∷ rs) each =
      let first = each r (inl refl) in
      let rest = all_read rs (λ c there. each c (inr there)) in
      (first.0 ∷ rest.0, rw (first.1, rest.1) refl)

  -- a list that reads with a row behind it that does
  pub each_more : (rs : List Row) (r : Row) (ts : List X) (x : X) → read_each read rs ≡ Some ts → read r ≡ Some x → read_each read (rs ++ r ∷ []) ≡ Some (ts ++ x ∷ [])
  each_more [] r ts x is one = rw one (ap (λ l. Some (l ++ x ∷ [])) (some_same [] ts is))
  each_more (q ∷ qs) r ts x is one =
      let f = first_reads q qs ts is in
      rw (f.2, each_more qs r f.1 x f.3 one) (ap (λ l. Some (l ++ x ∷ [])) (sym f.4))

  -- and so a list that is read a row more
  pub each_stepped : (rows : List Row) (i : ℕ) (r : Row) (ts us : List X) (x : X) → i < length rows → r ≡ get_or rows i r → read_each read (take i rows) ≡ Some ts → read r ≡ Some x → us ≡ ts ++ x ∷ []
      → read_each read (take (i + 1) rows) ≡ Some us
  each_stepped rows i r ts us x within is reads one last =
      ap (read_each read) (take_more rows i r within) ∙ each_more (take i rows) (get_or rows i r) ts x reads (ap read (sym is) ∙ one) ∙ ap Some (sym last)

  -- rows that have names, and what they are read as
  module _ (of : Row → List ℕ) (name : X → List ℕ) where
    at_by : (n : List ℕ) (r : Row) (rs : List Row) (x : X) (xs : List X) → read r ≡ Some x → name x ≡ of r → (o : Ordering) → names_cmp n (of r) ≡ o
        → read_found read (at of n rs) ≡ Some (at name n xs) → read_found read (at of n (r ∷ rs)) ≡ Some (at name n (x ∷ xs))
    at_by n r rs x xs reads same Less is below = ap (read_found read) (not_reached of n r rs is) ∙ sym (ap Some (not_reached name n x xs (ap (names_cmp n) same ∙ is)))
    at_by n r rs x xs reads same Equal is below =
        ap (read_found read) (here of n r rs is) ∙ ap (option_map Some) reads ∙ sym (ap Some (here name n x xs (ap (names_cmp n) same ∙ is)))
    at_by n r rs x xs reads same Greater is below =
        ap (read_found read) (later of n r rs is) ∙ below ∙ sym (ap Some (later name n x xs (ap (names_cmp n) same ∙ is)))

    module _ (named : (r : Row) (x : X) → read r ≡ Some x → name x ≡ of r) where
      -- what is found by a name is what the row of that name is read as
      pub reads_at : (rs : List Row) (ts : List X) → read_each read rs ≡ Some ts → (n : List ℕ) → read_found read (at of n rs) ≡ Some (at name n ts)
      reads_at [] ts is n = ap (λ l. Some (at name n l)) (some_same [] ts is)
      reads_at (r ∷ rs) ts is n =
          let f = first_reads r rs ts is in
          at_by n r rs f.0 f.1 f.2 (named r f.0 f.2) (names_cmp n (of r)) refl (reads_at rs f.1 f.3 n) ∙ ap (λ l. Some (at name n l)) (sym f.4)

      below_all : (r : Row) (x : X) → name x ≡ of r → (rs : List Row) (ts : List X) → read_each read rs ≡ Some ts → All (IsBelow of r) rs → All (IsBelow name x) ts
      below_all r x same [] ts is all = subst (All (IsBelow name x)) (some_same [] ts is) (All-nil (IsBelow name x))
      below_all r x same (q ∷ rs) ts is all =
          let f = first_reads q rs ts is in
          let head : names_cmp (name x) (name f.0) ≡ Less = ap₂ names_cmp same (named q f.0 f.2) ∙ All-head (IsBelow of r) q rs all in
          subst (All (IsBelow name x)) (sym f.4) (All-cons (IsBelow name x) f.0 f.1 head (below_all r x same rs f.1 f.3 (All-tail (IsBelow of r) q rs all)))

      -- what is read of rows in order is in order
      pub reads_in_order : (rs : List Row) (ts : List X) → IsInOrder of rs → read_each read rs ≡ Some ts → IsInOrder name ts
      reads_in_order [] ts up is = subst (IsInOrder name) (some_same [] ts is) (in_order_none name)
      reads_in_order (r ∷ rs) ts up is =
          let f = first_reads r rs ts is in
          subst (IsInOrder name) (sym f.4)
          (in_order_cons name f.0 f.1 (below_all r f.0 (named r f.0 f.2) rs f.1 f.3 (in_order_first of r rs up)) (reads_in_order rs f.1 (in_order_rest of r rs up) f.3))

-- ---- rows that are changed at one name, and what they are read as

module _ {X : Type 0} (of : Row → List ℕ) (name : X → List ℕ) (n : List ℕ) (change : Option X → Option X) (changed : List X → List X) where
  -- a list is changed at the name alone
  pub record ChangesAt : Type 0 where
    pub in_order : (ts : List X) → IsInOrder name ts → IsInOrder name (changed ts)
    pub there : (ts : List X) → IsInOrder name ts → at name n (changed ts) ≡ change (at name n ts)
    pub elsewhere : (ts : List X) (m : List ℕ) → (m ≡ n → ⊥) → IsInOrder name ts → at name m (changed ts) ≡ at name m ts

  module _ (before after : Row → Option X) (old new : List Row) where
    -- every other name is read as it was, and what this one is read as is changed
    pub record TurnsBack : Type 0 where
      pub there : (x : Option X) → read_found after (at of n new) ≡ Some x → (y : Option X) × (read_found before (at of n old) ≡ Some y) × (x ≡ change y)
      pub elsewhere : (m : List ℕ) → (m ≡ n → ⊥) → (x : Option X) → read_found after (at of m new) ≡ Some x → read_found before (at of m old) ≡ Some x

    module _ (named_before : (r : Row) (x : X) → before r ≡ Some x → name x ≡ of r) (named_after : (r : Row) (x : X) → after r ≡ Some x → name x ≡ of r) where
      -- rows that read afterwards did so before, as what was changed
      pub turned : ChangesAt → IsInOrder of old → IsInOrder of new → TurnsBack → (ts : List X) → read_each after new ≡ Some ts
          → (ss : List X) × (read_each before old ≡ Some ss) × (ts ≡ changed ss)
      turned changes up_old up_new back ts is =
          let was = all_read before old (λ r there. row r (all_had (λ c. at of (of c) old ≡ Some c) old r (at_each of old up_old) there) (same_or_not (of r) n)) in
          let order = reads_in_order before of name named_before old was.0 up_old was.1 in (
            was.0,
            was.1,
            same_rows name ts (changed was.0) (reads_in_order after of name named_after new ts up_new is) (changes.in_order was.0 order)
                (λ m. each was.0 order (reads_at before of name named_before old was.0 was.1) m (same_or_not m n)),
          )
        where
          after_at : (m : List ℕ) → read_found after (at of m new) ≡ Some (at name m ts)
          after_at m = reads_at after of name named_after new ts is m

          row : (r : Row) → at of (of r) old ≡ Some r → (of r ≡ n) ⊎ (of r ≡ n → ⊥) → (x : X) × (before r ≡ Some x)
          row r there (inl same) =
              let y = back.there (at name n ts) (after_at n) in
              let found = found_reads (before r) y.0 (ap (read_found before) (sym there) ∙ ap (λ m. read_found before (at of m old)) same ∙ y.1) in
              (found.0, found.1)
          row r there (inr other) =
              let found = found_reads (before r) (at name (of r) ts) (ap (read_found before) (sym there) ∙ back.elsewhere (of r) other (at name (of r) ts) (after_at (of r))) in
              (found.0, found.1)

          each : (ss : List X) → IsInOrder name ss → ((m : List ℕ) → read_found before (at of m old) ≡ Some (at name m ss)) → (m : List ℕ) → (m ≡ n) ⊎ (m ≡ n → ⊥) → at name m ts ≡ at name m (changed ss)
          each ss order before_at m (inl same) =
              let y = back.there (at name n ts) (after_at n) in
              ap (λ k. at name k ts) same ∙ y.2 ∙ ap change (some_same y.0 (at name n ss) (sym y.1 ∙ before_at n)) ∙ sym (changes.there ss order) ∙ ap (λ k. at name k (changed ss)) (sym same)
          each ss order before_at m (inr other) =
              some_same (at name m ts) (at name m ss) (sym (back.elsewhere m other (at name m ts) (after_at m)) ∙ before_at m) ∙ sym (changes.elsewhere ss m other order)
