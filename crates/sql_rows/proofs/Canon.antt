-- Rows in order are known by what is found by each name.
use Rattle.std.proofs.Common.{◌≡◌, ◌⊎◌, inl, inr, ℕ, List, [], ◌∷◌, ◌++◌, get_or, filter, Bool, true, false, not, cond, Option, Some, None, refl, sym, ap, ap₂, ◌∙◌, true≢false}
use Rattle.std.specs.declared.cmp.Ordering.{Ordering}
use Rattle.std.specs.declared.cmp.Ordering.TheVariants.{Less, Equal, Greater}
use Rattle.std.specs.Ordering.{is_eq}
use Rattle.named_rows.specs.ByName.{names_cmp, at, put_row, put_rows, take_row, IsInOrder}
use Rattle.sql_rows.specs.InOrder.{in_order}
use Rattle.sql_rows.specs.Tables.{same_name}
use Rattle.named_rows.proofs.Names.{same_itself, same_name as same_name_is, tied_name, turned, below_chain}
use Rattle.named_rows.proofs.Lookups.{not_reached, here, later, at_put, at_put_other}
use Rattle.named_rows.proofs.Order.{in_order_first, in_order_rest, in_order_none, in_order_put, in_order_put_rows, in_order_take, none_below, at_take, at_take_other}

pub same_or_not : (m n : List ℕ) → (m ≡ n) ⊎ (m ≡ n → ⊥)
same_or_not m n = by (names_cmp m n) refl
  where
    by : (o : Ordering) → names_cmp m n ≡ o → (m ≡ n) ⊎ (m ≡ n → ⊥)
    by Less is = inr (λ e. let tied = tied_name m n e in cc)
    by Equal is = inl (same_name_is m n is)
    by Greater is = inr (λ e. let tied = tied_name m n e in cc)

pub name_is : (m n : List ℕ) → same_name m n ≡ true → m ≡ n
name_is m n h = by (names_cmp m n) refl h
  where
    by : (o : Ordering) → names_cmp m n ≡ o → is_eq o ≡ true → m ≡ n
    by Less is h = absurd (true≢false (sym h))
    by Equal is h = same_name_is m n is
    by Greater is h = absurd (true≢false (sym h))

pub name_same : (m n : List ℕ) → m ≡ n → same_name m n ≡ true
name_same m n e = ap is_eq (tied_name m n e)

pub name_other : (m n : List ℕ) → (m ≡ n → ⊥) → same_name m n ≡ false
name_other m n other = by (same_name m n) refl
  where
    by : (b : Bool) → same_name m n ≡ b → same_name m n ≡ false
    by true is = absurd (other (name_is m n is))
    by false is = is

-- the last of more, or what was found before
abbrev pub last_or : {T : Type 0} → Option T → List T → Option T
last_or found [] = found
last_or found (x ∷ xs) = last_or (Some x) xs

module _ {T : Type 0} (name : T → List ℕ) where
  abbrev pub is_named : List ℕ → T → Bool
  is_named n r = same_name n (name r)

  pub named_is : (n : List ℕ) (r : T) → is_named n r ≡ true → n ≡ name r
  named_is n r is = name_is n (name r) is

  pub is_named_by : (n : List ℕ) (r : T) → n ≡ name r → is_named n r ≡ true
  is_named_by n r same = name_same n (name r) same

  pub not_named : (n : List ℕ) (r : T) → (n ≡ name r → ⊥) → is_named n r ≡ false
  not_named n r other = name_other n (name r) other

  -- what is found among rows that were put in turn
  pub at_put_rows : (n : List ℕ) (xs acc : List T) → at name n (put_rows name xs acc) ≡ last_or (at name n acc) (filter (is_named n) xs)
  at_put_rows n [] acc = refl
  at_put_rows n (x ∷ xs) acc = at_put_rows n xs (put_row name x acc) ∙ by (same_or_not n (name x))
    where
      by : (n ≡ name x) ⊎ (n ≡ name x → ⊥) → last_or (at name n (put_row name x acc)) (filter (is_named n) xs) ≡ last_or (at name n acc) (filter (is_named n) (x ∷ xs))
      by (inl same) = rw (is_named_by n x same) (ap (λ o. last_or o (filter (is_named n) xs)) (ap (λ m. at name m (put_row name x acc)) same ∙ at_put name x acc))
      by (inr other) = rw (not_named n x other) (ap (λ o. last_or o (filter (is_named n) xs)) (at_put_other name n x acc other))

  pub at_in_order : (n : List ℕ) (xs : List T) → at name n (in_order name xs) ≡ last_or None (filter (is_named n) xs)
  at_in_order n xs = at_put_rows n xs []

  pub is_in_order : (xs : List T) → IsInOrder name (in_order name xs)
  is_in_order xs = in_order_put_rows name xs [] (in_order_none name)

  below_rest : (m : List ℕ) (x : T) (xs : List T) (o : Ordering) → names_cmp m (name x) ≡ o → (o ≡ Greater → ⊥) → IsInOrder name (x ∷ xs) → at name m xs ≡ None
  below_rest m x xs Less is under up = none_below name m xs (λ k d within. below_chain m (name x) (name (get_or xs k d)) is (in_order_first name x xs up k d within))
  below_rest m x xs Equal is under up = none_below name m xs (λ k d within. ap (λ n. names_cmp n (name (get_or xs k d))) (same_name_is m (name x) is) ∙ in_order_first name x xs up k d within)
  below_rest m x xs Greater is under up = absurd (under refl)

  some_same : {x y : T} → ◌≡◌ {A = Option T} (Some x) (Some y) → x ≡ y
  some_same e = cc

  -- rows in order with the same row at each name are the same
  pub same_rows : (xs ys : List T) → IsInOrder name xs → IsInOrder name ys → ((n : List ℕ) → at name n xs ≡ at name n ys) → xs ≡ ys
  same_rows [] [] up vp same = refl
  same_rows [] (y ∷ ys) up vp same = let no : None ≡ Some y = same (name y) ∙ here name (name y) y ys (same_itself (name y)) in absurd cc
  same_rows (x ∷ xs) [] up vp same = let no : Some x ≡ None = sym (here name (name x) x xs (same_itself (name x))) ∙ same (name x) in absurd cc
  same_rows (x ∷ xs) (y ∷ ys) up vp same = by (names_cmp (name x) (name y)) refl (same_rows xs ys (in_order_rest name x xs up) (in_order_rest name y ys vp))
    where
      x_there : Some x ≡ at name (name x) (y ∷ ys)
      x_there = sym (here name (name x) x xs (same_itself (name x))) ∙ same (name x)

      y_there : Some y ≡ at name (name y) (x ∷ xs)
      y_there = sym (here name (name y) y ys (same_itself (name y))) ∙ sym (same (name y))

      tails : x ≡ y → (m : List ℕ) → (o : Ordering) → names_cmp m (name x) ≡ o → at name m xs ≡ at name m ys
      tails e m Less is = below_rest m x xs Less is (λ no. cc) up ∙ sym (below_rest m y ys Less (ap (λ z. names_cmp m (name z)) (sym e) ∙ is) (λ no. cc) vp)
      tails e m Equal is = below_rest m x xs Equal is (λ no. cc) up ∙ sym (below_rest m y ys Equal (ap (λ z. names_cmp m (name z)) (sym e) ∙ is) (λ no. cc) vp)
      tails e m Greater is = sym (later name m x xs is) ∙ same m ∙ later name m y ys (ap (λ z. names_cmp m (name z)) (sym e) ∙ is)

      by : (o : Ordering) → names_cmp (name x) (name y) ≡ o → (((m : List ℕ) → at name m xs ≡ at name m ys) → xs ≡ ys) → x ∷ xs ≡ y ∷ ys
      by Less is more = let no : Some x ≡ None = x_there ∙ not_reached name (name x) y ys is in absurd cc
      by Greater is more = let no : Some y ≡ None = y_there ∙ not_reached name (name y) x xs (turned (name x) (name y) Greater is) in absurd cc
      by Equal is more =
          let e : x ≡ y = some_same (x_there ∙ here name (name x) y ys is) in
          ap₂ (λ z zs. z ∷ zs) e (more (λ m. tails e m (names_cmp m (name x)) refl))

  -- ---- a row that is put after those of its name are taken out

  pub put_rows_append : (xs ys acc : List T) → put_rows name (xs ++ ys) acc ≡ put_rows name ys (put_rows name xs acc)
  put_rows_append [] ys acc = refl
  put_rows_append (x ∷ xs) ys acc = put_rows_append xs ys (put_row name x acc)

  abbrev pub is_other : List ℕ → T → Bool
  is_other n r = not (is_named n r)

  filter_none : (n : List ℕ) (xs : List T) → filter (is_named n) (filter (is_other n) xs) ≡ []
  filter_none n [] = refl
  filter_none n (x ∷ xs) = by (is_named n x) refl (filter_none n xs)
    where
      by : (b : Bool) → is_named n x ≡ b → filter (is_named n) (filter (is_other n) xs) ≡ [] → filter (is_named n) (filter (is_other n) (x ∷ xs)) ≡ []
      by true is more = rw is more
      by false is more = rw (is, is) more

  filter_other : (m n : List ℕ) (xs : List T) → (m ≡ n → ⊥) → filter (is_named m) (filter (is_other n) xs) ≡ filter (is_named m) xs
  filter_other m n [] other = refl
  filter_other m n (x ∷ xs) other = by (is_named n x) refl (filter_other m n xs other)
    where
      by : (b : Bool) → is_named n x ≡ b → filter (is_named m) (filter (is_other n) xs) ≡ filter (is_named m) xs → filter (is_named m) (filter (is_other n) (x ∷ xs)) ≡ filter (is_named m) (x ∷ xs)
      by true is more = rw (is, not_named m x (λ e. other (e ∙ sym (named_is n x is)))) more
      by false is more = rw is (ap (λ zs. cond (is_named m x) (x ∷ zs) zs) more)

  -- taking rows of a name out of any rows takes the row of it out of them in order
  pub taken : (n : List ℕ) (xs : List T) → in_order name (filter (is_other n) xs) ≡ take_row name n (in_order name xs)
  taken n xs = same_rows (in_order name (filter (is_other n) xs)) (take_row name n (in_order name xs)) (is_in_order (filter (is_other n) xs)) (in_order_take name n (in_order name xs) (is_in_order xs)) (λ m. each m (same_or_not m n))
    where
      each : (m : List ℕ) → (m ≡ n) ⊎ (m ≡ n → ⊥) → at name m (in_order name (filter (is_other n) xs)) ≡ at name m (take_row name n (in_order name xs))
      each m (inl same) =
          at_in_order m (filter (is_other n) xs) ∙ ap (last_or None) (ap (λ k. filter (is_named k) (filter (is_other n) xs)) same ∙ filter_none n xs)
          ∙ sym (ap (λ k. at name k (take_row name n (in_order name xs))) same ∙ at_take name n (in_order name xs) (is_in_order xs))
      each m (inr other) =
          at_in_order m (filter (is_other n) xs) ∙ ap (last_or None) (filter_other m n xs other) ∙ sym (at_in_order m xs)
          ∙ sym (at_take_other name n m (in_order name xs) other (is_in_order xs))

  put_after_take : (row : T) (rows : List T) → IsInOrder name rows → put_row name row (take_row name (name row) rows) ≡ put_row name row rows
  put_after_take row rows up =
      same_rows (put_row name row (take_row name (name row) rows)) (put_row name row rows) (in_order_put name row (take_row name (name row) rows) (in_order_take name (name row) rows up)) (in_order_put name row rows up) (λ m. each m (same_or_not m (name row)))
    where
      each : (m : List ℕ) → (m ≡ name row) ⊎ (m ≡ name row → ⊥) → at name m (put_row name row (take_row name (name row) rows)) ≡ at name m (put_row name row rows)
      each m (inl same) = ap (λ k. at name k (put_row name row (take_row name (name row) rows))) same ∙ at_put name row (take_row name (name row) rows) ∙ sym (ap (λ k. at name k (put_row name row rows)) same ∙ at_put name row rows)
      each m (inr other) = at_put_other name m row (take_row name (name row) rows) other ∙ at_take_other name (name row) m rows other up ∙ sym (at_put_other name m row rows other)

  -- a row that comes in place of those of its name
  pub replaced : (row : T) (xs : List T) → in_order name (filter (is_other (name row)) xs ++ row ∷ []) ≡ put_row name row (in_order name xs)
  replaced row xs =
      put_rows_append (filter (is_other (name row)) xs) (row ∷ []) [] ∙ ap (put_row name row) (taken (name row) xs) ∙ put_after_take row (in_order name xs) (is_in_order xs)
