-- What a list of rows is read as whose places are counted.
use Rattle.std.proofs.Common.{◌≡◌, ℕ, suc, ◌+◌, ◌<◌, min, List, [], ◌∷◌, ◌++◌, length, take, get_or, Option, Some, refl, sym, ap, ◌∙◌, arith}
use Rattle.std.proofs.lemmas.List.{take_more, length-take}
use Rattle.sqlite_value.specs.Order.{Row}
use Rattle.store_tables.specs.Reading.{◌>>=◌, read_counted}
use Rattle.store_tables.proofs.Steps.{some_same, both_read}

module _ {X : Type 0} (read : ℕ → Row → Option X) where
  -- the first row of a list that reads, and the others
  pub first_counted : (place : ℕ) (r : Row) (rs : List Row) (ts : List X) → read_counted read place (r ∷ rs) ≡ Some ts
      → (x : X) × (xs : List X) × (read place r ≡ Some x) × (read_counted read (suc place) rs ≡ Some xs) × (ts ≡ x ∷ xs)
  first_counted place r rs ts is =
      let a = both_read (read place r) (λ first. read_counted read (suc place) rs >>= (λ rest. Some (first ∷ rest))) ts is in
      let b = both_read (read_counted read (suc place) rs) (λ rest. Some (a.0 ∷ rest)) ts a.2 in
      (a.0, b.0, a.1, b.1, sym (some_same (a.0 ∷ b.0) ts b.2))

  -- a list that reads with a row behind it that does
  pub counted_more : (place : ℕ) (rs : List Row) (r : Row) (ts : List X) (x : X) → read_counted read place rs ≡ Some ts → read (place + length rs) r ≡ Some x
      → read_counted read place (rs ++ r ∷ []) ≡ Some (ts ++ x ∷ [])
  counted_more place [] r ts x is one =
      let here : read place r ≡ Some x = ap (λ n. read n r) (omega arith) ∙ one in
      rw here (ap (λ l. Some (l ++ x ∷ [])) (some_same [] ts is))
  counted_more place (q ∷ qs) r ts x is one =
      let f = first_counted place q qs ts is in
      let there : read (suc place + length qs) r ≡ Some x = ap (λ n. read n r) (omega arith) ∙ one in
      rw (f.2, counted_more (suc place) qs r f.1 x f.3 there) (ap (λ l. Some (l ++ x ∷ [])) (sym f.4))

  -- a list that reads with others behind it that do
  pub counted_all : (place : ℕ) (rs qs : List Row) (ts us : List X) → read_counted read place rs ≡ Some ts → read_counted read (place + length rs) qs ≡ Some us
      → read_counted read place (rs ++ qs) ≡ Some (ts ++ us)
  counted_all place [] qs ts us is more =
      ap (λ n. read_counted read n qs) (omega arith) ∙ more ∙ ap (λ l. Some (l ++ us)) (some_same [] ts is)
  counted_all place (r ∷ rs) qs ts us is more =
      let f = first_counted place r rs ts is in
      let later : read_counted read (suc place + length rs) qs ≡ Some us = ap (λ n. read_counted read n qs) (omega arith) ∙ more in
      rw (f.2, counted_all (suc place) rs qs f.1 us f.3 later) (ap (λ l. Some (l ++ us)) (sym f.4))

  -- a list that reads with others behind it reads without, and so do the others
  pub counted_split : (place : ℕ) (rs qs : List Row) (ts : List X) → read_counted read place (rs ++ qs) ≡ Some ts
      → (xs : List X) × (ys : List X) × (read_counted read place rs ≡ Some xs) × (read_counted read (place + length rs) qs ≡ Some ys) × (ts ≡ xs ++ ys)
  counted_split place [] qs ts is = ([], ts, refl, ap (λ n. read_counted read n qs) (omega arith) ∙ is, refl)
  counted_split place (r ∷ rs) qs ts is =
      let f = first_counted place r (rs ++ qs) ts is in
      let rest = counted_split (suc place) rs qs f.1 f.3 in
      let later : read_counted read (place + length (r ∷ rs)) qs ≡ Some rest.1 = ap (λ n. read_counted read n qs) (omega arith) ∙ rest.3 in
      (f.0 ∷ rest.0, rest.1, rw (f.2, rest.2) refl, later, f.4 ∙ ap (λ l. f.0 ∷ l) rest.4)

  -- and so a list that is read a row more
  pub counted_stepped : (first place : ℕ) (rows : List Row) (i : ℕ) (r : Row) (ts us : List X) (x : X) → i < length rows → r ≡ get_or rows i r → place ≡ first + i → read_counted read first (take i rows) ≡ Some ts
      → read place r ≡ Some x → us ≡ ts ++ x ∷ [] → read_counted read first (take (i + 1) rows) ≡ Some us
  counted_stepped first place rows i r ts us x within is at reads one last =
      let long : length (take i rows) ≡ min i (length rows) = length-take i rows in
      let there : first + length (take i rows) ≡ place = omega (arith, long, within, at) in
      ap (read_counted read first) (take_more rows i r within)
      ∙ counted_more first (take i rows) (get_or rows i r) ts x reads (ap (λ n. read n (get_or rows i r)) there ∙ ap (read place) (sym is) ∙ one) ∙ ap Some (sym last)
