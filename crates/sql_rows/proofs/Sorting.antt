-- A sorted permutation of rows with distinct names is those rows in order of their names.
use Rattle.std.proofs.Common.{◌≡◌, inl, inr, ℕ, ◌<◌, List, [], ◌∷◌, map, length, get_or, filter, false, Option, Some, None, IfSome, refl, sym, ap, ap₂, subst, ◌∙◌, arith, true≢false}
use Rattle.std.specs.Prelude.{IsPermutation, IsSorted, option_map}
use Rattle.std.specs.Option.{option_to_list}
use Rattle.sqlite.proofs.Callers.{one_permutation}
use Rattle.std.specs.declared.cmp.Ordering.{Ordering}
use Rattle.std.specs.declared.cmp.Ordering.TheVariants.{Less, Equal, Greater}
use Rattle.std.specs.Ordering.{match_ordering, is_eq, is_lt, ordering_reverse}
use Rattle.std.specs.List.{All, AllByRecursion, IsDistinct}
use Rattle.std.specs.Cmp.Lexicographic.{nat_list_cmp_total}
use Rattle.std.proofs.lemmas.List.{get_or-map, length-map}
use Rattle.std.proofs.lemmas.List.Sorted.{IsPermutation-map, IsPermutation-sym, All-permutation, length_permutation, sorted_far, ranks_by}
use Rattle.std.proofs.lemmas.Map.Keys.{IsDistinct-IsPermutation, apart_from_distinct}
use Rattle.sqlite_rules.specs.Lists.{Has}
use Rattle.sqlite_rules.proofs.ListLemmas.{all_has, has_filtered, has_kept, contains_had}
use Rattle.sqlite_rules.proofs.ProbeLemmas.{mapped_has}
use Rattle.named_rows.specs.ByName.{names_cmp, at, IsInOrder}
use Rattle.sql_rows.specs.InOrder.{in_order}
use Rattle.sql_rows.specs.Tables.{same_name}
use Rattle.named_rows.proofs.Views.{put_rows_map}
use Rattle.named_rows.proofs.Names.{turned}
use Rattle.named_rows.proofs.Lookups.{at_named}
use Rattle.named_rows.proofs.Order.{at_each}
use Rattle.sql_rows.proofs.Canon.{name_same, last_or, is_named, named_is, is_named_by, at_in_order, is_in_order, same_rows}

turned_same : (o : Ordering) → is_eq (ordering_reverse o) ≡ is_eq o
turned_same Less = refl
turned_same Equal = refl
turned_same Greater = refl

pub same_back : (m n : List ℕ) → same_name m n ≡ same_name n m
same_back m n = ap is_eq (turned n m (names_cmp n m) refl) ∙ turned_same (names_cmp n m)

pub all_had : {X : Type 0} (P : X → Type 0) (xs : List X) (x : X) → All P xs → Has xs x → P x
all_had P xs x all h = let k = contains_had xs x h in subst P k.2 (all k.0 x k.1)

pub all_of_had : {X : Type 0} (P : X → Type 0) (xs : List X) → ((x : X) → Has xs x → P x) → All P xs
all_of_had P xs each k d within = each (get_or xs k d) (there xs k d within)
  where
    there : {X : Type 0} (xs : List X) (k : ℕ) (d : X) → k < length xs → Has xs (get_or xs k d)
    there [] k d within = absurd (omega arith)
    there (y ∷ ys) Prim.Native.Nat.zero d within = inl refl
    there (y ∷ ys) (Prim.Native.Nat.suc k) d within = inr (there ys k d (omega arith))

pub had_by_permutation : {X : Type 0} (xs ys : List X) (x : X) → IsPermutation xs ys → Has ys x → Has xs x
had_by_permutation xs ys x p h = all_had (Has xs) ys x (All-permutation (Has xs) xs ys p (all_of_had (Has xs) xs (λ _ h. h))) h

module _ {T : Type 0} (name : T → List ℕ) where
  abbrev pub AreDistinct : List T → Type 0
  AreDistinct xs = IsDistinct same_name (map name xs)

  none_named : (n : List ℕ) (xs : List T) → AllByRecursion (λ m. same_name n m ≡ false) (map name xs) → filter (is_named name n) xs ≡ []
  none_named n [] all = refl
  none_named n (x ∷ xs) all = rw all.0 (none_named n xs all.1)

  -- of rows with distinct names the one of a name is what is found last
  pub found_one : (n : List ℕ) (xs : List T) (z : T) → AreDistinct xs → Has xs z → n ≡ name z → last_or None (filter (is_named name n) xs) ≡ Some z
  unfolding IsDistinct
  found_one n [] z apart h is = absurd h
  found_one n (x ∷ xs) z apart (inl here) is =
      let mine : n ≡ name x = is ∙ ap name here in
      let rest : filter (is_named name n) xs ≡ [] = none_named n xs (subst (λ k. AllByRecursion (λ m. same_name k m ≡ false) (map name xs)) (sym mine) apart.0) in
      rw (is_named_by name n x mine, rest) (ap Some (sym here))
  found_one n (x ∷ xs) z apart (inr there) is =
      let other : same_name n (name x) ≡ false = same_back n (name x) ∙ ap (same_name (name x)) is ∙ all_has (λ m. same_name (name x) m ≡ false) (map name xs) (name z) apart.0 (mapped_has name xs z there) in
      rw other (found_one n xs z apart.1 there is)

  at_has : (n : List ℕ) (xs : List T) (z : T) → at name n xs ≡ Some z → Has xs z
  at_has n [] z is = absurd cc
  at_has n (x ∷ xs) z is = by (names_cmp n (name x)) is (at_has n xs z)
    where
      by : (o : Ordering) → match_ordering o None (Some x) (at name n xs) ≡ Some z → (at name n xs ≡ Some z → Has xs z) → Has (x ∷ xs) z
      by Less is more = absurd cc
      by Equal is more = let e : z ≡ x = cc in inl e
      by Greater is more = inr (more is)

  rises_by : (a b : List ℕ) (o : Ordering) → names_cmp a b ≡ o → is_lt (names_cmp b a) ≡ false → same_name a b ≡ false → names_cmp a b ≡ Less
  rises_by a b Less is low other = is
  rises_by a b Equal is low other = absurd (true≢false (sym (ap is_eq is) ∙ other))
  rises_by a b Greater is low other = absurd (true≢false (ap is_lt (sym (turned a b Greater is)) ∙ low))

  rises : (ys : List T) → AreDistinct ys → IsSorted (λ a b. names_cmp (name a) (name b)) ys → IsInOrder name ys
  rises ys apart up i j d lt within =
      let a = get_or ys i d in
      let b = get_or ys j d in
      let long = length-map ys name in
      let low : is_lt (names_cmp (name b) (name a)) ≡ false = sorted_far (λ x y. is_lt (names_cmp (name x) (name y))) (ranks_by nat_list_cmp_total name) ys up i j d (omega arith) within in
      let other : same_name (name a) (name b) ≡ false =
      ap₂ same_name (sym (get_or-map name ys i d (name d) (omega arith))) (sym (get_or-map name ys j d (name d) within)) ∙ apart_from_distinct same_name (map name ys) i j (name d) apart lt (omega arith) in
      rises_by (name a) (name b) (names_cmp (name a) (name b)) refl low other

  pub sorted_is : (xs ys : List T) → IsPermutation xs ys → AreDistinct xs → IsSorted (λ a b. names_cmp (name a) (name b)) ys → ys ≡ in_order name xs
  sorted_is xs ys p apart up = same_rows name ys (in_order name xs) order (is_in_order name xs) (λ m. each m (filter (is_named name m) xs) refl)
    where
      order : IsInOrder name ys
      order = rises ys (IsDistinct-IsPermutation same_name same_back (map name xs) (map name ys) (IsPermutation-map name xs ys p) apart) up

      none : (m : List ℕ) → filter (is_named name m) xs ≡ [] → (o : Option T) → at name m ys ≡ o → IfSome o (λ r. name r ≡ m) → at name m ys ≡ None
      none m is None found named = found
      none m is (Some z) found named = absurd (subst (λ l. Has l z) is (has_kept (is_named name m) xs z (had_by_permutation xs ys z p (at_has m ys z found)) (is_named_by name m z (sym named))))

      each : (m : List ℕ) (some : List T) → filter (is_named name m) xs ≡ some → at name m ys ≡ at name m (in_order name xs)
      each m [] is = none m is (at name m ys) refl (at_named name m ys) ∙ sym (at_in_order name m xs ∙ ap (last_or None) is)
      each m (z ∷ more) is =
          let was = has_filtered (is_named name m) xs z (subst (λ l. Has l z) (sym is) (inl refl)) in
          let mine = named_is name m z was.1 in
          let there = had_by_permutation ys xs z (IsPermutation-sym xs ys p) was.0 in
          ap (λ n. at name n ys) mine ∙ all_had (λ r. at name (name r) ys ≡ Some r) ys z (at_each name ys order) there
          ∙ sym (at_in_order name m xs ∙ found_one m xs z apart was.0 mine)

-- rows that are shown by what has their names
pub shown_in_order : {T U : Type 0} (name : T → List ℕ) (named : U → List ℕ) (show : T → U) → ((t : T) → named (show t) ≡ name t) → (xs : List T) → map show (in_order name xs) ≡ in_order named (map show xs)
shown_in_order name named show same_names xs = sym (put_rows_map name named show same_names xs [])

-- of rows with distinct names there is at most one of a name
pub at_most_one : {T U : Type 0} (name : T → List ℕ) (show : T → U) (n : List ℕ) (xs : List T) (ys : List U) → AreDistinct name xs → ((x : T) → Has xs x → n ≡ name x) → IsPermutation (map show xs) ys
    → ys ≡ option_to_list (option_map show (last_or None xs))
unfolding IsDistinct
at_most_one name show n [] ys apart each same = empty ys (length_permutation _ _ same)
  where
    empty : {U : Type 0} (ys : List U) → length ys ≡ 0 → ys ≡ []
    empty [] len = refl
    empty (y ∷ ys) len = absurd (omega arith)
at_most_one name show n (x ∷ []) ys apart each same = one_permutation (show x) ys same
at_most_one name show n (x ∷ y ∷ xs) ys apart each same =
    let e : name x ≡ name y = sym (each x (inl refl)) ∙ each y (inr (inl refl)) in
    absurd (true≢false (sym (name_same (name x) (name y) e) ∙ apart.0.0))
