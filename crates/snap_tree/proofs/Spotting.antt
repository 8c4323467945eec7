-- A node's spot, found by its place in document order.
use Rattle.std.proofs.Common.{◌≡◌, ℕ, zero, suc, ◌+◌, ◌-◌, ◌<◌, ◌≤◌, ◌==◌, List, [], ◌∷◌, ◌++◌, length, get_or, take, drop, Bool, true, false, nat_lt, Option, Some, None, option_map, option_and_then, unwrap_or, if◌then◌else◌, refl, sym, ◌∙◌, ap, subst, arith, add-zero, MatchOption}
use Rattle.std.proofs.lemmas.List.{length-append, get_or_append_left, get_or-append_right, drop-append-le, take-append-le, drop_at, take_at, drop-drop, length-drop}
use Rattle.std.proofs.lemmas.Bool.Decides.{nat_tests}
use Rattle.std.specs.Option.{option_or}
use Rattle.std.specs.List.{list_any, find}
use Rattle.snap_tree.specs.declared.row.NodeId.{NodeId}
use Rattle.snap_tree.specs.declared.row.Row.{Row}
use Rattle.snap_tree.specs.Trees.{Trees, empty, tree, rows_of, count, sizes_of, beside}
use Rattle.snap_tree.specs.Grown.{names, taken, left, grown}
use Rattle.snap_tree.specs.Rows.{has_number}
use Rattle.snap_tree.specs.Spots.{Spot, spot_in, spot, NamesNone}
use Rattle.snap_tree.specs.Places.{place_from, HasRun, run_below}
use Rattle.snap_tree.specs.Well.{number_of, EachPlaced}
use Rattle.snap_tree.proofs.Growth.{rows_of_grown, taken-beside-left}
use Rattle.snap_tree.proofs.Cuts.{length-rows_of, length-sizes_of, grown-front, grown-after}

-- the spot of the node at a place in document order
abbrev pub spot_at : ℕ → List Row → Trees → Option Spot
spot_at i above empty = None
spot_at zero above (tree r kids after) = Some (record { row = r; below = kids; above = above })
spot_at (suc i) above (tree r kids after) = if nat_lt i (count kids) then spot_at i (r ∷ above) kids else spot_at (i - count kids) above after

-- ---- a node's row is its number's

find-append : (n : NodeId) (xs ys : List Row) → find (has_number n) (xs ++ ys) ≡ option_or (find (has_number n) xs) (find (has_number n) ys)
find-append n [] ys = refl
find-append n (x ∷ xs) ys = by_number (has_number n x) refl (find-append n xs ys)
  where
    by_number : (b : Bool) → has_number n x ≡ b → find (has_number n) (xs ++ ys) ≡ option_or (find (has_number n) xs) (find (has_number n) ys) → find (has_number n) (x ∷ (xs ++ ys)) ≡ option_or (find (has_number n) (x ∷ xs)) (find (has_number n) ys)
    by_number true e h = rw e refl
    by_number false e h = rw e h

row_or : (a b : Option Spot) → option_map (λ s. s.row) (option_or a b) ≡ option_or (option_map (λ s. s.row) a) (option_map (λ s. s.row) b)
row_or None b = refl
row_or (Some s) b = refl

pub spot_row : (n : NodeId) (above : List Row) (t : Trees) → option_map (λ s. s.row) (spot_in n above t) ≡ find (has_number n) (rows_of t)
spot_row n above empty = refl
spot_row n above (tree r kids after) = by_number (has_number n r) refl (spot_row n (r ∷ above) kids) (spot_row n above after)
  where
    by_number : (b : Bool) → has_number n r ≡ b → option_map (λ s. s.row) (spot_in n (r ∷ above) kids) ≡ find (has_number n) (rows_of kids) → option_map (λ s. s.row) (spot_in n above after) ≡ find (has_number n) (rows_of after)
        → option_map (λ s. s.row) (spot_in n above (tree r kids after)) ≡ find (has_number n) (r ∷ (rows_of kids ++ rows_of after))
    by_number true e h k = rw e refl
    by_number false e h k = rw e (row_or _ _ ∙ ap (λ o. option_or o (option_map (λ s. s.row) (spot_in n above after))) h ∙ ap (option_or (find (has_number n) (rows_of kids))) k ∙ sym (find-append n (rows_of kids) (rows_of after)))

-- ---- a node names the first of those above it

pub spot_parent : (n : NodeId) (above : List Row) (t : Trees) → EachPlaced above t → MatchOption (spot_in n above t) (Unit {0}) (λ s. s.row.parent ≡ number_of s.above)
spot_parent n above empty p = tt
spot_parent n above (tree r kids after) p = by_number (has_number n r) refl (spot_parent n (r ∷ above) kids p.1.0) (spot_parent n above after p.1.1)
  where
    either : (a b : Option Spot) → MatchOption a (Unit {0}) (λ s. s.row.parent ≡ number_of s.above) → MatchOption b (Unit {0}) (λ s. s.row.parent ≡ number_of s.above) → MatchOption (option_or a b) (Unit {0}) (λ s. s.row.parent ≡ number_of s.above)
    either None b h k = k
    either (Some s) b h k = h

    by_number : (b : Bool) → has_number n r ≡ b → MatchOption (spot_in n (r ∷ above) kids) (Unit {0}) (λ s. s.row.parent ≡ number_of s.above) → MatchOption (spot_in n above after) (Unit {0}) (λ s. s.row.parent ≡ number_of s.above) → MatchOption (spot_in n above (tree r kids after)) (Unit {0}) (λ s. s.row.parent ≡ number_of s.above)
    by_number true e h k = rw e p.0.named
    by_number false e h k = rw e (either (spot_in n (r ∷ above) kids) (spot_in n above after) h k)

-- ---- rows that follow others

not_taken : (x : Row) (others : Trees) → NamesNone others (x ∷ []) → (taken x others ≡ empty) × (left x others ≡ others)
not_taken x empty h = (refl, refl)
not_taken x (tree y k a) h = by_name (names y x) refl h
  where
    by_name : (b : Bool) → names y x ≡ b → NamesNone (tree y k a) (x ∷ []) → (taken x (tree y k a) ≡ empty) × (left x (tree y k a) ≡ tree y k a)
    by_name false e h = (rw e refl, rw e refl)
    by_name true e h = let no : true ≡ false = rw e at h in cc

pub takes_beside : (x : Row) (t others : Trees) → NamesNone others (x ∷ []) → (taken x (beside t others) ≡ taken x t) × (left x (beside t others) ≡ beside (left x t) others)
takes_beside x empty others h = not_taken x others h
takes_beside x (tree y k a) others h = by_name (names y x) refl (takes_beside x a others h)
  where
    by_name : (b : Bool) → names y x ≡ b → (taken x (beside a others) ≡ taken x a) × (left x (beside a others) ≡ beside (left x a) others) → (taken x (beside (tree y k a) others) ≡ taken x (tree y k a)) × (left x (beside (tree y k a) others) ≡ beside (left x (tree y k a)) others)
    by_name true e p = (rw e (ap (tree y k) p.0), rw e p.1)
    by_name false e p = (rw e refl, rw e refl)

pub none_of : (x : Row) (rows : List Row) (others : Trees) → NamesNone others (x ∷ rows) → NamesNone others (x ∷ []) × NamesNone others rows
none_of x rows empty h = (tt, tt)
none_of x rows (tree r kids after) h = by_name (names r x) refl h
  where
    by_name : (b : Bool) → names r x ≡ b → list_any (names r) (x ∷ rows) ≡ false → (list_any (names r) (x ∷ []) ≡ false) × (list_any (names r) rows ≡ false)
    by_name true e h = let no : true ≡ false = rw e at h in cc
    by_name false e h = (rw e refl, rw e at h)

-- rows that name none of the rows before them grow to trees of their own
pub grown_beside : (rows others : List Row) → NamesNone (grown others) rows → grown (rows ++ others) ≡ beside (grown rows) (grown others)
grown_beside [] others h = refl
grown_beside (x ∷ rows) others h =
    let both = none_of x rows (grown others) h in
    let parts = takes_beside x (grown rows) (grown others) both.0 in
    ap (λ t. tree x (taken x t) (left x t)) (grown_beside rows others both.1) ∙ ap (λ t. tree x t (left x (beside (grown rows) (grown others)))) parts.0 ∙ ap (tree x (taken x (grown rows))) parts.1

-- ---- places

pub length-sizes : (t : Trees) → length (sizes_of t) ≡ length (rows_of t)
length-sizes t = length-sizes_of t ∙ sym (length-rows_of t)

-- a node of grown trees stands at a place: its row and its size are there, and what is below it follows
pub record StandsIn (i : ℕ) (rows : List Row) (sizes : List ℕ) (s : Spot) : Type 0 where
  pub in_range : i < length rows
  pub row : (d : Row) → get_or rows i d ≡ s.row
  pub size : get_or sizes i 0 ≡ suc (count s.below)
  pub fits : i + count s.below < length rows
  pub rows_below : take (count s.below) (drop (suc i) rows) ≡ rows_of s.below
  pub sizes_below : take (count s.below) (drop (suc i) sizes) ≡ sizes_of s.below
  pub regrown : grown (rows_of s.below) ≡ s.below

-- the same run in longer lists
stands_left : {X : Type 0} (i n : ℕ) (xs ys : List X) → suc i + n ≤ length xs → take n (drop (suc i) (xs ++ ys)) ≡ take n (drop (suc i) xs)
stands_left i n xs ys h =
    ap (take n) (drop-append-le (suc i) xs ys (omega arith)) ∙ take-append-le n (drop (suc i) xs) ys (omega (arith, length-drop (suc i) xs))

stands_right : {X : Type 0} (i k n : ℕ) (xs ys : List X) → length xs ≡ k → take n (drop (suc (k + i)) (xs ++ ys)) ≡ take n (drop (suc i) ys)
stands_right i k n xs ys h =
    let sum : suc (k + i) ≡ k + suc i = omega arith in
    ap (take n) (ap (λ j. drop j (xs ++ ys)) sum ∙ sym (drop-drop (suc i) k (xs ++ ys)) ∙ ap (drop (suc i)) (drop_at xs ys k h))

-- what is below a grown tree's root, and what is after it, is grown
whole_parts : (r : Row) (kids after : Trees) → grown (rows_of (tree r kids after)) ≡ tree r kids after → grown (rows_of kids ++ rows_of after) ≡ beside kids after
whole_parts r kids after h =
    let rest = rows_of kids ++ rows_of after in
    let k : taken r (grown rest) ≡ kids = ap below_of h in
    let a : left r (grown rest) ≡ after = ap later_of h in
    sym (taken-beside-left r (grown rest)) ∙ ap (λ t. beside t (left r (grown rest))) k ∙ ap (beside kids) a
  where
    below_of : Trees → Trees
    below_of empty = empty
    below_of (tree x k a) = k

    later_of : Trees → Trees
    later_of empty = empty
    later_of (tree x k a) = a

stands_here : (r : Row) (kids after : Trees) (above : List Row) → grown (rows_of kids ++ rows_of after) ≡ beside kids after → StandsIn 0 (rows_of (tree r kids after)) (sizes_of (tree r kids after)) (record { row = r; below = kids; above = above })
stands_here r kids after above h = record {
  in_range = omega arith;
  row = λ d. refl;
  size = refl;
  fits = omega (arith, length-append (rows_of kids) (rows_of after), length-rows_of kids);
  rows_below = take_at (rows_of kids) (rows_of after) (count kids) (length-rows_of kids);
  sizes_below = take_at (sizes_of kids) (sizes_of after) (count kids) (length-sizes_of kids);
  regrown = grown-front (rows_of kids ++ rows_of after) kids after h;
}

stands_in_kids : (i : ℕ) (r : Row) (kids after : Trees) (s : Spot) → StandsIn i (rows_of kids) (sizes_of kids) s → StandsIn (suc i) (rows_of (tree r kids after)) (sizes_of (tree r kids after)) s
stands_in_kids i r kids after s h = record {
  in_range = omega (arith, h.in_range, length-append (rows_of kids) (rows_of after));
  row = λ d. get_or_append_left (rows_of kids) (rows_of after) d i h.in_range ∙ h.row d;
  size = get_or_append_left (sizes_of kids) (sizes_of after) 0 i (omega (arith, h.in_range, length-sizes kids)) ∙ h.size;
  fits = omega (arith, h.fits, length-append (rows_of kids) (rows_of after));
  rows_below = stands_left i (count s.below) (rows_of kids) (rows_of after) (omega (arith, h.fits)) ∙ h.rows_below;
  sizes_below = stands_left i (count s.below) (sizes_of kids) (sizes_of after) (omega (arith, h.fits, length-sizes kids)) ∙ h.sizes_below;
  regrown = h.regrown;
}

stands_in_after : (i : ℕ) (r : Row) (kids after : Trees) (s : Spot) → StandsIn i (rows_of after) (sizes_of after) s → StandsIn (suc (count kids + i)) (rows_of (tree r kids after)) (sizes_of (tree r kids after)) s
stands_in_after i r kids after s h =
    let n = length-rows_of kids in
    let m = length-sizes_of kids in
    let back : count kids + i - count kids ≡ i = omega arith in
    record {
      in_range = omega (arith, h.in_range, length-append (rows_of kids) (rows_of after));
      row = λ d. get_or-append_right (rows_of kids) (rows_of after) (count kids) (count kids + i) d n (omega arith) ∙ ap (λ k. get_or (rows_of after) k d) back ∙ h.row d;
      size = get_or-append_right (sizes_of kids) (sizes_of after) (count kids) (count kids + i) 0 m (omega arith) ∙ ap (λ k. get_or (sizes_of after) k 0) back ∙ h.size;
      fits = omega (arith, h.fits, length-append (rows_of kids) (rows_of after));
      rows_below = stands_right i (count kids) (count s.below) (rows_of kids) (rows_of after) n ∙ h.rows_below;
      sizes_below = stands_right i (count kids) (count s.below) (sizes_of kids) (sizes_of after) m ∙ h.sizes_below;
      regrown = h.regrown;
    }

pub stands : (i : ℕ) (above : List Row) (t : Trees) (s : Spot) → grown (rows_of t) ≡ t → spot_at i above t ≡ Some s → StandsIn i (rows_of t) (sizes_of t) s
stands zero above empty s g e = cc
stands (suc i) above empty s g e = cc
stands zero above (tree r kids after) s g e =
    let whole = whole_parts r kids after g in
    subst (StandsIn 0 (rows_of (tree r kids after)) (sizes_of (tree r kids after))) (ap (λ o. unwrap_or o (record { row = r; below = kids; above = above })) e) (stands_here r kids after above whole)
stands (suc i) above (tree r kids after) s g e =
    let whole = whole_parts r kids after g in
    let rest = rows_of kids ++ rows_of after in
    by_place (nat_lt i (count kids)) refl e (stands i (r ∷ above) kids s (grown-front rest kids after whole)) (stands (i - count kids) above after s (grown-after rest kids after whole))
  where
    by_place : (b : Bool) → nat_lt i (count kids) ≡ b → spot_at (suc i) above (tree r kids after) ≡ Some s → (spot_at i (r ∷ above) kids ≡ Some s → StandsIn i (rows_of kids) (sizes_of kids) s) → (spot_at (i - count kids) above after ≡ Some s → StandsIn (i - count kids) (rows_of after) (sizes_of after) s) → StandsIn (suc i) (rows_of (tree r kids after)) (sizes_of (tree r kids after)) s
    by_place true l e hk ha = let e' : spot_at i (r ∷ above) kids ≡ Some s = rw l at e in stands_in_kids i r kids after s (hk e')
    by_place false l e hk ha =
        let e' : spot_at (i - count kids) above after ≡ Some s = rw l at e in
        let past : count kids ≤ i = grind (arith, nat_tests) in
        let sum : count kids + (i - count kids) ≡ i = omega arith in
        subst (λ k. StandsIn (suc k) (rows_of (tree r kids after)) (sizes_of (tree r kids after)) s) sum (stands_in_after (i - count kids) r kids after s (ha e'))

-- ---- from a number to a place

place_from-append : (from n : ℕ) (xs ys : List Row) → place_from from n (xs ++ ys) ≡ option_or (place_from from n xs) (place_from (from + length xs) n ys)
place_from-append from n [] ys = ap (λ k. place_from k n ys) (sym (add-zero from))
place_from-append from n (x ∷ xs) ys = by_test (x.id.0 == n) refl (place_from-append (from + 1) n xs ys)
  where
    sums : from + 1 + length xs ≡ from + suc (length xs)
    sums = omega arith

    by_test : (b : Bool) → (x.id.0 == n) ≡ b → place_from (from + 1) n (xs ++ ys) ≡ option_or (place_from (from + 1) n xs) (place_from (from + 1 + length xs) n ys) → place_from from n (x ∷ (xs ++ ys)) ≡ option_or (place_from from n (x ∷ xs)) (place_from (from + suc (length xs)) n ys)
    by_test true e h = rw e refl
    by_test false e h = rw e (h ∙ ap (λ k. option_or (place_from (from + 1) n xs) (place_from k n ys)) sums)

-- there is a spot at each place
pub record Somewhere (o : Option Spot) : Type 0 where
  pub there : Spot
  pub is : o ≡ Some there

pub spot_at_some : (i : ℕ) (above : List Row) (t : Trees) → i < count t → Somewhere (spot_at i above t)
spot_at_some zero above empty h = absurd (omega arith)
spot_at_some (suc i) above empty h = absurd (omega arith)
spot_at_some zero above (tree r kids after) h = record { there = record { row = r; below = kids; above = above }; is = refl }
spot_at_some (suc i) above (tree r kids after) h = by_place (nat_lt i (count kids)) refl (spot_at_some i (r ∷ above) kids) (spot_at_some (i - count kids) above after)
  where
    by_place : (b : Bool) → nat_lt i (count kids) ≡ b → (i < count kids → Somewhere (spot_at i (r ∷ above) kids)) → (i - count kids < count after → Somewhere (spot_at (i - count kids) above after)) → Somewhere (spot_at (suc i) above (tree r kids after))
    by_place true l hk ha = let less : i < count kids = grind (arith, nat_tests) in let s = hk less in record { there = s.there; is = rw l s.is }
    by_place false l hk ha = let past : count kids ≤ i = grind (arith, nat_tests) in let s = ha (omega arith) in record { there = s.there; is = rw l s.is }

-- the number's place has its spot
pub record IsPlaceOf (from : ℕ) (n : NodeId) (above : List Row) (t : Trees) (place : ℕ) : Type 0 where
  pub begins : from ≤ place
  pub ends : place - from < count t
  pub spot_is : spot_in n above t ≡ spot_at (place - from) above t

abbrev Places : ℕ → NodeId → List Row → Trees → Option ℕ → Type 0
Places from n above t o = MatchOption o (spot_in n above t ≡ None) (IsPlaceOf from n above t)

place_here : (from : ℕ) (n : NodeId) (above : List Row) (r : Row) (kids after : Trees) → has_number n r ≡ true → IsPlaceOf from n above (tree r kids after) from
place_here from n above r kids after e =
    let zero_is : from - from ≡ 0 = omega arith in
    record { begins = omega arith; ends = omega arith; spot_is = rw (e, zero_is) refl }

place_in_kids : (from p : ℕ) (n : NodeId) (above : List Row) (r : Row) (kids after : Trees) → has_number n r ≡ false → IsPlaceOf (from + 1) n (r ∷ above) kids p → IsPlaceOf from n above (tree r kids after) p
place_in_kids from p n above r kids after e h =
    let some = spot_at_some (p - (from + 1)) (r ∷ above) kids h.ends in
    let step : p - from ≡ suc (p - (from + 1)) = omega (arith, h.begins) in
    let less : nat_lt (p - (from + 1)) (count kids) ≡ true = grind (arith, nat_tests, h.ends) in
    let found : spot_in n (r ∷ above) kids ≡ Some some.there = h.spot_is ∙ some.is in
    record {
      begins = omega (arith, h.begins);
      ends = omega (arith, h.ends, h.begins);
      spot_is = rw (e, found, step, less) (sym some.is);
    }

place_in_after : (from p : ℕ) (n : NodeId) (above : List Row) (r : Row) (kids after : Trees) → has_number n r ≡ false → spot_in n (r ∷ above) kids ≡ None → IsPlaceOf (from + 1 + count kids) n above after p → IsPlaceOf from n above (tree r kids after) p
place_in_after from p n above r kids after e none h =
    let some = spot_at_some (p - (from + 1 + count kids)) above after h.ends in
    let i = p - (from + 1 + count kids) in
    let step : p - from ≡ suc (count kids + i) = omega (arith, h.begins) in
    let past : nat_lt (count kids + i) (count kids) ≡ false = grind (arith, nat_tests) in
    let back : count kids + i - count kids ≡ i = omega arith in
    record {
      begins = omega (arith, h.begins);
      ends = omega (arith, h.ends, h.begins);
      spot_is = rw (e, none, step, past, back) h.spot_is;
    }

pub spot_place : (from : ℕ) (n : NodeId) (above : List Row) (t : Trees) → Places from n above t (place_from from n.0 (rows_of t))
spot_place from n above empty = refl
spot_place from n above (tree r kids after) =
    by_number (has_number n r) (place_from (from + 1) n.0 (rows_of kids)) (place_from (from + 1 + count kids) n.0 (rows_of after)) refl refl refl (spot_place (from + 1) n (r ∷ above) kids) (spot_place (from + 1 + count kids) n above after)
  where
    rest : place_from (from + 1) n.0 (rows_of kids ++ rows_of after) ≡ option_or (place_from (from + 1) n.0 (rows_of kids)) (place_from (from + 1 + count kids) n.0 (rows_of after))
    rest = place_from-append (from + 1) n.0 (rows_of kids) (rows_of after) ∙ ap (λ k. option_or (place_from (from + 1) n.0 (rows_of kids)) (place_from (from + 1 + k) n.0 (rows_of after))) (length-rows_of kids)

    by_number : (b : Bool) (o q : Option ℕ) → has_number n r ≡ b → place_from (from + 1) n.0 (rows_of kids) ≡ o → place_from (from + 1 + count kids) n.0 (rows_of after) ≡ q → Places (from + 1) n (r ∷ above) kids (place_from (from + 1) n.0 (rows_of kids)) → Places (from + 1 + count kids) n above after (place_from (from + 1 + count kids) n.0 (rows_of after))
        → Places from n above (tree r kids after) (place_from from n.0 (rows_of (tree r kids after)))
    by_number true o q e eo eq hk ha = rw e (place_here from n above r kids after e)
    by_number false (Some p) q e eo eq hk ha =
        let there : IsPlaceOf (from + 1) n (r ∷ above) kids p = subst (Places (from + 1) n (r ∷ above) kids) eo hk in
        subst (Places from n above (tree r kids after)) (sym (ap (λ b. if b then Some from else place_from (from + 1) n.0 (rows_of kids ++ rows_of after)) e ∙ rest ∙ ap (λ o. option_or o (place_from (from + 1 + count kids) n.0 (rows_of after))) eo))
        (place_in_kids from p n above r kids after e there)
    by_number false None (Some p) e eo eq hk ha =
        let none : spot_in n (r ∷ above) kids ≡ None = subst (Places (from + 1) n (r ∷ above) kids) eo hk in
        let there : IsPlaceOf (from + 1 + count kids) n above after p = subst (Places (from + 1 + count kids) n above after) eq ha in
        subst (Places from n above (tree r kids after)) (sym (ap (λ b. if b then Some from else place_from (from + 1) n.0 (rows_of kids ++ rows_of after)) e ∙ rest ∙ ap (λ o. option_or o (place_from (from + 1 + count kids) n.0 (rows_of after))) eo ∙ eq))
        (place_in_after from p n above r kids after e none there)
    by_number false None None e eo eq hk ha =
        let none : spot_in n (r ∷ above) kids ≡ None = subst (Places (from + 1) n (r ∷ above) kids) eo hk in
        let none_after : spot_in n above after ≡ None = subst (Places (from + 1 + count kids) n above after) eq ha in
        subst (Places from n above (tree r kids after)) (sym (ap (λ b. if b then Some from else place_from (from + 1) n.0 (rows_of kids ++ rows_of after)) e ∙ rest ∙ ap (λ o. option_or o (place_from (from + 1 + count kids) n.0 (rows_of after))) eo ∙ eq))
        (rw (e, none) none_after)

-- ---- the run below a node

-- what the place's run is, where the number has a place
pub record RunsAt (t : Trees) (n : NodeId) (place : ℕ) (rows : List Row) (sizes : List ℕ) : Type 0 where
  pub run : HasRun place rows sizes
  pub below : option_map (λ s. s.below) (spot t n) ≡ Some (grown (run_below place rows sizes))

runs_by : (t : Trees) (n : NodeId) (place : ℕ) (s : Spot) → StandsIn place (rows_of t) (sizes_of t) s → spot t n ≡ Some s → RunsAt t n place (rows_of t) (sizes_of t)
runs_by t n place s h e =
    let size : get_or (sizes_of t) place 0 ≡ suc (count s.below) = h.size in
    let more : place + 1 ≡ suc place = omega arith in
    let less : get_or (sizes_of t) place 0 - 1 ≡ count s.below = omega arith in
    let rows : run_below place (rows_of t) (sizes_of t) ≡ rows_of s.below = ap (λ k. take k (drop (place + 1) (rows_of t))) less ∙ ap (λ k. take (count s.below) (drop k (rows_of t))) more ∙ h.rows_below in
    let sizes : take (get_or (sizes_of t) place 0 - 1) (drop (place + 1) (sizes_of t)) ≡ sizes_of s.below = ap (λ k. take k (drop (place + 1) (sizes_of t))) less ∙ ap (λ k. take (count s.below) (drop k (sizes_of t))) more ∙ h.sizes_below in
    let tree_is : grown (run_below place (rows_of t) (sizes_of t)) ≡ s.below = ap grown rows ∙ h.regrown in
    record {
      run = record {
        in_range = h.in_range;
        sized = length-sizes t;
        counted = omega (arith, h.size);
        fits = omega (arith, h.fits, h.size);
        sizes_are = sizes ∙ ap sizes_of (sym tree_is);
      };
      below = ap (option_map (λ s. s.below)) e ∙ ap Some (sym tree_is);
    }

-- the spot that a number has, by the number's place
pub record Spotted (rows : List Row) (n : NodeId) (place : ℕ) : Type 0 where
  pub there : Spot
  pub is : spot (grown rows) n ≡ Some there
  pub at : spot_at place [] (grown rows) ≡ Some there
  pub stands : StandsIn place rows (sizes_of (grown rows)) there

pub spotted : (rows : List Row) (n : NodeId) (place : ℕ) → place_from 0 n.0 rows ≡ Some place → Spotted rows n place
spotted rows n place e =
    let t = grown rows in
    let rows_are : rows_of t ≡ rows = rows_of_grown rows in
    let at : IsPlaceOf 0 n [] t place = subst (Places 0 n [] t) (ap (place_from 0 n.0) rows_are ∙ e) (spot_place 0 n [] t) in
    let some = spot_at_some place [] t (omega (arith, at.ends)) in
    let zero_less : place - 0 ≡ place = omega arith in
    record {
      there = some.there;
      is = at.spot_is ∙ ap (λ k. spot_at k [] t) zero_less ∙ some.is;
      at = some.is;
      stands = subst (λ xs. StandsIn place xs (sizes_of t) some.there) rows_are (stands place [] t some.there (ap grown rows_are) some.is);
    }

pub stranger : (rows : List Row) (n : NodeId) → place_from 0 n.0 rows ≡ None → spot (grown rows) n ≡ None
stranger rows n e = subst (Places 0 n [] (grown rows)) (ap (place_from 0 n.0) (rows_of_grown rows) ∙ e) (spot_place 0 n [] (grown rows))

pub runs_at : (rows : List Row) (n : NodeId) (place : ℕ) → place_from 0 n.0 rows ≡ Some place → RunsAt (grown rows) n place rows (sizes_of (grown rows))
runs_at rows n place e =
    let s = spotted rows n place e in
    let rows_are : rows_of (grown rows) ≡ rows = rows_of_grown rows in
    subst (λ xs. RunsAt (grown rows) n place xs (sizes_of (grown rows))) rows_are (runs_by (grown rows) n place s.there (subst (λ xs. StandsIn place xs (sizes_of (grown rows)) s.there) (sym rows_are) s.stands) s.is)

pub runs_none : (rows : List Row) (n : NodeId) → place_from 0 n.0 rows ≡ None → option_map (λ s. s.below) (spot (grown rows) n) ≡ None
runs_none rows n e = ap (option_map (λ s. s.below)) (stranger rows n e)

-- ---- a node's parent is the one that its row names

parent_by : (t : Trees) (n : NodeId) (o : Option Spot) (row : Option Row) → spot t n ≡ o → MatchOption o (Unit {0}) (λ s. s.row.parent ≡ number_of s.above) → option_map (λ s. s.row) o ≡ row → option_and_then (λ (r : Row). r.parent) row ≡ option_and_then (λ s. number_of s.above) o
parent_by t n None row e h k = ap (option_and_then (λ (r : Row). r.parent)) (sym k)
parent_by t n (Some s) row e h k = ap (option_and_then (λ (r : Row). r.parent)) (sym k) ∙ h

pub parent_is : (t : Trees) (n : NodeId) → EachPlaced [] t → option_and_then (λ (r : Row). r.parent) (find (has_number n) (rows_of t)) ≡ option_and_then (λ s. number_of s.above) (spot t n)
parent_is t n p = parent_by t n (spot t n) (find (has_number n) (rows_of t)) refl (spot_parent n [] t p) (spot_row n [] t)
