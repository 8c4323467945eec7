-- A well tree's rows have no fault.
use Rattle.std.proofs.Common.{◌≡◌, ℕ, ◌<◌, ◌≤◌, ◌==◌, List, [], ◌∷◌, ◌++◌, length, Bool, true, false, ◌||◌, Option, Some, None, option_map, unwrap_or, if◌then◌else◌, refl, sym, ◌∙◌, ap, subst, arith, append_assoc, MatchOption, nat_le, nat_lt}
use Rattle.std.proofs.lemmas.List.{append-nil}
use Rattle.std.proofs.lemmas.Bool.Decides.{nat_tests}
use Rattle.std.specs.Option.{option_or, is_some}
use Rattle.std.specs.List.{list_any}
use Rattle.snap_tree.specs.declared.row.Row.{Row}
use Rattle.snap_tree.specs.Trees.{Trees, empty, tree, rows_of, beside}
use Rattle.snap_tree.specs.Grown.{names, grown, under}
use Rattle.snap_tree.specs.Rows.{has_number, is_text}
use Rattle.snap_tree.specs.Faults.{open_rows, from_parent, ancestors, is_below_text, place_fault, row_fault, rows_fault, shape_fault, tree_fault}
use Rattle.snap_tree.specs.Well.{IsPlaced, EachPlaced, HasRoot, AreApart, IsWell}
use Rattle.snap_tree.specs.WellRow.{IsWellRow}
use Rattle.snap_tree.specs.Weight.{reference_weight}
use Rattle.snap_tree.proofs.Growth.{grown_push}
use Rattle.snap_tree.proofs.Cuts.{length-rows_of}
use Rattle.snap_tree.proofs.EachRow.{all_parts}
use Rattle.snap_tree.proofs.Opening.{under_opens, Went}
use Rattle.snap_tree.proofs.Climbing.{apart_append, later_number, same_id}
use Rattle.snap_tree.proofs.Naming.{regrown, named_placed}
use Rattle.snap_tree.proofs.RowLimits.{sound_row}
use Rattle.snap_tree.proofs.Wellness.{Fits, IsGood, placed_over, element_above, above_lower, above_last, IsRooted, Grows, IsShaped}
use Rattle.snap_tree.specs.declared.build.TheConstants.{MOST_NODES, MOST_DEPTH}
use Rattle.snap_tree.specs.declared.weight.TheConstants.{MOST_WEIGHT}

-- ---- where a row went, each node stood in its place before, and the row's place is good

abbrev Stood : Row → List Row → Trees → Option Trees → Type 0
Stood r above t new = MatchOption new (Unit {0}) (λ t'. EachPlaced above t' → EachPlaced above t × IsGood r (from_parent r (open_rows t) ++ above))

placed_before : (above : List Row) (t : Trees) (r : Row) → EachPlaced above (beside t (tree r empty empty)) → EachPlaced above t × IsPlaced above r empty
placed_before above empty r h = (tt, h.0)
placed_before above (tree x kids after) r h = let rest = placed_before above after r h.1.1 in ((h.0, (h.1.0, rest.0)), rest.1)

not_empty : (t : Trees) (r : Row) → beside t (tree r empty empty) ≡ empty → ⊥
not_empty empty r e = cc
not_empty (tree x kids after) r e = cc

went_somewhere : (r : Row) (t new : Trees) → Went r t new → new ≡ empty → ⊥
went_somewhere r t new w e = let no : [] ≡ r ∷ w.parent ∷ w.above = sym (ap open_rows e) ∙ w.opens in cc

stood_below : (r x : Row) (above : List Row) (kids : Trees) (o : Option Trees) (b : Bool) → names r x ≡ b → Stood r (x ∷ above) kids o → MatchOption o (from_parent r (open_rows kids) ≡ []) (Went r kids)
    → Stood r above (tree x kids empty) (option_or (option_map (λ k. tree x k empty) o) (if b then Some (tree x (beside kids (tree r empty empty)) empty) else None))
stood_below r x above kids (Some k) b e s w = λ p.
    let element = element_above x k p.0.childless (went_somewhere r kids k w) in
    let stood = s p.1.0 in
    ((placed_over above x kids k p.0 element, (stood.0, tt)), subst (IsGood r) (sym (above_lower r x w.parent (open_rows kids) w.above above w.found)) stood.1)
stood_below r x above kids None true e s w = λ p.
    let element = element_above x (beside kids (tree r empty empty)) p.0.childless (not_empty kids r) in
    let stood = placed_before (x ∷ above) kids r p.1.0 in
    let good : IsGood r (x ∷ above) = record { leaf = stood.1; below_element = element } in
    ((placed_over above x kids (beside kids (tree r empty empty)) p.0 element, (stood.0, tt)), subst (IsGood r) (sym (above_last r x (open_rows kids) above w e)) good)
stood_below r x above kids None false e s w = tt

stood_after : (r x : Row) (above : List Row) (kids s : Trees) (o : Option Trees) → open_rows (tree x kids s) ≡ open_rows s → Stood r above s o → Stood r above (tree x kids s) (option_map (tree x kids) o)
stood_after r x above kids s None e h = tt
stood_after r x above kids s (Some t) e h = λ p.
    let stood = h p.1.1 in
    ((p.0, (p.1.0, stood.0)), subst (λ rows. IsGood r (from_parent r rows ++ above)) (sym e) stood.1)

under_stood : (r : Row) (above : List Row) (t : Trees) → Stood r above t (under r t)
under_stood r above empty = tt
under_stood r above (tree x kids empty) =
    stood_below r x above kids (under r kids) (names r x) refl (under_stood r (x ∷ above) kids) (under_opens r kids)
under_stood r above (tree x kids (tree y b a)) =
    stood_after r x above kids (tree y b a) (under r (tree y b a)) refl (under_stood r above (tree y b a))

-- ---- the last row has no fault, and what holds of all held before it

place_sound : (first : Bool) (r : Row) (above : ℕ) (below : Bool) → Fits first r above below → place_fault first r above below ≡ None
unfolding place_fault
place_sound first r above below f =
    let shallow : nat_le MOST_DEPTH above ≡ false = grind (arith, nat_tests, f.shallow) in
    rw (f.in_place, f.root, f.parent, shallow) f.own

rooted_before : (r : Row) (t new : Trees) → under r t ≡ Some new → IsRooted new → IsRooted t
rooted_before r empty new e h = tt
rooted_before r (tree x kids empty) new e h = by_open (under r kids) (names r x) e
  where
    by_open : (o : Option Trees) (b : Bool) → option_or (option_map (λ k. tree x k empty) o) (if b then Some (tree x (beside kids (tree r empty empty)) empty) else None) ≡ Some new → is_text x ≡ false
    by_open (Some k) b e = let same : new ≡ tree x k empty = cc in subst IsRooted same h
    by_open None true e = let same : new ≡ tree x (beside kids (tree r empty empty)) empty = cc in subst IsRooted same h
    by_open None false e = let no : None ≡ Some new = e in cc
rooted_before r (tree x kids (tree y below after)) new e h = by_open (under r (tree y below after)) (under_opens r (tree y below after)) e
  where
    by_open : (o : Option Trees) → MatchOption o (from_parent r (open_rows (tree y below after)) ≡ []) (Went r (tree y below after)) → option_map (tree x kids) o ≡ Some new → ⊥
    by_open None w e = let no : None ≡ Some new = e in cc
    by_open (Some empty) w e = went_somewhere r (tree y below after) empty w refl
    by_open (Some (tree z c d)) w e = let same : new ≡ tree x kids (tree z c d) = cc in subst IsRooted same h

-- the row's place among nodes that were open
place_fits : (r p : Row) (above : List Row) → IsGood r (p ∷ above) → IsWellRow r → Fits false r (length (p ∷ above)) (is_text p)
place_fits r p above g own = record { in_place = grind (arith, nat_tests); root = refl; parent = g.below_element; shallow = g.leaf.shallow; own = sound_row r own }

later_before : (r y : Row) (b a : Trees) (o : Option Trees) → under r (tree y b a) ≡ o → MatchOption o (from_parent r (open_rows (tree y b a)) ≡ []) (Went r (tree y b a)) → Stood r [] (tree y b a) o → IsRooted (unwrap_or o (beside (tree y b a) (tree r empty empty))) → EachPlaced [] (unwrap_or o (beside (tree y b a) (tree r empty empty))) → IsWellRow r
    → IsRooted (tree y b a) × EachPlaced [] (tree y b a) × Fits false r (length (ancestors r (tree y b a))) (is_below_text (ancestors r (tree y b a)))
later_before r y b empty None e w s root placed own = absurd root
later_before r y b (tree z c d) None e w s root placed own = absurd root
later_before r y b a (Some new) e w s root placed own =
    let stood = s placed in
    let good : IsGood r (w.parent ∷ w.above) = subst (IsGood r) (append-nil _ ∙ w.found) stood.1 in
    (rooted_before r (tree y b a) new e root, stood.0, subst (λ rows. Fits false r (length rows) (is_below_text rows)) (sym w.found) (place_fits r w.parent w.above good own))

new_number : (rows : List Row) (r : Row) → AreApart (rows ++ r ∷ []) → list_any (has_number r.id) rows ≡ false
new_number rows r a = later_number r.id rows (r ∷ []) a (ap (λ b. b || false) (same_id r))

row_sound : (earlier : List Row) (r : Row) → Grows (earlier ++ r ∷ []) → Grows earlier × (row_fault earlier r ≡ None)
row_sound [] r g =
    let f : Fits true r 0 false = record { in_place = ap is_some g.placed.0.named; root = g.rooted; parent = refl; shallow = g.placed.0.shallow; own = sound_row r g.rows_well.0 } in
    (record { rooted = tt; placed = tt; apart = tt; rows_well = tt }, place_sound true r 0 false f)
row_sound (x ∷ earlier) r g =
    let t = grown (x ∷ earlier) in
    let wells = all_parts IsWellRow (x ∷ earlier) (r ∷ []) g.rows_well in
    let pushed = grown_push (x ∷ earlier) r in
    let before = later_before r x _ _ (under r t) refl (under_opens r t) (under_stood r [] t) (subst IsRooted pushed g.rooted) (subst (EachPlaced []) pushed g.placed) wells.1.0 in
    let free = new_number (x ∷ earlier) r g.apart in
    (record { rooted = before.0; placed = before.1; apart = (apart_append (x ∷ earlier) (r ∷ []) g.apart).0; rows_well = wells.0 }, rw free (place_sound false r _ _ before.2))

rows_sound : (earlier rows : List Row) → Grows (earlier ++ rows) → Grows earlier × (rows_fault earlier rows ≡ None)
rows_sound earlier [] g = (subst Grows (append-nil earlier) g, refl)
rows_sound earlier (r ∷ rows) g =
    let rest = rows_sound (earlier ++ r ∷ []) rows (subst Grows (sym (append_assoc earlier (r ∷ []) rows)) g) in
    let one = row_sound earlier r rest.0 in
    (one.0, ap (λ o. option_or o (rows_fault (earlier ++ r ∷ []) rows)) one.1 ∙ rest.1)

-- ---- trees

is_rooted : (t : Trees) → HasRoot t → IsRooted t
is_rooted empty h = absurd h
is_rooted (tree r kids empty) h = h
is_rooted (tree r kids (tree y below after)) h = h

some_rows : (t : Trees) → HasRoot t → 0 < length (rows_of t)
some_rows empty h = absurd h
some_rows (tree r kids after) h = omega arith

shape_sound : (rows : List Row) → 0 < length rows → length rows ≤ MOST_NODES → rows_fault [] rows ≡ None → shape_fault rows ≡ None
unfolding shape_fault
shape_sound rows some few h =
    let not_none : (length rows == 0) ≡ false = grind (arith, nat_tests) in
    let not_many : nat_lt MOST_NODES (length rows) ≡ false = grind (arith, nat_tests) in
    rw (not_none, not_many) h

-- what shaped trees grow from
pub regrown_shaped : (t : Trees) → IsShaped t → grown (rows_of t) ≡ t
regrown_shaped t s = regrown t (named_placed [] t s.placed) s.apart

-- the rows of shaped trees have a sound shape
pub shape_of_placed : (t : Trees) → IsShaped t → shape_fault (rows_of t) ≡ None
shape_of_placed t s =
    let same = sym (regrown_shaped t s) in
    let grows : Grows (rows_of t) = record { rooted = subst IsRooted same (is_rooted t s.rooted); placed = subst (EachPlaced []) same s.placed; apart = s.apart; rows_well = s.rows_well } in
    shape_sound (rows_of t) (some_rows t s.rooted) (omega (arith, s.few, length-rows_of t)) (rows_sound [] (rows_of t) grows).1

pub shaped_well : (t : Trees) → IsWell t → IsShaped t
shaped_well t well = record { rooted = well.rooted; placed = well.placed; few = well.few; apart = well.apart; rows_well = well.rows_well }

-- a well tree's rows have no fault
pub sound_from_well : (t : Trees) → IsWell t → tree_fault (rows_of t) ≡ None
unfolding tree_fault
sound_from_well t well =
    let s = shaped_well t well in
    let light : nat_lt MOST_WEIGHT (reference_weight t) ≡ false = grind (arith, nat_tests, well.light) in
    rw (shape_of_placed t s, regrown_shaped t s, light) refl
