-- Rows without a fault make a well tree.
use Rattle.std.proofs.Common.{◌≡◌, ℕ, ◌<◌, ◌≤◌, ◌==◌, List, [], ◌∷◌, ◌++◌, length, Bool, true, false, ◌||◌, ◌&&◌, Option, Some, None, option_map, unwrap_or, if◌then◌else◌, refl, sym, ◌∙◌, ap, subst, arith, append_assoc, MatchOption, nat_le, nat_lt}
use Rattle.std.proofs.lemmas.List.{append-nil}
use Rattle.std.proofs.lemmas.Bool.{or_parts}
use Rattle.std.proofs.lemmas.Bool.Decides.{nat_tests}
use Rattle.std.specs.Option.{option_or, is_some}
use Rattle.std.specs.List.{list_any, AllByRecursion}
use Rattle.snap_tree.specs.declared.row.NodeId.{NodeId}
use Rattle.snap_tree.specs.declared.row.Row.{Row}
use Rattle.snap_tree.specs.declared.fault.TreeFault.{TreeFault}
use Rattle.snap_tree.specs.declared.fault.TreeFault.TheVariants.{Empty, TooMany, DoubleNumber, ParentUnknownOrNotOpen, RootNotElement, TextHasKids, TooDeep, ReferenceWeight}
use Rattle.snap_tree.specs.Trees.{Trees, empty, tree, rows_of, count, beside}
use Rattle.snap_tree.specs.Grown.{names, is_number, grown, under, planted}
use Rattle.snap_tree.specs.Rows.{has_number, is_text, own_fault}
use Rattle.snap_tree.specs.Faults.{open_rows, from_parent, ancestors, is_first, is_misplaced, is_below_text, place_fault, row_fault, rows_fault, shape_fault, weight_fault, tree_fault}
use Rattle.snap_tree.specs.Well.{IsPlaced, EachPlaced, HasRoot, AreApart, IsWell}
use Rattle.snap_tree.specs.WellRow.{IsWellRow}
use Rattle.snap_tree.specs.Weight.{reference_weight}
use Rattle.snap_tree.proofs.Growth.{rows_of_grown, grown_push}
use Rattle.snap_tree.proofs.RowLimits.{well_row}
use Rattle.snap_tree.proofs.Cuts.{length-rows_of}
use Rattle.snap_tree.proofs.EachRow.{all_append}
use Rattle.snap_tree.proofs.Opening.{from_parent-found, from_parent-none, under_opens, Went}
use Rattle.snap_tree.specs.declared.build.TheConstants.{MOST_NODES, MOST_DEPTH}
use Rattle.snap_tree.specs.declared.weight.TheConstants.{MOST_WEIGHT}

-- ---- what a row without a fault tells

pub record Fits (first : Bool) (r : Row) (above : ℕ) (below : Bool) : Type 0 where
  pub in_place : is_misplaced first r above ≡ false
  pub root : (first && is_text r) ≡ false
  pub parent : below ≡ false
  pub shallow : above < MOST_DEPTH
  pub own : own_fault r ≡ None

fits : (first : Bool) (r : Row) (above : ℕ) (below a b c : Bool) → is_misplaced first r above ≡ a → (first && is_text r) ≡ b → nat_le MOST_DEPTH above ≡ c → place_fault first r above below ≡ None → Fits first r above below
unfolding place_fault
fits first r above below true b c ea eb ec h = let no : Some (ParentUnknownOrNotOpen r.id) ≡ None = rw ea at h in cc
fits first r above below false true c ea eb ec h = let no : Some (RootNotElement r.id) ≡ None = rw (ea, eb) at h in cc
fits first r above true false false c ea eb ec h = let no : Some (TextHasKids r.id) ≡ None = rw (ea, eb) at h in cc
fits first r above false false false true ea eb ec h = let no : Some (TooDeep r.id) ≡ None = rw (ea, eb, ec) at h in cc
fits first r above false false false false ea eb ec h = record {
  in_place = ea;
  root = eb;
  parent = refl;
  shallow = grind (arith, nat_tests);
  own = rw (ea, eb, ec) at h;
}

-- ---- numbers

pub same_number : (a b : ℕ) → (a == b) ≡ (b == a)
same_number a b = grind (arith, nat_tests)

any_push : (n : NodeId) (rows : List Row) (r : Row) → list_any (has_number n) rows ≡ false → has_number n r ≡ false → list_any (has_number n) (rows ++ r ∷ []) ≡ false
any_push n [] r a h = ap (λ b. b || false) h
any_push n (x ∷ rows) r a h =
    let both = or_parts (has_number n x) (list_any (has_number n) rows) a in
    ap (λ b. b || list_any (has_number n) (rows ++ r ∷ [])) both.0 ∙ any_push n rows r both.1 h

apart_push : (rows : List Row) (r : Row) → AreApart rows → list_any (has_number r.id) rows ≡ false → AreApart (rows ++ r ∷ [])
apart_push [] r a h = (refl, tt)
apart_push (x ∷ rows) r a h =
    let both = or_parts (has_number r.id x) (list_any (has_number r.id) rows) h in
    (any_push x.id rows r a.0 (same_number r.id.0 x.id.0 ∙ both.0), apart_push rows r a.1 both.1)

-- ---- places

named_by : (r p : Row) (parent : Option NodeId) → is_number parent p.id ≡ true → parent ≡ Some p.id
named_by r p None h = cc
named_by r p (Some n) h = let same : n.0 ≡ p.id.0 = grind (arith, nat_tests) in ap (λ k. Some (record { 0 = k })) same

pub from_parent-names : (r p : Row) (xs above : List Row) → from_parent r xs ≡ p ∷ above → names r p ≡ true
from_parent-names r p [] above h = cc
from_parent-names r p (x ∷ xs) above h = by_name (names r x) refl h (from_parent-names r p xs above)
  where
    by_name : (b : Bool) → names r x ≡ b → from_parent r (x ∷ xs) ≡ p ∷ above → (from_parent r xs ≡ p ∷ above → names r p ≡ true) → names r p ≡ true
    by_name true e h k = let h' : x ∷ xs ≡ p ∷ above = rw e at h in let same : x ≡ p = cc in ap (names r) (sym same) ∙ e
    by_name false e h k = let h' : from_parent r xs ≡ p ∷ above = rw e at h in k h'

-- the place that a row gets is good
pub record IsGood (r : Row) (above : List Row) : Type 0 where
  pub leaf : IsPlaced above r empty
  pub below_element : is_below_text above ≡ false

pub placed_beside : (above : List Row) (t others : Trees) → EachPlaced above t → EachPlaced above others → EachPlaced above (beside t others)
placed_beside above empty others h k = k
placed_beside above (tree x kids after) others h k = (h.0, (h.1.0, placed_beside above after others h.1.1 k))

abbrev Stays : Row → List Row → Trees → Option Trees → Type 0
Stays r above t new = MatchOption new (Unit {0}) (λ t'. IsGood r (from_parent r (open_rows t) ++ above) → EachPlaced above t')

-- an element stays in its place whatever stands below it
pub placed_over : (above : List Row) (x : Row) (kids k : Trees) → IsPlaced above x k → is_text x ≡ false → IsPlaced above x kids
placed_over above x kids k p e = record { named = p.named; shallow = p.shallow; childless = λ t. absurd (no t) }
  where
    no : is_text x ≡ true → ⊥
    no t = let both : true ≡ false = sym t ∙ e in cc

-- what has something below it is an element
pub element_above : (x : Row) (k : Trees) → (is_text x ≡ true → k ≡ empty) → (k ≡ empty → ⊥) → is_text x ≡ false
element_above x k childless some = by_text (is_text x) refl
  where
    by_text : (b : Bool) → is_text x ≡ b → is_text x ≡ false
    by_text true e = absurd (some (childless e))
    by_text false e = e

-- the nodes above a row, where its parent stands below the last root, and where it is the last root
pub above_lower : (r x p : Row) (xs lower above : List Row) → from_parent r xs ≡ p ∷ lower → from_parent r (xs ++ x ∷ []) ++ above ≡ from_parent r xs ++ x ∷ above
above_lower r x p xs lower above e =
    ap (λ rows. rows ++ above) (from_parent-found r p xs (x ∷ []) lower e) ∙ append_assoc (p ∷ lower) (x ∷ []) above ∙ ap (λ rows. rows ++ x ∷ above) (sym e)

pub above_last : (r x : Row) (xs above : List Row) → from_parent r xs ≡ [] → names r x ≡ true → from_parent r (xs ++ x ∷ []) ++ above ≡ x ∷ above
above_last r x xs above e n =
    let one : from_parent r (x ∷ []) ≡ x ∷ [] = rw n refl in
    ap (λ rows. rows ++ above) (from_parent-none r xs (x ∷ []) e ∙ one)

kids_are : (r : Row) (kids k : Trees) → under r kids ≡ Some k → kids ≡ empty → ⊥
kids_are r kids k e h = let no : None ≡ Some k = sym (ap (under r) h) ∙ e in cc

stays_below : (r x : Row) (above : List Row) (kids : Trees) (o : Option Trees) (b : Bool) → under r kids ≡ o → names r x ≡ b → IsPlaced above x kids → EachPlaced (x ∷ above) kids → Stays r (x ∷ above) kids o → MatchOption o (from_parent r (open_rows kids) ≡ []) (Went r kids)
    → Stays r above (tree x kids empty) (option_or (option_map (λ k. tree x k empty) o) (if b then Some (tree x (beside kids (tree r empty empty)) empty) else None))
stays_below r x above kids (Some k) b eo e p h s w = λ good.
    let element = element_above x kids p.childless (kids_are r kids k eo) in
    (placed_over above x k kids p element, (s (subst (IsGood r) (above_lower r x w.parent (open_rows kids) w.above above w.found) good), tt))
stays_below r x above kids None true eo e p h s w = λ good.
    let g = subst (IsGood r) (above_last r x (open_rows kids) above w e) good in
    (placed_over above x (beside kids (tree r empty empty)) kids p g.below_element, (placed_beside (x ∷ above) kids (tree r empty empty) h (g.leaf, (tt, tt)), tt))
stays_below r x above kids None false eo e p h s w = tt

stays_after : (r x : Row) (above : List Row) (kids s : Trees) (o : Option Trees) → open_rows (tree x kids s) ≡ open_rows s → IsPlaced above x kids → EachPlaced (x ∷ above) kids → Stays r above s o → Stays r above (tree x kids s) (option_map (tree x kids) o)
stays_after r x above kids s None e p h k = tt
stays_after r x above kids s (Some t) e p h k = λ good. (p, (h, k (subst (λ rows. IsGood r (from_parent r rows ++ above)) e good)))

under_placed : (r : Row) (above : List Row) (t : Trees) → EachPlaced above t → Stays r above t (under r t)
under_placed r above empty h = tt
under_placed r above (tree x kids empty) h =
    stays_below r x above kids (under r kids) (names r x) refl refl h.0 h.1.0 (under_placed r (x ∷ above) kids h.1.0) (under_opens r kids)
under_placed r above (tree x kids (tree y b a)) h =
    stays_after r x above kids (tree y b a) (under r (tree y b a)) refl h.0 h.1.0 (under_placed r above (tree y b a) h.1.1)

-- ---- rows that grow

abbrev pub IsRooted : Trees → Type 0
IsRooted empty = Unit {0}
IsRooted (tree r kids empty) = is_text r ≡ false
IsRooted (tree r kids (tree y below after)) = ⊥

rooted_under : (r : Row) (t new : Trees) → under r t ≡ Some new → IsRooted t → IsRooted new
rooted_under r empty new e h = let no : None ≡ Some new = e in cc
rooted_under r (tree x kids empty) new e h = by_open (under r kids) (names r x) e
  where
    by_open : (o : Option Trees) (b : Bool) → option_or (option_map (λ k. tree x k empty) o) (if b then Some (tree x (beside kids (tree r empty empty)) empty) else None) ≡ Some new → IsRooted new
    by_open (Some k) b e = let same : tree x k empty ≡ new = cc in subst IsRooted same h
    by_open None true e = let same : tree x (beside kids (tree r empty empty)) empty ≡ new = cc in subst IsRooted same h
    by_open None false e = let no : None ≡ Some new = e in cc
rooted_under r (tree x kids (tree y below after)) new e h = absurd h

-- what holds of rows so far
pub record Grows (rows : List Row) : Type 0 where
  pub rooted : IsRooted (grown rows)
  pub placed : EachPlaced [] (grown rows)
  pub apart : AreApart rows
  pub rows_well : AllByRecursion IsWellRow rows

-- the first row is the root
first_grows : (r : Row) → Fits true r 0 false → Grows (r ∷ [])
first_grows r f = record {
  rooted = f.root;
  placed = (record { named = no_parent r.parent f.in_place; shallow = omega arith; childless = λ _. refl }, (tt, tt));
  apart = (refl, tt);
  rows_well = (well_row r f.own, tt);
}
  where
    no_parent : (parent : Option NodeId) → is_some parent ≡ false → parent ≡ None
    no_parent None e = refl
    no_parent (Some p) e = cc

-- the row's place among open nodes
good_place : (r p : Row) (above : List Row) → names r p ≡ true → Fits false r (length (p ∷ above)) (is_text p) → IsGood r (p ∷ above)
good_place r p above n f = record {
  leaf = record { named = named_by r p r.parent n; shallow = omega arith; childless = λ _. refl };
  below_element = f.parent;
}

later_planted : (r : Row) (t new : Trees) → under r t ≡ Some new → Went r t new → Fits false r (length (ancestors r t)) (is_below_text (ancestors r t)) → IsRooted t → EachPlaced [] t → Stays r [] t (Some new) → IsRooted new × EachPlaced [] new
later_planted r t new e w f root placed stays =
    let fit : Fits false r (length (w.parent ∷ w.above)) (is_text w.parent) = subst (λ rows. Fits false r (length rows) (is_below_text rows)) w.found f in
    let good = good_place r w.parent w.above (from_parent-names r w.parent (open_rows t) w.above w.found) fit in
    let anc : from_parent r (open_rows t) ++ [] ≡ w.parent ∷ w.above = append-nil _ ∙ w.found in
    (rooted_under r t new e root, stays (subst (IsGood r) (sym anc) good))

no_open : (r : Row) (t : Trees) → from_parent r (open_rows t) ≡ [] → Fits false r (length (ancestors r t)) (is_below_text (ancestors r t)) → ⊥
no_open r t e f =
    let none : length (ancestors r t) ≡ 0 = ap length e in
    let no : true ≡ false = sym (ap (λ n. n == 0) none) ∙ f.in_place in cc

later_grows : (r : Row) (t : Trees) (o : Option Trees) → under r t ≡ o → MatchOption o (from_parent r (open_rows t) ≡ []) (Went r t) → Fits false r (length (ancestors r t)) (is_below_text (ancestors r t)) → IsRooted t → EachPlaced [] t → Stays r [] t o → IsRooted (planted r t) × EachPlaced [] (planted r t)
later_grows r t None e w f root placed stays = absurd (no_open r t w f)
later_grows r t (Some new) e w f root placed stays =
    let is : planted r t ≡ new = ap (λ o. unwrap_or o (beside t (tree r empty empty))) e in
    subst (λ t'. IsRooted t' × EachPlaced [] t') (sym is) (later_planted r t new e w f root placed stays)

row_grows : (rows : List Row) (r : Row) → Grows rows → list_any (has_number r.id) rows ≡ false → Fits (is_first rows) r (length (ancestors r (grown rows))) (is_below_text (ancestors r (grown rows))) → Grows (rows ++ r ∷ [])
row_grows [] r g free f = first_grows r f
row_grows (x ∷ rows) r g free f =
    let t = grown (x ∷ rows) in
    let both = later_grows r t (under r t) refl (under_opens r t) f g.rooted g.placed (under_placed r [] t g.placed) in
    record {
      rooted = subst IsRooted (sym (grown_push (x ∷ rows) r)) both.0;
      placed = subst (EachPlaced []) (sym (grown_push (x ∷ rows) r)) both.1;
      apart = apart_push (x ∷ rows) r g.apart free;
      rows_well = all_append IsWellRow (x ∷ rows) (r ∷ []) g.rows_well (well_row r f.own, tt);
    }

free_of : (earlier : List Row) (r : Row) (b : Bool) → list_any (has_number r.id) earlier ≡ b → row_fault earlier r ≡ None → (list_any (has_number r.id) earlier ≡ false) × (place_fault (is_first earlier) r (length (ancestors r (grown earlier))) (is_below_text (ancestors r (grown earlier))) ≡ None)
free_of earlier r true e h = let no : Some (DoubleNumber r.id) ≡ None = rw e at h in cc
free_of earlier r false e h = (e, rw e at h)

pub none_or : (a b : Option TreeFault) → option_or a b ≡ None → (a ≡ None) × (b ≡ None)
none_or None b h = (refl, h)
none_or (Some f) b h = cc

rows_grow : (earlier rows : List Row) → Grows earlier → rows_fault earlier rows ≡ None → Grows (earlier ++ rows)
rows_grow earlier [] g h = subst Grows (sym (append-nil earlier)) g
rows_grow earlier (r ∷ rows) g h =
    let both = none_or (row_fault earlier r) (rows_fault (earlier ++ r ∷ []) rows) h in
    let one = free_of earlier r (list_any (has_number r.id) earlier) refl both.0 in
    let next = row_grows earlier r g one.0 (fits (is_first earlier) r _ _ _ _ _ refl refl refl one.1) in
    subst Grows (append_assoc earlier (r ∷ []) rows) (rows_grow (earlier ++ r ∷ []) rows next both.1)

root_of : (t : Trees) → IsRooted t → 0 < count t → HasRoot t
root_of empty h p = absurd (omega arith)
root_of (tree r kids empty) h p = h
root_of (tree r kids (tree y below after)) h p = h

-- what holds of trees whose rows have a sound shape
pub record IsShaped (t : Trees) : Type 0 where
  pub rooted : HasRoot t
  pub placed : EachPlaced [] t
  pub few : count t ≤ MOST_NODES
  pub apart : AreApart (rows_of t)
  pub rows_well : AllByRecursion IsWellRow (rows_of t)

shaped_by : (rows : List Row) (a b : Bool) → (length rows == 0) ≡ a → nat_lt MOST_NODES (length rows) ≡ b → shape_fault rows ≡ None → IsShaped (grown rows)
unfolding shape_fault
shaped_by rows true b ea eb h = let no : Some Empty ≡ None = rw ea at h in cc
shaped_by rows false true ea eb h = let no : Some TooMany ≡ None = rw (ea, eb) at h in cc
shaped_by rows false false ea eb h =
    let rest : rows_fault [] rows ≡ None = rw (ea, eb) at h in
    let nothing : Grows [] = record { rooted = tt; placed = tt; apart = tt; rows_well = tt } in
    let g = rows_grow [] rows nothing rest in
    let n : count (grown rows) ≡ length rows = sym (length-rows_of (grown rows)) ∙ ap length (rows_of_grown rows) in
    let some : 0 < length rows = grind (arith, nat_tests) in
    let few : length rows ≤ MOST_NODES = grind (arith, nat_tests) in
    record {
      rooted = root_of (grown rows) g.rooted (omega arith);
      placed = g.placed;
      few = omega arith;
      apart = subst AreApart (sym (rows_of_grown rows)) g.apart;
      rows_well = subst (AllByRecursion IsWellRow) (sym (rows_of_grown rows)) g.rows_well;
    }

-- rows whose shape is sound make shaped trees
pub shaped : (rows : List Row) → shape_fault rows ≡ None → IsShaped (grown rows)
shaped rows h = shaped_by rows (length rows == 0) (nat_lt MOST_NODES (length rows)) refl refl h

-- rows without a fault have a sound shape, and references that aren't too heavy
pub sound_parts : (rows : List Row) → tree_fault rows ≡ None → (shape_fault rows ≡ None) × (weight_fault (grown rows) ≡ None)
unfolding tree_fault
sound_parts rows h = none_or (shape_fault rows) (weight_fault (grown rows)) h

pub shape_of_sound : (rows : List Row) → tree_fault rows ≡ None → shape_fault rows ≡ None
shape_of_sound rows h = (sound_parts rows h).0

light_by : (t : Trees) (b : Bool) → nat_lt MOST_WEIGHT (reference_weight t) ≡ b → weight_fault t ≡ None → reference_weight t ≤ MOST_WEIGHT
light_by t true e h = let no : Some ReferenceWeight ≡ None = rw e at h in cc
light_by t false e h = grind (arith, nat_tests)

-- a shaped tree whose references aren't too heavy is well
pub light_well : (t : Trees) → IsShaped t → reference_weight t ≤ MOST_WEIGHT → IsWell t
light_well t s light = record { rooted = s.rooted; placed = s.placed; few = s.few; apart = s.apart; rows_well = s.rows_well; light = light }

-- rows without a fault make a well tree
pub well_from_sound : (rows : List Row) → tree_fault rows ≡ None → IsWell (grown rows)
well_from_sound rows h =
    let parts = sound_parts rows h in
    let t = grown rows in
    light_well t (shaped rows parts.0) (light_by t (nat_lt MOST_WEIGHT (reference_weight t)) refl parts.1)

-- ---- what a sound shape tells of the rows themselves

pub few_rows : (rows : List Row) → shape_fault rows ≡ None → length rows ≤ MOST_NODES
few_rows rows h =
    omega (arith, (shaped rows h).few, length-rows_of (grown rows), ap length (rows_of_grown rows))

pub well_rows : (rows : List Row) → shape_fault rows ≡ None → AllByRecursion IsWellRow rows
well_rows rows h = subst (AllByRecursion IsWellRow) (rows_of_grown rows) (shaped rows h).rows_well
