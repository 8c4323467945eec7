-- What references find, weighed by sums over the rows.
use Rattle.std.proofs.Common.{◌≡◌, ℕ, zero, suc, ◌+◌, ◌-◌, ◌*◌, ◌^◌, ◌<◌, ◌≤◌, List, [], ◌∷◌, ◌++◌, length, take, drop, get_or, map, filter, Bool, true, false, nat_lt, Option, Some, None, option_map, unwrap_or, if◌then◌else◌, String, Vec, refl, sym, ◌∙◌, ap, subst, arith}
use Rattle.std.proofs.lemmas.List.{append-nil, take_more, take-append-drop, drop_more, take-take, drop-take, length-map, get_or-map, get_or_append_left, get_or-append_right}
use Rattle.std.proofs.lemmas.List.Sums.{sum_by-cons, sum_by-append, sum_by_push, sum_by_more}
use Rattle.std.proofs.lemmas.Bool.Decides.{nat_tests}
use Rattle.std.specs.Option.{option_or, option_map_or, option_to_list}
use Rattle.std.specs.List.{AllByRecursion, sum_by, find, slice_get}
use Rattle.std.specs.BTreeMap.{BTreeMap}
use Rattle.snap_tree.specs.declared.row.NodeId.{NodeId}
use Rattle.snap_tree.specs.declared.row.Attr.{Attr}
use Rattle.snap_tree.specs.declared.row.Body.{Body}
use Rattle.snap_tree.specs.declared.row.Body.TheVariants.{Element, Words}
use Rattle.snap_tree.specs.declared.row.Row.{Row}
use Rattle.snap_tree.specs.declared.fault.TreeFault.{TreeFault}
use Rattle.snap_tree.specs.declared.fault.TreeFault.TheVariants.{ReferenceWeight}
use Rattle.snap_tree.specs.declared.fault.BuildFault.{BuildFault}
use Rattle.snap_tree.specs.declared.fault.BuildFault.TheVariants.{Tree, OutOfMemory}
use Rattle.snap_tree.specs.Trees.{Trees, empty, tree, rows_of, count, sizes_of}
use Rattle.std.specs.declared.alloc.Global.{Global}
use Rattle.snap_tree.specs.declared.groups.Key.TheVariants.{Id, For}
use Rattle.snap_tree.specs.Groups.{AreGroups, group_at}
use Rattle.snap_tree.specs.Labelling.{labels_in, all_labels_in}
use Rattle.snap_tree.specs.Grown.{is_number, grown}
use Rattle.snap_tree.specs.Rows.{attrs_of, is_key}
use Rattle.snap_tree.specs.WellRow.{IsWellAttr, IsWellBody, IsWellRow}
use Rattle.snap_tree.specs.Faults.{shape_fault, weight_fault, tree_fault}
use Rattle.snap_tree.specs.Opened.{Breaks}
use Rattle.snap_tree.specs.Spots.{Spot, spots_in, spots}
use Rattle.snap_tree.specs.Places.{place_from}
use Rattle.snap_tree.specs.Labels.{is_labelable, id_of, for_of, first_with_id, labels_by, labels_at, labels_with, labels_for, outer_label}
use Rattle.snap_tree.specs.Weight.{bytes_in, node_weight, subtree_weight, weight_of, id_weight, references, found_weight, reference_weight}
use Rattle.snap_tree.specs.Weighing.{saturated, sums_from, HasSums, weight_at}
use Rattle.snap_tree.proofs.Growth.{rows_of_grown}
use Rattle.snap_tree.proofs.Spotting.{spotted, stranger, spot_at, length-sizes}
use Rattle.snap_tree.proofs.Cuts.{length-rows_of}
use Rattle.snap_tree.proofs.Labelled.{rows-spots}
use Rattle.snap_tree.specs.declared.weight.TheConstants.{MOST_WEIGHT}

-- ---- a row within its limits

values_bound : (attrs : List Attr) → AllByRecursion IsWellAttr attrs → sum_by (λ a. length a.value) attrs ≤ length attrs * 65536
values_bound [] h = omega arith
values_bound (a ∷ attrs) h = omega (arith, h.0.short, values_bound attrs h.1, sum_by-cons (λ b. length b.value) a attrs)

body_bound : (b : Body) → IsWellBody b → bytes_in b ≤ 4194304
body_bound (Element space tag attrs) h = omega (arith, h.few, values_bound attrs h.each_well)
body_bound (Words text) h = omega arith

-- a row within its limits has at most 64 values of 65,536 bytes
pub light_row : (r : Row) → IsWellRow r → bytes_in r.body ≤ 4194304
light_row r well = body_bound r.body well.body_well

-- ---- sums

pub sums_from-push : (from : ℕ) (rows : List Row) (r : Row) → sums_from from (rows ++ r ∷ []) ≡ sums_from from rows ++ (from + sum_by node_weight (rows ++ r ∷ [])) ∷ []
sums_from-push from [] r = let one : from + node_weight r ≡ from + sum_by node_weight (r ∷ []) = omega (arith, sum_by-cons node_weight r []) in ap (λ n. from ∷ n ∷ []) one
sums_from-push from (x ∷ rows) r =
    let more : from + node_weight x + sum_by node_weight (rows ++ r ∷ []) ≡ from + sum_by node_weight (x ∷ (rows ++ r ∷ [])) = omega (arith, sum_by-cons node_weight x (rows ++ r ∷ [])) in
    ap (λ ns. from ∷ ns) (sums_from-push (from + node_weight x) rows r ∙ ap (λ n. sums_from (from + node_weight x) rows ++ n ∷ []) more)

pub sums_at : (from : ℕ) (rows : List Row) (k : ℕ) → k ≤ length rows → get_or (sums_from from rows) k 0 ≡ from + sum_by node_weight (take k rows)
sums_at from [] zero h = omega arith
sums_at from [] (suc k) h = absurd (omega arith)
sums_at from (r ∷ rows) zero h = omega arith
sums_at from (r ∷ rows) (suc k) h =
    omega (arith, sums_at (from + node_weight r) rows k (omega arith), sum_by-cons node_weight r (take k rows))

pub length-sums : (from : ℕ) (rows : List Row) → length (sums_from from rows) ≡ suc (length rows)
length-sums from [] = refl
length-sums from (r ∷ rows) = ap suc (length-sums (from + node_weight r) rows)

-- ---- what a number finds

-- a number's subtree lies between two sums, whose difference is its weight
pub record WeighsBetween (rows : List Row) (n : NodeId) (place size : ℕ) : Type 0 where
  pub in_range : place < length rows
  pub fits : place + size ≤ length rows
  pub weight : weight_of (grown rows) n + sum_by node_weight (take place rows) ≡ sum_by node_weight (take (place + size) rows)

pub weighs : (rows : List Row) (n : NodeId) (place size : ℕ) → place_from 0 n.0 rows ≡ Some place → size ≡ get_or (sizes_of (grown rows)) place 0 → WeighsBetween rows n place size
weighs rows n place size e es =
    let s = spotted rows n place e in
    let below = s.there.below in
    let size_is : size ≡ suc (count below) = es ∙ s.stands.size in
    let more : place + 1 ≡ suc place = omega arith in
    let head : drop place rows ≡ s.there.row ∷ drop (suc place) rows = drop_more rows place s.there.row s.stands.in_range ∙ ap (λ r. r ∷ drop (place + 1) rows) (s.stands.row s.there.row) ∙ ap (λ k. s.there.row ∷ drop k rows) more in
    let run : take (suc (count below)) (drop place rows) ≡ s.there.row ∷ rows_of below = ap (take (suc (count below))) head ∙ ap (λ rs. s.there.row ∷ rs) s.stands.rows_below in
    let front : take place (take (place + size) rows) ≡ take place rows = take-take place (place + size) rows (omega arith) in
    let back : drop place (take (place + size) rows) ≡ s.there.row ∷ rows_of below = drop-take place size rows ∙ ap (λ k. take k (drop place rows)) size_is ∙ run in
    let whole : sum_by node_weight (take (place + size) rows) ≡ sum_by node_weight (take place rows) + subtree_weight s.there =
    ap (sum_by node_weight) (sym (take-append-drop place (take (place + size) rows)) ∙ ap (λ rs. rs ++ drop place (take (place + size) rows)) front ∙ ap (λ rs. take place rows ++ rs) back) ∙ sum_by-append node_weight (take place rows) (s.there.row ∷ rows_of below)
    in
    let found : weight_of (grown rows) n ≡ subtree_weight s.there = ap (λ o. option_map_or subtree_weight o 0) s.is in
    record {
      in_range = s.stands.in_range;
      fits = omega (arith, s.stands.fits);
      weight = omega arith;
    }

pub weighs_nothing : (rows : List Row) (n : NodeId) → place_from 0 n.0 rows ≡ None → weight_of (grown rows) n ≡ 0
weighs_nothing rows n e = ap (λ o. option_map_or subtree_weight o 0) (stranger rows n e)

-- ---- saturated sums

pub saturated-none : (n : ℕ) → n < 2 ^ 64 → n ≡ saturated (n + 0)
saturated-none n h = omega arith

-- the sum stands, where nothing is left to add
pub saturated_end : (n m : ℕ) → n ≡ saturated n → m ≡ 0 → n ≡ saturated (n + m)
saturated_end n m h none = omega arith

-- a row without attributes refers to nothing
no_references : (r : Row) (attrs : List Attr) → attrs_of r ≡ attrs → length attrs ≡ 0 → references r ≡ []
unfolding references
no_references r [] e h = rw e refl
no_references r (a ∷ attrs) e h = absurd (omega (arith, h))

pub refers_to_nothing : (t : Trees) (r : Row) (n : ℕ) → n < 2 ^ 64 → length (attrs_of r) ≡ 0 → n ≡ saturated (n + sum_by (id_weight t) (references r))
refers_to_nothing t r n l h = saturated-none n l ∙ ap (λ ids. saturated (n + sum_by (id_weight t) ids)) (sym (no_references r (attrs_of r) refl h))

pub saturated-more : (a b c : ℕ) → saturated (saturated (a + b) + c) ≡ saturated (a + (b + c))
saturated-more a b c = omega arith

-- ---- one more row is summed

pub sums_turn : (rows : List Row) (i : ℕ) (r : Row) (sum weight : ℕ) (sums : List ℕ) → i < length rows → r ≡ get_or rows i r → weight ≡ node_weight r → weight ≤ 65537 → (sum ≤ 65537 * i) × (sum ≡ sum_by node_weight (take i rows)) × (sums ≡ sums_from 0 (take i rows))
    → (sum + weight ≤ 65537 * (i + 1)) × (sum + weight ≡ sum_by node_weight (take (i + 1) rows)) × (sums ++ (sum + weight) ∷ [] ≡ sums_from 0 (take (i + 1) rows))
sums_turn rows i r sum weight sums l is w small h =
    let more : take (i + 1) rows ≡ take i rows ++ r ∷ [] = take_more rows i r l ∙ ap (λ x. take i rows ++ x ∷ []) (sym is) in
    let summed : sum + weight ≡ sum_by node_weight (take i rows ++ r ∷ []) = omega (arith, h.1, sum_by_push node_weight (take i rows) r) in
    let none : sum + weight ≡ 0 + sum_by node_weight (take i rows ++ r ∷ []) = omega arith in (
      omega (arith, h.0),
      summed ∙ ap (sum_by node_weight) (sym more),
      ap (λ ns. ns ++ (sum + weight) ∷ []) h.2 ∙ ap (λ n. sums_from 0 (take i rows) ++ n ∷ []) none ∙ sym (sums_from-push 0 (take i rows) r) ∙ ap (sums_from 0) (sym more),
    )

-- ---- what the code reads at a number's place

pub record IsWeighed (rows : List Row) (sizes sums : List ℕ) (n : NodeId) (place : ℕ) : Type 0 where
  pub summed : HasSums sizes sums place
  pub weight : weight_at sizes sums place ≡ weight_of (grown rows) n

weighed_by : (rows : List Row) (n : NodeId) (place : ℕ) → place_from 0 n.0 rows ≡ Some place → IsWeighed rows (sizes_of (grown rows)) (sums_from 0 rows) n place
weighed_by rows n place e =
    let size = get_or (sizes_of (grown rows)) place 0 in
    let w = weighs rows n place size e refl in
    let start = sums_at 0 rows place (omega (arith, w.in_range)) in
    let end = sums_at 0 rows (place + size) w.fits in
    let rows_are : length (sizes_of (grown rows)) ≡ length rows = length-sizes (grown rows) ∙ ap length (rows_of_grown rows) in
    record {
      summed = record {
        sized = omega (arith, w.in_range);
        starts = omega (arith, w.in_range, length-sums 0 rows);
        ends = omega (arith, w.fits, length-sums 0 rows);
        rises = omega (arith, w.weight);
      };
      weight = omega (arith, w.weight);
    }

pub weighed : (rows : List Row) (sizes sums : List ℕ) (n : NodeId) (place : ℕ) → sizes ≡ sizes_of (grown rows) → sums ≡ sums_from 0 rows → place_from 0 n.0 rows ≡ Some place → IsWeighed rows sizes sums n place
weighed rows sizes sums n place es em e =
    subst (λ ss. IsWeighed rows ss sums n place) (sym es) (subst (λ ms. IsWeighed rows (sizes_of (grown rows)) ms n place) (sym em) (weighed_by rows n place e))

-- ---- what an id finds

first_found : (p : Row → Bool) (rows : List Row) → slice_get (map (λ r. r.id) (filter p rows)) 0 ≡ option_map (λ r. r.id) (find p rows)
first_found p [] = refl
first_found p (r ∷ rows) = by_test (p r) refl (first_found p rows)
  where
    by_test : (b : Bool) → p r ≡ b → slice_get (map (λ r. r.id) (filter p rows)) 0 ≡ option_map (λ r. r.id) (find p rows) → slice_get (map (λ r. r.id) (filter p (r ∷ rows))) 0 ≡ option_map (λ r. r.id) (find p (r ∷ rows))
    by_test true e h = rw e refl
    by_test false e h = rw e h

-- the first of an id's group is the first element with that id
pub first_grouped : (ids : BTreeMap (String Global) (Vec NodeId Global)) (rows : List Row) (id : List ℕ) → AreGroups Id ids rows → slice_get (group_at ids id) 0 ≡ first_with_id (grown rows) id
first_grouped ids rows id h =
    ap (λ ns. slice_get ns 0) (h id) ∙ first_found (λ r. is_key id (id_of r)) rows ∙ ap (λ rs. option_map (λ r. r.id) (find (λ r. is_key id (id_of r)) rs)) (sym (rows_of_grown rows))

-- the labels found in groups are those that name the id
pub labels_grouped : (ids fors : BTreeMap (String Global) (Vec NodeId Global)) (rows : List Row) (n : NodeId) (id : Option (List ℕ)) → AreGroups Id ids rows → AreGroups For fors rows → labels_in ids fors n id ≡ labels_by (grown rows) n id
labels_grouped ids fors rows n None h k = refl
labels_grouped ids fors rows n (Some id) h k =
    ap (λ first. if is_number first n then group_at fors id else []) (first_grouped ids rows id h)
    ∙ ap (λ ns. if is_number (first_with_id (grown rows) id) n then ns else []) (k id ∙ ap (λ rs. map (λ r. r.id) (filter (λ r. is_key id (for_of r)) rs)) (sym (rows_of_grown rows)))

-- ---- what labels find, and then what all nodes find

abbrev labels_sum : Trees → ℕ → List NodeId → ℕ
labels_sum t sum labels = saturated (sum + sum_by (weight_of t) labels)

labels_are : (t : Trees) (r : Row) (outer : Option NodeId) (by : List NodeId) → is_labelable r ≡ true → by ≡ labels_by t r.id (id_of r) → labels_with t r outer ≡ by ++ option_to_list outer
labels_are t r outer by e is = rw e (ap (λ ns. ns ++ option_to_list outer) (sym is))

pub labels_with_outer : (t : Trees) (r : Row) (o : Option NodeId) (outer : NodeId) (sum : ℕ) (by : List NodeId) → is_labelable r ≡ true → by ≡ labels_by t r.id (id_of r) → o ≡ Some outer → saturated (labels_sum t sum by + weight_of t outer) ≡ labels_sum t sum (labels_with t r o)
labels_with_outer t r o outer sum by e is some =
    let all : sum_by (weight_of t) (labels_with t r o) ≡ sum_by (weight_of t) by + weight_of t outer = ap (λ x. sum_by (weight_of t) (labels_with t r x)) some ∙ ap (sum_by (weight_of t)) (labels_are t r (Some outer) by e is) ∙ sum_by_push (weight_of t) by outer in
    saturated-more sum (sum_by (weight_of t) by) (weight_of t outer) ∙ ap (λ n. saturated (sum + n)) (sym all)

pub labels_without_outer : (t : Trees) (r : Row) (o : Option NodeId) (sum : ℕ) (by : List NodeId) → is_labelable r ≡ true → by ≡ labels_by t r.id (id_of r) → o ≡ None → labels_sum t sum by ≡ labels_sum t sum (labels_with t r o)
labels_without_outer t r o sum by e is none = ap (labels_sum t sum) (sym (ap (labels_with t r) none ∙ labels_are t r None by e is ∙ append-nil by))

pub length-spots : (t : Trees) → length (spots t) ≡ length (rows_of t)
length-spots t = sym (length-map (spots t) (λ s. s.row)) ∙ ap length (rows-spots [] t)

-- one more node's references and labels are weighed
pub found_turn : (t : Trees) (rows : List Row) (outer : List (Option NodeId)) (place : ℕ) (r : Row) (o : Option NodeId) (sum refs all : ℕ) → rows_of t ≡ rows → outer ≡ map (outer_label t) (spots t) → place < length rows → r ≡ get_or rows place r → o ≡ get_or outer place o
    → sum ≡ saturated (sum_by (found_weight t) (take place (spots t))) → refs ≡ saturated (sum + sum_by (id_weight t) (references r)) → all ≡ labels_sum t refs (labels_with t r o) → all ≡ saturated (sum_by (found_weight t) (take (place + 1) (spots t)))
found_turn t rows outer place r o sum refs all er eo l ir io es ef ea =
    let d : Spot = record { row = r; below = empty; above = [] } in
    let s : Spot = get_or (spots t) place d in
    let inside : place < length (spots t) = omega (arith, length-spots t, ap length er) in
    let row : s.row ≡ r = sym (get_or-map (λ x. x.row) (spots t) place d r inside) ∙ ap (λ rs. get_or rs place r) (rows-spots [] t ∙ er) ∙ sym ir in
    let label : outer_label t s ≡ o = sym (get_or-map (outer_label t) (spots t) place d o inside) ∙ ap (λ os. get_or os place o) (sym eo) ∙ sym io in
    let found : found_weight t s ≡ sum_by (id_weight t) (references r) + sum_by (weight_of t) (labels_with t r o) =
    ap (λ x. sum_by (id_weight t) (references x) + sum_by (weight_of t) (labels_with t x (outer_label t s))) row ∙ ap (λ x. sum_by (id_weight t) (references r) + sum_by (weight_of t) (labels_with t r x)) label
    in
    let more = sum_by_more (found_weight t) (spots t) place d inside in
    let sums : sum_by (found_weight t) (take (place + 1) (spots t)) ≡ sum_by (found_weight t) (take place (spots t)) + (sum_by (id_weight t) (references r) + sum_by (weight_of t) (labels_with t r o)) = more ∙ ap (λ n. sum_by (found_weight t) (take place (spots t)) + n) found in
    omega arith

pub length-outer : (rows : List Row) (outer : List (Option NodeId)) → outer ≡ map (outer_label (grown rows)) (spots (grown rows)) → length outer ≡ length rows
length-outer rows outer e =
    ap length e ∙ length-map (spots (grown rows)) (outer_label (grown rows)) ∙ length-spots (grown rows) ∙ ap length (rows_of_grown rows)

-- ---- the last fault

breaks_or : (f : BuildFault) (a b : Option TreeFault) → Breaks f a → Breaks f (option_or a b)
breaks_or (Tree f) a b h = ap (λ o. option_or o b) h
breaks_or OutOfMemory a b h = tt

pub breaks_shape : (f : BuildFault) (rows : List Row) → Breaks f (shape_fault rows) → Breaks f (tree_fault rows)
unfolding tree_fault
breaks_shape f rows h = breaks_or f (shape_fault rows) (weight_fault (grown rows)) h

pub too_heavy : (rows : List Row) (weight : ℕ) → shape_fault rows ≡ None → weight ≡ saturated (reference_weight (grown rows)) → MOST_WEIGHT < weight → tree_fault rows ≡ Some ReferenceWeight
unfolding tree_fault
too_heavy rows weight h e m =
    let heavy : nat_lt MOST_WEIGHT (reference_weight (grown rows)) ≡ true = grind (arith, nat_tests) in
    rw (h, heavy) refl

pub light_enough : (rows : List Row) (weight : ℕ) → shape_fault rows ≡ None → weight ≡ saturated (reference_weight (grown rows)) → weight ≤ MOST_WEIGHT → tree_fault rows ≡ None
unfolding tree_fault
light_enough rows weight h e m =
    let light : nat_lt MOST_WEIGHT (reference_weight (grown rows)) ≡ false = grind (arith, nat_tests) in
    rw (h, light) refl

-- ---- the labels of a number

length-spots_in : (above : List Row) (t : Trees) → length (spots_in above t) ≡ count t
length-spots_in above t = sym (length-map (spots_in above t) (λ s. s.row)) ∙ ap length (rows-spots above t) ∙ length-rows_of t

-- the spot at a place is that of the list
pub spots_at : (i : ℕ) (above : List Row) (t : Trees) (s d : Spot) → spot_at i above t ≡ Some s → get_or (spots_in above t) i d ≡ s
spots_at zero above empty s d e = cc
spots_at (suc i) above empty s d e = cc
spots_at zero above (tree r kids after) s d e = ap (λ o. unwrap_or o d) e
spots_at (suc i) above (tree r kids after) s d e = by_place (nat_lt i (count kids)) refl e (spots_at i (r ∷ above) kids s d) (spots_at (i - count kids) above after s d)
  where
    n : length (spots_in (r ∷ above) kids) ≡ count kids
    n = length-spots_in (r ∷ above) kids

    by_place : (b : Bool) → nat_lt i (count kids) ≡ b → spot_at (suc i) above (tree r kids after) ≡ Some s → (spot_at i (r ∷ above) kids ≡ Some s → get_or (spots_in (r ∷ above) kids) i d ≡ s) → (spot_at (i - count kids) above after ≡ Some s → get_or (spots_in above after) (i - count kids) d ≡ s) → get_or (spots_in (r ∷ above) kids ++ spots_in above after) i d ≡ s
    by_place true l e hk ha =
        let less : i < length (spots_in (r ∷ above) kids) = grind (arith, nat_tests, n) in
        get_or_append_left (spots_in (r ∷ above) kids) (spots_in above after) d i less ∙ hk (rw l at e)
    by_place false l e hk ha =
        let past : count kids ≤ i = grind (arith, nat_tests) in
        get_or-append_right (spots_in (r ∷ above) kids) (spots_in above after) (count kids) i d n past ∙ ha (rw l at e)

-- what the code reads at a number's place: the row, and the label around it
pub record IsLabelled (rows : List Row) (outer : List (Option NodeId)) (n : NodeId) (place : ℕ) : Type 0 where
  pub in_rows : place < length rows
  pub in_outer : place < length outer
  pub labels : (r : Row) (o : Option NodeId) → r ≡ get_or rows place r → o ≡ get_or outer place o → labels_for (grown rows) n ≡ labels_with (grown rows) r o

pub labelled : (rows : List Row) (outer : List (Option NodeId)) (n : NodeId) (place : ℕ) → outer ≡ map (outer_label (grown rows)) (spots (grown rows)) → place_from 0 n.0 rows ≡ Some place → IsLabelled rows outer n place
labelled rows outer n place eo e =
    let t = grown rows in
    let s = spotted rows n place e in
    let inside : place < length (spots t) = omega (arith, s.stands.in_range, length-spots t, ap length (rows_of_grown rows)) in
    let found : labels_for t n ≡ labels_at t s.there = ap (λ o. option_map_or (labels_at t) o []) s.is in
    let row : (r : Row) → r ≡ get_or rows place r → s.there.row ≡ r = λ r ir. sym (s.stands.row r) ∙ sym ir in
    let label : (o : Option NodeId) → o ≡ get_or outer place o → outer_label t s.there ≡ o = λ o io. ap (outer_label t) (sym (spots_at place [] t s.there s.there s.at)) ∙ sym (get_or-map (outer_label t) (spots t) place s.there o inside) ∙ ap (λ os. get_or os place o) (sym eo) ∙ sym io in
    record {
      in_rows = s.stands.in_range;
      in_outer = omega (arith, s.stands.in_range, length-outer rows outer eo);
      labels = λ r o ir io. found ∙ ap (λ x. labels_with t x (outer_label t s.there)) (row r ir) ∙ ap (labels_with t r) (label o io);
    }

pub labels_of_stranger : (rows : List Row) (n : NodeId) → place_from 0 n.0 rows ≡ None → labels_for (grown rows) n ≡ []
labels_of_stranger rows n e = ap (λ o. option_map_or (labels_at (grown rows)) o []) (stranger rows n e)

pub all_labels_grouped : (ids fors : BTreeMap (String Global) (Vec NodeId Global)) (rows : List Row) (r : Row) (o : Option NodeId) → AreGroups Id ids rows → AreGroups For fors rows → all_labels_in ids fors r o ≡ labels_with (grown rows) r o
all_labels_grouped ids fors rows r o h k =
    ap (λ ns. if is_labelable r then ns ++ option_to_list o else []) (labels_grouped ids fors rows r.id (id_of r) h k)
