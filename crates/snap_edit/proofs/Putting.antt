-- Trees put in below a node, and the rows that this gives.
use Rattle.std.proofs.Common.{◌≡◌, ℕ, zero, suc, ◌+◌, ◌-◌, ◌<◌, ◌≤◌, List, [], ◌∷◌, ◌++◌, length, map, take, drop, slice_index, true, false, nat_lt, Option, Some, None, refl, sym, ◌∙◌, ap, subst, arith, append_assoc}
use Rattle.std.proofs.lemmas.List.{append-nil, take_at, drop_at, length-append, length-map, length-take-le, length-drop}
use Rattle.std.proofs.lemmas.Bool.Decides.{nat_tests}
use Rattle.std.specs.Option.{option_map, option_map_or}
use Rattle.snap_tree.specs.declared.row.NodeId.{NodeId}
use Rattle.snap_tree.specs.declared.row.Row.{Row}
use Rattle.snap_tree.specs.Trees.{Trees, empty, tree, rows_of, count}
use Rattle.snap_tree.specs.Grown.{grown}
use Rattle.snap_tree.specs.Rows.{has_number}
use Rattle.snap_tree.specs.Spots.{Spot, spot, roots, kids}
use Rattle.snap_tree.specs.Places.{HasRun, run_below}
use Rattle.snap_tree.specs.Naming.{AreNamed}
use Rattle.snap_tree.proofs.Growth.{rows_of-beside}
use Rattle.snap_edit.specs.Trees.{put_at, inserted, hung}
use Rattle.snap_edit.specs.Places.{after_first, child_place, hung_rows}
use Rattle.snap_tree.proofs.Cuts.{length-rows_of, count_grown}
use Rattle.snap_edit.proofs.Replacing.{regrouped, named_beside}
use Rattle.snap_edit.proofs.Standing.{Stands, still_named}

-- ---- trees cut after some of them

pub record Split (k : ℕ) (t rest : Trees) : Type 0 where
  pub front : List Row
  pub rows_are : rows_of t ≡ front ++ rows_of rest
  pub counted : length front + count rest ≡ count t
  pub put : (others : Trees) → rows_of (put_at k others t) ≡ front ++ (rows_of others ++ rows_of rest)
  pub enough : k ≤ length (roots t)

split_none : (t : Trees) → Split 0 t t
split_none t = record {
  front = [];
  rows_are = refl;
  counted = omega arith;
  put = λ others. rows_of-beside others t;
  enough = omega arith;
}

split_more : (k : ℕ) (r : Row) (kids after rest : Trees) → Split k after rest → Split (suc k) (tree r kids after) rest
split_more k r kids after rest s = record {
  front = r ∷ (rows_of kids ++ s.front);
  rows_are =
      ap (λ rows. r ∷ (rows_of kids ++ rows)) s.rows_are
      ∙ ap (λ rows. r ∷ rows) (sym (append_assoc (rows_of kids) s.front (rows_of rest)));
  counted = omega (arith, s.counted, length-append (rows_of kids) s.front, length-rows_of kids);
  put = λ others.
      ap (λ rows. r ∷ (rows_of kids ++ rows)) (s.put others)
      ∙ ap (λ rows. r ∷ rows) (sym (append_assoc (rows_of kids) s.front (rows_of others ++ rows_of rest)));
  enough = omega (arith, s.enough);
}

pub split : (k : ℕ) (t rest : Trees) → after_first k t ≡ Some rest → Split k t rest
split zero t rest e =
    let same : t ≡ rest = ap (λ o. option_map_or (λ t. t) o t) e in
    subst (Split 0 t) same (split_none t)
split (suc k) empty rest e = cc
split (suc k) (tree r kids after) rest e = split_more k r kids after rest (split k after rest e)

pub too_few : (k : ℕ) (t : Trees) → after_first k t ≡ None → length (roots t) < k
too_few zero t e = cc
too_few (suc k) empty e = omega arith
too_few (suc k) (tree r kids after) e = let less = too_few k after e in omega (arith, less)

-- ---- children of a node

pub kids_of : (t : Trees) (n : NodeId) (s : Spot) → spot t n ≡ Some s → length (kids t n) ≡ length (roots s.below)
kids_of t n s e =
    ap (λ o. length (option_map_or (λ (s : Spot). map (λ (r : Row). r.id) (roots s.below)) o [])) e
    ∙ length-map (roots s.below) (λ (r : Row). r.id)

-- a place exceeds the number of a node's children, or the child has a place among the rows
abbrev pub PutAt : List Row → NodeId → ℕ → Option ℕ → Type 0
PutAt rows p k None = nat_lt (length (kids (grown rows) p)) k ≡ true
PutAt rows p k (Some at) =
    (nat_lt (length (kids (grown rows) p)) k ≡ false)
    × ((at ≤ length rows)
    × ((others : Trees) → rows_of (inserted p k others (grown rows)) ≡ take at rows ++ (rows_of others ++ drop at rows)))

put_found :
    (rows : List Row) (p : NodeId) (place k : ℕ) (h : Stands rows p place) (rest : Trees)
    → Split k h.there.below rest → PutAt rows p k (Some (place + 1 + (count h.there.below - count rest)))
put_found rows p place k h rest s =
    let r = h.there.row in
    let begins = h.parts.before ++ r ∷ s.front in
    let ends = rows_of rest ++ h.parts.later in
    let at = place + 1 + (count h.there.below - count rest) in
    let cut : rows ≡ begins ++ ends =
    h.rows_are ∙ ap (λ below. h.parts.before ++ r ∷ (below ++ h.parts.later)) s.rows_are
    ∙ ap (λ rows. h.parts.before ++ r ∷ rows) (append_assoc s.front (rows_of rest) h.parts.later)
    ∙ sym (append_assoc h.parts.before (r ∷ s.front) ends)
    in
    let long : length begins ≡ at = omega (arith, length-append h.parts.before (r ∷ s.front), h.at, s.counted) in
    let first : take at rows ≡ begins = ap (take at) cut ∙ take_at begins ends at long in
    let last : drop at rows ≡ ends = ap (drop at) cut ∙ drop_at begins ends at long in
    let few : k ≤ length (kids (grown rows) p) = omega (arith, s.enough, kids_of (grown rows) p h.there h.is) in (
      grind (arith, nat_tests, few),
      (
        omega (arith, long, ap length cut, length-append begins ends),
        λ others.
            h.parts.new_rows (λ r kids. tree r (put_at k others kids) empty)
            ∙ ap (λ rows. h.parts.before ++ r ∷ (rows ++ h.parts.later)) (append-nil _ ∙ s.put others)
            ∙ ap (λ rows. h.parts.before ++ r ∷ rows) (regrouped s.front (rows_of others) (rows_of rest) h.parts.later)
            ∙ sym (append_assoc h.parts.before (r ∷ s.front) (rows_of others ++ ends))
            ∙ ap (λ front. front ++ (rows_of others ++ ends)) (sym first)
            ∙ ap (λ back. take at rows ++ (rows_of others ++ back)) (sym last),
      ),
    )

put_by :
    (rows : List Row) (p : NodeId) (place k : ℕ) (h : Stands rows p place) (o : Option Trees)
    → after_first k h.there.below ≡ o
    → PutAt rows p k (option_map (λ rest. place + 1 + (count h.there.below - count rest)) o)
put_by rows p place k h None e =
    let less = too_few k h.there.below e in
    let few : length (kids (grown rows) p) < k = omega (arith, less, kids_of (grown rows) p h.there h.is) in
    grind (arith, nat_tests, few)
put_by rows p place k h (Some rest) e = put_found rows p place k h rest (split k h.there.below rest e)

pub put_at_place :
    (rows : List Row) (p : NodeId) (place k : ℕ) (h : Stands rows p place)
    → PutAt rows p k (child_place place k h.there.below)
put_at_place rows p place k h = put_by rows p place k h (after_first k h.there.below) refl

-- ---- parents named

pub number_is : (n : NodeId) (r : Row) → has_number n r ≡ true → r.id ≡ n
number_is n r e = let same : r.id.0 ≡ n.0 = grind (arith, nat_tests) in ap (λ k. record { 0 = k }) same

put_named :
    (parent : Option NodeId) (k : ℕ) (others t : Trees)
    → AreNamed parent others → AreNamed parent t → AreNamed parent (put_at k others t)
put_named parent zero others t h m = named_beside parent others t h m
put_named parent (suc k) others empty h m = h
put_named parent (suc k) others (tree r kids after) h m = (m.0, (m.1.0, put_named parent k others after h m.1.1))

pub inserted_named :
    {rows : List Row} {p : NodeId} {place : ℕ} (k : ℕ) (others : Trees)
    → Stands rows p place → AreNamed (Some p) others → AreNamed None (inserted p k others (grown rows))
inserted_named {p = p} k others h m =
    let s = h.there in
    let below : AreNamed (Some s.row.id) others =
    subst (λ id. AreNamed (Some id) others) (sym (number_is p s.row h.parts.number)) m
    in
    let put = put_named (Some s.row.id) k others s.below below h.names.below in
    still_named (λ r kids. tree r (put_at k others kids) empty) h (refl, (put, tt))

pub hung_rows_of : (p : NodeId) (t : Trees) → rows_of (hung p t) ≡ hung_rows p (rows_of t)
hung_rows_of p empty = refl
hung_rows_of p (tree r kids after) = refl

-- ---- places that fit

pub rest_fits : (k : ℕ) (t rest : Trees) → after_first k t ≡ Some rest → count rest ≤ count t
rest_fits k t rest e = omega (arith, (split k t rest e).counted)

pub run_fits :
    (place : ℕ) (rows : List Row) (sizes : List ℕ)
    → HasRun place rows sizes → place + 1 + count (grown (run_below place rows sizes)) ≤ length rows
run_fits place rows sizes run =
    let back : length (drop (place + 1) rows) ≡ length rows - (place + 1) = length-drop (place + 1) rows in
    let enough : slice_index sizes place - 1 ≤ length (drop (place + 1) rows) = omega (arith, run.counted, run.fits) in
    let long = length-take-le (slice_index sizes place - 1) (drop (place + 1) rows) enough in
    omega (arith, run.counted, run.fits, count_grown (run_below place rows sizes), long)
