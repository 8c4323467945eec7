-- The labels around elements, found from the top down, are those of the definition.
use Rattle.std.proofs.Common.{◌≡◌, List, [], ◌∷◌, ◌++◌, map, Bool, true, false, Option, Some, None, option_map, if◌then◌else◌, refl, sym, ◌∙◌, ap, subst, arith}
use Rattle.std.proofs.lemmas.List.{map-append}
use Rattle.std.proofs.lemmas.Bool.Decides.{nat_tests}
use Rattle.std.specs.Option.{option_or, option_and_then}
use Rattle.std.specs.List.{list_any, find, AllByRecursion}
use Rattle.snap_tree.specs.declared.row.NodeId.{NodeId}
use Rattle.snap_tree.specs.declared.row.Row.{Row}
use Rattle.snap_tree.specs.declared.labels.Around.{Around}
use Rattle.snap_tree.specs.Trees.{Trees, empty, tree, rows_of}
use Rattle.snap_tree.specs.Rows.{has_number}
use Rattle.snap_tree.specs.Well.{AreApart}
use Rattle.snap_tree.specs.Spots.{Spot, spot_in, spot, spots_in, spots}
use Rattle.snap_tree.specs.Labels.{is_label, is_labelable, has_for, first_labelable, counts_for, outer_label}
use Rattle.snap_tree.specs.Labelling.{around_below, label_around, labels_around}

-- ---- each spot is that of its row's number

abbrev spot_of : NodeId → List Spot → Option Spot
spot_of n ss = find (λ s. has_number n s.row) ss

spot_of-append : (n : NodeId) (ss ts : List Spot) → spot_of n (ss ++ ts) ≡ option_or (spot_of n ss) (spot_of n ts)
spot_of-append n [] ts = refl
spot_of-append n (s ∷ ss) ts = by_number (has_number n s.row) refl (spot_of-append n ss ts)
  where
    by_number : (b : Bool) → has_number n s.row ≡ b → spot_of n (ss ++ ts) ≡ option_or (spot_of n ss) (spot_of n ts) → spot_of n (s ∷ (ss ++ ts)) ≡ option_or (spot_of n (s ∷ ss)) (spot_of n ts)
    by_number true e h = rw e refl
    by_number false e h = rw e h

pub spot_in-spots : (n : NodeId) (above : List Row) (t : Trees) → spot_in n above t ≡ spot_of n (spots_in above t)
spot_in-spots n above empty = refl
spot_in-spots n above (tree r kids after) = by_number (has_number n r) refl (spot_in-spots n (r ∷ above) kids) (spot_in-spots n above after)
  where
    by_number : (b : Bool) → has_number n r ≡ b → spot_in n (r ∷ above) kids ≡ spot_of n (spots_in (r ∷ above) kids) → spot_in n above after ≡ spot_of n (spots_in above after) → spot_in n above (tree r kids after) ≡ spot_of n (spots_in above (tree r kids after))
    by_number true e h k = rw e refl
    by_number false e h k = rw e (ap (λ o. option_or o (spot_in n above after)) h ∙ ap (option_or (spot_of n (spots_in (r ∷ above) kids))) k ∙ sym (spot_of-append n (spots_in (r ∷ above) kids) (spots_in above after)))

pub rows-spots : (above : List Row) (t : Trees) → map (λ s. s.row) (spots_in above t) ≡ rows_of t
rows-spots above empty = refl
rows-spots above (tree r kids after) =
    ap (λ rows. r ∷ rows) (map-append (λ s. s.row) (spots_in (r ∷ above) kids) (spots_in above after) ∙ ap (λ rows. rows ++ map (λ s. s.row) (spots_in above after)) (rows-spots (r ∷ above) kids) ∙ ap (λ rows. rows_of kids ++ rows) (rows-spots above after))

-- the number finds the spot
abbrev IsFound : List Spot → Spot → Type 0
IsFound ss s = spot_of s.row.id ss ≡ Some s

-- a spot that comes later has another number
found_later : (first : Spot) (ss rest : List Spot) → list_any (has_number first.row.id) (map (λ s. s.row) rest) ≡ false → AllByRecursion (IsFound ss) rest → AllByRecursion (IsFound (first ∷ ss)) rest
found_later first ss [] a h = tt
found_later first ss (s ∷ rest) a h = by_number (has_number first.row.id s.row) refl a (found_later first ss rest)
  where
    by_number : (b : Bool) → has_number first.row.id s.row ≡ b → list_any (has_number first.row.id) (s.row ∷ map (λ s. s.row) rest) ≡ false → (list_any (has_number first.row.id) (map (λ s. s.row) rest) ≡ false → AllByRecursion (IsFound ss) rest → AllByRecursion (IsFound (first ∷ ss)) rest) → AllByRecursion (IsFound (first ∷ ss)) (s ∷ rest)
    by_number true e a k = let no : true ≡ false = rw e at a in cc
    by_number false e a k =
        let other : has_number s.row.id first.row ≡ false = grind (arith, nat_tests) in
        let later : list_any (has_number first.row.id) (map (λ s. s.row) rest) ≡ false = rw e at a in
        (rw other h.0, k later h.1)

all_found : (ss : List Spot) → AreApart (map (λ s. s.row) ss) → AllByRecursion (IsFound ss) ss
all_found [] a = tt
all_found (s ∷ ss) a =
    let same : has_number s.row.id s.row ≡ true = grind (arith, nat_tests) in
    (rw same refl, found_later s ss ss a.0 (all_found ss a.1))

all_append : (P : Spot → Type 0) (ss ts : List Spot) → AllByRecursion P (ss ++ ts) → AllByRecursion P ss × AllByRecursion P ts
all_append P [] ts h = (tt, h)
all_append P (s ∷ ss) ts h = let rest = all_append P ss ts h.1 in ((h.0, rest.0), rest.1)

-- ---- labels

abbrev around_of : NodeId → NodeId → Around
around_of label n = record { label = label; first = n }

-- what the nearest label above counts for
abbrev around_at : Trees → List Row → Option Around
around_at t above = option_and_then (λ label. if has_for label then None else option_map (around_of label.id) (first_labelable t label.id)) (find is_label above)

around_label : (n : NodeId) (label : Row) (t : Trees) (o : Option NodeId) (b : Bool) → first_labelable t label.id ≡ o → has_for label ≡ b → label_around n (if has_for label then None else option_map (around_of label.id) (first_labelable t label.id)) ≡ (if counts_for t label n then Some label.id else None)
around_label n label t o true eo e = rw e refl
around_label n label t None false eo e = rw (e, eo) refl
around_label n label t (Some k) false eo e = rw (e, eo) refl

label_at : (t : Trees) (s : Spot) (o : Option Row) → find is_label s.above ≡ o → label_around s.row.id (around_at t s.above) ≡ outer_label t s
label_at t s None e = rw e refl
label_at t s (Some label) e = rw e (around_label s.row.id label t (first_labelable t label.id) (has_for label) refl refl)

inner_by : (r : Row) (kids : Trees) (o : Option Row) → find is_labelable (rows_of kids) ≡ o → option_map (around_of r.id) (option_map (λ x. x.id) (find is_labelable (rows_of kids))) ≡ option_map (λ x. around_of r.id x.id) (find is_labelable (rows_of kids))
inner_by r kids None e = rw e refl
inner_by r kids (Some x) e = rw e refl

inner : (t : Trees) (r : Row) (kids : Trees) (above : List Row) (b : Bool) → is_label r ≡ b → spot t r.id ≡ Some (record { row = r; below = kids; above = above }) → around_below r (rows_of kids) (around_at t above) ≡ around_at t (r ∷ above)
inner t r kids above true e h = rw (e, h) (ap (λ o. if has_for r then None else o) (sym (inner_by r kids (find is_labelable (rows_of kids)) refl)))
inner t r kids above false e h = rw e refl

around_is : (t : Trees) (above : List Row) (u : Trees) → AllByRecursion (λ s. spot t s.row.id ≡ Some s) (spots_in above u) → labels_around (around_at t above) u ≡ map (outer_label t) (spots_in above u)
around_is t above empty h = refl
around_is t above (tree r kids after) h =
    let here : Spot = record { row = r; below = kids; above = above } in
    let parts = all_append (λ s. spot t s.row.id ≡ Some s) (spots_in (r ∷ above) kids) (spots_in above after) h.1 in
    let below : labels_around (around_below r (rows_of kids) (around_at t above)) kids ≡ map (outer_label t) (spots_in (r ∷ above) kids) = ap (λ a. labels_around a kids) (inner t r kids above (is_label r) refl h.0) ∙ around_is t (r ∷ above) kids parts.0 in
    ap (λ o. o ∷ labels_around (around_below r (rows_of kids) (around_at t above)) kids ++ labels_around (around_at t above) after) (label_at t here (find is_label above) refl)
    ∙ ap (λ os. outer_label t here ∷ os ++ labels_around (around_at t above) after) below
    ∙ ap (λ os. outer_label t here ∷ map (outer_label t) (spots_in (r ∷ above) kids) ++ os) (around_is t above after parts.1)
    ∙ ap (λ os. outer_label t here ∷ os) (sym (map-append (outer_label t) (spots_in (r ∷ above) kids) (spots_in above after)))

found_spots : (t : Trees) → AreApart (rows_of t) → AllByRecursion (λ s. spot t s.row.id ≡ Some s) (spots t)
found_spots t a = each (spots t) (all_found (spots t) (subst AreApart (sym (rows-spots [] t)) a))
  where
    each : (ss : List Spot) → AllByRecursion (IsFound (spots t)) ss → AllByRecursion (λ s. spot t s.row.id ≡ Some s) ss
    each [] h = tt
    each (s ∷ ss) h = (spot_in-spots s.row.id [] t ∙ h.0, each ss h.1)

pub outer_labels : (t : Trees) → AreApart (rows_of t) → labels_around None t ≡ map (outer_label t) (spots t)
outer_labels t a = around_is t [] t (found_spots t a)
