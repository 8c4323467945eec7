-- What references find doesn't depend on the rows' facts.
use Rattle.std.proofs.Common.{◌≡◌, ◌&&◌, not, ℕ, ◌+◌, List, [], ◌∷◌, ◌++◌, map, filter, Bool, true, false, Option, Some, None, if◌then◌else◌, refl, sym, ◌∙◌, ap, arith}
use Rattle.std.proofs.lemmas.List.{map-append}
use Rattle.std.proofs.lemmas.List.Sums.{sum_by-cons}
use Rattle.std.specs.Option.{option_map, option_or, option_map_or, option_and_then, option_to_list}
use Rattle.std.specs.List.{find, sum_by}
use Rattle.snap_tree.specs.declared.row.NodeId.{NodeId}
use Rattle.snap_tree.specs.declared.row.Facts.{Facts}
use Rattle.snap_tree.specs.declared.row.Row.{Row}
use Rattle.snap_tree.specs.Trees.{Trees, empty, tree, rows_of}
use Rattle.snap_tree.specs.Grown.{is_number}
use Rattle.snap_tree.specs.Rows.{has_number, is_key}
use Rattle.snap_tree.specs.Spots.{Spot, spot_in, spot, spots_in, spots}
use Rattle.snap_tree.specs.Labels.{id_of, first_with_id, is_labelable, is_label, has_for, for_of, labels_naming, labels_by, first_labelable, counts_for, outer_label, labels_with, labels_at}
use Rattle.snap_tree.specs.Weight.{node_weight, subtree_weight, weight_of, id_weight, references, found_weight, reference_weight}
use Rattle.snap_edit.specs.Attrs.{with_facts}
use Rattle.snap_edit.specs.Trees.{changed}

-- each row with these facts
abbrev bare : Facts → Trees → Trees
bare facts empty = empty
bare facts (tree r kids after) = tree (with_facts facts r) (bare facts kids) (bare facts after)

abbrev bare_spot : Facts → Spot → Spot
bare_spot facts s = record { row = with_facts facts s.row; below = bare facts s.below; above = map (with_facts facts) s.above }

bare_changed : (n : NodeId) (facts : Facts) (t : Trees) → bare facts (changed n (with_facts facts) t) ≡ bare facts t
bare_changed n facts empty = refl
bare_changed n facts (tree r kids after) = by_number (has_number n r) refl (bare_changed n facts kids) (bare_changed n facts after)
  where
    by_number : (b : Bool) → has_number n r ≡ b → bare facts (changed n (with_facts facts) kids) ≡ bare facts kids → bare facts (changed n (with_facts facts) after) ≡ bare facts after → bare facts (changed n (with_facts facts) (tree r kids after)) ≡ bare facts (tree r kids after)
    by_number true e lower later = rw e refl
    by_number false e lower later = rw e (ap (λ k. tree (with_facts facts r) k (bare facts (changed n (with_facts facts) after))) lower ∙ ap (tree (with_facts facts r) (bare facts kids)) later)

-- ---- rows and spots

bare_rows : (facts : Facts) (t : Trees) → rows_of (bare facts t) ≡ map (with_facts facts) (rows_of t)
bare_rows facts empty = refl
bare_rows facts (tree r kids after) =
    ap (λ rs. with_facts facts r ∷ rs) (ap (λ rs. rs ++ rows_of (bare facts after)) (bare_rows facts kids)
    ∙ ap (λ rs. map (with_facts facts) (rows_of kids) ++ rs) (bare_rows facts after)
    ∙ sym (map-append (with_facts facts) (rows_of kids) (rows_of after)))

bare_spots : (facts : Facts) (above : List Row) (t : Trees) → spots_in (map (with_facts facts) above) (bare facts t) ≡ map (bare_spot facts) (spots_in above t)
bare_spots facts above empty = refl
bare_spots facts above (tree r kids after) =
    ap (λ ss. bare_spot facts (record { row = r; below = kids; above = above }) ∷ ss) (ap (λ ss. ss ++ spots_in (map (with_facts facts) above) (bare facts after)) (bare_spots facts (r ∷ above) kids)
    ∙ ap (λ ss. map (bare_spot facts) (spots_in (r ∷ above) kids) ++ ss) (bare_spots facts above after)
    ∙ sym (map-append (bare_spot facts) (spots_in (r ∷ above) kids) (spots_in above after)))

or_kept : (facts : Facts) (a b : Option Spot) → option_or (option_map (bare_spot facts) a) (option_map (bare_spot facts) b) ≡ option_map (bare_spot facts) (option_or a b)
or_kept facts None b = refl
or_kept facts (Some s) b = refl

bare_found : (facts : Facts) (n : NodeId) (above : List Row) (t : Trees) → spot_in n (map (with_facts facts) above) (bare facts t) ≡ option_map (bare_spot facts) (spot_in n above t)
bare_found facts n above empty = refl
bare_found facts n above (tree r kids after) = by_number (has_number n r) refl (bare_found facts n (r ∷ above) kids) (bare_found facts n above after)
  where
    w : Row → Row
    w = with_facts facts

    by_number : (b : Bool) → has_number n r ≡ b → spot_in n (map w (r ∷ above)) (bare facts kids) ≡ option_map (bare_spot facts) (spot_in n (r ∷ above) kids) → spot_in n (map w above) (bare facts after) ≡ option_map (bare_spot facts) (spot_in n above after) → spot_in n (map w above) (bare facts (tree r kids after)) ≡ option_map (bare_spot facts) (spot_in n above (tree r kids after))
    by_number true e lower later = rw e refl
    by_number false e lower later =
        rw e (ap (λ o. option_or o (spot_in n (map w above) (bare facts after))) lower
        ∙ ap (option_or (option_map (bare_spot facts) (spot_in n (r ∷ above) kids))) later
        ∙ or_kept facts (spot_in n (r ∷ above) kids) (spot_in n above after))

-- ---- what a test that sees no facts finds

abbrev SeesNone : Facts → (Row → Bool) → Type 0
SeesNone facts p = (r : Row) → p (with_facts facts r) ≡ p r

find_bare : (facts : Facts) (p : Row → Bool) (rows : List Row) → SeesNone facts p → find p (map (with_facts facts) rows) ≡ option_map (with_facts facts) (find p rows)
find_bare facts p [] s = refl
find_bare facts p (r ∷ rows) s = by_test (p r) refl (find_bare facts p rows s)
  where
    by_test : (b : Bool) → p r ≡ b → find p (map (with_facts facts) rows) ≡ option_map (with_facts facts) (find p rows) → find p (map (with_facts facts) (r ∷ rows)) ≡ option_map (with_facts facts) (find p (r ∷ rows))
    by_test true e rest = rw (s r, e) refl
    by_test false e rest = rw (s r, e) rest

number_kept : (facts : Facts) (o : Option Row) → option_map (λ r. r.id) (option_map (with_facts facts) o) ≡ option_map (λ r. r.id) o
number_kept facts None = refl
number_kept facts (Some r) = refl

first_bare : (facts : Facts) (p : Row → Bool) (t : Trees) → SeesNone facts p → option_map (λ r. r.id) (find p (rows_of (bare facts t))) ≡ option_map (λ r. r.id) (find p (rows_of t))
first_bare facts p t s =
    ap (λ rs. option_map (λ r. r.id) (find p rs)) (bare_rows facts t) ∙ ap (option_map (λ r. r.id)) (find_bare facts p (rows_of t) s)
    ∙ number_kept facts (find p (rows_of t))

filter_bare : (facts : Facts) (p : Row → Bool) (rows : List Row) → SeesNone facts p → map (λ r. r.id) (filter p (map (with_facts facts) rows)) ≡ map (λ r. r.id) (filter p rows)
filter_bare facts p [] s = refl
filter_bare facts p (r ∷ rows) s = by_test (p r) refl (filter_bare facts p rows s)
  where
    by_test : (b : Bool) → p r ≡ b → map (λ r. r.id) (filter p (map (with_facts facts) rows)) ≡ map (λ r. r.id) (filter p rows) → map (λ r. r.id) (filter p (map (with_facts facts) (r ∷ rows))) ≡ map (λ r. r.id) (filter p (r ∷ rows))
    by_test true e rest = rw (s r, e) (ap (λ ns. r.id ∷ ns) rest)
    by_test false e rest = rw (s r, e) rest

id_kept : (facts : Facts) (r : Row) → id_of (with_facts facts r) ≡ id_of r
unfolding id_of
id_kept facts r = refl

for_kept : (facts : Facts) (r : Row) → for_of (with_facts facts r) ≡ for_of r
unfolding for_of is_label
for_kept facts r = refl

has_for_kept : (facts : Facts) (r : Row) → has_for (with_facts facts r) ≡ has_for r
unfolding has_for
has_for_kept facts r = refl

label_kept : (facts : Facts) → SeesNone facts is_label
unfolding is_label
label_kept facts r = refl

labelable_kept : (facts : Facts) → SeesNone facts is_labelable
unfolding is_labelable
labelable_kept facts r = refl

weight_kept : (facts : Facts) (r : Row) → node_weight (with_facts facts r) ≡ node_weight r
unfolding node_weight
weight_kept facts r = refl

references_kept : (facts : Facts) (r : Row) → references (with_facts facts r) ≡ references r
unfolding references
references_kept facts r = refl

-- ---- ids and labels

bare_first : (facts : Facts) (t : Trees) (id : List ℕ) → first_with_id (bare facts t) id ≡ first_with_id t id
bare_first facts t id = first_bare facts (λ r. is_key id (id_of r)) t (λ r. ap (is_key id) (id_kept facts r))

bare_naming : (facts : Facts) (t : Trees) (id : List ℕ) → labels_naming (bare facts t) id ≡ labels_naming t id
bare_naming facts t id =
    let p : Row → Bool = λ r. is_key id (for_of r) in
    ap (λ rs. map (λ r. r.id) (filter p rs)) (bare_rows facts t) ∙ filter_bare facts p (rows_of t) (λ r. ap (is_key id) (for_kept facts r))

bare_by : (facts : Facts) (t : Trees) (n : NodeId) (id : Option (List ℕ)) → labels_by (bare facts t) n id ≡ labels_by t n id
bare_by facts t n None = refl
bare_by facts t n (Some id) =
    ap (λ o. if is_number o n then labels_naming (bare facts t) id else []) (bare_first facts t id)
    ∙ ap (λ ns. if is_number (first_with_id t id) n then ns else []) (bare_naming facts t id)

first_below : (facts : Facts) (o : Option Spot) → option_and_then (λ s. option_map (λ r. r.id) (find is_labelable (rows_of s.below))) (option_map (bare_spot facts) o) ≡ option_and_then (λ s. option_map (λ r. r.id) (find is_labelable (rows_of s.below))) o
first_below facts None = refl
first_below facts (Some s) = first_bare facts is_labelable s.below (labelable_kept facts)

bare_labelable : (facts : Facts) (t : Trees) (n : NodeId) → first_labelable (bare facts t) n ≡ first_labelable t n
bare_labelable facts t n =
    ap (option_and_then (λ s. option_map (λ r. r.id) (find is_labelable (rows_of s.below)))) (bare_found facts n [] t) ∙ first_below facts (spot t n)

bare_counts : (facts : Facts) (t : Trees) (label : Row) (n : NodeId) → counts_for (bare facts t) (with_facts facts label) n ≡ counts_for t label n
bare_counts facts t label n =
    ap (λ b. not b && is_number (first_labelable (bare facts t) label.id) n) (has_for_kept facts label)
    ∙ ap (λ o. not (has_for label) && is_number o n) (bare_labelable facts t label.id)

outer_by : (facts : Facts) (t : Trees) (n : NodeId) (o : Option Row) → option_and_then (λ label. if counts_for (bare facts t) label n then Some label.id else None) (option_map (with_facts facts) o) ≡ option_and_then (λ label. if counts_for t label n then Some label.id else None) o
outer_by facts t n None = refl
outer_by facts t n (Some label) = ap (λ b. if b then Some label.id else None) (bare_counts facts t label n)

bare_outer : (facts : Facts) (t : Trees) (s : Spot) → outer_label (bare facts t) (bare_spot facts s) ≡ outer_label t s
bare_outer facts t s =
    ap (option_and_then (λ label. if counts_for (bare facts t) label s.row.id then Some label.id else None)) (find_bare facts is_label s.above (label_kept facts))
    ∙ outer_by facts t s.row.id (find is_label s.above)

bare_labels : (facts : Facts) (t : Trees) (s : Spot) → labels_at (bare facts t) (bare_spot facts s) ≡ labels_at t s
bare_labels facts t s =
    let n = s.row.id in
    let outer = outer_label (bare facts t) (bare_spot facts s) in
    ap (λ b. if b then labels_by (bare facts t) n (id_of (with_facts facts s.row)) ++ option_to_list outer else []) (labelable_kept facts s.row)
    ∙ ap (λ id. if is_labelable s.row then labels_by (bare facts t) n id ++ option_to_list outer else []) (id_kept facts s.row)
    ∙ ap (λ ns. if is_labelable s.row then ns ++ option_to_list outer else []) (bare_by facts t n (id_of s.row))
    ∙ ap (labels_with t s.row) (bare_outer facts t s)

-- ---- weights

sum_mapped : {X Y : Type 0} (f : Y → ℕ) (g : X → ℕ) (v : X → Y) (xs : List X) → ((x : X) → f (v x) ≡ g x) → sum_by f (map v xs) ≡ sum_by g xs
sum_mapped f g v [] same = refl
sum_mapped f g v (x ∷ xs) same = omega (arith, sum_by-cons f (v x) (map v xs), sum_by-cons g x xs, same x, sum_mapped f g v xs same)

sum_alike : {X : Type 0} (f g : X → ℕ) (xs : List X) → ((x : X) → f x ≡ g x) → sum_by f xs ≡ sum_by g xs
sum_alike f g [] same = refl
sum_alike f g (x ∷ xs) same = omega (arith, sum_by-cons f x xs, sum_by-cons g x xs, same x, sum_alike f g xs same)

bare_subtree : (facts : Facts) (s : Spot) → subtree_weight (bare_spot facts s) ≡ subtree_weight s
bare_subtree facts s =
    ap (λ rs. sum_by node_weight (with_facts facts s.row ∷ rs)) (bare_rows facts s.below)
    ∙ sum_mapped node_weight node_weight (with_facts facts) (s.row ∷ rows_of s.below) (weight_kept facts)

weight_by : (facts : Facts) (o : Option Spot) → option_map_or subtree_weight (option_map (bare_spot facts) o) 0 ≡ option_map_or subtree_weight o 0
weight_by facts None = refl
weight_by facts (Some s) = bare_subtree facts s

bare_weight : (facts : Facts) (t : Trees) (n : NodeId) → weight_of (bare facts t) n ≡ weight_of t n
bare_weight facts t n = ap (λ o. option_map_or subtree_weight o 0) (bare_found facts n [] t) ∙ weight_by facts (spot t n)

id_by : (facts : Facts) (t : Trees) (o : Option NodeId) → option_map_or (weight_of (bare facts t)) o 0 ≡ option_map_or (weight_of t) o 0
id_by facts t None = refl
id_by facts t (Some n) = bare_weight facts t n

bare_id : (facts : Facts) (t : Trees) (id : List ℕ) → id_weight (bare facts t) id ≡ id_weight t id
bare_id facts t id = ap (λ o. option_map_or (weight_of (bare facts t)) o 0) (bare_first facts t id) ∙ id_by facts t (first_with_id t id)

bare_weighed : (facts : Facts) (t : Trees) (s : Spot) → found_weight (bare facts t) (bare_spot facts s) ≡ found_weight t s
bare_weighed facts t s =
    ap (λ ids. sum_by (id_weight (bare facts t)) ids + sum_by (weight_of (bare facts t)) (labels_at (bare facts t) (bare_spot facts s))) (references_kept facts s.row)
    ∙ ap (λ ns. sum_by (id_weight (bare facts t)) (references s.row) + sum_by (weight_of (bare facts t)) ns) (bare_labels facts t s)
    ∙ ap (λ n. n + sum_by (weight_of (bare facts t)) (labels_at t s)) (sum_alike (id_weight (bare facts t)) (id_weight t) (references s.row) (bare_id facts t))
    ∙ ap (λ n. sum_by (id_weight t) (references s.row) + n) (sum_alike (weight_of (bare facts t)) (weight_of t) (labels_at t s) (bare_weight facts t))

bare_reference : (facts : Facts) (t : Trees) → reference_weight (bare facts t) ≡ reference_weight t
unfolding reference_weight
bare_reference facts t =
    ap (sum_by (found_weight (bare facts t))) (bare_spots facts [] t)
    ∙ sum_mapped (found_weight (bare facts t)) (found_weight t) (bare_spot facts) (spots t) (bare_weighed facts t)

-- other facts of a node leave the reference weight as it is
pub same_weight : (n : NodeId) (facts : Facts) (t : Trees) → reference_weight (changed n (with_facts facts) t) ≡ reference_weight t
same_weight n facts t = sym (bare_reference facts (changed n (with_facts facts) t)) ∙ ap reference_weight (bare_changed n facts t) ∙ bare_reference facts t
