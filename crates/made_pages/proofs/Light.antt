-- The references of a made page weigh little: none names an id, and of the labels each finds a part at the most.
use Rattle.std.proofs.Common.{◌≡◌, ◌<◌, ◌≤◌, ◌^◌, ℕ, zero, suc, ◌+◌, ◌*◌, ◌%◌, List, [], ◌∷◌, ◌++◌, length, codes, decimal, Bool, true, false, Option, Some, None, IfSome, if◌then◌else◌, refl, arith}
use Rattle.std.proofs.lemmas.Bool.Decides.{nat_tests}
use Rattle.std.proofs.lemmas.List.{length-append}
use Rattle.std.proofs.lemmas.List.Sums.{sum_by-cons, sum_by-append}
use Rattle.std.specs.Option.{option_or, option_map_or, option_and_then, option_to_list}
use Rattle.std.specs.List.{AllByRecursion, find, sum_by}
use Rattle.snap_tree.specs.declared.row.NodeId.{NodeId}
use Rattle.snap_tree.specs.declared.row.Row.{Row}
use Rattle.snap_tree.specs.Trees.{Trees, empty, tree, rows_of, count}
use Rattle.snap_tree.specs.Rows.{has_number}
use Rattle.snap_tree.specs.Spots.{Spot, spot_in, spots_in}
use Rattle.snap_tree.specs.Labels.{id_of, is_label, is_labelable, counts_for, outer_label}
use Rattle.snap_tree.specs.Weight.{node_weight, subtree_weight, weight_of, references, found_weight, reference_weight}
use Rattle.snap_tree.proofs.EachRow.{all_append, all_parts}
use Rattle.made_pages.specs.declared.kind.Kind.{Kind}
use Rattle.made_pages.specs.declared.kind.Kind.TheVariants.{Link, Image, Button, Field}
use Rattle.made_pages.specs.Pages.{rv, below, element, words, content, section, kind_of, part, top, rows_before}
use Rattle.made_pages.proofs.Shape.{section_row, content_trees, section_trees, sections, page_trees}
use Rattle.made_pages.proofs.Each.{few_bytes}

-- ---- what a row refers to

-- it has no id, refers to none, and is a label only in a part
pub record IsPlain (r : Row) : Type 0 where
  pub unnamed : id_of r ≡ None
  pub alone : references r ≡ []
  pub later : is_label r ≡ true → 6 ≤ r.id.0

no_label : {A : Type 0} → false ≡ true → A
no_label never = absurd (cc)

content_plain : (kind : Kind) (n : ℕ) → 6 ≤ n → AllByRecursion IsPlain (content kind n)
unfolding content id_of references is_label
content_plain Link n big = (record { unnamed = refl; alone = refl; later = no_label }, (record { unnamed = refl; alone = refl; later = no_label }, tt))
content_plain Image n big = (record { unnamed = refl; alone = refl; later = no_label }, tt)
content_plain Button n big = (record { unnamed = refl; alone = refl; later = no_label }, tt)
content_plain Field n big = (
  record { unnamed = refl; alone = refl; later = λ is. omega (arith, big) },
  (record { unnamed = refl; alone = refl; later = no_label }, (record { unnamed = refl; alone = refl; later = no_label }, tt)),
)

section_plain : (j n : ℕ) → AllByRecursion IsPlain (section j n)
unfolding section id_of references is_label
section_plain j n = (
  record { unnamed = refl; alone = refl; later = no_label },
  (record { unnamed = refl; alone = refl; later = no_label }, (record { unnamed = refl; alone = refl; later = no_label }, tt)),
)

top_plain : (i : ℕ) → AllByRecursion IsPlain (top i)
unfolding top id_of references is_label
top_plain i = (
  record { unnamed = refl; alone = refl; later = no_label },
  (
    record { unnamed = refl; alone = refl; later = no_label },
    (
      record { unnamed = refl; alone = refl; later = no_label },
      (record { unnamed = refl; alone = refl; later = no_label }, (record { unnamed = refl; alone = refl; later = no_label }, tt)),
    ),
  ),
)

-- the parts stand behind five rows
behind_top : (number i j : ℕ) → 5 ≤ length (rows_before number i j)
unfolding rows_before top
behind_top number i zero = omega arith
behind_top number i (suc j) =
    let rows = rows_before number i j in
    omega (arith, behind_top number i j, length-append rows (part number i j (length rows + 1)))

pub rows_plain : (number i j : ℕ) → AllByRecursion IsPlain (rows_before number i j)
unfolding rows_before
rows_plain number i zero = top_plain i
rows_plain number i (suc j) =
    let rows = rows_before number i j in
    let n = length rows + 1 in
    let kind = kind_of ((number + i + j) % 4) in
    all_append IsPlain rows (part number i j n) (rows_plain number i j)
    (all_append IsPlain (section j n) (content kind n) (section_plain j n) (content_plain kind n (omega (arith, behind_top number i j))))

-- ---- what a number finds

-- the nodes of parts weigh little, each with what is below it
abbrev pub EachLight : Trees → Type 0
EachLight empty = Unit {0}
EachLight (tree r kids after) = (6 ≤ r.id.0 → sum_by node_weight (r ∷ rows_of kids) ≤ 40) × (EachLight kids × EachLight after)

part_words : (j n : ℕ) → j < 2 ^ 32 → node_weight (words (n + 2) (below (n + 1)) (codes "Part " ++ decimal j) rv) ≤ 20
unfolding node_weight
part_words j n small = omega (arith, few_bytes (codes "Part ") j (omega arith) small)

content_light : (kind : Kind) (n : ℕ) → EachLight (content_trees kind n) × (sum_by node_weight (rows_of (content_trees kind n)) ≤ 3)
unfolding node_weight
content_light Link n = ((λ big. omega arith, ((λ big. omega arith, (tt, tt)), tt)), omega arith)
content_light Image n = ((λ big. omega arith, (tt, tt)), omega arith)
content_light Button n = ((λ big. omega arith, (tt, tt)), omega arith)
content_light Field n = ((λ big. omega arith, ((λ big. omega arith, (tt, (λ big. omega arith, (tt, tt)))), tt)), omega arith)

part_light : (kind : Kind) (j n : ℕ) → j < 2 ^ 32 → sum_by node_weight (section_row n ∷ rows_of (section_trees kind j n)) ≤ 40
unfolding node_weight
part_light kind j n small =
    let heading = element (n + 1) (below n) (codes "h2") [] rv in
    let text = words (n + 2) (below (n + 1)) (codes "Part " ++ decimal j) rv in
    let inner = rows_of (content_trees kind n) in
    omega (
      arith,
      part_words j n small,
      (content_light kind n).1,
      sum_by-cons node_weight (section_row n) (heading ∷ text ∷ inner),
      sum_by-cons node_weight heading (text ∷ inner),
      sum_by-cons node_weight text inner,
    )

heading_light : (j n : ℕ) → j < 2 ^ 32 → sum_by node_weight (element (n + 1) (below n) (codes "h2") [] rv ∷ words (n + 2) (below (n + 1)) (codes "Part " ++ decimal j) rv ∷ []) ≤ 40
unfolding node_weight
heading_light j n small = omega (arith, part_words j n small)

text_light : (j n : ℕ) → j < 2 ^ 32 → sum_by node_weight (words (n + 2) (below (n + 1)) (codes "Part " ++ decimal j) rv ∷ []) ≤ 40
unfolding node_weight
text_light j n small = omega (arith, part_words j n small)

sections_light : (number i j k n : ℕ) → j + k ≤ 1000 → EachLight (sections number i j k n)
sections_light number i j zero n few = tt
sections_light number i j (suc k) n few =
    let kind = kind_of ((number + i + j) % 4) in
    let small : j < 2 ^ 32 = omega (arith, few) in (
      λ big. part_light kind j n small,
      (
        (λ big. heading_light j n small, ((λ big. text_light j n small, (tt, tt)), (content_light kind n).0)),
        sections_light number i (suc j) k (n + length (part number i j n)) (omega (arith, few)),
      ),
    )

-- what stands before the parts is not looked at here
before_parts : {A : Type 0} (n : ℕ) → n < 6 → 6 ≤ n → A
before_parts n low big = absurd (omega (arith, low, big))

pub page_light : (number i parts : ℕ) → parts ≤ 1000 → EachLight (page_trees number i parts)
page_light number i parts few = (
  before_parts 1 (omega arith),
  (
    (
      before_parts 2 (omega arith),
      (
        (before_parts 3 (omega arith), ((before_parts 4 (omega arith), (tt, tt)), tt)),
        (before_parts 5 (omega arith), (sections_light number i 0 parts 6 (omega (arith, few)), tt)),
      ),
    ),
    tt,
  ),
)

either_light : (o p : Option Spot) → option_map_or subtree_weight o 0 ≤ 40 → option_map_or subtree_weight p 0 ≤ 40 → option_map_or subtree_weight (option_or o p) 0 ≤ 40
either_light None p h k = k
either_light (Some s) p h k = h

spot_light : (n : NodeId) (above : List Row) (t : Trees) → EachLight t → 6 ≤ n.0 → option_map_or subtree_weight (spot_in n above t) 0 ≤ 40
spot_light n above empty h big = omega arith
spot_light n above (tree r kids after) h big = by_number (has_number n r) refl (spot_light n (r ∷ above) kids h.1.0 big) (spot_light n above after h.1.1 big)
  where
    by_number : (b : Bool) → has_number n r ≡ b → option_map_or subtree_weight (spot_in n (r ∷ above) kids) 0 ≤ 40 → option_map_or subtree_weight (spot_in n above after) 0 ≤ 40
        → option_map_or subtree_weight (spot_in n above (tree r kids after)) 0 ≤ 40
    by_number true e k a = let same : 6 ≤ r.id.0 = grind (arith, nat_tests, big) in rw e (h.0 same)
    by_number false e k a = rw e (either_light (spot_in n (r ∷ above) kids) (spot_in n above after) k a)

-- ---- what a node's label finds

later_label : (rows : List Row) → AllByRecursion IsPlain rows → IfSome (find is_label rows) (λ r. 6 ≤ r.id.0)
later_label [] h = tt
later_label (r ∷ rows) h = by_label (is_label r) refl (later_label rows h.1)
  where
    by_label : (b : Bool) → is_label r ≡ b → IfSome (find is_label rows) (λ r. 6 ≤ r.id.0) → IfSome (find is_label (r ∷ rows)) (λ r. 6 ≤ r.id.0)
    by_label true e k = let late = h.0.later e in rw e late
    by_label false e k = rw e k

-- the label counts, or it doesn't
counted_light : (t : Trees) (n : NodeId) (b : Bool) → weight_of t n ≤ 40 → sum_by (weight_of t) (option_to_list (if b then Some n else None)) ≤ 40
counted_light t n true h = omega (arith, h, sum_by-cons (weight_of t) n [])
counted_light t n false h = omega arith

outer_light : (t : Trees) (s : Spot) → EachLight t → AllByRecursion IsPlain s.above → sum_by (weight_of t) (option_to_list (outer_label t s)) ≤ 40
outer_light t s light plain = by_label (find is_label s.above) (later_label s.above plain)
  where
    by_label : (o : Option Row) → IfSome o (λ r. 6 ≤ r.id.0)
        → sum_by (weight_of t) (option_to_list (option_and_then (λ label. if counts_for t label s.row.id then Some label.id else None) o)) ≤ 40
    by_label None h = omega arith
    by_label (Some label) h = counted_light t label.id (counts_for t label s.row.id) (spot_light label.id [] t light h)

found_light : (t : Trees) (s : Spot) → EachLight t → IsPlain s.row → AllByRecursion IsPlain s.above → found_weight t s ≤ 40
found_light t s light plain above = by_test (is_labelable s.row) refl (outer_light t s light above)
  where
    by_test : (b : Bool) → is_labelable s.row ≡ b → sum_by (weight_of t) (option_to_list (outer_label t s)) ≤ 40 → found_weight t s ≤ 40
    by_test true e h = rw (plain.alone, e, plain.unnamed) (omega (arith, h))
    by_test false e h = rw (plain.alone, e) (omega arith)

all_light : (page : Trees) (above : List Row) (t : Trees) → EachLight page → AllByRecursion IsPlain above → AllByRecursion IsPlain (rows_of t)
    → sum_by (found_weight page) (spots_in above t) ≤ 40 * count t
all_light page above empty light up plain = omega arith
all_light page above (tree r kids after) light up plain =
    let parts = all_parts IsPlain (rows_of kids) (rows_of after) plain.1 in
    let spot : Spot = record { row = r; below = kids; above = above } in
    let inner = spots_in (r ∷ above) kids in
    let outer = spots_in above after in
    omega (
      arith,
      found_light page spot light plain.0 up,
      sum_by-cons (found_weight page) spot (inner ++ outer),
      sum_by-append (found_weight page) inner outer,
      all_light page (r ∷ above) kids light (plain.0, up) parts.0,
      all_light page above after light up parts.1,
    )

-- all nodes together
pub weighs_little : (t : Trees) → EachLight t → AllByRecursion IsPlain (rows_of t) → reference_weight t ≤ 40 * count t
unfolding reference_weight
weighs_little t light plain = all_light t [] t light tt plain
