-- What is found by an id, a label or a tag on a page is what is found among what is seen of it.
use Rattle.std.proofs.Common.{◌≡◌, ◌&&◌, ◌||◌, not, ℕ, List, [], ◌∷◌, ◌++◌, map, filter, codes, Bool, true, false, Option, Some, None, option_map, option_and_then, if◌then◌else◌, refl, sym, ◌∙◌, ap}
use Rattle.std.specs.Option.{is_some, option_map_or, option_to_list}
use Rattle.std.specs.List.{find, cons_option}
use Rattle.snap_tree.specs.declared.row.NodeId.{NodeId}
use Rattle.snap_tree.specs.declared.row.Body.{Body}
use Rattle.snap_tree.specs.declared.row.Body.TheVariants.{Element, Words}
use Rattle.snap_tree.specs.declared.row.Row.{Row}
use Rattle.snap_tree.specs.Grown.{is_number}
use Rattle.snap_tree.specs.Labels.{filled, id_of, first_with_id, is_labelable, is_label, has_for, for_of, labels_naming, labels_by, first_labelable, counts_for, outer_label, labels_with, labels_at, labels_for}
use Rattle.snap_tree.specs.Lookups.{tagged}
use Rattle.snap_tree.specs.Rows.{is_html, is_html_body, attribute, is_key}
use Rattle.texts.specs.Words.{same_folded}
use Rattle.snap_tree.specs.Spots.{Spot, spot}
use Rattle.snap_tree.specs.Trees.{Trees, empty, tree, rows_of}
use Rattle.acc_tree.specs.declared.attributes.Attribute.TheVariants as attribute
use Rattle.acc_tree.specs.Attributes.{attribute_name}
use Rattle.acc_tree.specs.Seen.{seen_body, seen_row, seen}
use Rattle.acc_tree.specs.References.{found}
use Rattle.acc_tree.specs.Sights.{seen_spot}
use Rattle.acc_tree.proofs.Seeing.{attr_seen}
use Rattle.acc_tree.proofs.Sighting.{seen_spot_is}

-- ---- rows

append_mapped : {A B : Type 0} (f : A → B) (xs ys : List A) → map f (xs ++ ys) ≡ map f xs ++ map f ys
append_mapped f [] ys = refl
append_mapped f (x ∷ xs) ys = ap (λ zs. f x ∷ zs) (append_mapped f xs ys)

pub rows_seen : (t : Trees) → rows_of (seen t) ≡ map seen_row (rows_of t)
rows_seen empty = refl
rows_seen (tree r kids after) =
    ap (λ rows. seen_row r ∷ (rows ++ rows_of (seen after))) (rows_seen kids) ∙ ap (λ rows. seen_row r ∷ (map seen_row (rows_of kids) ++ rows)) (rows_seen after)
    ∙ ap (λ rows. seen_row r ∷ rows) (sym (append_mapped seen_row (rows_of kids) (rows_of after)))

-- a test that sees no difference finds the same rows
find_seen : (p : Row → Bool) → ((r : Row) → p (seen_row r) ≡ p r) → (rows : List Row) → find p (map seen_row rows) ≡ option_map seen_row (find p rows)
find_seen p same [] = refl
find_seen p same (r ∷ rows) = by_test (p r) refl (find_seen p same rows)
  where
    by_test : (b : Bool) → p r ≡ b → find p (map seen_row rows) ≡ option_map seen_row (find p rows) → find p (map seen_row (r ∷ rows)) ≡ option_map seen_row (find p (r ∷ rows))
    by_test true e h = rw (same r, e) refl
    by_test false e h = rw (same r, e) h

filter_seen : (p : Row → Bool) → ((r : Row) → p (seen_row r) ≡ p r) → (rows : List Row) → map (λ r. r.id) (filter p (map seen_row rows)) ≡ map (λ r. r.id) (filter p rows)
filter_seen p same [] = refl
filter_seen p same (r ∷ rows) = by_test (p r) refl (filter_seen p same rows)
  where
    by_test : (b : Bool) → p r ≡ b → map (λ x. x.id) (filter p (map seen_row rows)) ≡ map (λ x. x.id) (filter p rows) → map (λ x. x.id) (filter p (map seen_row (r ∷ rows))) ≡ map (λ x. x.id) (filter p (r ∷ rows))
    by_test true e h = rw (same r, e) (ap (λ ns. r.id ∷ ns) h)
    by_test false e h = rw (same r, e) h

number_seen : (o : Option Row) → option_map (λ r. r.id) (option_map seen_row o) ≡ option_map (λ r. r.id) o
number_seen None = refl
number_seen (Some r) = refl

-- ---- ids

id_seen : (r : Row) → id_of (seen_row r) ≡ id_of r
unfolding id_of attribute_name
id_seen r = ap filled (attr_seen attribute.Id r)

pub id_found : (t : Trees) (id : List ℕ) → first_with_id (seen t) id ≡ first_with_id t id
id_found t id =
    ap (λ rows. option_map (λ r. r.id) (find (λ r. is_key id (id_of r)) rows)) (rows_seen t)
    ∙ ap (option_map (λ r. r.id)) (find_seen (λ r. is_key id (id_of r)) (λ r. ap (is_key id) (id_seen r)) (rows_of t))
    ∙ number_seen (find (λ r. is_key id (id_of r)) (rows_of t))

-- a word that finds an element, and one that finds none
pub found_first : (t : Trees) (all : List (List ℕ)) (word : List ℕ) (rest : List (List ℕ)) (n : NodeId) → all ≡ word ∷ rest → Some n ≡ first_with_id t word → found t all ≡ n ∷ found t rest
found_first t all word rest n e h = ap (found t) e ∙ ap (λ o. cons_option o (found t rest)) (sym h)

pub found_later : (t : Trees) (all : List (List ℕ)) (word : List ℕ) (rest : List (List ℕ)) → all ≡ word ∷ rest → None ≡ first_with_id t word → found t rest ≡ found t all
found_later t all word rest e h = sym (ap (found t) e ∙ ap (λ o. cons_option o (found t rest)) (sym h))

-- ---- tags

html_seen : (name : List ℕ) (body : Body) → is_html_body name (seen_body body) ≡ is_html_body name body
html_seen name (Element space tag attrs) = refl
html_seen name (Words text) = refl

pub tagged_seen : (t : Trees) (tag : List ℕ) → tagged (seen t) tag ≡ tagged t tag
tagged_seen t tag = ap (λ rows. map (λ r. r.id) (filter (is_html tag) rows)) (rows_seen t) ∙ filter_seen (is_html tag) (λ r. html_seen tag r.body) (rows_of t)

-- ---- labels

pub labelable_seen : (r : Row) → is_labelable (seen_row r) ≡ is_labelable r
unfolding is_labelable attribute_name
labelable_seen r =
    rw (html_seen (codes "button") r.body, html_seen (codes "meter") r.body, html_seen (codes "output") r.body, html_seen (codes "progress") r.body, html_seen (codes "select") r.body, html_seen (codes "textarea") r.body, html_seen (codes "input") r.body)
    (ap (λ value. is_html (codes "button") r || is_html (codes "meter") r || is_html (codes "output") r
    || is_html (codes "progress") r || is_html (codes "select") r || is_html (codes "textarea") r
    || (is_html (codes "input") r && not (option_map_or (same_folded (codes "hidden")) value false))) (attr_seen attribute.TypeAttr r))

label_seen : (r : Row) → is_label (seen_row r) ≡ is_label r
unfolding is_label
label_seen r = html_seen (codes "label") r.body

for_seen : (r : Row) → has_for (seen_row r) ≡ has_for r
unfolding has_for attribute_name
for_seen r = ap is_some (attr_seen attribute.For r)

for_of_seen : (r : Row) → for_of (seen_row r) ≡ for_of r
unfolding for_of attribute_name
for_of_seen r = ap (λ b. if b then filled (attribute (codes "for") (seen_row r)) else None) (label_seen r) ∙ ap (λ value. if is_label r then filled value else None) (attr_seen attribute.For r)

naming_seen : (t : Trees) (id : List ℕ) → labels_naming (seen t) id ≡ labels_naming t id
naming_seen t id = ap (λ rows. map (λ r. r.id) (filter (λ r. is_key id (for_of r)) rows)) (rows_seen t) ∙ filter_seen (λ r. is_key id (for_of r)) (λ r. ap (is_key id) (for_of_seen r)) (rows_of t)

by_seen : (t : Trees) (n : NodeId) (id : Option (List ℕ)) → labels_by (seen t) n id ≡ labels_by t n id
by_seen t n None = refl
by_seen t n (Some id) = ap (λ first. if is_number first n then labels_naming (seen t) id else []) (id_found t id) ∙ ap (λ labels. if is_number (first_with_id t id) n then labels else []) (naming_seen t id)

with_seen : (t : Trees) (r : Row) (outer : Option NodeId) → labels_with (seen t) (seen_row r) outer ≡ labels_with t r outer
with_seen t r outer =
    ap (λ b. if b then labels_by (seen t) r.id (id_of (seen_row r)) ++ option_to_list outer else []) (labelable_seen r)
    ∙ ap (λ id. if is_labelable r then labels_by (seen t) r.id id ++ option_to_list outer else []) (id_seen r)
    ∙ ap (λ labels. if is_labelable r then labels ++ option_to_list outer else []) (by_seen t r.id (id_of r))

first_below_seen : (s : Spot) → option_map (λ r. r.id) (find is_labelable (rows_of (seen s.below))) ≡ option_map (λ r. r.id) (find is_labelable (rows_of s.below))
first_below_seen s = ap (λ rows. option_map (λ r. r.id) (find is_labelable rows)) (rows_seen s.below) ∙ ap (option_map (λ r. r.id)) (find_seen is_labelable labelable_seen (rows_of s.below)) ∙ number_seen (find is_labelable (rows_of s.below))

first_spot_seen : (o : Option Spot) → option_and_then (λ s. option_map (λ r. r.id) (find is_labelable (rows_of s.below))) (option_map seen_spot o) ≡ option_and_then (λ s. option_map (λ r. r.id) (find is_labelable (rows_of s.below))) o
first_spot_seen None = refl
first_spot_seen (Some s) = first_below_seen s

first_labelable_seen : (t : Trees) (n : NodeId) → first_labelable (seen t) n ≡ first_labelable t n
first_labelable_seen t n = ap (option_and_then (λ s. option_map (λ r. r.id) (find is_labelable (rows_of s.below)))) (seen_spot_is t n) ∙ first_spot_seen (spot t n)

counts_seen : (t : Trees) (label : Row) (n : NodeId) → counts_for (seen t) (seen_row label) n ≡ counts_for t label n
counts_seen t label n = ap (λ b. not b && is_number (first_labelable (seen t) label.id) n) (for_seen label) ∙ ap (λ first. not (has_for label) && is_number first n) (first_labelable_seen t label.id)

outer_by : (t : Trees) (n : NodeId) (o : Option Row) → option_and_then (λ label. if counts_for (seen t) label n then Some label.id else None) (option_map seen_row o) ≡ option_and_then (λ label. if counts_for t label n then Some label.id else None) o
outer_by t n None = refl
outer_by t n (Some label) = ap (λ b. if b then Some label.id else None) (counts_seen t label n)

outer_seen : (t : Trees) (s : Spot) → outer_label (seen t) (seen_spot s) ≡ outer_label t s
outer_seen t s = ap (option_and_then (λ label. if counts_for (seen t) label s.row.id then Some label.id else None)) (find_seen is_label label_seen s.above) ∙ outer_by t s.row.id (find is_label s.above)

at_seen : (t : Trees) (o : Option Spot) → option_map_or (labels_at (seen t)) (option_map seen_spot o) [] ≡ option_map_or (labels_at t) o []
at_seen t None = refl
at_seen t (Some s) = ap (labels_with (seen t) (seen_row s.row)) (outer_seen t s) ∙ with_seen t s.row (outer_label t s)

pub labels_seen : (t : Trees) (n : NodeId) → labels_for (seen t) n ≡ labels_for t n
labels_seen t n = ap (λ o. option_map_or (labels_at (seen t)) o []) (seen_spot_is t n) ∙ at_seen t (spot t n)
