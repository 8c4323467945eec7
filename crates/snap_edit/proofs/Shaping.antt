-- A page whose row is changed, or from which a subtree is taken, keeps its shape: it can only become too
-- heavy.
use Rattle.std.proofs.Common.{◌≡◌, ℕ, suc, ◌<◌, ◌≤◌, List, [], ◌∷◌, ◌++◌, length, map, Bool, true, false, ◌||◌, nat_lt, Option, Some, None, Ok, Err, if◌then◌else◌, refl, sym, ◌∙◌, ap, subst, arith}
use Rattle.std.proofs.lemmas.List.{length-append, append-nil}
use Rattle.std.specs.Option.{option_map_or}
use Rattle.std.specs.List.{list_any, AllByRecursion, IsDistinct}
use Rattle.snap_tree.specs.declared.row.NodeId.{NodeId}
use Rattle.snap_tree.specs.declared.row.Row.{Row}
use Rattle.snap_tree.specs.declared.row.Attr.{Attr}
use Rattle.snap_tree.specs.declared.row.Body.{Body}
use Rattle.snap_tree.specs.declared.row.Body.TheVariants.{Element, Words}
use Rattle.snap_tree.specs.declared.fault.TreeFault.{TreeFault}
use Rattle.snap_tree.specs.declared.fault.TreeFault.TheVariants.{ReferenceWeight}
use Rattle.snap_tree.specs.Trees.{Trees, empty, tree, rows_of}
use Rattle.snap_tree.specs.Grown.{grown}
use Rattle.snap_tree.specs.Rows.{has_number, is_text}
use Rattle.texts.specs.Words.{same_folded}
use Rattle.snap_tree.specs.Spots.{Spot, spot, number_of}
use Rattle.snap_tree.specs.Weight.{reference_weight}
use Rattle.snap_tree.specs.Faults.{tree_fault}
use Rattle.snap_tree.specs.Well.{IsPlaced, EachPlaced, HasRoot, AreApart}
use Rattle.snap_tree.specs.WellRow.{IsWellBody, IsWellRow}
use Rattle.snap_tree.proofs.Cuts.{length-rows_of}
use Rattle.snap_tree.proofs.EachRow.{all_append, all_parts}
use Rattle.snap_tree.proofs.Wellness.{placed_beside, IsShaped, shaped, shape_of_sound}
use Rattle.snap_tree.proofs.Soundness.{regrown_shaped, shape_of_placed}
use Rattle.snap_edit.specs.declared.edit.Edit.TheVariants.{DropAttr, Remove}
use Rattle.snap_edit.specs.declared.fault.EditKind.TheVariants.{NoNode, NotElement, RootMoved, Tree}
use Rattle.snap_edit.specs.Attrs.{attrs_without, body_with, with_attrs}
use Rattle.snap_edit.specs.Trees.{replaced, changed, without}
use Rattle.snap_edit.specs.Edits.{is_root, settled, then_settled, edited}
use Rattle.snap_edit.specs.Laws.{IsHeavyAtMost}
use Rattle.snap_edit.proofs.Replacing.{finds, parts}
use Rattle.snap_edit.proofs.Taking.{apart_less}
use Rattle.snap_edit.proofs.Undoing.{text_kept}
use Rattle.snap_tree.specs.declared.build.TheConstants.{MOST_DEPTH}
use Rattle.snap_tree.specs.declared.weight.TheConstants.{MOST_WEIGHT}

-- ---- a row with fewer attributes

fewer : (name : List ℕ) (attrs : List Attr) → length (attrs_without name attrs) ≤ length attrs
fewer name [] = omega arith
fewer name (a ∷ attrs) = by_name (same_folded a.name name) refl (fewer name attrs)
  where
    by_name : (b : Bool) → same_folded a.name name ≡ b → length (attrs_without name attrs) ≤ length attrs → length (attrs_without name (a ∷ attrs)) ≤ length (a ∷ attrs)
    by_name true e h = rw e (omega arith)
    by_name false e h = rw e (omega arith)

each_left : (P : Attr → Type 0) (name : List ℕ) (attrs : List Attr) → AllByRecursion P attrs → AllByRecursion P (attrs_without name attrs)
each_left P name [] h = tt
each_left P name (a ∷ attrs) h = by_name (same_folded a.name name) refl (each_left P name attrs h.1)
  where
    by_name : (b : Bool) → same_folded a.name name ≡ b → AllByRecursion P (attrs_without name attrs) → AllByRecursion P (attrs_without name (a ∷ attrs))
    by_name true e k = rw e h.1
    by_name false e k = rw e (h.0, k)

each_of_names : (P : List ℕ → Type 0) (attrs : List Attr) → AllByRecursion P (map (λ a. a.name) attrs) → AllByRecursion (λ a. P a.name) attrs
each_of_names P [] h = tt
each_of_names P (a ∷ attrs) h = (h.0, each_of_names P attrs h.1)

names_of_each : (P : List ℕ → Type 0) (attrs : List Attr) → AllByRecursion (λ a. P a.name) attrs → AllByRecursion P (map (λ a. a.name) attrs)
names_of_each P [] h = tt
names_of_each P (a ∷ attrs) h = (h.0, names_of_each P attrs h.1)

differ_left : (name : List ℕ) (attrs : List Attr) → IsDistinct same_folded (map (λ a. a.name) attrs) → IsDistinct same_folded (map (λ a. a.name) (attrs_without name attrs))
unfolding IsDistinct
differ_left name [] h = tt
differ_left name (a ∷ attrs) h = by_name (same_folded a.name name) refl (differ_left name attrs h.1)
  where
    others : AllByRecursion (λ other. same_folded a.name other ≡ false) (map (λ a. a.name) (attrs_without name attrs))
    others = names_of_each (λ other. same_folded a.name other ≡ false) (attrs_without name attrs) (each_left (λ b. same_folded a.name b.name ≡ false) name attrs (each_of_names (λ other. same_folded a.name other ≡ false) attrs h.0))

    by_name : (b : Bool) → same_folded a.name name ≡ b → IsDistinct same_folded (map (λ a. a.name) (attrs_without name attrs)) → IsDistinct same_folded (map (λ a. a.name) (attrs_without name (a ∷ attrs)))
    by_name true e k = rw e h.1
    by_name false e k = rw e (others, k)

body_left : (name : List ℕ) (b : Body) → IsWellBody b → IsWellBody (body_with (attrs_without name) b)
body_left name (Element space tag attrs) h = record {
  named = h.named;
  few = omega (arith, h.few, fewer name attrs);
  each_well = each_left _ name attrs h.each_well;
  differ = differ_left name attrs h.differ;
}
body_left name (Words text) h = h

row_left : (name : List ℕ) (r : Row) → IsWellRow r → IsWellRow (with_attrs (attrs_without name) r)
row_left name r well = record { numbered = well.numbered; body_well = body_left name r.body well.body_well }

-- ---- places

-- what is above a node counts by the first number and by how many there are
placed_under : (xs ys : List Row) (t : Trees) → number_of xs ≡ number_of ys → length xs ≡ length ys → EachPlaced xs t → EachPlaced ys t
placed_under xs ys empty e l h = tt
placed_under xs ys (tree r kids after) e l h =
    (record { named = h.0.named ∙ e; shallow = subst (λ n. n < MOST_DEPTH) l h.0.shallow; childless = h.0.childless }, (placed_under (r ∷ xs) (r ∷ ys) kids refl (ap suc l) h.1.0, placed_under xs ys after e l h.1.1))

-- what stands in a node's place below the same nodes is placed there
abbrev KeepsPlace : (Row → Trees → Trees) → Type 0
KeepsPlace f = (above : List Row) (r : Row) (kids : Trees) → IsPlaced above r kids → EachPlaced (r ∷ above) kids → EachPlaced above (f r kids)

placed_replaced : (n : NodeId) (f : Row → Trees → Trees) (above : List Row) (t : Trees) → KeepsPlace f → EachPlaced above t → EachPlaced above (replaced n f t)
placed_replaced n f above empty k h = tt
placed_replaced n f above (tree r kids after) k h =
    by_number (has_number n r) refl (placed_replaced n f (r ∷ above) kids k h.1.0) (placed_replaced n f above after k h.1.1)
  where
    own : IsPlaced above r (replaced n f kids)
    own = record { named = h.0.named; shallow = h.0.shallow; childless = λ text. ap (replaced n f) (h.0.childless text) }

    by_number : (b : Bool) → has_number n r ≡ b → EachPlaced (r ∷ above) (replaced n f kids) → EachPlaced above (replaced n f after) → EachPlaced above (replaced n f (tree r kids after))
    by_number true e lower later = rw e (placed_beside above (f r kids) after (k above r kids h.0 h.1.0) h.1.1)
    by_number false e lower later = rw e (own, (lower, later))

-- ---- a row changed in its place

any_swapped : (n : NodeId) (xs ys : List Row) (r new : Row) → new.id ≡ r.id → list_any (has_number n) (xs ++ new ∷ ys) ≡ list_any (has_number n) (xs ++ r ∷ ys)
any_swapped n [] ys r new e = ap (λ id. has_number n (record { id = id; parent = r.parent; body = r.body; facts = r.facts }) || list_any (has_number n) ys) e
any_swapped n (x ∷ xs) ys r new e = ap (λ b. has_number n x || b) (any_swapped n xs ys r new e)

apart_swapped : (xs ys : List Row) (r new : Row) → new.id ≡ r.id → AreApart (xs ++ r ∷ ys) → AreApart (xs ++ new ∷ ys)
apart_swapped [] ys r new e a = (ap (λ id. list_any (has_number id) ys) e ∙ a.0, a.1)
apart_swapped (x ∷ xs) ys r new e a = (any_swapped x.id xs ys r new e ∙ a.0, apart_swapped xs ys r new e a.1)

-- a row so changed keeps its number and its parent, stays a text or an element, and keeps its limits
pub record KeepsRow (g : Row → Row) : Type 0 where
  pub id : (r : Row) → (g r).id ≡ r.id
  pub parent : (r : Row) → (g r).parent ≡ r.parent
  pub text : (r : Row) → is_text (g r) ≡ is_text r
  pub well : (r : Row) → IsWellRow r → IsWellRow (g r)

root_changed : (n : NodeId) (g : Row → Row) (t : Trees) → KeepsRow g → HasRoot t → HasRoot (changed n g t)
root_changed n g empty k h = absurd h
root_changed n g (tree r kids empty) k h = by_number (has_number n r) refl
  where
    by_number : (b : Bool) → has_number n r ≡ b → HasRoot (changed n g (tree r kids empty))
    by_number true e = rw e (k.text r ∙ h)
    by_number false e = rw e h
root_changed n g (tree r kids (tree y below after)) k h = absurd h

pub shaped_changed : (n : NodeId) (g : Row → Row) (t : Trees) (s : Spot) → KeepsRow g → IsShaped t → spot t n ≡ Some s → IsShaped (changed n g t)
shaped_changed n g t s k h e =
    let p = parts n [] t s (finds n [] t s h.apart e) in
    let rest = rows_of s.below ++ p.later in
    let rows : rows_of (changed n g t) ≡ p.before ++ g s.row ∷ rest = p.new_rows (λ r kids. tree (g r) kids empty) ∙ ap (λ rs. p.before ++ g s.row ∷ (rs ++ p.later)) (append-nil (rows_of s.below)) in
    let wells = all_parts IsWellRow p.before (s.row ∷ rest) (subst (AllByRecursion IsWellRow) p.rows_are h.rows_well) in
    let keeps : KeepsPlace (λ r kids. tree (g r) kids empty) = λ above r kids placed lower.
    (record { named = k.parent r ∙ placed.named; shallow = placed.shallow; childless = λ text. placed.childless (sym (k.text r) ∙ text) }, (placed_under (r ∷ above) (g r ∷ above) kids (ap Some (sym (k.id r))) refl lower, tt))
    in
    record {
      rooted = root_changed n g t k h.rooted;
      placed = placed_replaced n (λ r kids. tree (g r) kids empty) [] t keeps h.placed;
      few = omega (arith, h.few, length-rows_of t, length-rows_of (changed n g t), ap length p.rows_are, ap length rows, length-append p.before (s.row ∷ rest), length-append p.before (g s.row ∷ rest));
      apart = subst AreApart (sym rows) (apart_swapped p.before rest s.row (g s.row) (k.id s.row) (subst AreApart p.rows_are h.apart));
      rows_well = subst (AllByRecursion IsWellRow) (sym rows) (all_append IsWellRow p.before (g s.row ∷ rest) wells.0 (k.well s.row wells.1.0, wells.1.1));
    }

attr_dropped : (name : List ℕ) → KeepsRow (with_attrs (attrs_without name))
attr_dropped name = record { id = λ r. refl; parent = λ r. refl; text = text_kept (attrs_without name); well = row_left name }

-- ---- a subtree taken out

root_stays : (n : NodeId) (t : Trees) (s : Spot) → spot t n ≡ Some s → is_root s ≡ false → HasRoot t → HasRoot (without n t)
root_stays n empty s e below h = absurd h
root_stays n (tree r kids empty) s e below h = by_number (has_number n r) refl
  where
    by_number : (b : Bool) → has_number n r ≡ b → HasRoot (without n (tree r kids empty))
    by_number true own =
        let is : Some (record { row = r; below = kids; above = [] }) ≡ Some s = rw own at e in
        let no : true ≡ false = ap (λ o. option_map_or is_root o true) is ∙ below in
        absurd cc
    by_number false own = rw own h
root_stays n (tree r kids (tree y lower after)) s e below h = absurd h

shaped_removed : (n : NodeId) (t : Trees) (s : Spot) → IsShaped t → spot t n ≡ Some s → is_root s ≡ false → IsShaped (without n t)
shaped_removed n t s h e below =
    let p = parts n [] t s (finds n [] t s h.apart e) in
    let own = s.row ∷ rows_of s.below in
    let rows : rows_of (without n t) ≡ p.before ++ p.later = p.new_rows (λ r kids. empty) in
    let wells = all_parts IsWellRow p.before (own ++ p.later) (subst (AllByRecursion IsWellRow) p.rows_are h.rows_well) in
    record {
      rooted = root_stays n t s e below h.rooted;
      placed = placed_replaced n (λ r kids. empty) [] t (λ above r kids placed lower. tt) h.placed;
      few = omega (arith, h.few, length-rows_of t, length-rows_of (without n t), ap length p.rows_are, ap length rows, length-append p.before (own ++ p.later), length-append own p.later, length-append p.before p.later);
      apart = subst AreApart (sym rows) (apart_less p.before own p.later (subst AreApart p.rows_are h.apart));
      rows_well = subst (AllByRecursion IsWellRow) (sym rows) (all_append IsWellRow p.before p.later wells.0 (all_parts IsWellRow own p.later wells.1).1);
    }

-- ---- what is left to go wrong

-- trees in shape can only be too heavy
too_heavy : (t : Trees) (f : TreeFault) (b : Bool) → nat_lt MOST_WEIGHT (reference_weight t) ≡ b → IsShaped t → settled t ≡ Err (Tree f) → f ≡ ReferenceWeight
unfolding settled tree_fault
too_heavy t f true e s h = let is : Err (Tree ReferenceWeight) ≡ Err (Tree f) = rw (shape_of_placed t s, regrown_shaped t s, e) at h in cc
too_heavy t f false e s h = let no : Ok t ≡ Err (Tree f) = rw (shape_of_placed t s, regrown_shaped t s, e) at h in cc

in_shape : (rows : List Row) → tree_fault rows ≡ None → IsShaped (grown rows)
in_shape rows sound = shaped rows (shape_of_sound rows sound)

dropped_by : (n : NodeId) (name : List ℕ) (t : Trees) (f : TreeFault) (o : Option Spot) → spot t n ≡ o → IsShaped t → edited t (DropAttr n name) ≡ Err (Tree f) → f ≡ ReferenceWeight
dropped_by n name t f None e s h = let no : Err NoNode ≡ Err (Tree f) = rw e at h in cc
dropped_by n name t f (Some x) e s h = by_text (is_text x.row) refl (rw e at h)
  where
    new : Trees
    new = changed n (with_attrs (attrs_without name)) t

    by_text : (b : Bool) → is_text x.row ≡ b → then_settled (if is_text x.row then Err NotElement else Ok new) ≡ Err (Tree f) → f ≡ ReferenceWeight
    by_text true text h = let no : Err NotElement ≡ Err (Tree f) = rw text at h in cc
    by_text false text h = too_heavy new f _ refl (shaped_changed n (with_attrs (attrs_without name)) t x (attr_dropped name) s e) (rw text at h)

removed_by : (n : NodeId) (t : Trees) (f : TreeFault) (o : Option Spot) → spot t n ≡ o → IsShaped t → edited t (Remove n) ≡ Err (Tree f) → f ≡ ReferenceWeight
removed_by n t f None e s h = let no : Err NoNode ≡ Err (Tree f) = rw e at h in cc
removed_by n t f (Some x) e s h = by_root (is_root x) refl (rw e at h)
  where
    by_root : (b : Bool) → is_root x ≡ b → then_settled (if is_root x then Err RootMoved else Ok (without n t)) ≡ Err (Tree f) → f ≡ ReferenceWeight
    by_root true root h = let no : Err RootMoved ≡ Err (Tree f) = rw root at h in cc
    by_root false root h = too_heavy (without n t) f _ refl (shaped_removed n t x s e root) (rw root at h)

pub dropped_in_shape : (n : NodeId) (name : List ℕ) → IsHeavyAtMost (DropAttr n name)
dropped_in_shape n name = λ rows f sound h. dropped_by n name (grown rows) f (spot (grown rows) n) refl (in_shape rows sound) h

pub removed_in_shape : (n : NodeId) → IsHeavyAtMost (Remove n)
removed_in_shape n = λ rows f sound h. removed_by n (grown rows) f (spot (grown rows) n) refl (in_shape rows sound) h
