-- Lists of edits in parts; an attribute set and dropped.
use Rattle.std.proofs.Common.{◌≡◌, ◌==◌, ℕ, ◌+◌, ◌≤◌, List, [], ◌∷◌, ◌++◌, length, Bool, true, false, nat_lt, Option, Some, None, Result, Ok, Err, if◌then◌else◌, refl, sym, ◌∙◌, ap, subst, arith, inl, inr}
use Rattle.std.proofs.lemmas.List.{length-append}
use Rattle.std.proofs.lemmas.Bool.Decides.{nat_tests}
use Rattle.std.proofs.lemmas.Slice.Eq.{bytes_eq-Decides}
use Rattle.std.specs.Option.{option_map, option_or, IfSome}
use Rattle.std.specs.List.{find, list_any}
use Rattle.std.specs.Str.{bytes_eq}
use Rattle.texts.specs.Words.{folded, same_folded}
use Rattle.snap_tree.specs.declared.row.NodeId.{NodeId}
use Rattle.snap_tree.specs.declared.row.Row.{Row}
use Rattle.snap_tree.specs.declared.row.Attr.{Attr}
use Rattle.snap_tree.specs.declared.row.Body.{Body}
use Rattle.snap_tree.specs.declared.row.Body.TheVariants.{Element, Words}
use Rattle.snap_tree.specs.declared.fault.TreeFault.{TreeFault}
use Rattle.snap_tree.specs.Trees.{Trees, empty, tree, rows_of}
use Rattle.snap_tree.specs.Grown.{grown}
use Rattle.snap_tree.specs.Rows.{has_number, is_text, attribute, attrs_in, attrs_of}
use Rattle.snap_tree.specs.Spots.{Spot, spot, spot_in}
use Rattle.snap_tree.specs.Faults.{tree_fault}
use Rattle.snap_tree.proofs.Growth.{rows_of_grown}
use Rattle.snap_tree.proofs.Climbing.{none_any}
use Rattle.snap_edit.specs.declared.edit.Edit.{Edit}
use Rattle.snap_edit.specs.declared.edit.Edit.TheVariants.{SetAttr, DropAttr}
use Rattle.snap_edit.specs.declared.fault.EditKind.{EditKind}
use Rattle.snap_edit.specs.declared.fault.EditKind.TheVariants.{NoNode, NotElement, Tree}
use Rattle.snap_edit.specs.declared.fault.EditFault.{EditFault}
use Rattle.snap_edit.specs.Attrs.{attrs_with, attrs_without, body_with, with_attrs}
use Rattle.snap_edit.specs.Trees.{changed}
use Rattle.snap_edit.specs.declared.edit.TheConstants.{MOST_EDITS}
use Rattle.snap_edit.specs.Edits.{at, then_settled, edited, followed, edited_from, edited_all, continued}
use Rattle.snap_edit.specs.Laws.{after_others, then_edits}
use Rattle.snap_edit.proofs.Replacing.{Finds, absent}
use Rattle.snap_edit.proofs.Standing.{page_of_sound, found_in, at_none, text_found, with_body}
use Rattle.snap_edit.proofs.Settling.{settled_by, edited_append}

-- ---- a list in parts

later_by :
    (n index : ℕ) (r : Result Trees EditKind) (f g : Trees → Result Trees EditFault)
    → ((t : Trees) → f t ≡ after_others n (g t)) → followed (n + index) f r ≡ after_others n (followed index g r)
later_by n index (Err kind) f g h = refl
later_by n index (Ok t) f g h = h t

edited_later :
    (n index : ℕ) (edits : List Edit) (t : Trees)
    → edited_from (n + index) edits t ≡ after_others n (edited_from index edits t)
edited_later n index [] t = refl
edited_later n index (e ∷ edits) t =
    let sums : n + index + 1 ≡ n + (index + 1) = omega arith in
    later_by n index (edited t e) (edited_from (n + index + 1) edits) (edited_from (index + 1) edits)
    (λ t'. ap (λ i. edited_from i edits t') sums ∙ edited_later n (index + 1) edits t')

few : (t : Trees) (edits : List Edit) → length edits ≤ MOST_EDITS → edited_all t edits ≡ edited_from 0 edits t
few t edits h =
    let fits : nat_lt MOST_EDITS (length edits) ≡ false = grind (arith, nat_tests, h) in
    rw fits refl

parts_by :
    (xs ys : List Edit) (r : Result Trees EditFault)
    → length ys ≤ MOST_EDITS → continued (0 + length xs) ys r ≡ then_edits (length xs) ys r
parts_by xs ys (Err fault) h = refl
parts_by xs ys (Ok t) h =
    let sums : 0 + length xs ≡ length xs + 0 = omega arith in
    ap (λ i. edited_from i ys t) sums ∙ edited_later (length xs) 0 ys t
    ∙ ap (after_others (length xs)) (sym (few t ys h))

pub goes_in_parts :
    (t : Trees) (xs ys : List Edit)
    → length (xs ++ ys) ≤ MOST_EDITS → edited_all t (xs ++ ys) ≡ then_edits (length xs) ys (edited_all t xs)
goes_in_parts t xs ys h =
    let all = length-append xs ys in
    let first : length xs ≤ MOST_EDITS = omega (arith, h, all) in
    let second : length ys ≤ MOST_EDITS = omega (arith, h, all) in
    few t (xs ++ ys) h ∙ edited_append 0 xs ys t ∙ parts_by xs ys (edited_from 0 xs t) second
    ∙ ap (then_edits (length xs) ys) (sym (few t xs first))

-- ---- an attribute set and dropped

same_text : (xs : List ℕ) → bytes_eq xs xs ≡ true
same_text xs = (bytes_eq-Decides xs xs).1 refl

undone_attrs :
    (name value : List ℕ) (attrs : List Attr)
    → find (λ a. same_folded a.name name) attrs ≡ None → attrs_without name (attrs_with name value attrs) ≡ attrs
undone_attrs name value [] h = let same : same_folded name name ≡ true = same_text (folded name) in rw same refl
undone_attrs name value (a ∷ attrs) h = by_name (same_folded a.name name) refl h (undone_attrs name value attrs)
  where
    by_name :
        (b : Bool)
        → same_folded a.name name ≡ b → find (λ a. same_folded a.name name) (a ∷ attrs) ≡ None
        → (find (λ a. same_folded a.name name) attrs ≡ None → attrs_without name (attrs_with name value attrs) ≡ attrs)
        → attrs_without name (attrs_with name value (a ∷ attrs)) ≡ a ∷ attrs
    by_name true e h k = let no : Some a ≡ None = rw e at h in cc
    by_name false e h k = rw (e, e) (ap (λ more. a ∷ more) (k (rw e at h)))

not_there :
    (name : List ℕ) (attrs : List Attr) (o : Option Attr)
    → find (λ a. same_folded a.name name) attrs ≡ o → option_map (λ (a : Attr). a.value) o ≡ None → o ≡ None
not_there name attrs None e h = refl
not_there name attrs (Some a) e h = cc

undone_body :
    (name value : List ℕ) (b : Body)
    → find (λ a. same_folded a.name name) (attrs_in b) ≡ None
    → body_with (attrs_without name) (body_with (attrs_with name value) b) ≡ b
undone_body name value (Element space tag attrs) h = ap (Element space tag) (undone_attrs name value attrs h)
undone_body name value (Words text) h = refl

undone_row :
    (name value : List ℕ) (r : Row)
    → attribute name r ≡ None → with_attrs (attrs_without name) (with_attrs (attrs_with name value) r) ≡ r
undone_row name value r h =
    let none = not_there name (attrs_of r) (find (λ a. same_folded a.name name) (attrs_of r)) refl h in
    ap (with_body r) (undone_body name value r.body none)

-- where the trees don't hold the number, two changes leave them
unchanged :
    (n : NodeId) (f g : Row → Row) (t : Trees)
    → list_any (has_number n) (rows_of t) ≡ false → changed n f (changed n g t) ≡ t
unchanged n f g t h =
    ap (changed n f) (absent n (λ r kids. tree (g r) kids empty) t h) ∙ absent n (λ r kids. tree (f r) kids empty) t h

number_kept : (n : NodeId) (r new : Row) → new.id ≡ r.id → has_number n new ≡ has_number n r
number_kept n r new k = ap (λ (id : NodeId). id.0 == n.0) k

-- a row changed twice
undone_tree :
    (n : NodeId) (f g : Row → Row) (above : List Row) (t : Trees) (s : Spot)
    → ((r : Row) → (g r).id ≡ r.id) → f (g s.row) ≡ s.row → Finds n above t s → changed n f (changed n g t) ≡ t
undone_tree n f g above empty s k u h = absurd h
undone_tree n f g above (tree r kids after) s k u (inl h) =
    let row : s.row ≡ r = ap (λ (s : Spot). s.row) h.1 in
    let same : f (g r) ≡ r = subst (λ r. f (g r) ≡ r) row u in
    let e : has_number n r ≡ true = h.0 in
    let e' = number_kept n r (g r) (k r) ∙ e in
    rw e (rw e' (ap (λ r. tree r kids after) same))
undone_tree n f g above (tree r kids after) s k u (inr (inl h)) =
    let e : has_number n r ≡ false = h.0 in
    let below = undone_tree n f g (r ∷ above) kids s k u h.1 in
    rw e (rw e (ap (λ t. tree r t (changed n f (changed n g after))) below ∙ ap (tree r kids) (unchanged n f g after h.2)))
undone_tree n f g above (tree r kids after) s k u (inr (inr h)) =
    let e : has_number n r ≡ false = h.0 in
    let later = undone_tree n f g above after s k u h.2 in
    rw e (rw e (ap (λ t. tree r t (changed n f (changed n g after))) (unchanged n f g kids h.1) ∙ ap (tree r kids) later))

abbrev spot_with : (Row → Row) → Spot → Spot
spot_with g s = record { row = g s.row; below = s.below; above = s.above }

spot_changed :
    (n : NodeId) (g : Row → Row) (above : List Row) (t : Trees) (s : Spot)
    → ((r : Row) → (g r).id ≡ r.id) → Finds n above t s → spot_in n above (changed n g t) ≡ Some (spot_with g s)
spot_changed n g above empty s k h = absurd h
spot_changed n g above (tree r kids after) s k (inl h) =
    let e : has_number n r ≡ true = h.0 in
    let e' = number_kept n r (g r) (k r) ∙ e in
    rw e (rw e' (ap (λ s. Some (spot_with g s)) (sym h.1)))
spot_changed n g above (tree r kids after) s k (inr (inl h)) =
    let e : has_number n r ≡ false = h.0 in
    rw e (rw e (ap (λ o. option_or o (spot_in n above (changed n g after))) (spot_changed n g (r ∷ above) kids s k h.1)))
spot_changed n g above (tree r kids after) s k (inr (inr h)) =
    let e : has_number n r ≡ false = h.0 in
    let none =
    ap (spot_in n (r ∷ above)) (absent n (λ r kids. tree (g r) kids empty) kids h.1) ∙ none_any n (r ∷ above) kids h.1
    in
    let later = spot_changed n g above after s k h.2 in
    rw e (rw e (ap (λ o. option_or o (spot_in n above (changed n g after))) none ∙ later))

pub text_kept : (f : List Attr → List Attr) (r : Row) → is_text (with_attrs f r) ≡ is_text r
text_kept f r = by_body r.body
  where
    by_body : (b : Body) → is_text (with_body r (body_with f b)) ≡ is_text (with_body r b)
    by_body (Element space tag attrs) = refl
    by_body (Words text) = refl

-- an element's attributes changed, where the row is no text
on_element :
    (t : Trees) (n : NodeId) (s : Spot) (f : List Attr → List Attr)
    → spot t n ≡ Some s → is_text s.row ≡ false
    → at t n (λ s. if is_text s.row then Err NotElement else Ok (changed n (with_attrs f) t)) ≡ Ok (changed n (with_attrs f) t)
on_element t n s f e b = text_found t n s false (Err NotElement) (Ok (changed n (with_attrs f) t)) e b

dropped :
    (rows : List Row) (n : NodeId) (name value : List ℕ) (s : Spot)
    → tree_fault rows ≡ None → spot (grown rows) n ≡ Some s → attribute name s.row ≡ None → is_text s.row ≡ false
    → edited (changed n (with_attrs (attrs_with name value)) (grown rows)) (DropAttr n name) ≡ Ok (grown rows)
dropped rows n name value s sound e none text =
    let g = with_attrs (attrs_with name value) in
    let page = page_of_sound rows sound in
    let found = found_in n page e in
    let there = spot_changed n g [] (grown rows) s (λ r. refl) found in
    let back =
    undone_tree n (with_attrs (attrs_without name)) g [] (grown rows) s (λ r. refl) (undone_row name value s.row none) found
    in
    let element = text_kept (attrs_with name value) s.row ∙ text in
    let done =
    on_element (changed n g (grown rows)) n (spot_with g s) (attrs_without name) there element ∙ ap Ok back
    in
    ap then_settled done ∙ settled_by (grown rows) (ap tree_fault (rows_of_grown rows) ∙ sound)

undoes_by :
    (rows : List Row) (n : NodeId) (name value : List ℕ) (t : Trees) (o : Option Spot)
    → tree_fault rows ≡ None → spot (grown rows) n ≡ o → IfSome o (λ s. attribute name s.row ≡ None)
    → edited (grown rows) (SetAttr n name value) ≡ Ok t → edited t (DropAttr n name) ≡ Ok (grown rows)
undoes_by rows n name value t None sound e none done =
    let refused : edited (grown rows) (SetAttr n name value) ≡ Err NoNode =
    ap then_settled (at_none (grown rows) n _ e)
    in
    let no : Err NoNode ≡ Ok t = sym refused ∙ done in
    cc
undoes_by rows n name value t (Some s) sound e none done = by_text (is_text s.row) refl
  where
    new : Trees
    new = changed n (with_attrs (attrs_with name value)) (grown rows)

    by_fault :
        (o : Option TreeFault)
        → is_text s.row ≡ false → tree_fault (rows_of new) ≡ o → edited t (DropAttr n name) ≡ Ok (grown rows)
    by_fault (Some fault) b f =
        let refused : edited (grown rows) (SetAttr n name value) ≡ Err (Tree fault) =
        ap then_settled (on_element (grown rows) n s (attrs_with name value) e b) ∙ settled_by new f
        in
        let no : Err (Tree fault) ≡ Ok t = sym refused ∙ done in
        cc
    by_fault None b f =
        let made : edited (grown rows) (SetAttr n name value) ≡ Ok new =
        ap then_settled (on_element (grown rows) n s (attrs_with name value) e b) ∙ settled_by new f
        in
        let same : Ok new ≡ Ok t = sym made ∙ done in
        let is : new ≡ t = cc in
        subst (λ t. edited t (DropAttr n name) ≡ Ok (grown rows)) is (dropped rows n name value s sound e none b)

    by_text : (b : Bool) → is_text s.row ≡ b → edited t (DropAttr n name) ≡ Ok (grown rows)
    by_text true b =
        let refused : edited (grown rows) (SetAttr n name value) ≡ Err NotElement =
        ap then_settled (text_found (grown rows) n s true (Err NotElement) (Ok new) e b)
        in
        let no : Err NotElement ≡ Ok t = sym refused ∙ done in
        cc
    by_text false b = by_fault (tree_fault (rows_of new)) b refl

pub drop_undoes_set :
    (rows : List Row) (n : NodeId) (name value : List ℕ) (t : Trees)
    → tree_fault rows ≡ None → IfSome (spot (grown rows) n) (λ s. attribute name s.row ≡ None)
    → edited (grown rows) (SetAttr n name value) ≡ Ok t → edited t (DropAttr n name) ≡ Ok (grown rows)
drop_undoes_set rows n name value t sound none done =
    undoes_by rows n name value t (spot (grown rows) n) sound refl none done
