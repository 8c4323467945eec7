-- Each node of a page stands at its number.
use Rattle.std.proofs.Common.{◌≡◌, ◌||◌, List, [], ◌∷◌, ◌++◌, Bool, true, false, Option, Some, None, option_map, refl, sym, ◌∙◌, ap, subst}
use Rattle.std.proofs.lemmas.Bool.Decides.{Decides-eqb}
use Rattle.std.proofs.lemmas.List.Folds.{list_any-append}
use Rattle.std.specs.List.{list_any, find}
use Rattle.std.specs.Option.{option_or}
use Rattle.snap_tree.specs.declared.row.NodeId.{NodeId}
use Rattle.snap_tree.specs.declared.row.Row.{Row}
use Rattle.snap_tree.specs.Rows.{has_number}
use Rattle.snap_tree.specs.Spots.{Spot, spot_in, spot}
use Rattle.snap_tree.specs.Trees.{Trees, empty, tree, rows_of}
use Rattle.snap_tree.specs.Well.{AreApart}
use Rattle.snap_tree.proofs.Climbing.{apart_append, later_number, none_any, not_root, same_id}
use Rattle.snap_tree.proofs.Spotting.{spot_row}
use Rattle.page_keys.specs.Standing.{spot_with, Stand}

-- ---- what is found in trees is the first root, or in the trees below it, or in those after it

pub found_in : (P : Type 0) (n : NodeId) (above : List Row) (row : Row) (kids after : Trees) (s : Spot) → (has_number n row ≡ true → spot_with row kids above ≡ s → P)
    → (spot_in n (row ∷ above) kids ≡ Some s → P) → (spot_in n above after ≡ Some s → P) → spot_in n above (tree row kids after) ≡ Some s → P
found_in P n above row kids after s here below later e = by_number (has_number n row) refl e
  where
    down : (o : Option Spot) → spot_in n (row ∷ above) kids ≡ o → option_or o (spot_in n above after) ≡ Some s → P
    down None h k = later k
    down (Some z) h k = below (h ∙ k)

    by_number : (b : Bool) → has_number n row ≡ b → spot_in n above (tree row kids after) ≡ Some s → P
    by_number true k h =
        let at : Some (spot_with row kids above) ≡ Some s = rw k at h in
        let is : spot_with row kids above ≡ s = cc in here k is
    by_number false k h = let at : option_or (spot_in n (row ∷ above) kids) (spot_in n above after) ≡ Some s = rw k at h in down (spot_in n (row ∷ above) kids) refl at

pub row_number : (n : NodeId) (row : Row) → has_number n row ≡ true → row.id ≡ n
row_number n row k = ap (λ k. record { 0 = k }) ((Decides-eqb row.id.0 n.0).0 k)

-- the node of a number has the number
pub spot_number : (n : NodeId) (above : List Row) (t : Trees) (s : Spot) → spot_in n above t ≡ Some s → s.row.id ≡ n
spot_number n above empty s e = cc
spot_number n above (tree row kids after) s e =
    found_in (s.row.id ≡ n) n above row kids after s (λ k is. ap (λ (z : Spot). z.row.id) (sym is) ∙ row_number n row k)
    (λ h. spot_number n (row ∷ above) kids s h) (λ h. spot_number n above after s h) e

-- ---- each node stands

-- a number of some part of a page is found there as it is on the page
abbrev FindsIn : Trees → List Row → Trees → Type 0
FindsIn page above part = (n : NodeId) → list_any (has_number n) (rows_of part) ≡ true → spot page n ≡ spot_in n above part

any_find : (n : NodeId) (rows : List Row) → find (has_number n) rows ≡ None → list_any (has_number n) rows ≡ false
any_find n [] h = refl
any_find n (r ∷ rows) h = by_number (has_number n r) refl h (any_find n rows)
  where
    by_number : (b : Bool) → has_number n r ≡ b → find (has_number n) (r ∷ rows) ≡ None → (find (has_number n) rows ≡ None → list_any (has_number n) rows ≡ false) → list_any (has_number n) (r ∷ rows) ≡ false
    by_number true k h next = let some : Some r ≡ None = rw k at h in cc
    by_number false k h next = let none : find (has_number n) rows ≡ None = rw k at h in rw k (next none)

-- a number of the trees below a node is found there
in_kids : (n : NodeId) (above : List Row) (row : Row) (kids after : Trees) → has_number n row ≡ false → list_any (has_number n) (rows_of kids) ≡ true → spot_in n above (tree row kids after) ≡ spot_in n (row ∷ above) kids
in_kids n above row kids after e here = rw e (by_spot (spot_in n (row ∷ above) kids) (spot_row n (row ∷ above) kids))
  where
    by_spot : (o : Option Spot) → option_map (λ s. s.row) o ≡ find (has_number n) (rows_of kids) → option_or o (spot_in n above after) ≡ o
    by_spot None h = let no : true ≡ false = sym here ∙ any_find n (rows_of kids) (sym h) in cc
    by_spot (Some s) h = refl

in_after : (n : NodeId) (above : List Row) (row : Row) (kids after : Trees) → has_number n row ≡ false → list_any (has_number n) (rows_of kids) ≡ false → spot_in n above (tree row kids after) ≡ spot_in n above after
in_after n above row kids after e none = rw e (ap (λ o. option_or o (spot_in n above after)) (none_any n (row ∷ above) kids none))

stand_in : (page : Trees) (above : List Row) (part : Trees) → AreApart (rows_of part) → FindsIn page above part → Stand page above part
stand_in page above empty apart finds = tt
stand_in page above (tree row kids after) apart finds = (
  finds row.id (ap (λ b. b || list_any (has_number row.id) (rows_of kids ++ rows_of after)) (same_id row)) ∙ here,
  (
    stand_in page (row ∷ above) kids parts.0 (λ n k. let both = any_left n k in finds n (any_more n both) ∙ in_kids n above row kids after (not_first n both) k),
    stand_in page above after parts.1 (λ n k. let both = any_right n k in finds n (any_more n both) ∙ in_after n above row kids after (not_first n both) (later_number n (rows_of kids) (rows_of after) apart.1 k)),
  ),
)
  where
    parts : AreApart (rows_of kids) × AreApart (rows_of after)
    parts = apart_append (rows_of kids) (rows_of after) apart.1

    here : spot_in row.id above (tree row kids after) ≡ Some (spot_with row kids above)
    here = let e : has_number row.id row ≡ true = same_id row in rw e refl

    not_first : (n : NodeId) → list_any (has_number n) (rows_of kids ++ rows_of after) ≡ true → has_number n row ≡ false
    not_first n k = not_root n row (rows_of kids ++ rows_of after) apart.0 k

    or_true : (b : Bool) → (b || true) ≡ true
    or_true true = refl
    or_true false = refl

    any_left : (n : NodeId) → list_any (has_number n) (rows_of kids) ≡ true → list_any (has_number n) (rows_of kids ++ rows_of after) ≡ true
    any_left n k = list_any-append (has_number n) (rows_of kids) (rows_of after) ∙ ap (λ b. b || list_any (has_number n) (rows_of after)) k

    any_right : (n : NodeId) → list_any (has_number n) (rows_of after) ≡ true → list_any (has_number n) (rows_of kids ++ rows_of after) ≡ true
    any_right n k = list_any-append (has_number n) (rows_of kids) (rows_of after) ∙ ap (λ b. list_any (has_number n) (rows_of kids) || b) k ∙ or_true (list_any (has_number n) (rows_of kids))

    any_more : (n : NodeId) → list_any (has_number n) (rows_of kids ++ rows_of after) ≡ true → list_any (has_number n) (row ∷ (rows_of kids ++ rows_of after)) ≡ true
    any_more n k = ap (λ b. has_number n row || b) k ∙ or_true (has_number n row)

-- each node of a page whose numbers differ stands at its number
pub all_stand : (t : Trees) → AreApart (rows_of t) → Stand t [] t
all_stand t apart = stand_in t [] t apart (λ n here. refl)

-- so do the nodes below one that stands
pub stand_below : (page : Trees) (n : NodeId) (above : List Row) (part : Trees) (s : Spot) → Stand page above part → spot_in n above part ≡ Some s → Stand page (s.row ∷ s.above) s.below
stand_below page n above empty s p e = cc
stand_below page n above (tree row kids after) s p e =
    found_in (Stand page (s.row ∷ s.above) s.below) n above row kids after s (λ k is. subst (λ (z : Spot). Stand page (z.row ∷ z.above) z.below) is p.1.0)
    (λ h. stand_below page n (row ∷ above) kids s p.1.0 h) (λ h. stand_below page n above after s p.1.1 h) e
