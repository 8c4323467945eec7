-- A subtree taken out, and the rows that this leaves.
use Rattle.std.proofs.Common.{◌≡◌, ℕ, List, [], ◌∷◌, ◌++◌, length, take, drop, false, ◌||◌, None, sym, ◌∙◌, ap, subst, arith}
use Rattle.std.proofs.lemmas.List.Folds.{list_any-append}
use Rattle.std.proofs.lemmas.List.{take_at, drop_at}
use Rattle.std.specs.Option.{is_none}
use Rattle.std.specs.List.{list_any}
use Rattle.snap_tree.specs.declared.row.NodeId.{NodeId}
use Rattle.snap_tree.specs.declared.row.Row.{Row}
use Rattle.snap_tree.specs.Trees.{empty, rows_of}
use Rattle.snap_tree.specs.Grown.{grown}
use Rattle.snap_tree.specs.Rows.{has_number}
use Rattle.snap_tree.specs.Spots.{Spot}
use Rattle.snap_tree.specs.Well.{AreApart}
use Rattle.snap_tree.specs.Naming.{AreNamed}
use Rattle.snap_tree.proofs.Cuts.{length-rows_of}
use Rattle.snap_tree.proofs.Naming.{regrown}
use Rattle.snap_tree.proofs.Climbing.{apart_append}
use Rattle.snap_edit.proofs.Replacing.{none_in_both}
use Rattle.snap_edit.specs.Trees.{without}
use Rattle.snap_edit.specs.Edits.{is_root}
use Rattle.snap_edit.specs.Places.{size_at, subtree_at, rest_without}
use Rattle.snap_edit.specs.Made.{IsPage}
use Rattle.snap_edit.proofs.Standing.{Stands, still_named}

-- the first and the last of three runs of rows whose numbers differ
pub any_less :
    (n : NodeId) (xs ys zs : List Row)
    → list_any (has_number n) (xs ++ (ys ++ zs)) ≡ false → list_any (has_number n) (xs ++ zs) ≡ false
any_less n xs ys zs h =
    let outer = none_in_both n xs (ys ++ zs) h in
    let inner = none_in_both n ys zs outer.1 in
    list_any-append (has_number n) xs zs ∙ ap (λ b. b || list_any (has_number n) zs) outer.0 ∙ inner.1

pub apart_less : (xs ys zs : List Row) → AreApart (xs ++ (ys ++ zs)) → AreApart (xs ++ zs)
apart_less [] ys zs a = (apart_append ys zs a).1
apart_less (x ∷ xs) ys zs a = (any_less x.id xs ys zs a.0, apart_less xs ys zs a.1)

-- what is left of a page without the subtree at a place, and the subtree
pub record TakenOut (rows : List Row) (n : NodeId) (place : ℕ) (s : Spot) : Type 0 where
  pub rows_are : rows_of (without n (grown rows)) ≡ rest_without rows place
  pub named : AreNamed None (without n (grown rows))
  pub regrown : grown (rest_without rows place) ≡ without n (grown rows)
  pub page : IsPage (rest_without rows place)
  pub subtree : subtree_at rows place ≡ s.row ∷ rows_of s.below

pub taken_out : {rows : List Row} {n : NodeId} {place : ℕ} (h : Stands rows n place) → TakenOut rows n place h.there
taken_out {rows = rows} {n = n} {place = place} h =
    let s = h.there in
    let own = s.row ∷ rows_of s.below in
    let before = h.parts.before in
    let later = h.parts.later in
    let size = size_at rows place in
    let long : length own ≡ size = omega (arith, h.size, length-rows_of s.below) in
    let cut : rows ≡ before ++ (own ++ later) = h.rows_are in
    let first : take place rows ≡ before = ap (take place) cut ∙ take_at before (own ++ later) place h.at in
    let back : drop place rows ≡ own ++ later = ap (drop place) cut ∙ drop_at before (own ++ later) place h.at in
    let taken : subtree_at rows place ≡ own = ap (take size) back ∙ take_at own later size long in
    let last : drop size (drop place rows) ≡ later = ap (drop size) back ∙ drop_at own later size long in
    let rest : rest_without rows place ≡ before ++ later =
    ap (λ rs. rs ++ drop size (drop place rows)) first ∙ ap (λ rs. before ++ rs) last
    in
    let is : rows_of (without n (grown rows)) ≡ rest_without rows place =
    h.parts.new_rows (λ r kids. empty) ∙ sym rest
    in
    let named = still_named (λ r kids. empty) h tt in
    let apart : AreApart (rest_without rows place) =
    subst AreApart (sym rest) (apart_less before own later (subst AreApart cut h.page.apart))
    in
    let again : grown (rest_without rows place) ≡ without n (grown rows) =
    ap grown (sym is) ∙ regrown (without n (grown rows)) named (subst AreApart (sym is) apart)
    in
    record {
      rows_are = is;
      named = named;
      regrown = again;
      page = record { apart = apart; named = subst (AreNamed None) (sym again) named };
      subtree = taken;
    }

-- the node is the root exactly where its row names no parent
pub root_is :
    {rows : List Row} {n : NodeId} {place : ℕ} (h : Stands rows n place)
    → is_root h.there ≡ is_none h.there.row.parent
root_is h = ap is_none (sym h.names.own)
