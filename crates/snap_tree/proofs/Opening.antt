-- The open nodes of rows that grow.
use Rattle.std.proofs.Common.{◌≡◌, List, [], ◌∷◌, ◌++◌, map, reverse, Bool, true, false, Option, Some, None, if◌then◌else◌, option_map, refl, ◌∙◌, ap, MatchOption}
use Rattle.std.proofs.lemmas.List.{reverse-append}
use Rattle.std.specs.Option.{option_or}
use Rattle.snap_tree.specs.declared.row.Row.{Row}
use Rattle.snap_tree.specs.declared.build.Opened.{Opened}
use Rattle.snap_tree.specs.Trees.{Trees, empty, tree, beside}
use Rattle.snap_tree.specs.Grown.{names, under, is_number}
use Rattle.snap_tree.specs.Faults.{open_rows, from_parent}
use Rattle.snap_tree.specs.Opened.{opened, from_opened}

-- the stack has its top at the end
from_opened-top : (r : Row) (xs : List Opened) (x : Opened) (b : Bool) → is_number r.parent x.id ≡ b → from_opened r (reverse (xs ++ x ∷ [])) ≡ (if b then reverse (xs ++ x ∷ []) else from_opened r (reverse xs))
from_opened-top r xs x true e = rw reverse-append (rw e refl)
from_opened-top r xs x false e = rw reverse-append (rw e refl)

pub closed_none : (r : Row) → from_opened r (reverse []) ≡ []
closed_none r = refl

-- seen as what the stack keeps of each node
pub from_opened-map : (r : Row) (xs : List Row) → from_opened r (map opened xs) ≡ map opened (from_parent r xs)
from_opened-map r [] = refl
from_opened-map r (x ∷ xs) = by_name (names r x) refl (from_opened-map r xs)
  where
    by_name : (b : Bool) → names r x ≡ b → from_opened r (map opened xs) ≡ map opened (from_parent r xs) → from_opened r (map opened (x ∷ xs)) ≡ map opened (from_parent r (x ∷ xs))
    by_name true e h = rw e refl
    by_name false e h = rw e h

-- ---- the open nodes once a row is planted

pub from_parent-found : (r z : Row) (xs ys zs : List Row) → from_parent r xs ≡ z ∷ zs → from_parent r (xs ++ ys) ≡ (z ∷ zs) ++ ys
from_parent-found r z [] ys zs h = cc
from_parent-found r z (x ∷ xs) ys zs h = by_name (names r x) refl h (from_parent-found r z xs ys zs)
  where
    by_name : (b : Bool) → names r x ≡ b → from_parent r (x ∷ xs) ≡ z ∷ zs → (from_parent r xs ≡ z ∷ zs → from_parent r (xs ++ ys) ≡ (z ∷ zs) ++ ys) → from_parent r (x ∷ (xs ++ ys)) ≡ (z ∷ zs) ++ ys
    by_name true e h k = let h' : x ∷ xs ≡ z ∷ zs = rw e at h in rw e (ap (λ rows. rows ++ ys) h')
    by_name false e h k = let h' : from_parent r xs ≡ z ∷ zs = rw e at h in rw e (k h')

pub from_parent-none : (r : Row) (xs ys : List Row) → from_parent r xs ≡ [] → from_parent r (xs ++ ys) ≡ from_parent r ys
from_parent-none r [] ys h = refl
from_parent-none r (x ∷ xs) ys h = by_name (names r x) refl h (from_parent-none r xs ys)
  where
    by_name : (b : Bool) → names r x ≡ b → from_parent r (x ∷ xs) ≡ [] → (from_parent r xs ≡ [] → from_parent r (xs ++ ys) ≡ from_parent r ys) → from_parent r (x ∷ (xs ++ ys)) ≡ from_parent r ys
    by_name true e h k = let h' : x ∷ xs ≡ [] = rw e at h in cc
    by_name false e h k = let h' : from_parent r xs ≡ [] = rw e at h in rw e (k h')

open_rows-beside : (t : Trees) (r : Row) → open_rows (beside t (tree r empty empty)) ≡ r ∷ []
open_rows-beside empty r = refl
open_rows-beside (tree x kids empty) r = refl
open_rows-beside (tree x kids (tree y below after)) r = open_rows-beside (tree y below after) r

-- the row went under its parent, which is open
pub record Went (r : Row) (t new : Trees) : Type 0 where
  pub parent : Row
  pub above : List Row
  pub found : from_parent r (open_rows t) ≡ parent ∷ above
  pub opens : open_rows new ≡ r ∷ parent ∷ above

abbrev Opens : Row → Trees → Option Trees → Type 0
Opens r t new = MatchOption new (from_parent r (open_rows t) ≡ []) (Went r t)

below_last : (r x : Row) (kids : Trees) (o : Option Trees) (b : Bool) → names r x ≡ b → Opens r kids o
    → Opens r (tree x kids empty) (option_or (option_map (λ k. tree x k empty) o) (if b then Some (tree x (beside kids (tree r empty empty)) empty) else None))
below_last r x kids (Some k) b e h = record {
  parent = h.parent;
  above = h.above ++ x ∷ [];
  found = from_parent-found r h.parent (open_rows kids) (x ∷ []) h.above h.found;
  opens = ap (λ rows. rows ++ x ∷ []) h.opens;
}
below_last r x kids None true e h = record {
  parent = x;
  above = [];
  found = from_parent-none r (open_rows kids) (x ∷ []) h ∙ rw e refl;
  opens = ap (λ rows. rows ++ x ∷ []) (open_rows-beside kids r);
}
below_last r x kids None false e h = from_parent-none r (open_rows kids) (x ∷ []) h ∙ rw e refl

after_first : (r x : Row) (kids s : Trees) (o : Option Trees) → (open_rows (tree x kids s) ≡ open_rows s) → Opens r s o → Opens r (tree x kids s) (option_map (tree x kids) o)
after_first r x kids s None e h = ap (from_parent r) e ∙ h
after_first r x kids s (Some empty) e h = let no : [] ≡ r ∷ h.parent ∷ h.above = h.opens in cc
after_first r x kids s (Some (tree y k a)) e h = record {
  parent = h.parent;
  above = h.above;
  found = ap (from_parent r) e ∙ h.found;
  opens = h.opens;
}

pub under_opens : (r : Row) (t : Trees) → Opens r t (under r t)
under_opens r empty = refl
under_opens r (tree x kids empty) = below_last r x kids (under r kids) (names r x) refl (under_opens r kids)
under_opens r (tree x kids (tree y below after)) =
    after_first r x kids (tree y below after) (under r (tree y below after)) refl (under_opens r (tree y below after))
