-- The first node of a number, and the rows of trees in which others stand in its place.
use Rattle.std.proofs.Common.{◌≡◌, ℕ, ◌+◌, ◌==◌, List, [], ◌∷◌, ◌++◌, length, Bool, true, false, ◌||◌, Option, Some, None, unwrap_or, refl, sym, ◌∙◌, ap, subst, arith, inl, inr, ◌⊎◌, append_assoc, add-zero}
use Rattle.std.proofs.lemmas.List.Folds.{list_any-append}
use Rattle.std.proofs.lemmas.Bool.{or_parts}
use Rattle.std.specs.List.{list_any}
use Rattle.snap_tree.specs.declared.row.NodeId.{NodeId}
use Rattle.snap_tree.specs.declared.row.Row.{Row}
use Rattle.snap_tree.specs.Trees.{Trees, empty, tree, rows_of, beside}
use Rattle.snap_tree.specs.Rows.{has_number}
use Rattle.snap_tree.specs.Spots.{Spot, spot_in, number_of}
use Rattle.snap_tree.specs.Places.{place_from}
use Rattle.snap_tree.specs.Well.{AreApart}
use Rattle.snap_tree.specs.Naming.{AreNamed}
use Rattle.snap_tree.proofs.Growth.{rows_of-beside}
use Rattle.snap_tree.proofs.Climbing.{apart_append, later_number, spot_any}
use Rattle.snap_edit.specs.Trees.{replaced}

-- the trees hold this spot of the number, and no other node of it
abbrev pub Finds : NodeId → List Row → Trees → Spot → Type 0
Finds n above empty s = ⊥
Finds n above (tree r kids after) s =
    ((has_number n r ≡ true) × (s ≡ record { row = r; below = kids; above = above }))
    ⊎ (((has_number n r ≡ false) × Finds n (r ∷ above) kids s × (list_any (has_number n) (rows_of after) ≡ false))
    ⊎ ((has_number n r ≡ false) × (list_any (has_number n) (rows_of kids) ≡ false) × Finds n above after s))

none_later :
    (n : NodeId) (xs ys : List Row) (b : Bool)
    → AreApart (xs ++ ys) → list_any (has_number n) xs ≡ true → list_any (has_number n) ys ≡ b
    → list_any (has_number n) ys ≡ false
none_later n xs ys false a h e = e
none_later n xs ys true a h e = let no : true ≡ false = sym h ∙ later_number n xs ys a e in cc

pub finds :
    (n : NodeId) (above : List Row) (t : Trees) (s : Spot)
    → AreApart (rows_of t) → spot_in n above t ≡ Some s → Finds n above t s
finds n above empty s a e = cc
finds n above (tree r kids after) s a e =
    let parts = apart_append (rows_of kids) (rows_of after) a.1 in
    by_number (has_number n r) (spot_in n (r ∷ above) kids) refl refl
    (λ s'. finds n (r ∷ above) kids s' parts.0) (λ s'. finds n above after s' parts.1) e
  where
    by_number :
        (b : Bool) (o : Option Spot)
        → has_number n r ≡ b → spot_in n (r ∷ above) kids ≡ o
        → ((s' : Spot) → spot_in n (r ∷ above) kids ≡ Some s' → Finds n (r ∷ above) kids s')
        → ((s' : Spot) → spot_in n above after ≡ Some s' → Finds n above after s')
        → spot_in n above (tree r kids after) ≡ Some s → Finds n above (tree r kids after) s
    by_number true o ne oe hk ha e =
        let is : Some (record { row = r; below = kids; above = above }) ≡ Some s = rw ne at e in
        inl (ne, sym (ap (λ o. unwrap_or o s) is))
    by_number false (Some s') ne oe hk ha e =
        let is : Some s' ≡ Some s = rw (ne, oe) at e in
        let same : s' ≡ s = ap (λ o. unwrap_or o s) is in
        let there = spot_any n (r ∷ above) kids s' oe in
        let none =
        none_later n (rows_of kids) (rows_of after) (list_any (has_number n) (rows_of after)) a.1 there refl
        in
        inr (inl (ne, subst (Finds n (r ∷ above) kids) same (hk s' oe), none))
    by_number false None ne oe hk ha e =
        let is : spot_in n above after ≡ Some s = rw (ne, oe) at e in
        inr (inr (ne, later_number n (rows_of kids) (rows_of after) a.1 (spot_any n above after s is), ha s is))

-- a number that two lists of rows together don't hold
pub none_in_both :
    (n : NodeId) (xs ys : List Row)
    → list_any (has_number n) (xs ++ ys) ≡ false
    → (list_any (has_number n) xs ≡ false) × (list_any (has_number n) ys ≡ false)
none_in_both n xs ys h =
    or_parts (list_any (has_number n) xs) (list_any (has_number n) ys) (sym (list_any-append (has_number n) xs ys) ∙ h)

-- where the trees don't hold the number, they stay
pub absent :
    (n : NodeId) (f : Row → Trees → Trees) (t : Trees)
    → list_any (has_number n) (rows_of t) ≡ false → replaced n f t ≡ t
absent n f empty h = refl
absent n f (tree r kids after) h =
    let first = or_parts (has_number n r) (list_any (has_number n) (rows_of kids ++ rows_of after)) h in
    let rest = none_in_both n (rows_of kids) (rows_of after) first.1 in
    let below = absent n f kids rest.0 in
    rw first.0 (ap (λ k. tree r k (replaced n f after)) below ∙ ap (tree r kids) (absent n f after rest.1))

-- ---- the rows before a node's subtree, and those after it

pub record Parts (n : NodeId) (t : Trees) (s : Spot) : Type 0 where
  pub before : List Row
  pub later : List Row
  pub rows_are : rows_of t ≡ before ++ s.row ∷ (rows_of s.below ++ later)
  pub unlike : list_any (has_number n) before ≡ false
  pub number : has_number n s.row ≡ true
  pub new_rows : (f : Row → Trees → Trees) → rows_of (replaced n f t) ≡ before ++ (rows_of (f s.row s.below) ++ later)

parts_here :
    (n : NodeId) (r : Row) (kids after : Trees) (above : List Row)
    → has_number n r ≡ true → Parts n (tree r kids after) (record { row = r; below = kids; above = above })
parts_here n r kids after above e = record {
  before = [];
  later = rows_of after;
  rows_are = refl;
  unlike = refl;
  number = e;
  new_rows = λ f. rw e (rows_of-beside (f r kids) after);
}

-- four runs of rows, one after another
pub regrouped : (xs ys zs ws : List Row) → (xs ++ (ys ++ zs)) ++ ws ≡ xs ++ (ys ++ (zs ++ ws))
regrouped xs ys zs ws = append_assoc xs (ys ++ zs) ws ∙ ap (λ rs. xs ++ rs) (append_assoc ys zs ws)

parts_below :
    (n : NodeId) (r : Row) (kids after : Trees) (s : Spot)
    → has_number n r ≡ false → list_any (has_number n) (rows_of after) ≡ false → Parts n kids s
    → Parts n (tree r kids after) s
parts_below n r kids after s e none p = record {
  before = r ∷ p.before;
  later = p.later ++ rows_of after;
  rows_are =
      ap (λ rs. r ∷ (rs ++ rows_of after)) p.rows_are
      ∙ ap (λ rs. r ∷ rs) (regrouped p.before (s.row ∷ rows_of s.below) p.later (rows_of after));
  unlike = ap (λ b. b || list_any (has_number n) p.before) e ∙ p.unlike;
  number = p.number;
  new_rows = λ f.
      rw e (ap (λ t. r ∷ (rows_of (replaced n f kids) ++ rows_of t)) (absent n f after none)
      ∙ ap (λ rs. r ∷ (rs ++ rows_of after)) (p.new_rows f)
      ∙ ap (λ rs. r ∷ rs) (regrouped p.before (rows_of (f s.row s.below)) p.later (rows_of after)));
}

parts_after :
    (n : NodeId) (r : Row) (kids after : Trees) (s : Spot)
    → has_number n r ≡ false → list_any (has_number n) (rows_of kids) ≡ false → Parts n after s
    → Parts n (tree r kids after) s
parts_after n r kids after s e none p = record {
  before = r ∷ (rows_of kids ++ p.before);
  later = p.later;
  rows_are =
      ap (λ rs. r ∷ (rows_of kids ++ rs)) p.rows_are
      ∙ ap (λ rs. r ∷ rs) (sym (append_assoc (rows_of kids) p.before (s.row ∷ (rows_of s.below ++ p.later))));
  unlike =
      ap (λ b. b || list_any (has_number n) (rows_of kids ++ p.before)) e ∙ list_any-append (has_number n) (rows_of kids) p.before
      ∙ ap (λ b. b || list_any (has_number n) p.before) none ∙ p.unlike;
  number = p.number;
  new_rows = λ f.
      rw e (ap (λ t. r ∷ (rows_of t ++ rows_of (replaced n f after))) (absent n f kids none)
      ∙ ap (λ rs. r ∷ (rows_of kids ++ rs)) (p.new_rows f)
      ∙ ap (λ rs. r ∷ rs) (sym (append_assoc (rows_of kids) p.before (rows_of (f s.row s.below) ++ p.later))));
}

pub parts : (n : NodeId) (above : List Row) (t : Trees) (s : Spot) → Finds n above t s → Parts n t s
parts n above empty s h = absurd h
parts n above (tree r kids after) s (inl h) =
    subst (Parts n (tree r kids after)) (sym h.1) (parts_here n r kids after above h.0)
parts n above (tree r kids after) s (inr (inl h)) =
    parts_below n r kids after s h.0 h.2 (parts n (r ∷ above) kids s h.1)
parts n above (tree r kids after) s (inr (inr h)) = parts_after n r kids after s h.0 h.1 (parts n above after s h.2)

-- ---- names

pub named_beside :
    (parent : Option NodeId) (a b : Trees)
    → AreNamed parent a → AreNamed parent b → AreNamed parent (beside a b)
named_beside parent empty b h k = k
named_beside parent (tree r kids after) b h k = (h.0, (h.1.0, named_beside parent after b h.1.1 k))

-- trees whose nodes name the ones above stay so, where what is put in does
pub replaced_named :
    (n : NodeId) (f : Row → Trees → Trees) (above : List Row) (t : Trees) (s : Spot)
    → Finds n above t s → AreNamed (number_of above) t → AreNamed (number_of s.above) (f s.row s.below)
    → AreNamed (number_of above) (replaced n f t)
replaced_named n f above empty s h m k = absurd h
replaced_named n f above (tree r kids after) s (inl h) m k =
    let e : has_number n r ≡ true = h.0 in
    let new : AreNamed (number_of above) (f r kids) =
    subst (λ (s : Spot). AreNamed (number_of s.above) (f s.row s.below)) h.1 k
    in
    rw e (named_beside (number_of above) (f r kids) after new m.1.1)
replaced_named n f above (tree r kids after) s (inr (inl h)) m k =
    let e : has_number n r ≡ false = h.0 in
    let rest : AreNamed (number_of above) (replaced n f after) =
    subst (AreNamed (number_of above)) (sym (absent n f after h.2)) m.1.1
    in
    rw e (m.0, (replaced_named n f (r ∷ above) kids s h.1 m.1.0 k, rest))
replaced_named n f above (tree r kids after) s (inr (inr h)) m k =
    let e : has_number n r ≡ false = h.0 in
    let rest : AreNamed (Some r.id) (replaced n f kids) =
    subst (AreNamed (Some r.id)) (sym (absent n f kids h.1)) m.1.0
    in
    rw e (m.0, (rest, replaced_named n f above after s h.2 m.1.1 k))

-- a node names the one above it, and so do those below it
pub record NamesIn (s : Spot) : Type 0 where
  pub own : s.row.parent ≡ number_of s.above
  pub below : AreNamed (Some s.row.id) s.below

pub spot_named :
    (n : NodeId) (above : List Row) (t : Trees) (s : Spot)
    → Finds n above t s → AreNamed (number_of above) t → NamesIn s
spot_named n above empty s h m = absurd h
spot_named n above (tree r kids after) s (inl h) m = subst NamesIn (sym h.1) (record { own = m.0; below = m.1.0 })
spot_named n above (tree r kids after) s (inr (inl h)) m = spot_named n (r ∷ above) kids s h.1 m.1.0
spot_named n above (tree r kids after) s (inr (inr h)) m = spot_named n above after s h.2 m.1.1

-- ---- places

pub place_after :
    (from : ℕ) (n : NodeId) (before : List Row) (r : Row) (rest : List Row)
    → list_any (has_number n) before ≡ false → has_number n r ≡ true
    → place_from from n.0 (before ++ r ∷ rest) ≡ Some (from + length before)
place_after from n [] r rest h e = rw e (ap Some (sym (add-zero from)))
place_after from n (x ∷ before) r rest h e =
    let both = or_parts (has_number n x) (list_any (has_number n) before) h in
    let first : (x.id.0 == n.0) ≡ false = both.0 in
    let sums : from + 1 + length before ≡ from + length (x ∷ before) = omega arith in
    rw first (place_after (from + 1) n before r rest both.1 e ∙ ap Some sums)
