-- The ancestors of a node are the nodes that its parent leads to.
use Rattle.std.proofs.Common.{◌≡◌, ◌==◌, List, [], ◌∷◌, ◌++◌, Bool, true, false, ◌||◌, Option, Some, None, IfSome, option_and_then, refl, sym, ◌∙◌, ap, subst, arith, inl, inr, ◌⊎◌, Bor}
use Rattle.std.proofs.lemmas.List.Folds.{list_any-append}
use Rattle.std.proofs.lemmas.Bool.{or_parts}
use Rattle.std.proofs.lemmas.Bool.Decides.{nat_tests}
use Rattle.std.specs.Option.{option_map, option_map_or, option_copied}
use Rattle.std.specs.List.{list_any, find}
use Rattle.snap_tree.specs.declared.row.NodeId.{NodeId}
use Rattle.snap_tree.specs.declared.row.Row.{Row}
use Rattle.snap_tree.specs.Trees.{Trees, empty, tree, rows_of}
use Rattle.snap_tree.specs.Rows.{has_number}
use Rattle.snap_tree.specs.Lookups.{node}
use Rattle.snap_tree.specs.Spots.{Spot, spot_in, spot, number_of, IsSpotOf, ClimbsBy}
use Rattle.snap_tree.specs.SpotLaws.{IsAbsent, ClimbsAbove, WalksOver, WalksAbove}
use Rattle.snap_tree.specs.Well.{AreApart}
use Rattle.snap_tree.proofs.Spotting.{spot_row}

-- ---- numbers that are there, and that are not

pub apart_append : (xs ys : List Row) → AreApart (xs ++ ys) → AreApart xs × AreApart ys
apart_append [] ys h = (tt, h)
apart_append (x ∷ xs) ys h =
    let rest = apart_append xs ys h.1 in
    let both = or_parts _ _ (sym (list_any-append (has_number x.id) xs ys) ∙ h.0) in
    ((both.0, rest.0), rest.1)

pub found_any : (n : NodeId) (rows : List Row) (x : Row) → find (has_number n) rows ≡ Some x → list_any (has_number n) rows ≡ true
found_any n [] x h = cc
found_any n (r ∷ rows) x h = by_number (has_number n r) refl h (found_any n rows x)
  where
    by_number : (b : Bool) → has_number n r ≡ b → find (has_number n) (r ∷ rows) ≡ Some x → (find (has_number n) rows ≡ Some x → list_any (has_number n) rows ≡ true) → list_any (has_number n) (r ∷ rows) ≡ true
    by_number true e h k = rw e refl
    by_number false e h k = let h' : find (has_number n) rows ≡ Some x = rw e at h in rw e (k h')

-- a number of the later rows isn't one of the earlier ones
pub later_number : (n : NodeId) (xs ys : List Row) → AreApart (xs ++ ys) → list_any (has_number n) ys ≡ true → list_any (has_number n) xs ≡ false
later_number n [] ys a h = refl
later_number n (x ∷ xs) ys a h = by_number (has_number n x) refl (later_number n xs ys a.1 h)
  where
    same_any : (rows : List Row) → has_number n x ≡ true → list_any (has_number x.id) rows ≡ list_any (has_number n) rows
    same_any rows e = let same : x.id.0 ≡ n.0 = grind (arith, nat_tests) in ap (λ k. list_any (λ r. r.id.0 == k) rows) same

    by_number : (b : Bool) → has_number n x ≡ b → list_any (has_number n) xs ≡ false → list_any (has_number n) (x ∷ xs) ≡ false
    by_number true e k =
        let clash : list_any (has_number x.id) ys ≡ false = (or_parts (list_any (has_number x.id) xs) (list_any (has_number x.id) ys) (sym (list_any-append (has_number x.id) xs ys) ∙ a.0)).1 in
        let clashes : true ≡ false = sym h ∙ sym (same_any ys e) ∙ clash in cc
    by_number false e k = rw e k

pub spot_any : (n : NodeId) (above : List Row) (t : Trees) (s : Spot) → spot_in n above t ≡ Some s → list_any (has_number n) (rows_of t) ≡ true
spot_any n above t s e = found_any n (rows_of t) s.row (sym (spot_row n above t) ∙ ap (option_map (λ s. s.row)) e)

pub none_any : (n : NodeId) (above : List Row) (t : Trees) → list_any (has_number n) (rows_of t) ≡ false → spot_in n above t ≡ None
none_any n above t h = by_spot (spot_in n above t) refl
  where
    by_spot : (o : Option Spot) → spot_in n above t ≡ o → spot_in n above t ≡ None
    by_spot None e = e
    by_spot (Some s) e = let no : true ≡ false = sym (spot_any n above t s e) ∙ h in cc

pub copied_none : (o : Option (Bor Row)) → option_copied o ≡ None → o ≡ None
copied_none None h = refl
copied_none (Some r) h = cc

pub absent_row : (t : Trees) (n : NodeId) → IsAbsent t n → node t n ≡ None
absent_row t n h = sym (spot_row n [] t) ∙ ap (option_map (λ s. s.row)) (none_any n [] t h)

-- a node names what its row does
pub named_row : (o : Option Spot) (row : Option Row) → row ≡ option_map (λ s. s.row) o → IfSome o (λ s. s.row.parent ≡ option_and_then (λ (r : Row). r.parent) row)
named_row None row e = tt
named_row (Some s) row e = ap (option_and_then (λ (r : Row). r.parent)) (sym e)

-- ---- climbing

-- the first node above is the root's parent, or stands in the trees with the others above it
abbrev Climbs : List Row → Trees → List Row → Type 0
Climbs above t [] = [] ≡ above
Climbs above t (p ∷ rest) = ((p ∷ rest) ≡ above) ⊎ IsSpotOf p rest (spot_in p.id above t)

pub same_id : (p : Row) → has_number p.id p ≡ true
same_id p = grind (arith, nat_tests)

here : (p : Row) (kids after : Trees) (above : List Row) → IsSpotOf p above (spot_in p.id above (tree p kids after))
here p kids after above = let e = same_id p in rw e (refl, refl)

in_kids : (p r : Row) (rest above : List Row) (kids after : Trees) (o : Option Spot) → spot_in p.id (r ∷ above) kids ≡ o → has_number p.id r ≡ false → IsSpotOf p rest o → IsSpotOf p rest (spot_in p.id above (tree r kids after))
in_kids p r rest above kids after None e apart h = absurd h
in_kids p r rest above kids after (Some s) e apart h = rw (apart, e) h

in_after : (p r : Row) (rest above : List Row) (kids after : Trees) → has_number p.id r ≡ false → spot_in p.id (r ∷ above) kids ≡ None → IsSpotOf p rest (spot_in p.id above after) → IsSpotOf p rest (spot_in p.id above (tree r kids after))
in_after p r rest above kids after apart none h = rw (apart, none) h

is_spot_any : (p : Row) (rest above : List Row) (t : Trees) (o : Option Spot) → spot_in p.id above t ≡ o → IsSpotOf p rest o → list_any (has_number p.id) (rows_of t) ≡ true
is_spot_any p rest above t None e h = absurd h
is_spot_any p rest above t (Some s) e h = spot_any p.id above t s e

pub not_root : (n : NodeId) (r : Row) (rows : List Row) → list_any (has_number r.id) rows ≡ false → list_any (has_number n) rows ≡ true → has_number n r ≡ false
not_root n r rows a h = by_number (has_number n r) refl
  where
    by_number : (b : Bool) → has_number n r ≡ b → has_number n r ≡ false
    by_number false e = e
    by_number true e =
        let same : r.id.0 ≡ n.0 = grind (arith, nat_tests) in
        let no : true ≡ false = sym h ∙ sym (ap (λ k. list_any (λ x. x.id.0 == k) rows) same) ∙ a in cc

any_left : (n : NodeId) (xs ys : List Row) → list_any (has_number n) xs ≡ true → list_any (has_number n) (xs ++ ys) ≡ true
any_left n xs ys h = list_any-append (has_number n) xs ys ∙ ap (λ b. b || list_any (has_number n) ys) h

any_right : (n : NodeId) (xs ys : List Row) → list_any (has_number n) xs ≡ false → list_any (has_number n) ys ≡ true → list_any (has_number n) (xs ++ ys) ≡ true
any_right n xs ys h k = list_any-append (has_number n) xs ys ∙ ap (λ b. b || list_any (has_number n) ys) h ∙ k

climb_kids : (r : Row) (kids after : Trees) (above up : List Row) → AreApart (r ∷ (rows_of kids ++ rows_of after)) → Climbs (r ∷ above) kids up → Climbs above (tree r kids after) up
climb_kids r kids after above [] a h = cc
climb_kids r kids after above (p ∷ rest) a (inl e) =
    let same : r ≡ p = cc in
    let up : above ≡ rest = cc in
    inr (subst (λ q. IsSpotOf q rest (spot_in q.id above (tree r kids after))) same (subst (λ xs. IsSpotOf r xs (spot_in r.id above (tree r kids after))) up (here r kids after above)))
climb_kids r kids after above (p ∷ rest) a (inr h) =
    let there = is_spot_any p rest (r ∷ above) kids (spot_in p.id (r ∷ above) kids) refl h in
    inr (in_kids p r rest above kids after (spot_in p.id (r ∷ above) kids) refl (not_root p.id r (rows_of kids ++ rows_of after) a.0 (any_left p.id (rows_of kids) (rows_of after) there)) h)

climb_after : (r : Row) (kids after : Trees) (above up : List Row) → AreApart (r ∷ (rows_of kids ++ rows_of after)) → Climbs above after up → Climbs above (tree r kids after) up
climb_after r kids after above [] a h = h
climb_after r kids after above (p ∷ rest) a (inl e) = inl e
climb_after r kids after above (p ∷ rest) a (inr h) =
    let there = is_spot_any p rest above after (spot_in p.id above after) refl h in
    let not_kids = later_number p.id (rows_of kids) (rows_of after) a.1 there in
    inr (in_after p r rest above kids after (not_root p.id r (rows_of kids ++ rows_of after) a.0 (any_right p.id (rows_of kids) (rows_of after) not_kids there)) (none_any p.id (r ∷ above) kids not_kids) h)

climb_root : (above : List Row) (t : Trees) → Climbs above t above
climb_root [] t = refl
climb_root (p ∷ rest) t = inl refl

climbs_in : (n : NodeId) (above : List Row) (t : Trees) (s : Spot) → AreApart (rows_of t) → spot_in n above t ≡ Some s → Climbs above t s.above
climbs_in n above empty s a e = cc
climbs_in n above (tree r kids after) s a e =
    let parts = apart_append (rows_of kids) (rows_of after) a.1 in
    by_number (has_number n r) (spot_in n (r ∷ above) kids) refl refl (λ s'. climbs_in n (r ∷ above) kids s' parts.0) (λ s'. climbs_in n above after s' parts.1) e
  where
    by_number : (b : Bool) (o : Option Spot) → has_number n r ≡ b → spot_in n (r ∷ above) kids ≡ o → ((s' : Spot) → spot_in n (r ∷ above) kids ≡ Some s' → Climbs (r ∷ above) kids s'.above) → ((s' : Spot) → spot_in n above after ≡ Some s' → Climbs above after s'.above) → spot_in n above (tree r kids after) ≡ Some s → Climbs above (tree r kids after) s.above
    by_number true o ne oe hk ha e = let is : Some (record { row = r; below = kids; above = above }) ≡ Some s = rw ne at e in let up : above ≡ s.above = ap (λ o. option_map_or (λ (x : Spot). x.above) o above) is in subst (Climbs above (tree r kids after)) up (climb_root above (tree r kids after))
    by_number false (Some s') ne oe hk ha e = let is : Some s' ≡ Some s = rw (ne, oe) at e in let same : s'.above ≡ s.above = ap (λ o. option_map_or (λ (x : Spot). x.above) o above) is in subst (Climbs above (tree r kids after)) same (climb_kids r kids after above s'.above a (hk s' oe))
    by_number false None ne oe hk ha e = let is : spot_in n above after ≡ Some s = rw (ne, oe) at e in climb_after r kids after above s.above a (ha s is)

climbs_top : (t : Trees) (up : List Row) → Climbs [] t up → ClimbsBy up t
climbs_top t [] h = tt
climbs_top t (p ∷ rest) (inl e) = cc
climbs_top t (p ∷ rest) (inr h) = h

-- climbing by the parent's number goes over the list above
pub climbs : (t : Trees) (n : NodeId) (s : Spot) → AreApart (rows_of t) → spot t n ≡ Some s → ClimbsBy s.above t
climbs t n s a e = climbs_top t s.above (climbs_in n [] t s a e)

pub climbs_above : (t : Trees) (n : NodeId) → AreApart (rows_of t) → ClimbsAbove t n
climbs_above t n a = by_spot (spot t n) refl
  where
    by_spot : (o : Option Spot) → spot t n ≡ o → IfSome o (λ s. ClimbsBy s.above t)
    by_spot None e = tt
    by_spot (Some s) e = climbs t n s a e

-- ---- walking on by the parent

walks_over : (t : Trees) (n : NodeId) (above : List Row) (s : Spot) → AreApart (rows_of t) → spot t n ≡ Some s → s.above ≡ above → WalksOver t n above
walks_over t n [] s a e h = ap (option_and_then (λ (x : Spot). number_of x.above)) e ∙ ap number_of h
walks_over t n (p ∷ above) s a e h =
    (ap (option_and_then (λ (x : Spot). number_of x.above)) e ∙ ap number_of h, from_next (spot t p.id) refl (subst (λ up. ClimbsBy up t) h (climbs t n s a e)) (λ s'. walks_over t p.id above s' a))
  where
    from_next : (o : Option Spot) → spot t p.id ≡ o → IsSpotOf p above o → ((s' : Spot) → spot t p.id ≡ Some s' → s'.above ≡ above → WalksOver t p.id above) → WalksOver t p.id above
    from_next None e' h' k = absurd h'
    from_next (Some s') e' h' k = k s' e' h'.1

pub walks_above : (t : Trees) (n : NodeId) → AreApart (rows_of t) → WalksAbove t n
walks_above t n a = by_spot (spot t n) refl
  where
    by_spot : (o : Option Spot) → spot t n ≡ o → IfSome o (λ s. WalksOver t n s.above)
    by_spot None e = tt
    by_spot (Some s) e = walks_over t n s.above s a e refl
