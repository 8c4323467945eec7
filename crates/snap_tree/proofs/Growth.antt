-- Rows and the trees that they make.
use Rattle.std.proofs.Common.{◌≡◌, List, [], ◌∷◌, ◌++◌, Bool, true, false, Option, Some, None, unwrap_or, option_map, if◌then◌else◌, refl, sym, ◌∙◌, ap, append_assoc}
use Rattle.std.specs.Option.{option_or}
use Rattle.snap_tree.specs.declared.row.Row.{Row}
use Rattle.snap_tree.specs.Trees.{Trees, empty, tree, rows_of, beside}
use Rattle.snap_tree.specs.Grown.{names, taken, left, grown, under, planted}

pub rows_of-beside : (a b : Trees) → rows_of (beside a b) ≡ rows_of a ++ rows_of b
rows_of-beside empty b = refl
rows_of-beside (tree r kids after) b =
    ap (λ (rows : List Row). r ∷ (rows_of kids ++ rows)) (rows_of-beside after b) ∙ ap (λ (rows : List Row). r ∷ rows) (sym (append_assoc (rows_of kids) (rows_of after) (rows_of b)))

pub beside-empty : (t : Trees) → beside t empty ≡ t
beside-empty empty = refl
beside-empty (tree r kids after) = ap (tree r kids) (beside-empty after)

pub beside_assoc : (a b c : Trees) → beside (beside a b) c ≡ beside a (beside b c)
beside_assoc empty b c = refl
beside_assoc (tree r kids after) b c = ap (tree r kids) (beside_assoc after b c)

-- what a row takes, and what it leaves, are all there is
taken-beside-left_by : (r x : Row) (kids after : Trees) (b : Bool) → names x r ≡ b → beside (taken r after) (left r after) ≡ after → beside (taken r (tree x kids after)) (left r (tree x kids after)) ≡ tree x kids after
taken-beside-left_by r x kids after true e h = rw e (ap (tree x kids) h)
taken-beside-left_by r x kids after false e h = rw e refl

pub taken-beside-left : (r : Row) (t : Trees) → beside (taken r t) (left r t) ≡ t
taken-beside-left r empty = refl
taken-beside-left r (tree x kids after) = taken-beside-left_by r x kids after (names x r) refl (taken-beside-left r after)

pub rows_of_grown : (rows : List Row) → rows_of (grown rows) ≡ rows
rows_of_grown [] = refl
rows_of_grown (r ∷ rows) =
    ap (λ (rs : List Row). r ∷ rs) (sym (rows_of-beside (taken r (grown rows)) (left r (grown rows))) ∙ ap rows_of (taken-beside-left r (grown rows)) ∙ rows_of_grown rows)

-- ---- planting

abbrev takes : Row → Trees → Trees
takes r t = tree r (taken r t) (left r t)

abbrev leaf : Row → Trees
leaf r = tree r empty empty

unwrap_or-map : (x : Row) (k d : Trees) (o : Option Trees) → unwrap_or (option_map (tree x k) o) (tree x k d) ≡ tree x k (unwrap_or o d)
unwrap_or-map x k d None = refl
unwrap_or-map x k d (Some t) = refl

planted-more : (r x y : Row) (k b a : Trees) → planted r (tree x k (tree y b a)) ≡ tree x k (planted r (tree y b a))
planted-more r x y k b a = unwrap_or-map x k (beside (tree y b a) (leaf r)) (under r (tree y b a))

-- the first root stays
pub record SameRoot (x : Row) (t : Trees) : Type 0 where
  pub kids : Trees
  pub after : Trees
  pub is : t ≡ tree x kids after

same_root : (r x : Row) (k s : Trees) → SameRoot x (planted r (tree x k s))
same_root r x k empty = by_open (under r k) (names r x)
  where
    by_open : (o : Option Trees) (b : Bool) → SameRoot x (unwrap_or (option_or (option_map (λ k'. tree x k' empty) o) (if b then Some (tree x (beside k (leaf r)) empty) else None)) (tree x k (leaf r)))
    by_open (Some t) b = record { kids = t; after = empty; is = refl }
    by_open None true = record { kids = beside k (leaf r); after = empty; is = refl }
    by_open None false = record { kids = k; after = leaf r; is = refl }
same_root r x k (tree y b a) = record { kids = k; after = planted r (tree y b a); is = planted-more r x y k b a }

-- a row that the first root doesn't name takes nothing
takes_none : (x y : Row) (t : Trees) → names y x ≡ false → SameRoot y t → takes x t ≡ tree x empty t
takes_none x y t e same = rw same.is (rw e refl)

all_left : (x y : Row) (k s : Trees) → names y x ≡ false → takes x (tree y k s) ≡ tree x empty (tree y k s)
all_left x y k s e = rw e refl

planted-takes_none : (r x y : Row) (k s : Trees) → names y x ≡ false → takes x (planted r (tree y k s)) ≡ planted r (takes x (tree y k s))
planted-takes_none r x y k s e =
    takes_none x y (planted r (tree y k s)) e (same_root r y k s) ∙ sym (ap (planted r) (all_left x y k s e) ∙ planted-more r x y empty k s)

takes_leaf : (x r : Row) (b : Bool) → names r x ≡ b → takes x (leaf r) ≡ planted r (leaf x)
takes_leaf x r true e = rw e refl
takes_leaf x r false e = rw e refl

-- The row x that takes what it can of the trees, and then one more row: the same as the other way
-- round. Here x takes y, the first root.
more_taken : (r x y : Row) (k s : Trees) → names y x ≡ true → takes x (tree y k s) ≡ tree x (tree y k (taken x s)) (left x s)
more_taken r x y k s e = rw e refl

-- where the last root is taken, what goes under it goes with it
last_taken : (r x y : Row) (k : Trees) (o : Option Trees) (b c : Bool) → under r k ≡ o → names r y ≡ b → names r x ≡ c → names y x ≡ true → takes x (planted r (tree y k empty)) ≡ planted r (takes x (tree y k empty))
last_taken r x y k (Some t) b c o n m e = rw (o, e) (rw o refl)
last_taken r x y k None true c o n m e = rw (o, n, e) (rw (o, n) refl)
last_taken r x y k None false true o n m e = rw (o, n, e, m) (rw (o, n) refl)
last_taken r x y k None false false o n m e = rw (o, n, e, m) (rw (o, n) refl)

-- one more child in front of the others, below the first root
abbrev front : Row → Trees → Trees → Trees
front y k empty = empty
front y k (tree x kids after) = tree x (tree y k kids) after

under_front : (r x y z : Row) (k b a : Trees) (o : Option Trees) (c : Bool) → under r (tree z b a) ≡ o → names r x ≡ c → planted r (tree x (tree y k (tree z b a)) empty) ≡ front y k (planted r (tree x (tree z b a) empty))
under_front r x y z k b a (Some t) c o n = rw o refl
under_front r x y z k b a None true o n = rw (o, n) refl
under_front r x y z k b a None false o n = rw (o, n) refl

planted-front : (r x y z : Row) (k b a kids after : Trees) → beside kids after ≡ tree z b a → planted r (tree x (tree y k kids) after) ≡ front y k (planted r (tree x kids after))
planted-front r x y z k b a empty empty h = cc
planted-front r x y z k b a (tree w c d) empty h = under_front r x y w k c d (under r (tree w c d)) (names r x) refl refl
planted-front r x y z k b a kids (tree w c d) h =
    planted-more r x w (tree y k kids) c d ∙ sym (ap (front y k) (planted-more r x w kids c d))

more_takes : (r x y z : Row) (k b a : Trees) → names y x ≡ true → takes x (planted r (tree z b a)) ≡ planted r (takes x (tree z b a)) → takes x (planted r (tree y k (tree z b a))) ≡ planted r (takes x (tree y k (tree z b a)))
more_takes r x y z k b a e h =
    ap (takes x) (planted-more r y z k b a) ∙ more_taken r x y k (planted r (tree z b a)) e ∙ ap (front y k) h
    ∙ sym (ap (planted r) (more_taken r x y k (tree z b a) e) ∙ planted-front r x y z k b a (taken x (tree z b a)) (left x (tree z b a)) (taken-beside-left x (tree z b a)))

takes-planted_by : (r x y : Row) (k s : Trees) (b : Bool) → names y x ≡ b → takes x (planted r s) ≡ planted r (takes x s) → takes x (planted r (tree y k s)) ≡ planted r (takes x (tree y k s))
takes-planted_by r x y k s false e h = planted-takes_none r x y k s e
takes-planted_by r x y k empty true e h = last_taken r x y k (under r k) (names r y) (names r x) refl refl refl e
takes-planted_by r x y k (tree z b a) true e h = more_takes r x y z k b a e h

takes-planted : (r x : Row) (t : Trees) → takes x (planted r t) ≡ planted r (takes x t)
takes-planted r x empty = takes_leaf x r (names r x) refl
takes-planted r x (tree y k s) = takes-planted_by r x y k s (names y x) refl (takes-planted r x s)

-- growing from the last row to the first puts each row under its parent
pub grown_push : (rows : List Row) (r : Row) → grown (rows ++ r ∷ []) ≡ planted r (grown rows)
grown_push [] r = refl
grown_push (x ∷ rows) r = ap (takes x) (grown_push rows r) ∙ takes-planted r x (grown rows)

pub rows_of-planted : (rows : List Row) (r : Row) → rows_of (planted r (grown rows)) ≡ rows ++ r ∷ []
rows_of-planted rows r = ap rows_of (sym (grown_push rows r)) ∙ rows_of_grown (rows ++ r ∷ [])
