-- Parts of trees that were grown are grown: what stands below a node, and what stands after it.
use Rattle.std.proofs.Common.{◌≡◌, ℕ, suc, ◌-◌, ◌≤◌, subst, sub-one, List, [], ◌∷◌, ◌++◌, length, take, drop, Bool, true, false, refl, sym, ◌∙◌, ap, arith}
use Rattle.std.proofs.lemmas.List.{length-append, take_at, drop_at}
use Rattle.snap_tree.specs.declared.row.Row.{Row}
use Rattle.snap_tree.specs.Trees.{Trees, empty, tree, rows_of, count, sizes_of, beside}
use Rattle.snap_tree.specs.Grown.{names, taken, left, grown}
use Rattle.snap_tree.proofs.Growth.{rows_of-beside, rows_of_grown, beside_assoc, taken-beside-left}

pub length-rows_of : (t : Trees) → length (rows_of t) ≡ count t
length-rows_of empty = refl
length-rows_of (tree r kids after) = ap suc (length-append (rows_of kids) (rows_of after) ∙ omega (arith, length-rows_of kids, length-rows_of after))

pub count_grown : (rows : List Row) → count (grown rows) ≡ length rows
count_grown rows = sym (length-rows_of (grown rows)) ∙ ap length (rows_of_grown rows)

pub length-sizes_of : (t : Trees) → length (sizes_of t) ≡ count t
length-sizes_of empty = refl
length-sizes_of (tree r kids after) = ap suc (length-append (sizes_of kids) (sizes_of after) ∙ omega (arith, length-sizes_of kids, length-sizes_of after))

abbrev kids_of : Trees → Trees
kids_of empty = empty
kids_of (tree r kids after) = kids

abbrev after_of : Trees → Trees
after_of empty = empty
after_of (tree r kids after) = after

-- a row takes the same of fewer trees, where it takes just their front
front_taken : (y z : Row) (b k a others : Trees) (c : Bool) → names z y ≡ c → taken y (tree z b (beside k others)) ≡ tree z b k → left y (tree z b (beside k others)) ≡ others
    → (taken y (beside k others) ≡ k → left y (beside k others) ≡ others → (taken y (beside k a) ≡ k) × (left y (beside k a) ≡ a))
    → (taken y (tree z b (beside k a)) ≡ tree z b k) × (left y (tree z b (beside k a)) ≡ a)
front_taken y z b k a others true e t l h =
    let t' : tree z b (taken y (beside k others)) ≡ tree z b k = rw e at t in
    let l' : left y (beside k others) ≡ others = rw e at l in
    let both = h (ap after_of t') l' in
    (rw e (ap (tree z b) both.0), rw e both.1)
front_taken y z b k a others false e t l h = let t' : empty ≡ tree z b k = rw e at t in cc

none_taken : (y : Row) (a b : Trees) → taken y (beside a b) ≡ empty → (taken y a ≡ empty) × (left y a ≡ a)
none_taken y empty b t = (refl, refl)
none_taken y (tree z k a) b t = by_name (names z y) refl t
  where
    by_name : (c : Bool) → names z y ≡ c → taken y (tree z k (beside a b)) ≡ empty → (taken y (tree z k a) ≡ empty) × (left y (tree z k a) ≡ tree z k a)
    by_name true e t = let t' : tree z k (taken y (beside a b)) ≡ empty = rw e at t in cc
    by_name false e t = (rw e refl, rw e refl)

taken_front : (y : Row) (k a b : Trees) → taken y (beside k (beside a b)) ≡ k → left y (beside k (beside a b)) ≡ beside a b → (taken y (beside k a) ≡ k) × (left y (beside k a) ≡ a)
taken_front y empty a b t l = none_taken y a b t
taken_front y (tree z c k) a b t l = front_taken y z c k a (beside a b) (names z y) refl t l (taken_front y k a b)

-- what stands after some of them
pub grown-after : (rows : List Row) (a b : Trees) → grown rows ≡ beside a b → grown (rows_of b) ≡ b
grown-after rows empty b e = ap (λ t. grown (rows_of t)) (sym e) ∙ ap grown (rows_of_grown rows) ∙ e
grown-after [] (tree y k a) b e = cc
grown-after (x ∷ rows) (tree y k a) b e =
    grown-after rows (beside (taken x (grown rows)) a) b
    (sym (taken-beside-left x (grown rows)) ∙ ap (beside (taken x (grown rows))) (ap after_of e) ∙ sym (beside_assoc (taken x (grown rows)) a b))

-- what stands before the others
pub grown-front : (rows : List Row) (a b : Trees) → grown rows ≡ beside a b → grown (rows_of a) ≡ a
grown-front rows empty b e = refl
grown-front [] (tree y k a) b e = cc
grown-front (x ∷ rows) (tree y k a) b e =
    let kids : taken x (grown rows) ≡ k = ap kids_of e in
    let after : left x (grown rows) ≡ beside a b = ap after_of e in
    let root : x ≡ y = cc in
    let whole : grown rows ≡ beside k (beside a b) = sym (taken-beside-left x (grown rows)) ∙ ap (λ t. beside t (left x (grown rows))) kids ∙ ap (beside k) after in
    let inner = grown-front rows (beside k a) b (whole ∙ sym (beside_assoc k a b)) in
    let both = taken_front y k a b (ap (taken y) (sym whole) ∙ ap (λ r. taken r (grown rows)) (sym root) ∙ kids) (ap (left y) (sym whole) ∙ ap (λ r. left r (grown rows)) (sym root) ∙ after) in
    let lower : grown (rows_of k ++ rows_of a) ≡ beside k a = ap grown (sym (rows_of-beside k a)) ∙ inner in
    ap (λ t. tree y (taken y t) (left y t)) lower ∙ ap (λ t. tree y t (left y (beside k a))) both.0 ∙ ap (tree y k) both.1

-- the first row's tree: its root, and the rows and the sizes cut where what is below it ends
pub record Cut (r : Row) (rest : List Row) (size : ℕ) (sizes : List ℕ) : Type 0 where
  pub rows_fit : size - 1 ≤ length rest
  pub sizes_fit : size - 1 ≤ length sizes
  pub kids : take (size - 1) sizes ≡ sizes_of (grown (take (size - 1) rest))
  pub after : drop (size - 1) sizes ≡ sizes_of (grown (drop (size - 1) rest))
  pub whole : grown (r ∷ rest) ≡ tree r (grown (take (size - 1) rest)) (grown (drop (size - 1) rest))

cut_at : (r : Row) (rest : List Row) (n : ℕ) (k a : Trees) → taken r (grown rest) ≡ k → left r (grown rest) ≡ a → n ≡ count k → Cut r rest (suc n) (sizes_of k ++ sizes_of a)
cut_at r rest n k a ek ea en =
    let whole : grown rest ≡ beside k a = sym (taken-beside-left r (grown rest)) ∙ ap (λ t. beside t (left r (grown rest))) ek ∙ ap (beside k) ea in
    let rows : rest ≡ rows_of k ++ rows_of a = sym (rows_of_grown rest) ∙ ap rows_of whole ∙ rows_of-beside k a in
    let lk : length (rows_of k) ≡ n = length-rows_of k ∙ sym en in
    let ls : length (sizes_of k) ≡ n = length-sizes_of k ∙ sym en in
    let front : take n rest ≡ rows_of k = ap (take n) rows ∙ take_at (rows_of k) (rows_of a) n lk in
    let back : drop n rest ≡ rows_of a = ap (drop n) rows ∙ drop_at (rows_of k) (rows_of a) n lk in
    let gk : grown (take n rest) ≡ k = ap grown front ∙ grown-front rest k a whole in
    let ga : grown (drop n rest) ≡ a = ap grown back ∙ grown-after rest k a whole in
    record {
      rows_fit = rw sub-one (omega (arith, ap length rows, length-append (rows_of k) (rows_of a)));
      sizes_fit = rw sub-one (omega (arith, length-append (sizes_of k) (sizes_of a)));
      kids = rw sub-one (take_at (sizes_of k) (sizes_of a) n ls ∙ ap sizes_of (sym gk));
      after = rw sub-one (drop_at (sizes_of k) (sizes_of a) n ls ∙ ap sizes_of (sym ga));
      whole = rw sub-one (ap (λ t. tree r t (left r (grown rest))) (ek ∙ sym gk) ∙ ap (tree r (grown (take n rest))) (ea ∙ sym ga));
    }

pub cut : (r : Row) (rest : List Row) (size : ℕ) (sizes : List ℕ) → size ∷ sizes ≡ sizes_of (grown (r ∷ rest)) → Cut r rest size sizes
cut r rest size sizes e =
    let k = taken r (grown rest) in
    let a = left r (grown rest) in
    let size_is : size ≡ suc (count k) = cc in
    let sizes_are : sizes ≡ sizes_of k ++ sizes_of a = cc in
    subst (λ ss. Cut r rest size ss) (sym sizes_are) (subst (λ n. Cut r rest n (sizes_of k ++ sizes_of a)) (sym size_is) (cut_at r rest (count k) k a refl refl refl))

pub cut_of : (rows rest : List Row) (sizes others : List ℕ) (r : Row) (size : ℕ) → rows ≡ r ∷ rest → sizes ≡ size ∷ others → sizes ≡ sizes_of (grown rows) → Cut r rest size others
cut_of rows rest sizes others r size er es e = cut r rest size others (sym es ∙ e ∙ ap (λ rs. sizes_of (grown rs)) er)
