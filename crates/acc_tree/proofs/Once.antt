-- A list of which each number is taken once, as a set of those before tells.
use Rattle.std.proofs.Common.{◌≡◌, ◌&&◌, not, ℕ, List, [], ◌∷◌, ◌++◌, filter, Bool, true, false, cond, if◌then◌else◌, refl, sym, ◌∙◌, ap}
use Rattle.std.specs.BTreeSet.{BTreeSet, contains, Updates}
use Rattle.std.specs.Cmp.{unsigned_tied}
use Rattle.std.specs.Ordering.{nat_cmp}
use Rattle.snap_tree.specs.declared.row.NodeId.{NodeId}
use Rattle.acc_tree.specs.Following.{is_same, once}

-- the numbers of a list that a set doesn't have, each once
abbrev pub left : BTreeSet ℕ → List NodeId → List NodeId
left before ns = filter (λ m. not (contains nat_cmp before m.0)) (once ns)

-- those that pass one test and then another pass both
fuse : (p q r : NodeId → Bool) → ((m : NodeId) → r m ≡ cond (q m) (p m) false) → (ms : List NodeId) → filter p (filter q ms) ≡ filter r ms
fuse p q r same [] = refl
fuse p q r same (m ∷ ms) = by_tests (q m) (p m) refl refl (same m) (fuse p q r same ms)
  where
    by_tests : (a b : Bool) → q m ≡ a → p m ≡ b → r m ≡ cond (q m) (p m) false → filter p (filter q ms) ≡ filter r ms → filter p (filter q (m ∷ ms)) ≡ filter r (m ∷ ms)
    by_tests true true e k s h = let now : r m ≡ true = s ∙ (λ i. cond (e i) (k i) false) in rw (e, now) (rw k (ap (λ xs. m ∷ xs) h))
    by_tests true false e k s h = let now : r m ≡ false = s ∙ (λ i. cond (e i) (k i) false) in rw (e, now) (rw k h)
    by_tests false b e k s h = let now : r m ≡ false = s ∙ ap (λ c. cond c (p m) false) e in rw (e, now) h

all_pass : (p : NodeId → Bool) → ((m : NodeId) → p m ≡ true) → (ms : List NodeId) → filter p ms ≡ ms
all_pass p passes [] = refl
all_pass p passes (m ∷ ms) = rw (passes m) (ap (λ xs. m ∷ xs) (all_pass p passes ms))

not_either : (a b : Bool) → not (cond a true b) ≡ cond (not a) (not b) false
not_either true b = refl
not_either false b = refl

-- with one more number in the set, what is left of the others is less that number
others : (before after : BTreeSet ℕ) (n : NodeId) (ms : List NodeId) → Updates nat_cmp before after n.0 true
    → filter (λ m. not (contains nat_cmp before m.0)) (filter (λ m. not (is_same n m)) ms) ≡ filter (λ m. not (contains nat_cmp after m.0)) ms
others before after n ms updates =
    fuse (λ m. not (contains nat_cmp before m.0)) (λ m. not (is_same n m)) (λ m. not (contains nat_cmp after m.0))
    (λ m. ap not (updates.0 m.0 ∙ ap (λ b. cond b true (contains nat_cmp before m.0)) (unsigned_tied n.0 m.0)) ∙ not_either (is_same n m) (contains nat_cmp before m.0)) ms

-- the first number of a list, where it is new and passes a test
abbrev pub first_kept : (NodeId → Bool) → BTreeSet ℕ → NodeId → List NodeId
first_kept passes before n = if not (contains nat_cmp before n.0) && passes n then n ∷ [] else []

pub first_left : (passes : NodeId → Bool) (before after : BTreeSet ℕ) (n : NodeId) (ns : List NodeId) → Updates nat_cmp before after n.0 true
    → first_kept passes before n ++ filter passes (left after ns) ≡ filter passes (left before (n ∷ ns))
first_left passes before after n ns updates = by_tests (contains nat_cmp before n.0) (passes n) refl refl (others before after n (once ns) updates)
  where
    by_tests : (a b : Bool) → contains nat_cmp before n.0 ≡ a → passes n ≡ b
        → filter (λ m. not (contains nat_cmp before m.0)) (filter (λ m. not (is_same n m)) (once ns)) ≡ left after ns
        → first_kept passes before n ++ filter passes (left after ns) ≡ filter passes (left before (n ∷ ns))
    by_tests true b e k h = rw e (ap (filter passes) (sym h))
    by_tests false true e k h = rw e (rw k (ap (λ xs. n ∷ filter passes xs) (sym h)))
    by_tests false false e k h = rw e (rw k (ap (filter passes) (sym h)))

-- of an empty set all are left
pub all_left : (before : BTreeSet ℕ) → before.keys ≡ [] → (ns : List NodeId) → left before ns ≡ once ns
all_left before none ns = all_pass (λ m. not (contains nat_cmp before m.0)) (λ m. ap (λ (ks : List ℕ). not (contains nat_cmp (record { keys = ks }) m.0)) none) (once ns)
