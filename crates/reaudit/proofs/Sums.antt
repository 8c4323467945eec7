-- The judgings of all rules.
use Rattle.std.proofs.Common.{◌≡◌, ◌≤◌, ◌<◌, ◌+◌, ◌*◌, ℕ, List, [], ◌∷◌, length, filter, take, get_or, cond, if◌then◌else◌, Bool, true, false, refl, sym, ◌∙◌, ap, arith}
use Rattle.std.proofs.lemmas.List.Sums.{sum_by-cons, sum_by_more, sum_by_more_le}
use Rattle.std.specs.List.{sum_by, count_by}
use Rattle.snap_tree.specs.Trees.{Document}
use Rattle.rule_core.specs.declared.info.RuleInfo.{RuleInfo}
use Rattle.rule_core.specs.Books.{Book}
use Rattle.rule_core.specs.Infos.{is_atomic}
use Rattle.rule_core.specs.Pages.{node_count}
use Rattle.judge_core.specs.Outcomes.{judgings}
use Rattle.rule_core.specs.Reach.{affected_nodes, affected}
use Rattle.rule_core.proofs.Affecting.{counts_by_rule}
use Rattle.reaudit.specs.Costs.{affected_cost, whole_cost}

-- one rule more
pub cost_more : {X : Type 0} (f : X → ℕ) (xs : List X) (i : ℕ) (d : X) (start before now : ℕ) → i < length xs → before ≤ start + sum_by f (take i xs) → now ≤ before + f (get_or xs i d) → now ≤ start + sum_by f (take (i + 1) xs)
cost_more f xs i d start before now within so_far one = omega (arith, so_far, one, sum_by_more f xs i d within)

-- and so within those of all rules
pub cost_within : {X : Type 0} (f : X → ℕ) (xs : List X) (i : ℕ) (d : X) (start before now : ℕ) → i < length xs → before ≤ start + sum_by f (take i xs) → now ≤ before + f (get_or xs i d) → now ≤ start + sum_by f xs
cost_within f xs i d start before now within so_far one = omega (arith, so_far, one, sum_by_more_le f xs i d within)

-- what counts for those that pass a test alone is the sum over them
of_those : {X : Type 0} (p : X → Bool) (f : X → ℕ) (xs : List X) → sum_by (λ x. if p x then f x else 0) xs ≡ sum_by f (filter p xs)
of_those p f [] = refl
of_those {X} p f (x ∷ xs) = sum_by-cons (λ x. if p x then f x else 0) x xs ∙ by_test (p x) (of_those p f xs)
  where
    by_test : (b : Bool) → sum_by (λ x. if p x then f x else 0) xs ≡ sum_by f (filter p xs) → (if b then f x else 0) + sum_by (λ x. if p x then f x else 0) xs ≡ sum_by f (if b then x ∷ filter p xs else filter p xs)
    by_test true h = ap (λ n. f x + n) h ∙ sym (sum_by-cons f x (filter p xs))
    by_test false h = let none : 0 + sum_by (λ x. if p x then f x else 0) xs ≡ sum_by (λ x. if p x then f x else 0) xs = omega arith in none ∙ h

of_each : {X : Type 0} (p : X → Bool) (n : ℕ) (xs : List X) → sum_by (λ x. if p x then n else 0) xs ≡ count_by p xs * n
of_each p n [] = omega arith
of_each {X} p n (x ∷ xs) =
    sum_by-cons (λ x. if p x then n else 0) x xs ∙ by_test (p x) (of_each p n xs) ∙ ap (λ k. k * n) (sym (sum_by-cons (λ x. cond (p x) 1 0) x xs))
  where
    by_test : (b : Bool) → sum_by (λ x. if p x then n else 0) xs ≡ count_by p xs * n → (if b then n else 0) + sum_by (λ x. if p x then n else 0) xs ≡ (cond b 1 0 + count_by p xs) * n
    by_test true h = ap (λ k. n + k) h ∙ omega arith
    by_test false h =
        let none : 0 + sum_by (λ x. if p x then n else 0) xs ≡ sum_by (λ x. if p x then n else 0) xs = omega arith in
        let count : 0 + count_by p xs ≡ count_by p xs = omega arith in
        none ∙ h ∙ ap (λ k. k * n) (sym count)

pub affected_of_all : (book : Book) (old new : Document) → sum_by (affected_cost book old new) book.infos ≡ length (affected book old new)
affected_of_all book old new = of_those is_atomic (λ (info : RuleInfo). length (affected_nodes info (book.means info.no) old new)) book.infos ∙ sym (counts_by_rule book old new)

pub whole_of_all : (book : Book) (page : Document) → sum_by (whole_cost page) book.infos ≡ judgings book page
whole_of_all book page = of_each is_atomic (node_count page) book.infos
