-- How many pairs an edit affects, and what it leaves as it was.
use Rattle.std.proofs.Common.{◌≡◌, ◌||◌, ◌≤◌, ◌*◌, not, ℕ, List, length, map, filter, Bool, true, false, refl, sym, ◌∙◌, ap, subst}
use Rattle.std.proofs.lemmas.List.{length-map}
use Rattle.std.proofs.lemmas.List.Concat.{length-flat_map}
use Rattle.std.proofs.lemmas.List.Sums.{length-filter, count_by-le-length, sum_by-le}
use Rattle.std.specs.List.{sum_by, count_by}
use Rattle.snap_tree.specs.declared.row.Row.{Row}
use Rattle.snap_tree.specs.Trees.{Document, rows_of}
use Rattle.rule_core.specs.declared.info.RuleInfo.{RuleInfo}
use Rattle.rule_core.specs.Books.{Book}
use Rattle.rule_core.specs.Infos.{is_atomic}
use Rattle.rule_core.specs.Pages.{node_count}
use Rattle.rule_core.specs.Reach.{Says, agrees, is_held, is_affected, affected_nodes, pairs}
use Rattle.rule_core.specs.Local.{IsLocal, KeepsTheRest, CountsByRule, AffectsAtMostAll}

neither : (a b : Bool) → (not a || not b) ≡ false → b ≡ true
neither true true h = refl
neither true false h = cc
neither false b h = cc

pub keeps_the_rest : (info : RuleInfo) (says : Says) → IsLocal info says → KeepsTheRest info says
keeps_the_rest info says local old new n versions h = local old new n versions (neither (is_held old n) (agrees info says old new n) h)

sums_same : {X : Type 0} (f g : X → ℕ) → ((x : X) → f x ≡ g x) → (xs : List X) → sum_by f xs ≡ sum_by g xs
sums_same f g each xs = ap (λ f. sum_by f xs) (λ i x. each x i)

sum_within : {X : Type 0} (f : X → ℕ) (m : ℕ) → ((x : X) → f x ≤ m) → (xs : List X) → sum_by f xs ≤ length xs * m
sum_within f m each xs = sum_by-le f m xs (λ k d h. each _)

pub counts_by_rule : (book : Book) → CountsByRule book
counts_by_rule book old new =
    length-flat_map (λ info. pairs info (affected_nodes info (book.means info.no) old new)) (filter is_atomic book.infos)
    ∙ sums_same (λ info. length (pairs info (affected_nodes info (book.means info.no) old new))) (λ info. length (affected_nodes info (book.means info.no) old new))
    (λ info. length-map (affected_nodes info (book.means info.no) old new) (λ n. (info.no, n))) (filter is_atomic book.infos)

-- a rule is affected on no more nodes than there are
rule_within : (info : RuleInfo) (says : Says) (old new : Document) → length (affected_nodes info says old new) ≤ node_count new
rule_within info says old new =
    let numbers = map (λ (row : Row). row.id) (rows_of new.trees) in
    let few : count_by (is_affected info says old new) numbers ≤ length numbers = count_by-le-length (is_affected info says old new) numbers in
    let all : length numbers ≡ node_count new = length-map (rows_of new.trees) (λ (row : Row). row.id) in
    subst (λ n. n ≤ node_count new) (sym (length-filter (is_affected info says old new) numbers)) (subst (λ n. count_by (is_affected info says old new) numbers ≤ n) all few)

pub affects_at_most_all : (book : Book) → AffectsAtMostAll book
affects_at_most_all book old new =
    subst (λ n. n ≤ length (filter is_atomic book.infos) * node_count new) (sym (counts_by_rule book old new))
    (sum_within (λ info. length (affected_nodes info (book.means info.no) old new)) (node_count new) (λ info. rule_within info (book.means info.no) old new) (filter is_atomic book.infos))
