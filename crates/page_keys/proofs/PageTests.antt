-- Tests of the keys of a page tell what their nodes and lists of subtags tell.
use Rattle.std.proofs.Common.{◌≡◌, ◌&&◌, ℕ, List, [], ◌∷◌, ◌++◌, map, true, refl, sym, ◌∙◌, ap}
use Rattle.std.proofs.lemmas.List.Folds.{list_all-append}
use Rattle.std.specs.Cmp.{first_so, second_so}
use Rattle.std.specs.Cmp.Lexicographic.{pointwise_decides, bytes_decides}
use Rattle.snap_tree.specs.Trees.{Document}
use Rattle.acc_tree.specs.Seen.{seen}
use Rattle.page_keys.specs.Keys.{Key}
use Rattle.page_keys.specs.Same.{same, all_same}
use Rattle.page_keys.specs.PageKeys.{PageKey, of_nodes, langs_key, same_langs, same_in, all_same_in, TellsSameIn}
use Rattle.page_keys.proofs.Tests.{same_tells}

pub same_in_tells : (old new : Document) (key : PageKey) → TellsSameIn old new key
same_in_tells old new (of_nodes key) = same_tells (seen old.trees) (seen new.trees) key
same_in_tells old new langs_key = pointwise_decides bytes_decides old.langs new.langs

-- lists that the test takes for the same are equal
pub langs_agree : (old new : List (List ℕ)) → same_langs old new ≡ true → old ≡ new
langs_agree old new e = (pointwise_decides bytes_decides old new).0 e

-- and equal ones are taken for the same
pub agreeing_langs : (old new : List (List ℕ)) → old ≡ new → same_langs old new ≡ true
agreeing_langs old new e = (pointwise_decides bytes_decides old new).1 e

-- pages agree on keys of nodes as what is seen of them does
pub nodes_same : (old new : Document) (keys : List Key) → all_same_in old new (map of_nodes keys) ≡ all_same (seen old.trees) (seen new.trees) keys
nodes_same old new [] = refl
nodes_same old new (key ∷ keys) = ap (λ b. same (seen old.trees) (seen new.trees) key && b) (nodes_same old new keys)

-- where pages agree on two lists of keys, they do on each
pub page_parts : (old new : Document) (xs ys : List PageKey) → all_same_in old new (xs ++ ys) ≡ true → (all_same_in old new xs ≡ true) × (all_same_in old new ys ≡ true)
page_parts old new xs ys h =
    let both : (all_same_in old new xs && all_same_in old new ys) ≡ true = sym (list_all-append (same_in old new) xs ys) ∙ h in
    (first_so (all_same_in old new xs) (all_same_in old new ys) both, second_so (all_same_in old new xs) (all_same_in old new ys) both)
