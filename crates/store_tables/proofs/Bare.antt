-- A tree that was written is read back as it is, where it has no language subtag.
use Rattle.std.proofs.Common.{◌≡◌, ℕ, List, [], Ok, sym, ◌∙◌, ap}
use Rattle.snap_tree.specs.Trees.{Document, document, with_langs}
use Rattle.snap_json.specs.Pages.{kept_tree}

without_langs : (tree : Document) → tree.langs ≡ [] → with_langs tree [] ≡ tree
without_langs tree none = λ i. document tree.address (sym none i) tree.trees

pub kept_bare : (bytes : List ℕ) (tree : Document) → tree.langs ≡ [] → kept_tree bytes ≡ Ok (with_langs tree []) → kept_tree bytes ≡ Ok tree
kept_bare bytes tree none kept = kept ∙ ap Ok (without_langs tree none)
