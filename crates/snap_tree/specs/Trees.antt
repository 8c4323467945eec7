-- Trees that stand side by side, and their rows in document order.
use Rattle.std.specs.Prelude.{ℕ, suc, ◌+◌, List, [], ◌∷◌, ◌++◌}
use Rattle.snap_tree.specs.declared.row.Row.{Row}

-- trees that stand side by side: none, or a node with the trees below it and the trees after it
pub data Trees : Type 0 where
  empty : Trees
  tree : Row → Trees → Trees → Trees

-- a page: its address, the language subtags that its site accepts, and the tree of its nodes
pub record Document : Type 0 where
  pub address : List ℕ
  pub langs : List (List ℕ)
  pub trees : Trees

-- the page of this address, with these language subtags and these trees
abbrev pub document : List ℕ → List (List ℕ) → Trees → Document
document address langs trees = record { address = address; langs = langs; trees = trees }

-- the same page, but with these trees
abbrev pub with_trees : Document → Trees → Document
with_trees page trees = document page.address page.langs trees

-- the same page, but with these language subtags
abbrev pub with_langs : Document → List (List ℕ) → Document
with_langs page langs = document page.address langs page.trees

-- the rows in document order, which is preorder
abbrev pub rows_of : Trees → List Row
rows_of empty = []
rows_of (tree r kids after) = r ∷ rows_of kids ++ rows_of after

-- the number of nodes
abbrev pub count : Trees → ℕ
count empty = 0
count (tree r kids after) = suc (count kids + count after)

-- the sizes of the subtrees, in document order
abbrev pub sizes_of : Trees → List ℕ
sizes_of empty = []
sizes_of (tree r kids after) = suc (count kids) ∷ sizes_of kids ++ sizes_of after

-- some trees, and then others
abbrev pub beside : Trees → Trees → Trees
beside empty others = others
beside (tree r kids after) others = tree r kids (beside after others)
